use Rattle.std.proofs.Common.{◌≡◌, None, false, sym, ◌∙◌, subst}
use Rattle.hp_model.specs.Pending.{IsAllowed}
use Rattle.hp_smt.specs.Contents.{Controlled}
use Rattle.hp_smt.specs.Turns.{is_denied}
use Rattle.hp_smt.specs.Writes.{write_by}
use Rattle.hp_smt.proofs.Going.{turn_sound}
use Rattle.hp_smt.proofs.smt.Smt.turn.Goals as goal

pub invariant_of-self-2 : goal.invariant_of-self-2
invariant_of-self-2 g c =
    let b = c.self.inside.board in
    let op = c.args.ask.now.op in
    turn_sound b c.turn.new.self c.self.inside.threads c.self.inside.setting c.args.by op c.in_ok-turn.turn c.sound.ensures.lawful
    (subst (λ (z : Controlled). IsAllowed z.board.head z.board.events (record { seat = c.args.by; op = op })) (sym c.self.view_is)
    c.requires.allowed)
    c.in_ok-turn.ensures.turn
    (subst (λ (z : Controlled). write_by c.args.by z.setting.write ≡ None) (sym c.self.view_is) c.requires.no_write)
    (subst (λ (z : Controlled). is_denied z c.args.by op ≡ false) (sym c.self.view_is) (sym c.is_denied.ensures ∙ c.if-is_denied.false))
    c.self.invariant
