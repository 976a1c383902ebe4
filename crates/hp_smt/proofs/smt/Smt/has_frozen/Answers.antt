use Rattle.std.proofs.Common.{◌≡◌, ap, ◌∙◌, subst, arith}
use Rattle.hp_event.specs.declared.head.Head.{Head}
use Rattle.hp_model.specs.Lawful.{IsLawful}
use Rattle.hp_model.specs.Suspend.{frozen}
use Rattle.hp_smt.specs.Contents.{Controlled}
use Rattle.hp_smt.proofs.Going.{frozen_possible}
use Rattle.hp_smt.proofs.Sets.{none_frozen}
use Rattle.hp_smt.proofs.smt.Smt.has_frozen.Goals as goal

pub returns : goal.returns
returns g c =
    let b = c.args.self.now.board in
    let same : c.head.result.now.possible ≡ b.head.possible =
    ap (λ (h : Head). h.possible) (c.head.ensures ∙ c.journal.ensures.head) ∙ ap (λ (z : Controlled). z.board.head.possible) c.self.view_is in
    let lawful : IsLawful b.head b.events =
    subst (λ (z : Controlled). IsLawful z.board.head z.board.events) c.self.view_is c.sound.ensures.lawful in
    none_frozen (frozen b.events) b.head.possible (frozen_possible b.head b.events lawful)
    (λ d below. c.loop-cpu.invariant d (omega (arith, below, same)))
