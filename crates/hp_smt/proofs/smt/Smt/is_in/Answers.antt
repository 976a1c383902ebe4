use Rattle.std.proofs.Common.{◌≡◌, false, Some, sym, subst}
use Rattle.hp_event.specs.declared.event.Role.TheVariants.{Client}
use Rattle.hp_event.specs.declared.op.Op.{Op}
use Rattle.hp_model.specs.Pending.{IsAllowed}
use Rattle.hp_model.specs.Seats.{role_of}
use Rattle.hp_board.specs.Hooks.{has_hook}
use Rattle.hp_board.proofs.Homes.{idle_home}
use Rattle.hp_smt.specs.Contents.{Controlled}
use Rattle.hp_smt.specs.Sound.{MayWrite}
use Rattle.hp_smt.proofs.Taking.{flying_allowed, flying_hook}
use Rattle.hp_smt.proofs.smt.Smt.is_in.Goals as goal

pub returns-clause-client : goal.returns-clause-client
returns-clause-client g c = λ is.
    subst (λ (z : Controlled). role_of c.args.by z.board.events ≡ Some Client) c.self.view_is (c.can_ask.ensures.allowed is).client

pub returns-clause-always : goal.returns-clause-always
returns-clause-always g c = λ want may.
    let b = c.self.inside.board in
    let s = c.self.inside.setting in
    let z : Controlled = record { board = b; threads = c.self.inside.threads; setting = s } in
    let here : MayWrite b s c.args.by want =
    subst (λ (z : Controlled). MayWrite z.board z.setting c.args.by want) (sym c.self.view_is) may in
    c.can_ask.ensures.always
    (subst (λ (op : Op). IsAllowed b.head b.events (record { seat = c.args.by; op = op })) (sym c.flying_op.ensures)
    (flying_allowed z c.args.by want c.sound.ensures.lawful c.self.invariant here))
    (subst (λ (op : Op). false ≡ has_hook b.events c.args.by op) (sym c.flying_op.ensures) (flying_hook b c.args.by s.write))
    (idle_home b c.args.by c.self.invariant.home)
