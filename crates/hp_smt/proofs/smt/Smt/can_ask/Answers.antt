use Rattle.std.proofs.Common.{sym, subst}
use Rattle.hp_board.specs.Hooks.{HasItsHook}
use Rattle.hp_board.proofs.Homes.{idle_home}
use Rattle.hp_machine.specs.MayAsk.{MayAsk}
use Rattle.hp_smt.specs.Contents.{Controlled}
use Rattle.hp_smt.proofs.smt.Smt.can_ask.Goals as goal

pub returns-in-None-clause-always : goal.returns-in-None-clause-always
returns-in-None-clause-always g c = λ allowed hook none.
    c.can_ask.ensures.always
    (subst (λ (z : Controlled). MayAsk z.board c.args.by c.args.ask.now.op) (sym c.self.view_is) allowed)
    (subst (λ (z : Controlled). HasItsHook z.board c.args.by c.args.ask.now.op c.args.ask.now.hook) (sym c.self.view_is) hook)
    (idle_home c.self.inside.board c.args.by c.self.invariant.home)
