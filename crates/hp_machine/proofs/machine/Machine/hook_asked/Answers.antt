use Rattle.std.proofs.Common.{sym}
use Rattle.hp_account.proofs.HookAsked.{walk_turn, registration_turn}
use Rattle.hp_machine.proofs.machine.Machine.hook_asked.Goals as goal

pub returns-then-walks : goal.returns-then-walks
returns-then-walks g c =
    let j = c.self.inside.journal in
    let k = c.self.invariant.kept in
    let on = rw (sym c.self.view_is) at c.hook_on.ensures in
    rw (sym c.self.view_is)
    (λ seat turn.
    walk_turn j.head j.events c.self.inside.account.flights c.args.cpu seat c.hook_on.result k.lawful k.account.flights
    (sym c.if-walks.ensures) on turn)

pub returns-in-Some : goal.returns-in-Some
returns-in-Some g c =
    let j = c.self.inside.journal in
    rw (sym c.self.view_is)
    (λ seat turn.
    registration_turn j.head j.events c.self.inside.account.flights c.args.cpu seat c.hook_asked.result
    c.self.invariant.kept.account.flights (sym c.if-walks.ensures) (c.hook_asked.ensures c.args.cpu) turn)
