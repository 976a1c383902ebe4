use Rattle.std.proofs.Common.{◌∙◌, sym}
use Rattle.hp_account.proofs.InBatch.{no_turn_yet, turn_first}
use Rattle.hp_machine.proofs.machine.Machine.turn.Goals as goal

pub returns-in-Some : goal.returns-in-Some
returns-in-Some g c =
    let j = c.self.inside.journal in
    let up = rw (sym c.self.view_is) at c.requires in
    rw (sym c.self.view_is)
    (sym (no_turn_yet j.head j.events c.args.upmany.0 c.in-Some.field-0
    (sym c.in-Some.is ∙ c.next.ensures j.head j.events up.of up.set c.self.invariant.kept.lawful up.held up.op_is up.batching)))

pub returns-in-None : goal.returns-in-None
returns-in-None g c =
    let j = c.self.inside.journal in
    let k = c.self.invariant.kept in
    let up = rw (sym c.self.view_is) at c.requires in
    rw (sym c.self.view_is)
    (c.first.ensures
    ∙ sym (turn_first j.head j.events c.args.upmany.0 c.args.upmany.1.now c.self.inside.account.turns k.account.turns up
    (sym c.in-None.is ∙ c.next.ensures j.head j.events up.of up.set k.lawful up.held up.op_is up.batching)))
