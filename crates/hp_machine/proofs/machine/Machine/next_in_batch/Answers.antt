use Rattle.std.proofs.Common.{◌∙◌, refl, ap, sym, Some}
use Rattle.hp_states.specs.declared.limits.TheConstants.{ONLINE}
use Rattle.hp_event.specs.declared.event.Event.TheVariants.{WalkBegin}
use Rattle.hp_model.specs.Batch.{is_upmany}
use Rattle.hp_model.specs.Needs.{taken}
use Rattle.hp_model.proofs.TurnLemmas.{seat_brings}
use Rattle.hp_account.proofs.InBatch.{turn_first}
use Rattle.hp_machine.proofs.BatchSaid.{begins_next, upmany_at, waits_said}
use Rattle.hp_machine.proofs.machine.Machine.next_in_batch.Goals as goal

pub state-requires : goal.state-requires
state-requires g c =
    let j = c.self.inside.journal in
    let lawful = c.self.invariant.kept.lawful in
    let turn = rw (sym c.self.view_is) at c.requires in
    let left = sym c.in-Some.is ∙ c.next.ensures j.head j.events turn.of turn.set lawful turn.held turn.op_is turn.batching in
    rw (sym c.self.view_is)
    (begins_next j.head j.events c.args.seat c.in-Some.cpu c.args.batch.now c.args.lowest lawful turn left).inside

pub returns-in-Some : goal.returns-in-Some
returns-in-Some g c =
    let j = c.self.inside.journal in
    let lawful = c.self.invariant.kept.lawful in
    let turn = rw (sym c.self.view_is) at c.requires in
    let from = rw (sym c.self.view_is) at c.state.ensures in
    let left = sym c.in-Some.is ∙ c.next.ensures j.head j.events turn.of turn.set lawful turn.held turn.op_is turn.batching in
    let begins = begins_next j.head j.events c.args.seat c.in-Some.cpu c.args.batch.now c.args.lowest lawful turn left in
    rw (sym c.self.view_is)
    (λ op. (
      begins.next op ∙ ap (λ z. Some (WalkBegin c.args.seat c.in-Some.cpu z ONLINE)) (sym from),
      sym (ap taken (begins.takes_none c.state.result ONLINE)),
      refl,
    ))

pub next_in_turn-requires-clause-upmany : goal.next_in_turn-requires-clause-upmany
next_in_turn-requires-clause-upmany g c =
    let turn = rw (sym c.self.view_is) at c.requires in
    rw (sym c.self.view_is)
    (seat_brings c.self.inside.journal.events turn.of c.args.seat turn.held turn.seat_is (ap is_upmany turn.op_is))

pub next_in_turn-requires-clause-turn : goal.next_in_turn-requires-clause-turn
next_in_turn-requires-clause-turn g c =
    let j = c.self.inside.journal in
    let k = c.self.invariant.kept in
    let batch = c.args.batch.now in
    let turn = rw (sym c.self.view_is) at c.requires in
    let up = upmany_at j.head j.events c.args.seat batch c.args.lowest turn in
    let left = sym c.in_default.is ∙ c.next.ensures j.head j.events turn.of turn.set k.lawful turn.held turn.op_is turn.batching in
    rw (sym c.self.view_is)
    (turn_first j.head j.events c.args.seat batch c.self.inside.account.turns k.account.turns up left
    ∙ (sym c.first.ensures ∙ c.in-Some-first.is))

pub returns-in-None : goal.returns-in-None
returns-in-None g c =
    let j = c.self.inside.journal in
    let k = c.self.invariant.kept in
    let batch = c.args.batch.now in
    let turn = rw (sym c.self.view_is) at c.requires in
    let up = upmany_at j.head j.events c.args.seat batch c.args.lowest turn in
    let left = sym c.in_default.is ∙ c.next.ensures j.head j.events turn.of turn.set k.lawful turn.held turn.op_is turn.batching in
    let first = turn_first j.head j.events c.args.seat batch c.self.inside.account.turns k.account.turns up left in
    rw (sym c.self.view_is)
    (waits_said j.head j.events c.args.seat c.args.lowest batch k.lawful turn left (first ∙ (sym c.first.ensures ∙ c.in-None.is)))
