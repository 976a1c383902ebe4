use Rattle.std.proofs.Common.{◌≡◌, ◌∙◌, sym, subst, None}
use Rattle.std.specs.Prelude.{slice_get}
use Rattle.hp_states.proofs.Basics.{none_of, none_some}
use Rattle.hp_model.specs.ApTurn.{IsApTurn}
use Rattle.hp_model.specs.Batch.{to_begin}
use Rattle.hp_model.proofs.SomeMoves.{some_of}
use Rattle.hp_account.proofs.InBatch.{of_batch, not_batch, turn_first}
use Rattle.hp_machine.proofs.BatchSaid.{no_wait_at_rest, no_wait_of_other, no_wait_before, no_wait_in_turn, waits_exactly}
use Rattle.hp_machine.proofs.machine.Machine.ap_turn_in_batch.Goals as goal
use Rattle.hp_machine.proofs.machine.Machine.ap_turn_in_batch.Goals.{then-holder-seat-via-then-holder-seat, then-holder-seat-via-else-holder-seat+then-is_some, then-holder-seat-via-else-holder-seat+else-is_some+then-is_some-2}

pub returns-in_err-holder : goal.returns-in_err-holder
returns-in_err-holder g c =
    let j = c.self.inside.journal in
    let k = c.self.invariant.kept in
    let known = rw (sym c.self.view_is) at c.requires in
    let single = not_batch j.head j.events c.self.inside.account.operation k.account.operation c.in_err-holder.ensures in
    rw (sym c.self.view_is, c.from_residual.ensures)
    (λ cpu. (
      λ t. absurd (no_wait_at_rest j.head j.events c.args.seat cpu k.lawful known single t),
      λ e. absurd (none_some cpu e),
    ))

pub returns-then-holder-seat : goal.returns-then-holder-seat
returns-then-holder-seat g c =
    let j = c.self.inside.journal in
    let k = c.self.invariant.kept in
    let x = c.in_ok-holder in
    let batch = x.batch.now in
    let known = rw (sym c.self.view_is) at c.requires in
    let up = of_batch j.head j.events c.self.inside.account.operation x.holder batch k.account.operation x.ensures in
    rw (sym c.self.view_is)
    (λ cpu. (
      λ t. elim c.then-holder-seat.branch [
        | then-holder-seat-via-then-holder-seat w ↦
            absurd (no_wait_of_other j.head j.events c.args.seat x.holder cpu batch k.lawful known up w.if-holder-seat.true t)
        | then-holder-seat-via-else-holder-seat+then-is_some w ↦
            let d = some_of w.next.result (sym w.if-is_some.ensures) in
            let said = w.next.ensures j.head j.events up.of up.set k.lawful up.held up.op_is up.batching in
            absurd (no_wait_before j.head j.events x.holder cpu d.0 batch up (sym d.1 ∙ said)
            (subst (λ s. IsApTurn j.head j.events s cpu) (sym w.if-holder-seat.false) t))
        | then-holder-seat-via-else-holder-seat+else-is_some+then-is_some-2 w ↦
            let said = w.next.ensures j.head j.events up.of up.set k.lawful up.held up.op_is up.batching in
            let left : None ≡ slice_get (to_begin j.head j.events) 0 =
            sym (none_of w.next.result (sym w.if-is_some.ensures)) ∙ said in
            let d = some_of w.first.result (sym w.if-is_some-2.ensures) in
            let first = turn_first j.head j.events x.holder batch c.self.inside.account.turns k.account.turns up left in
            absurd (no_wait_in_turn j.head j.events x.holder cpu d.0 batch up (first ∙ (sym w.first.ensures ∙ d.1))
            (subst (λ s. IsApTurn j.head j.events s cpu) (sym w.if-holder-seat.false) t))
      ],
      λ e. absurd (none_some cpu e),
    ))

pub returns : goal.returns
returns g c =
    let j = c.self.inside.journal in
    let k = c.self.invariant.kept in
    let x = c.in_ok-holder in
    let batch = x.batch.now in
    let up = of_batch j.head j.events c.self.inside.account.operation x.holder batch k.account.operation x.ensures in
    let said = c.next.ensures j.head j.events up.of up.set k.lawful up.held up.op_is up.batching in
    let left : None ≡ slice_get (to_begin j.head j.events) 0 = sym (none_of c.next.result (sym c.if-is_some.ensures)) ∙ said in
    let first = turn_first j.head j.events x.holder batch c.self.inside.account.turns k.account.turns up left in
    let none = first ∙ (sym c.first.ensures ∙ none_of c.first.result (sym c.if-is_some-2.ensures)) in
    rw (sym c.self.view_is, sym c.if-holder-seat.false)
    (λ cpu.
    waits_exactly j.head j.events x.holder cpu batch c.self.inside.account.flights c.walking_from.result k.lawful up k.account.flights left
    none c.walking_from.ensures.some c.walking_from.ensures.none)
