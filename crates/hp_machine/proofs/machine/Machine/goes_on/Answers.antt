use Rattle.std.proofs.Common.{◌≡◌, IfSome, ◌∙◌, sym, subst}
use Rattle.hp_event.specs.declared.op.Op.{Op}
use Rattle.hp_account.specs.Operations.{IsHeldBy}
use Rattle.hp_machine.specs.Between.{IsBetween}
use Rattle.hp_machine.specs.Contents.{Contents}
use Rattle.hp_machine.specs.Next.{IsNext}
use Rattle.hp_machine.specs.Upmany.{IsHoldersTurn}
use Rattle.hp_machine.proofs.BusyNext.{in_flight_said, between_said, held_by, nobody_holds, holders_turn, no_batch_walks}
use Rattle.hp_machine.proofs.machine.Machine.goes_on.Given as given
use Rattle.hp_machine.proofs.machine.Machine.goes_on.Goals as goal
use Rattle.hp_machine.proofs.machine.Machine.goes_on.Goals.{In_default-batch_walking, In-Some-operation}

pub returns-in-Some : goal.returns-in-Some
returns-in-Some g c =
    let j = c.self.inside.journal in
    let k = c.args.seat in
    let i = c.self.invariant in
    let busy = rw (sym c.self.view_is) at c.requires in
    let is = sym c.next_from.ensures ∙ c.in-Some.is in
    let next = subst (λ o. IfSome o (λ n. (op : Op) → IsNext j.head j.events k op n)) is
    (in_flight_said j.head j.events k c.self.inside.coming i.kept.lawful busy i.under_way) in
    λ op. rw (sym c.self.view_is) (next op)

pub next_in_batch-requires : goal.next_in_batch-requires
next_in_batch-requires g c =
    let j = c.self.inside.journal in
    let i = c.self.invariant.kept in
    let x = c.in-Some-batch_walking in
    let busy = rw (sym c.self.view_is) at c.requires in
    subst (λ (m : Contents). IsHoldersTurn m.head m.events c.args.seat x.batch.now x.lowest) c.self.view_is
    (holders_turn j.head j.events c.self.inside.account c.args.seat x.batch.now x.lowest i.lawful i.account busy x.ensures.some)

between : (g : given.Over) (c : In_default-batch_walking g) → IsBetween c.self.inside.journal.head c.self.inside.journal.events c.args.seat
between g c =
    let j = c.self.inside.journal in
    let i = c.self.invariant in
    let busy = rw (sym c.self.view_is) at c.requires in
    let rests = no_batch_walks j.head j.events c.self.inside.account i.kept.account c.in_default-batch_walking.ensures.none in
    between_said j.head j.events c.args.seat c.self.inside.coming i.kept.lawful busy i.under_way rests (sym c.next_from.ensures ∙ c.in_default.is)

holder : (g : given.Over) (c : In-Some-operation g) → IsBetween c.self.inside.journal.head c.self.inside.journal.events c.args.seat →
    c.args.seat ≡ c.in-Some-operation.held.seat
holder g c between =
    let j = c.self.inside.journal in
    held_by j.head j.events c.args.seat c.in-Some-operation.held between
    (subst (IsHeldBy j.head j.events) c.in-Some-operation.is c.self.invariant.kept.account.operation)

pub unreachable-requires : goal.unreachable-requires
unreachable-requires g c =
    let j = c.self.inside.journal in
    nobody_holds j.head j.events c.args.seat (between g (goal.at.unreachable-requires g c).In_default-batch_walking)
    (subst (IsHeldBy j.head j.events) c.in-None.is c.self.invariant.kept.account.operation)

pub next_of_holder-requires-clause-between : goal.next_of_holder-requires-clause-between
next_of_holder-requires-clause-between g c =
    let at = goal.at.next_of_holder-requires-clause-between g c in
    let b = between g at.In_default-batch_walking in
    subst (λ (m : Contents). IsBetween m.head m.events c.in-Some-operation.held.seat) c.self.view_is
    (subst (IsBetween c.self.inside.journal.head c.self.inside.journal.events) (holder g at.In-Some-operation b) b)

pub returns : goal.returns
returns g c =
    let m = c.args.self.now in
    let at = goal.at.returns g c in
    λ op. subst (λ n. IsNext m.head m.events n op c.next_of_holder.result)
    (sym (holder g at.In-Some-operation (between g at.In_default-batch_walking))) (c.next_of_holder.ensures op)
