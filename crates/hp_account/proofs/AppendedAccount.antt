-- The account of a journal with one event more: each part has taken it, and the room that is given back is the journal's.
use Rattle.std.proofs.Common.{◌≡◌, ℕ, ◌+◌, ◌-◌, Option, Some, None, inl, inr, List, [], ◌∷◌, ◌++◌, refl, sym, ap, ◌∙◌, subst, arith}
use Rattle.std.specs.Prelude.{option_map}
use Rattle.hp_states.proofs.Basics.{same_some}
use Rattle.hp_event.specs.declared.answer.Answer.{Answer}
use Rattle.hp_event.specs.declared.op.Op.{Op}
use Rattle.hp_event.specs.declared.op.Op.TheVariants as op
use Rattle.hp_event.specs.declared.head.Head.{Head}
use Rattle.hp_event.specs.declared.event.Event.{Event}
use Rattle.hp_event.specs.declared.event.Event.TheVariants.{WalkBegin, Call, WalkEnd, OpEnd, RegBegin, RegEnd, Armed}
use Rattle.hp_model.specs.MapLock.{Operation, operation}
use Rattle.hp_model.specs.Registrations.{registration, registration_entries}
use Rattle.hp_model.specs.Promised.{promised_to_registration, given_back}
use Rattle.hp_model.specs.Needs.{need, taken}
use Rattle.hp_model.specs.StandsOperations.{OpEnds}
use Rattle.hp_model.specs.StandsRegistrations.{RegEnds}
use Rattle.hp_model.specs.Lawful.{Comes, Stands, IsLawful}
use Rattle.hp_model.proofs.Laws.{registration_push}
use Rattle.hp_model.proofs.OneNext.{owners}
use Rattle.hp_model.proofs.Owners.{Owners}
use Rattle.hp_model.proofs.EntryProcessors.{call_below}
use Rattle.hp_table.specs.Step.{Step}
use Rattle.hp_walk.specs.Keys.{keys_by}
use Rattle.hp_account.specs.declared.operation.MapOperation.{MapOperation}
use Rattle.hp_account.specs.declared.registering.Registering.{Registering}
use Rattle.hp_account.specs.declared.account.Account.{Account}
use Rattle.hp_account.specs.Account.{IsAccount}
use Rattle.hp_account.specs.After.{suspension_after}
use Rattle.hp_account.specs.Appending.{IsOpOf, WentTo, WalksChanged, RegistrationChanged, left_by, Appended, room_of_walk}
use Rattle.hp_account.specs.BatchTurns.{is_batch}
use Rattle.hp_account.specs.Locks.{IsLocks}
use Rattle.hp_account.specs.Operations.{IsHeldBy}
use Rattle.hp_account.specs.Processors.{IsStanding}
use Rattle.hp_account.specs.Registering.{IsRegisteringOf}
use Rattle.hp_account.specs.Seats.{IsRoll}
use Rattle.hp_account.specs.Suspended.{IsSuspended}
use Rattle.hp_account.specs.Table.{IsTableOf}
use Rattle.hp_account.proofs.AwaitedMore.{awaited_more}
use Rattle.hp_account.proofs.CanAppend.{armed_on, ended_on}
use Rattle.hp_account.proofs.FlightSteps.{flights_end}
use Rattle.hp_account.proofs.FlightsMore.{flights_after}
use Rattle.hp_account.proofs.LocksMore.{locks_more}
use Rattle.hp_account.proofs.RegistrationMore.{IsBesideRegistration, registration_begins, registration_calls, registration_ends, registration_stays}
use Rattle.hp_account.proofs.RollMore.{roll_more}
use Rattle.hp_account.proofs.StandingMore.{IsOnProcessor, standing_more}
use Rattle.hp_account.proofs.SuspensionMore.{IsUnder, suspension_more}
use Rattle.hp_account.proofs.TurnsMore.{turns_more}
use Rattle.hp_account.proofs.WalkLeaves.{ends_at}
use Rattle.hp_account.proofs.InBatch.{batch_is}

on_processor : (head : Head) (es : List Event) (p : Account) (to : ℕ) (e : Event) → IsLawful head es → Comes head es e → IsAccount head es p →
    WentTo e to p.flights → IsOnProcessor head es to e
on_processor head es p to (Call seat c s i d how) lawful comes is there =
    call_below head es seat c s i d how lawful comes
on_processor head es p to (WalkEnd seat c answer) lawful comes is there = ends_at head es p.flights seat c to answer lawful comes is.flights there
on_processor head es p to (Armed seat c value) lawful comes is there = armed_on head es seat c value comes
on_processor head es p to e lawful comes is there = tt

-- the operation that holds the map lock is the one that is kept
held_op : (head : Head) (es : List Event) (held : Option MapOperation) (o : Operation) → IsHeldBy head es held → operation es ≡ Some o →
    option_map (λ (h : MapOperation). h.op) held ≡ Some o.op
held_op head es None o is at = absurd (let n = sym is ∙ at in cc)
held_op head es (Some h) o is at =
    ap Some (is.op_is ∙ ap (λ (x : Operation). x.op) (same_some is.of o (sym is.held ∙ at)))

record UnderOp (head : Head) (es : List Event) (e : Event) (held : Option MapOperation) : Type 0 where
  asked : Op
  is_op : IsOpOf e held asked
  under : IsUnder head es asked e

over_op : (head : Head) (es : List Event) (seat : ℕ) (answer : Answer) → OpEnds head es seat answer → (o : Operation) × (operation es ≡ Some o)
over_op head es seat answer (inl h) = (h.of, h.held)
over_op head es seat answer (inr h) = (h.begins.of, h.begins.held)

under_op : (head : Head) (es : List Event) (e : Event) (held : Option MapOperation) → IsLawful head es → Comes head es e → IsHeldBy head es held →
    UnderOp head es e held
under_op head es (WalkEnd seat c answer) held lawful comes is =
    let o = (owners head es lawful).walk_op c comes.of comes.in_flight in
    record {
      asked = o.0.op;
      is_op = held_op head es held o.0 is o.1;
      under = ((o.0, o.1, refl), ended_on head es seat c answer lawful comes);
    }
under_op head es (OpEnd seat answer) held lawful comes is =
    let o = over_op head es seat answer comes in
    record { asked = o.0.op; is_op = held_op head es held o.0 is o.1; under = (o.0, o.1, refl) }
under_op head es e held lawful comes is = record { asked = op.Disable; is_op = tt; under = tt }

suspended_after : (head : Head) (es : List Event) (p new : Account) (e : Event) → IsLawful head es → Comes head es e → IsAccount head es p →
    ((asked : Op) → IsOpOf e p.operation asked → new.suspended ≡ suspension_after asked e p.suspended) →
    IsSuspended head (es ++ e ∷ []) new.suspended
suspended_after head es p new e lawful comes is h =
    let u = under_op head es e p.operation lawful comes is.operation in
    subst (IsSuspended head (es ++ e ∷ [])) (sym (h u.asked u.is_op)) (suspension_more head es p.suspended u.asked e u.under is.suspended)

-- what is given back where nothing is
none_back : (n a : ℕ) → n ≡ 0 → a ≡ 0 → n + a ≡ 0
none_back n a h g = rw (h, g) refl

registration_same : (head : Head) (es : List Event) (e : Event) (old new : Option Registering) → Owners es → Comes head es e → IsRegisteringOf head es old →
    IsBesideRegistration e → new ≡ old → IsRegisteringOf head (es ++ e ∷ []) new
registration_same head es e old new own comes is beside same =
    subst (IsRegisteringOf head (es ++ e ∷ [])) (sym same) (registration_stays head es old e own comes beside is)

registration_after : (head : Head) (es : List Event) (needed freed : ℕ) (e : Event) (old new : Option Registering) →
    Owners es → Comes head es e → needed ≡ taken (need head es e) → IsRegisteringOf head es old → RegistrationChanged needed freed e old new →
    IsRegisteringOf head (es ++ e ∷ []) new
registration_after head es needed freed (RegBegin seat state asked) old None own comes n is went = elim (went.0) [ ]
registration_after head es needed freed (RegBegin seat state asked) old (Some g) own comes n is went =
    registration_begins head es seat asked state needed g comes went.0 n
registration_after head es needed freed (Call seat c s i d how) None new own comes n is went =
    subst (IsRegisteringOf head (es ++ Call seat c s i d how ∷ [])) (sym went.0) (registration_push es (Call seat c s i d how) ∙ is)
registration_after head es needed freed (Call seat c s i d how) (Some g) None own comes n is went = elim (went.0) [ ]
registration_after head es needed freed (Call seat c s i d how) (Some g) (Some after) own comes n is went =
    registration_calls head es g after seat c s i d how comes is went.0
registration_after head es needed freed (RegEnd seat answer) old new own comes n is went =
    subst (IsRegisteringOf head (es ++ RegEnd seat answer ∷ [])) (sym went.0) (registration_ends head es seat answer)
registration_after head es needed freed e old new own comes n is went = registration_same head es e old new own comes is tt went.0

-- what a registration that ends has left
left_over : (head : Head) (es : List Event) (seat : ℕ) (answer : Answer) (old : Option Registering) → RegEnds head es seat answer →
    IsRegisteringOf head es old → left_by old ≡ promised_to_registration head (registration es) (registration_entries es) - 1
left_over head es seat answer None comes is = absurd (let n = sym is ∙ comes.in_flight in cc)
left_over head es seat answer (Some g) comes is = rw is.in_flight (ap (λ n. n - 1) is.left_is)

freed_after : (head : Head) (es : List Event) (places : List (Option Step)) (room needed a b : ℕ) (e : Event) (p new : Account) →
    Comes head es e → IsAccount head es p → WalksChanged (keys_by places) room a e p.flights new.flights →
    RegistrationChanged needed b e p.registration new.registration → a + b ≡ given_back head es e
freed_after head es places room needed a b (WalkEnd seat c answer) p new comes is flew went =
    let g = (flights_end head es seat c answer a p.flights new.flights comes is.flights flew).1 in
    let none = went.1 in
    omega (arith, g, none)
freed_after head es places room needed a b (RegEnd seat answer) p new comes is flew went =
    let g = left_over head es seat answer p.registration comes is.registration in
    let none = flew.1 in
    let left = went.1 in
    omega (arith, g, none, left)
freed_after head es places room needed a b (WalkBegin seat cpu from to) p new comes is flew went = none_back a b flew.1 went.1
freed_after head es places room needed a b (Call seat c s i d how) p new comes is flew went = none_back a b flew.1 went.1
freed_after head es places room needed a b (RegBegin seat state asked) p new comes is flew went = none_back a b flew.1 went.1
freed_after head es places room needed a b e p new comes is flew went = none_back a b flew.1 went.1

pub account_after : (head : Head) (es : List Event) (places : List (Option Step)) (p new : Account) (needed freed : ℕ) (e : Event) →
    IsLawful head es → Stands head es e → needed ≡ taken (need head es e) → IsTableOf head (es ++ e ∷ []) places → IsAccount head es p →
    Appended (keys_by places) needed freed e p new → IsAccount head (es ++ e ∷ []) new × (freed ≡ given_back head es e)
account_after head es places p new needed freed e lawful stands n t is h =
    let comes = stands.0 in
    let own = owners head es lawful in
    let batch = is_batch p.operation in
    let room = room_of_walk (keys_by places) batch needed e in
    let flies = flights_after head es places p.operation needed h.freed_by_walk e p.flights new.flights lawful comes n t is.operation is.flights
    h.flights in
    let operates = h.operation head es lawful comes is.processors is.operation in
    let queued = turns_more head es places p.operation e new.flights p.turns new.turns lawful stands t is.operation is.turns flies h.turns in (
      record {
        seats = subst (IsRoll head (es ++ e ∷ [])) (sym h.seats) (roll_more head es p.seats e own comes is.seats);
        locks = subst (IsLocks (es ++ e ∷ [])) (sym h.locks)
            (rw (← batch_is head es p.operation is.operation) at (locks_more head es p.locks e lawful comes is.locks));
        processors =
            subst (IsStanding head (es ++ e ∷ [])) (sym h.processors)
            (standing_more head es p.processors h.to e (on_processor head es p h.to e lawful comes is h.to_is) is.processors);
        operation = operates;
        flights = flies;
        registration = registration_after head es needed h.freed_by_registration e p.registration new.registration own comes n is.registration h.registration;
        suspended = suspended_after head es p new e lawful comes is h.suspended;
        turns = queued;
        awaited =
            awaited_more head es places p.operation new.operation e room h.freed_by_walk p.flights new.flights p.turns new.turns p.awaited
            new.awaited lawful stands t is.operation operates is.flights flies queued h.flights h.turns h.awaited is.awaited;
      },
      h.freed_is ∙ freed_after head es places room needed h.freed_by_walk h.freed_by_registration e p new comes is h.flights h.registration,
    )
