-- Completeness of operations: one that isn't refused and has no fault among its own entries answers Ok, but for want of room, and but
-- for a freeze that finds a wakeup pending before a walk. This project's own.
use Rattle.std.specs.Prelude.{◌≡◌, ℕ, ℤ, pos, Bool, true, false, ◌↔◌, ◌⊎◌, Some, None, List, [], ◌∷◌, ◌++◌, length}
use Rattle.hp_states.specs.declared.limits.TheConstants.{EBUSY}
use Rattle.hp_event.specs.declared.op.Op.{Op}
use Rattle.hp_event.specs.declared.op.Op.TheVariants.{Boot, Freeze, Thaw, UpMany}
use Rattle.hp_event.specs.declared.answer.Answer.{Answer}
use Rattle.hp_event.specs.declared.answer.Answer.TheVariants.{Ok, Refused, LogFull}
use Rattle.hp_event.specs.declared.head.Head.{Head}
use Rattle.hp_event.specs.declared.event.Event.{Event}
use Rattle.hp_event.specs.declared.event.Event.TheVariants.{WalkBegin, WalkEnd}
use Rattle.hp_model.specs.Entries.{codes_of_faults}
use Rattle.hp_model.specs.Events.{seat_of, answer_by, BelongsTo}
use Rattle.hp_model.specs.Lawful.{IsKeptOut}
use Rattle.hp_model.specs.MapLock.{Operation, operation}
use Rattle.hp_model.specs.Own.{own_faults}
use Rattle.hp_model.specs.Refusals.{refusal}
use Rattle.hp_model.specs.RegistrationShape.{ok_value}
use Rattle.hp_model.specs.Registrations.{Registration, registration}
use Rattle.hp_model.specs.Seats.{is_busy}
use Rattle.hp_model.specs.Sequence.{answers, failures, to_freeze}
use Rattle.hp_model.specs.Suspend.{is_ok, wakeup_pending}
use Rattle.hp_model.specs.Walks.{Walk, walk, walk_entries}

-- a freeze finds a wakeup pending before a walk that it would have next
pub record IsWoken (head : Head) (o : Operation) (events : List Event) : Type 0 where
  pub primary : ℤ
  pub op_is : o.op ≡ Freeze primary
  pub pending : wakeup_pending events ≡ true
  pub cpu : ℕ
  pub others : List ℕ
  pub still_to_walk : to_freeze head primary o.before events ≡ cpu ∷ others

-- a walk of a seat's operation could begin, and is kept out by room alone
pub record IsShort (head : Head) (seat : ℕ) (events : List Event) : Type 0 where
  pub cpu : ℕ
  pub from : ℕ
  pub to : ℕ
  pub kept_out : IsKeptOut head events (WalkBegin seat cpu from to)

-- What an operation answers whose entries had no fault: Ok(0), or LogFull exactly where a walk of it is kept out by room alone, or
-- Refused(16) exactly where a freeze is woken.
pub record IsAnswerOf (head : Head) (o : Operation) (events : List Event) (answer : Answer) : Type 0 where
  pub one_of : (answer ≡ Ok (pos 0)) ⊎ ((answer ≡ LogFull) ⊎ (answer ≡ Refused EBUSY))
  pub full : (answer ≡ LogFull) ↔ IsShort head o.seat events
  pub woken : (answer ≡ Refused EBUSY) ↔ IsWoken head o events

-- those that go on after a fault, and answer how many walks had one
abbrev pub counts_failures : Op → Bool
counts_failures (Boot n) = true
counts_failures Thaw = true
counts_failures (UpMany set) = true
counts_failures _ = false

-- What these answer, with faults or without: how many of their walks weren't Ok, or LogFull exactly where a walk is kept out by room
-- alone; where they answer 0 there was no fault.
pub record IsCountOf (head : Head) (o : Operation) (events : List Event) (answer : Answer) : Type 0 where
  pub one_of : (answer ≡ Ok (pos (length (failures (answers events))))) ⊎ (answer ≡ LogFull)
  pub full : (answer ≡ LogFull) ↔ IsShort head o.seat events
  pub zero : answer ≡ Ok (pos 0) → own_faults o.seat events ≡ []

-- each walk of the operation that has ended answered Ok, and those in flight have no fault yet
pub record AreFaultless (events : List Event) : Type 0 where
  pub ended : failures (answers events) ≡ []
  pub in_flight : (cpu : ℕ) (w : Walk) → walk cpu events ≡ Some w → codes_of_faults (walk_entries cpu events) ≡ []

-- Of a journal: an operation in flight has no fault of its own exactly where its walks have none (`own`). Its last event, where it ends
-- a walk, answers Ok exactly where that walk has no fault (`walks`). Where it answers what its seat has in flight, or an operation at
-- once, it answers it so. Said of every front of a journal it is said of each answer in it.
pub record Completes (head : Head) (events : List Event) : Type 0 where
  pub own : (o : Operation) → operation events ≡ Some o → (own_faults o.seat events ≡ []) ↔ AreFaultless events
  pub walks : (before : List Event) (seat cpu : ℕ) (answer : Answer) → events ≡ before ++ WalkEnd seat cpu answer ∷ [] →
      (codes_of_faults (walk_entries cpu before) ≡ []) ↔ (answer ≡ Ok (pos 0))
  pub operations : (before : List Event) (event : Event) (answer : Answer) (o : Operation) →
      events ≡ before ++ event ∷ [] → answer_by event ≡ Some answer →
      operation before ≡ Some o → o.seat ≡ seat_of event → own_faults o.seat before ≡ [] →
      IsAnswerOf head o before answer
  pub no_ok_with_faults : (before : List Event) (event : Event) (answer : Answer) (o : Operation) →
      events ≡ before ++ event ∷ [] → answer_by event ≡ Some answer →
      operation before ≡ Some o → o.seat ≡ seat_of event → counts_failures o.op ≡ false →
      is_ok answer ≡ true → own_faults o.seat before ≡ []
  pub registrations : (before : List Event) (event : Event) (answer : Answer) (r : Registration) →
      events ≡ before ++ event ∷ [] → answer_by event ≡ Some answer →
      registration before ≡ Some r → r.seat ≡ seat_of event →
      (own_faults r.seat before ≡ []) ↔ (answer ≡ Ok (pos (ok_value r.op r.state)))
  pub at_once : (before : List Event) (event : Event) (answer : Answer) (op : Op) →
      events ≡ before ++ event ∷ [] → answer_by event ≡ Some answer →
      is_busy (seat_of event) before ≡ false → BelongsTo op event →
      (is_ok answer ≡ true) ↔ (refusal head before (seat_of event) op ≡ None)
  pub counted : (before : List Event) (event : Event) (answer : Answer) (o : Operation) →
      events ≡ before ++ event ∷ [] → answer_by event ≡ Some answer →
      operation before ≡ Some o → o.seat ≡ seat_of event → counts_failures o.op ≡ true →
      IsCountOf head o before answer
