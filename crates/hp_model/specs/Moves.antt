-- Some seat can move: of operations that aren't answered, with all that they wait for among them, one has an event
-- that can stand next, or a processor's thread has an entry, or one is answered LogFull. This project's own.
use Rattle.std.specs.Prelude.{◌≡◌, ℕ, true, false, Some, List, All, Contains, ◌⊎◌}
use Rattle.hp_event.specs.declared.op.Op.{Op}
use Rattle.hp_event.specs.declared.head.Head.{Head}
use Rattle.hp_event.specs.declared.event.Event.{Event}
use Rattle.hp_model.specs.Lists.{is_empty}
use Rattle.hp_model.specs.Events.{seat_of, is_call, BelongsTo}
use Rattle.hp_model.specs.Readers.{is_reading}
use Rattle.hp_model.specs.Processors.{is_present}
use Rattle.hp_model.specs.Seats.{ap_seat}
use Rattle.hp_model.specs.Lawful.{Stands}
use Rattle.hp_model.specs.Full.{IsFull}
use Rattle.hp_model.specs.Pending.{Pending, IsInFlight, IsAllowed}

-- some operations, at least one, among them all that are in flight and one of each reader; and each present
-- processor has its thread
pub record ArePending (head : Head) (events : List Event) (pending : List Pending) : Type 0 where
  pub some : is_empty pending ≡ false
  pub allowed : All (IsAllowed head events) pending
  pub in_flight : (p : Pending) → IsInFlight events p → Contains pending p
  pub readers : (k : ℕ) → is_reading k events ≡ true → (op : Op) × Contains pending (record { seat = k; op = op })
  pub threads : (cpu : ℕ) → is_present head cpu ≡ true → (k : ℕ) × (ap_seat cpu events ≡ Some k)

-- an event of one of these operations, by its seat
abbrev pub IsOfPending : List Pending → Event → Type 0
IsOfPending pending e = (p : Pending) × Contains pending p × (seat_of e ≡ p.seat) × BelongsTo p.op e

-- an entry by the thread of a processor
abbrev pub IsOfThread : List Event → Event → Type 0
IsOfThread events e = (cpu : ℕ) × (ap_seat cpu events ≡ Some (seat_of e)) × (is_call e ≡ true)

abbrev pub CanMove : Head → List Event → List Pending → Type 0
CanMove head events pending =
    ((e : Event) × Stands head events e × (IsOfPending pending e ⊎ IsOfThread events e))
    ⊎ ((p : Pending) × Contains pending p × IsFull head events p.seat p.op)

-- whatever operations are left, one of them can move
abbrev pub SomeSeatCanMove : Head → List Event → Type 0
SomeSeatCanMove head events = (pending : List Pending) → ArePending head events pending → CanMove head events pending
