-- What comes next of one seat, found in one walk: of a thread in that of its processor, and of the seat of an upmany in that whose
-- turn it is. This project's own.
use Rattle.std.specs.Prelude.{◌≡◌, ℕ, true, ◌&&◌, ◌==◌, if◌then◌else◌, Option, Some, None, List, []}
use Rattle.hp_event.specs.declared.head.Head.{Head}
use Rattle.hp_event.specs.declared.event.Event.{Event}
use Rattle.hp_model.specs.ApTurn.{IsApTurn}
use Rattle.hp_model.specs.Batch.{is_upmany, to_begin}
use Rattle.hp_model.specs.BatchTurn.{turn_of, lowest_walking}
use Rattle.hp_model.specs.Events.{seat_of, is_call}
use Rattle.hp_model.specs.MapLock.{Operation, operation}
use Rattle.hp_model.specs.NextEvent.{due_entry, next_event}
use Rattle.hp_model.specs.NextInWalk.{next_of_walk}
use Rattle.hp_model.specs.Pending.{Pending, IsAllowed}
use Rattle.hp_model.specs.Seats.{ap_seat}
use Rattle.hp_model.specs.Walks.{Walk, walk}

-- an event, where it is an entry of a seat
abbrev pub call_by : (seat : ℕ) → Option Event → Option Event
call_by k None = None
call_by k (Some e) = if is_call e && (seat_of e == k) then Some e else None

-- what comes next in the walk of a processor, if there is one
abbrev pub next_on : Head → List Event → Option ℕ → Option Event
next_on head events None = None
next_on head events (Some c) = next_of_walk head events c (walk c events)

-- while its processor walks, what is due from a thread is the next entry there
abbrev pub IsThreadsDue : Head → List Event → Type 0
IsThreadsDue head events =
    (cpu seat : ℕ) (w : Walk) → ap_seat cpu events ≡ Some seat → walk cpu events ≡ Some w →
    due_entry head events seat ≡ call_by seat (next_of_walk head events cpu (walk cpu events))

-- what is due from the seat of an upmany is the next entry of the walk whose turn it is
abbrev pub IsHoldersDue : Head → List Event → Type 0
IsHoldersDue head events =
    (o : Operation) → operation events ≡ Some o → is_upmany o.op ≡ true →
    due_entry head events o.seat ≡ call_by o.seat (next_on head events (turn_of head events o.seat))

-- what comes next of it is the next event of that walk
abbrev pub IsHoldersNext : Head → List Event → Type 0
IsHoldersNext head events =
    (o : Operation) (p : Pending) (cpu : ℕ) → IsAllowed head events p → operation events ≡ Some o → o.seat ≡ p.seat →
    is_upmany o.op ≡ true → turn_of head events p.seat ≡ Some cpu →
    next_event head events p.seat p.op ≡ next_of_walk head events cpu (walk cpu events)

-- where it is nobody's turn it waits for the thread of the lowest that walks
abbrev pub IsHoldersWait : Head → List Event → Type 0
IsHoldersWait head events =
    (o : Operation) (cpu : ℕ) → operation events ≡ Some o → is_upmany o.op ≡ true → to_begin head events ≡ [] →
    turn_of head events o.seat ≡ None → lowest_walking head events ≡ Some cpu → IsApTurn head events o.seat cpu
