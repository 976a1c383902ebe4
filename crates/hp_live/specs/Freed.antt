-- Whom an event frees: of all seats but its own each that could make nothing before it, and may after it. This project's own.
use Rattle.std.specs.Prelude.{◌≡◌, ◌≢◌, ◌==◌, ℕ, Bool, true, false, Option, Some, None, List, [], ◌∷◌, ◌++◌}
use Rattle.hp_event.specs.declared.event.Event.{Event}
use Rattle.hp_event.specs.declared.event.Event.TheVariants.{WalkBegin, Call, WalkEnd, OpEnd, RegEnd}
use Rattle.hp_event.specs.declared.head.Head.{Head}
use Rattle.hp_event.specs.declared.op.Op.{Op}
use Rattle.hp_locks.specs.declared.why.Why.TheVariants.{HookOut}
use Rattle.hp_model.specs.ApTurn.{IsApTurn}
use Rattle.hp_model.specs.Events.{seat_of}
use Rattle.hp_model.specs.NextEvent.{next_event, due_entry, is_full}
use Rattle.hp_model.specs.Pending.{IsAllowed}
use Rattle.hp_model.specs.Seats.{ap_seat, is_busy}
use Rattle.hp_account.specs.UnderWay.{IsNextThreadDue, NoThreadDueFrom}
use Rattle.hp_machine.specs.Clients.{clients}
use Rattle.hp_board.specs.declared.turn.Turn.{Turn}
use Rattle.hp_board.specs.declared.turn.Turn.TheVariants.{NotYet}
use Rattle.hp_live.specs.declared.freed.Freed.{Freed}

-- nothing of a seat's operation can stand next, and it has room: whatever hooks are lent, its turn makes nothing
pub record Waits (head : Head) (events : List Event) (seat : ℕ) (op : Op) : Type 0 where
  pub no_event : next_event head events seat op ≡ None
  pub not_full : is_full head events seat op ≡ false

-- the client waits after these events for an operation that it may ask for, and an event more of another seat ends that
pub record EndsWait (head : Head) (before : List Event) (event : Event) (seat : ℕ) (op : Op) : Type 0 where
  pub other : seat_of event ≢ seat
  pub allowed : IsAllowed head before (record { seat = seat; op = op })
  pub waits : Waits head before seat op
  pub ends : Waits head (before ++ event ∷ []) seat op → ⊥

-- no entry is due from the seat of a processor's thread, and after an event more of another seat this one is
pub record MakesDue (head : Head) (before : List Event) (event : Event) (cpu seat : ℕ) (entry : Event) : Type 0 where
  pub other : seat_of event ≢ seat
  pub thread : ap_seat cpu before ≡ Some seat
  pub idle : due_entry head before seat ≡ None
  pub due : due_entry head (before ++ event ∷ []) seat ≡ Some entry

-- clients with nothing in flight are freed where the wait of one of them ends, the seats of operations in flight where that of one of
-- them does, a thread where an entry comes due from it, and all threads where the last client has left
pub record Frees (head : Head) (before : List Event) (event : Event) (had_client : Bool) (freed : Freed) : Type 0 where
  pub first : (seat : ℕ) (op : Op) → EndsWait head before event seat op → is_busy seat before ≡ false → freed.first ≡ true
  pub in_flight : (seat : ℕ) (op : Op) → EndsWait head before event seat op → is_busy seat before ≡ true → freed.in_flight ≡ true
  pub thread : (cpu seat : ℕ) (entry : Event) → MakesDue head before event cpu seat entry → freed.thread ≡ Some seat
  pub threads : had_client ≡ true → clients (before ++ event ∷ []) ≡ 0 → freed.threads ≡ true

-- ---- what the code asks

-- whether an event gives back the map lock, the write side of the hotplug lock, or the registration
abbrev pub gives_back : Event → Bool
gives_back (WalkEnd seat cpu answer) = true
gives_back (OpEnd seat answer) = true
gives_back (RegEnd seat answer) = true
gives_back e = false

-- the seat waits for a processor's thread
abbrev pub NeedsThread : Head → List Event → (seat : ℕ) → Type 0
NeedsThread head events k = (cpu : ℕ) × IsApTurn head events k cpu

-- this other seat waits for no processor's thread
pub record WaitsForNone (head : Head) (events : List Event) (by : ℕ) (holder : Option ℕ) (seat : ℕ) : Type 0 where
  pub holds : holder ≡ Some seat
  pub other : by ≢ seat
  pub no_thread : (cpu : ℕ) → IsApTurn head events seat cpu → ⊥

-- whether an event is the begin of a processor's walk, or an entry there
abbrev pub moves : (cpu : ℕ) → Event → Bool
moves c (WalkBegin seat cpu from to) = cpu == c
moves c (Call seat cpu state inst dir how) = cpu == c
moves c e = false

-- the seat of the thread from which the last of these events made an entry due, if it did
abbrev pub BringsDue : Head → (events : List Event) → Event → Option ℕ → Type 0
BringsDue head events e found =
    (before : List Event) (cpu seat : ℕ) (entry : Event) → events ≡ before ++ e ∷ [] → MakesDue head before e cpu seat entry →
    found ≡ Some seat

-- of the threads from which an entry is due that of the lowest processor
abbrev pub IsLowestDue : Head → List Event → Option ℕ → Type 0
IsLowestDue head events None = NoThreadDueFrom head events 0
IsLowestDue head events (Some seat) = (cpu : ℕ) × IsNextThreadDue head events 0 (cpu, seat)

-- ---- what a hook is waited for

-- a turn waits for a hook
abbrev pub IsHookAway : Turn → Type 0
IsHookAway turn = (state : ℕ) × (turn ≡ NotYet (HookOut state))

-- and its seat has nothing in flight
abbrev pub WaitsForHook : List Event → (seat : ℕ) → Turn → Type 0
WaitsForHook events k turn = IsHookAway turn × (is_busy k events ≡ false)
