-- What an answer of the machine means: that what comes next is exactly this, by the definitions of hp_model. This project's own.
use Rattle.std.specs.Prelude.{◌≡◌, ◌==◌, if◌then◌else◌, ℕ, true, false, Option, Some, None, List}
use Rattle.hp_event.specs.declared.op.Op.{Op}
use Rattle.hp_event.specs.declared.head.Head.{Head}
use Rattle.hp_event.specs.declared.event.Event.{Event}
use Rattle.hp_model.specs.Events.{is_call, seat_of}
use Rattle.hp_model.specs.Needs.{need, taken}
use Rattle.hp_model.specs.Waits.{maps_held, readers_in, reg_in, writer_in}
use Rattle.hp_model.specs.Waits.{Wait}
use Rattle.hp_model.specs.SeatWaits.{wait}
use Rattle.hp_model.specs.Refusals.{refusal}
use Rattle.hp_model.specs.ApTurn.{IsApTurn}
use Rattle.hp_model.specs.NextEvent.{next_event, due_entry, is_full}
use Rattle.hp_locks.specs.declared.why.Why.{Why}
use Rattle.hp_locks.specs.declared.why.Why.TheVariants.{MapsHeld, WriterIn, ReadersIn, RegIn, ApTurn, HookOut, Idle}
use Rattle.hp_account.specs.declared.under_way.Entry.{Entry}
use Rattle.hp_machine.specs.declared.next.Next.{Next}
use Rattle.hp_machine.specs.declared.next.Next.TheVariants as next
use Rattle.hp_account.specs.declared.under_way.NextStep.{NextStep}
use Rattle.hp_account.specs.declared.under_way.NextStep.TheVariants as coming
use Rattle.hp_account.specs.NextStep.{end_event}
use Rattle.hp_account.specs.Entries.{entry_event}

-- the seat's operation isn't refused, and waits for this
pub record WaitsFor (head : Head) (events : List Event) (seat : ℕ) (op : Op) (why : Wait) : Type 0 where
  pub not_refused : refusal head events seat op ≡ None
  pub wait_is : wait head events seat op ≡ Some why

abbrev pub IsWhy : Head → List Event → (seat : ℕ) → Op → Why → Type 0
IsWhy head events k op (MapsHeld seat) = WaitsFor head events k op (maps_held seat)
IsWhy head events k op (WriterIn seat) = WaitsFor head events k op (writer_in seat)
IsWhy head events k op (ReadersIn count) = WaitsFor head events k op (readers_in count)
IsWhy head events k op (RegIn seat) = WaitsFor head events k op (reg_in seat)
IsWhy head events k op (ApTurn cpu) = IsApTurn head events k cpu
IsWhy head events k op (HookOut state) = ⊥
IsWhy head events k op Idle = ⊥

-- nothing of the operation can stand next, and it has room
pub record IsKept (head : Head) (events : List Event) (seat : ℕ) (op : Op) (why : Why) : Type 0 where
  pub no_event : next_event head events seat op ≡ None
  pub not_full : is_full head events seat op ≡ false
  pub why_is : IsWhy head events seat op why

-- this is what comes next of a seat and its operation
abbrev pub IsNext : Head → List Event → (seat : ℕ) → Op → Next → Type 0
IsNext head events k op (next.Event event takes) =
    (next_event head events k op ≡ Some event) × (takes ≡ taken (need head events event)) × (is_call event ≡ false)
IsNext head events k op (next.Entry x) = next_event head events k op ≡ Some (entry_event head events x)
IsNext head events k op next.Full = is_full head events k op ≡ true
IsNext head events k op (next.Wait why) = IsKept head events k op why

-- this is the entry that is due from a seat
abbrev pub IsDue : Head → List Event → (seat : ℕ) → Option Entry → Type 0
IsDue head events k None = due_entry head events k ≡ None
IsDue head events k (Some x) = due_entry head events k ≡ Some (entry_event head events x)

-- what comes next of a seat in what is under way: its event, its entry, or that the client waits for a processor's thread
abbrev pub next_by : (seat : ℕ) → Option NextStep → Option Next
next_by k None = None
next_by k (Some (coming.End e)) = if seat_of (end_event e) == k then Some (next.Event (end_event e) 0) else None
next_by k (Some (coming.Entry client cpu None)) = if client == k then Some (next.Wait (ApTurn cpu)) else None
next_by k (Some (coming.Entry client cpu (Some x))) =
    if x.seat == k then Some (next.Entry x) else (if client == k then Some (next.Wait (ApTurn cpu)) else None)
