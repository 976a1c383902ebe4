-- The event that an operation begins with, of a client's seat that has nothing in flight: its refusal, or its begin where it is
-- neither refused nor kept waiting. After the calls of `kernel/cpu.c`; that each begins with one event is this project's own.
use Rattle.std.specs.Prelude.{ℕ, Bool, true, false, ◌&&◌, if◌then◌else◌, Option, Some, None, option_map, List}
use Rattle.hp_event.specs.declared.op.Op.{Op}
use Rattle.hp_event.specs.declared.op.Op.TheVariants as op
use Rattle.hp_event.specs.declared.event.File.{File}
use Rattle.hp_event.specs.declared.event.File.TheVariants.{State, Target, Fail, States}
use Rattle.hp_event.specs.declared.event.Role.{Role}
use Rattle.hp_event.specs.declared.event.Role.TheVariants.{Client, Ap}
use Rattle.hp_event.specs.declared.head.Head.{Head}
use Rattle.hp_event.specs.declared.event.Event.{Event}
use Rattle.hp_event.specs.declared.event.Event.TheVariants.{Enter, Refused, RegBegin, ReadLock, ReadUnlock, Armed, Shown, Wakeup}
use Rattle.hp_model.specs.Subsystems.{names_sub}
use Rattle.hp_model.specs.Seats.{role_of}
use Rattle.hp_model.specs.Files.{file_value}
use Rattle.hp_model.specs.Resolved.{resolved}
use Rattle.hp_model.specs.Waits.{is_waiting}
use Rattle.hp_model.specs.Refusals.{refusal}

abbrev pub is_client : Option Role → Bool
is_client None = false
is_client (Some Client) = true
is_client (Some (Ap cpu)) = false

-- a registration begins at its resolved state
abbrev pub reg_begin : (seat : ℕ) → Op → Option ℕ → Option Event
reg_begin k asked state = option_map (λ s. RegBegin k s asked) state

abbrev pub file_shown : Head → List Event → (seat : ℕ) → File → (cpu : ℕ) → Event
file_shown head events k file c = Shown k file c (file_value head events file c)

abbrev pub begin_of : Head → List Event → (seat : ℕ) → Op → Option Event
begin_of head events k (op.Up c) = Some (Enter k (op.Up c))
begin_of head events k (op.Down c) = Some (Enter k (op.Down c))
begin_of head events k (op.Target c v) = Some (Enter k (op.Target c v))
begin_of head events k (op.Boot n) = Some (Enter k (op.Boot n))
begin_of head events k op.Disable = Some (Enter k op.Disable)
begin_of head events k op.Enable = Some (Enter k op.Enable)
begin_of head events k (op.Freeze p) = Some (Enter k (op.Freeze p))
begin_of head events k op.Thaw = Some (Enter k op.Thaw)
begin_of head events k (op.UpMany set) = Some (Enter k (op.UpMany set))
begin_of head events k op.Wakeup = Some (Wakeup k)
begin_of head events k (op.Arm c v) = Some (Armed k c v)
begin_of head events k (op.ShowState c) = Some (file_shown head events k State c)
begin_of head events k (op.ShowTarget c) = Some (file_shown head events k Target c)
begin_of head events k (op.ShowFail c) = Some (file_shown head events k Fail c)
begin_of head events k op.ShowStates = Some (file_shown head events k States 0)
begin_of head events k op.Lock = Some (ReadLock k)
begin_of head events k op.Unlock = Some (ReadUnlock k)
begin_of head events k (op.Setup s sub form) = reg_begin k (op.Setup s sub form) (resolved head events (op.Setup s sub form))
begin_of head events k (op.Remove s form) = reg_begin k (op.Remove s form) (resolved head events (op.Remove s form))
begin_of head events k (op.Add s i form) = reg_begin k (op.Add s i form) (resolved head events (op.Add s i form))
begin_of head events k (op.Del s i form) = reg_begin k (op.Del s i form) (resolved head events (op.Del s i form))

abbrev pub refused_or_begun : Head → List Event → (seat : ℕ) → Op → (refusal : Option ℕ) → Option Event
refused_or_begun head events k asked (Some errno) = Some (Refused k errno asked)
refused_or_begun head events k asked None = if is_waiting events asked then None else begin_of head events k asked

-- none for a seat that isn't in as a client, and for a setup of a subsystem that the head hasn't
abbrev pub first_event : Head → List Event → (seat : ℕ) → Op → Option Event
first_event head events k asked =
    if is_client (role_of k events) && names_sub head asked
    then refused_or_begun head events k asked (refusal head events k asked)
    else None
