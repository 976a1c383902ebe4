-- What one event makes of a called set: which keys have a row, and which processors that has. This project's own.
use Rattle.std.specs.Prelude.{◌≡◌, ◌<◌, ◌&&◌, ◌||◌, ◌==◌, not, if◌then◌else◌, ℕ, Bool, true, false, Option, Some, None}
use Rattle.hp_states.specs.declared.limits.TheConstants.{MAX_CPU_SET}
use Rattle.hp_event.specs.Hows.{is_done}
use Rattle.hp_event.specs.declared.answer.Answer.{Answer}
use Rattle.hp_event.specs.declared.event.Event.{Event}
use Rattle.hp_event.specs.declared.event.Event.TheVariants.{Call, RegBegin, RegEnd}
use Rattle.hp_event.specs.declared.head.Head.{Head}
use Rattle.hp_event.specs.declared.key.Key.{Key}
use Rattle.hp_event.specs.declared.op.Op.{Op}
use Rattle.hp_event.specs.declared.op.Op.TheVariants.{Setup, Remove, Add, Del}
use Rattle.hp_model.specs.Subsystems.{is_multi}
use Rattle.hp_model.specs.Suspend.{is_ok}
use Rattle.hp_called.specs.declared.ending.Ending.{Ending}
use Rattle.hp_called.specs.declared.called.Called.{Called}
use Rattle.hp_called.specs.Rows.{same, is_up, HasRoom}

-- ---- what goes at the end of a registration

abbrev pub adding : (state inst : ℕ) → Ending
adding s i = record { key = record { state = s; inst = i }; adds = true }

abbrev pub taking : (state inst : ℕ) → Ending
taking s i = record { key = record { state = s; inst = i }; adds = false }

-- the row that the end of an operation at a state may take out: none of a setup of a state with an instance list
abbrev pub ending_by : Head → Op → (state : ℕ) → Option Ending
ending_by head (Setup asked sub form) s = if is_multi head sub then None else Some (adding s 0)
ending_by head (Remove state form) s = Some (taking s 0)
ending_by head (Add state inst form) s = Some (adding s inst)
ending_by head (Del state inst form) s = Some (taking s inst)
ending_by head _ s = None

-- it goes where what adds it fails, and where what takes it away doesn't
abbrev pub takes_row : (adds : Bool) → Answer → Bool
takes_row adds answer = if adds then not (is_ok answer) else is_ok answer

-- ---- the begin of a registration gives the key that it adds a row

abbrev pub is_added : Option Ending → Key → Bool
is_added None k = false
is_added (Some e) k = e.adds && same e.key k

-- ---- and its end takes one out

abbrev pub is_taken : Option Ending → Answer → Key → Bool
is_taken None answer k = false
is_taken (Some e) answer k = takes_row e.adds answer && same e.key k

abbrev pub row_begun : Option Ending → Key → (found : Bool) → Bool
row_begun ending k found = is_added ending k || found

abbrev pub on_begun : Option Ending → Key → (found : Bool) → Bool
on_begun ending k found = not (is_added ending k) && found

abbrev pub left : Option Ending → Answer → Key → (found : Bool) → Bool
left ending answer k found = not (is_taken ending answer k) && found

-- ---- one event more

abbrev pub row_after : Head → Event → Option Ending → Key → (found : Bool) → Bool
row_after head (RegBegin seat state op) ending k found = is_added (ending_by head op state) k || found
row_after head (RegEnd seat answer) ending k found = not (is_taken ending answer k) && found
row_after head _ ending k found = found

-- an entry that is done writes into the row of its key, if that has one; a new row has no processor
abbrev pub on_after : Head → Event → Option Ending → Key → (cpu : ℕ) → (has_row found : Bool) → Bool
on_after head (RegBegin seat state op) ending k c row found = not (is_added (ending_by head op state) k) && found
on_after head (RegEnd seat answer) ending k c row found = not (is_taken ending answer k) && found
on_after head (Call seat cpu state inst dir how) ending k c row found =
    if is_done how && (row && (same (record { state = state; inst = inst }) k && (cpu == c))) then is_up dir else found
on_after head _ ending k c row found = found

abbrev pub ending_after : Head → Event → Option Ending → Option Ending
ending_after head (RegBegin seat state op) ending = ending_by head op state
ending_after head (RegEnd seat answer) ending = None
ending_after head _ ending = ending

-- ---- what it needs

-- a new row needs no memory
abbrev pub HasRoomIf : Option Ending → Called → Type 0
HasRoomIf None called = Unit {0}
HasRoomIf (Some e) called = e.adds ≡ true → HasRoom called.rows

abbrev pub HasRoomFor : Head → Event → Called → Type 0
HasRoomFor head (RegBegin seat state op) called = HasRoomIf (ending_by head op state) called
HasRoomFor head _ called = Unit {0}

-- the processor of an entry has a place in a set
abbrev pub IsOnSomeCpu : Event → Type 0
IsOnSomeCpu (Call seat cpu state inst dir how) = cpu < MAX_CPU_SET
IsOnSomeCpu _ = Unit {0}

-- what it adds gets a row
abbrev pub AddsRow : Option Ending → Type 0
AddsRow None = ⊥
AddsRow (Some e) = e.adds ≡ true

-- a registration begins that adds a key: a setup of a state without instances, or an add
abbrev pub AddsKey : Head → Op → Type 0
AddsKey head (Setup asked sub form) = is_multi head sub ≡ false
AddsKey head (Add state inst form) = Unit {0}
AddsKey head _ = ⊥

abbrev pub BringsRow : Head → Event → Type 0
BringsRow head (RegBegin seat state op) = AddsKey head op
BringsRow head _ = ⊥
