-- Why a seat isn't let in: the first of some conditions, in their order. This project's own.
use Rattle.std.specs.Prelude.{◌≡◌, ◌≢◌, ◌+◌, not, nat_le, nat_lt, is_some, if◌then◌else◌, Option, Some, None, List, length}
use Rattle.hp_states.specs.declared.limits.TheConstants.{MAX_SEATS, MAX_EVENTS}
use Rattle.hp_event.specs.declared.event.Event.{Event}
use Rattle.hp_event.specs.declared.event.Role.{Role}
use Rattle.hp_event.specs.declared.event.Role.TheVariants.{Client, Ap}
use Rattle.hp_event.specs.declared.head.Head.{Head}
use Rattle.hp_model.specs.Processors.{is_present}
use Rattle.hp_model.specs.Promised.{promised}
use Rattle.hp_model.specs.Seats.{admits, ap_seat}
use Rattle.hp_machine.specs.declared.admission.AdmitError.{AdmitError}
use Rattle.hp_machine.specs.declared.admission.AdmitError.TheVariants.{Full, NotPresent, ApTaken, LogFull, NoMemory}
use Rattle.hp_machine.specs.Contents.{Contents}

-- an admission takes room for itself and for the seat's leave
abbrev pub refused_for_room : Head → List Event → Option AdmitError
refused_for_room head events = if nat_lt MAX_EVENTS (length events + promised head events + 2) then Some LogFull else None

abbrev pub refused_for_role : Head → List Event → Role → Option AdmitError
refused_for_role head events Client = refused_for_room head events
refused_for_role head events (Ap cpu) =
    if not (is_present head cpu)
    then Some NotPresent
    else (if is_some (ap_seat cpu events) then Some ApTaken else refused_for_room head events)

abbrev pub refusal_of : Head → List Event → Role → Option AdmitError
refusal_of head events role = if nat_le MAX_SEATS (admits events) then Some Full else refused_for_role head events role

-- ---- what an answer says of it

-- an error is the first of these, unless memory was wanting
abbrev pub IsAdmitRefusal : Contents → Role → AdmitError → Type 0
IsAdmitRefusal m role error = error ≢ NoMemory → refusal_of m.head m.events role ≡ Some error

-- that comes only where none of these holds
abbrev pub WantsOnlyMemory : Contents → Role → AdmitError → Type 0
WantsOnlyMemory m role error = error ≡ NoMemory → refusal_of m.head m.events role ≡ None
