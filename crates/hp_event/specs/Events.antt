-- Whose an event is. This project's own.
use Rattle.std.specs.Prelude.{ℕ}
use Rattle.hp_event.specs.declared.event.Event.{Event}
use Rattle.hp_event.specs.declared.event.Event.TheVariants.{Admit, Leave, Enter, Refused, WalkBegin, Call, WalkEnd, OpEnd, RegBegin, RegEnd, ReadLock, ReadUnlock, Armed, Shown, Wakeup}

abbrev pub seat_of : Event → ℕ
seat_of (Admit seat role) = seat
seat_of (Leave seat) = seat
seat_of (Enter seat op) = seat
seat_of (Refused seat errno op) = seat
seat_of (WalkBegin seat cpu from to) = seat
seat_of (Call seat cpu state inst dir how) = seat
seat_of (WalkEnd seat cpu answer) = seat
seat_of (OpEnd seat answer) = seat
seat_of (RegBegin seat state op) = seat
seat_of (RegEnd seat answer) = seat
seat_of (ReadLock seat) = seat
seat_of (ReadUnlock seat) = seat
seat_of (Armed seat cpu value) = seat
seat_of (Shown seat file cpu value) = seat
seat_of (Wakeup seat) = seat
