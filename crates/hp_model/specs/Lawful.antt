-- Lawful journals: each event stands after the events before it, which is where it can come next and there is room for
-- what it needs. This project's own.
use Rattle.std.specs.Prelude.{◌≡◌, true, false, List, []}
use Rattle.hp_event.specs.declared.head.Head.{Head}
use Rattle.hp_event.specs.declared.event.Event.{Event}
use Rattle.hp_event.specs.declared.event.Event.TheVariants.{Admit, Leave, Enter, Refused, WalkBegin, Call, WalkEnd, OpEnd, RegBegin, RegEnd, ReadLock, ReadUnlock, Armed, Shown, Wakeup}
use Rattle.hp_model.specs.Journal.{EachAfter}
use Rattle.hp_model.specs.Heads.{IsHead}
use Rattle.hp_model.specs.StandsCalls.{Calls}
use Rattle.hp_model.specs.StandsSeats.{Admits, Leaves, ReadLocks, ReadUnlocks}
use Rattle.hp_model.specs.StandsOperations.{Enters, IsRefused, WalkBegins, WalkEnds, OpEnds}
use Rattle.hp_model.specs.StandsRegistrations.{RegBegins, RegEnds}
use Rattle.hp_model.specs.StandsFiles.{Arms, Shows, Wakes}
use Rattle.hp_model.specs.Room.{has_room}

-- which event can come next, if there is room for it
abbrev pub Comes : Head → (before : List Event) → Event → Type 0
Comes head before (Admit seat role) = Admits head before seat role
Comes head before (Leave seat) = Leaves head before seat
Comes head before (Enter seat op) = Enters head before seat op
Comes head before (Refused seat errno op) = IsRefused head before seat errno op
Comes head before (WalkBegin seat cpu from to) = WalkBegins head before seat cpu from to
Comes head before (Call seat cpu state inst dir how) = Calls head before seat cpu state inst dir how
Comes head before (WalkEnd seat cpu answer) = WalkEnds head before seat cpu answer
Comes head before (OpEnd seat answer) = OpEnds head before seat answer
Comes head before (RegBegin seat state op) = RegBegins head before seat state op
Comes head before (RegEnd seat answer) = RegEnds head before seat answer
Comes head before (ReadLock seat) = ReadLocks head before seat
Comes head before (ReadUnlock seat) = ReadUnlocks head before seat
Comes head before (Armed seat cpu value) = Arms head before seat cpu value
Comes head before (Shown seat file cpu value) = Shows head before seat file cpu value
Comes head before (Wakeup seat) = Wakes head before seat

abbrev pub Stands : Head → (before : List Event) → Event → Type 0
Stands head before e = Comes head before e × (has_room head before e ≡ true)

-- an event that is kept out by room alone
abbrev pub IsKeptOut : Head → (before : List Event) → Event → Type 0
IsKeptOut head before e = Comes head before e × (has_room head before e ≡ false)

abbrev pub IsLawful : Head → List Event → Type 0
IsLawful head events = IsHead head × EachAfter (Stands head) [] events
