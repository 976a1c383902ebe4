-- Events that an operation begins with, of a seat that has nothing in flight. This project's own.
use Rattle.hp_event.specs.declared.event.Event.{Event}
use Rattle.hp_event.specs.declared.event.Event.TheVariants.{Enter, Refused, RegBegin, ReadLock, ReadUnlock, Armed, Shown, Wakeup}

abbrev pub IsFirst : Event → Type 0
IsFirst (Enter seat op) = Unit {0}
IsFirst (Refused seat errno op) = Unit {0}
IsFirst (RegBegin seat state op) = Unit {0}
IsFirst (ReadLock seat) = Unit {0}
IsFirst (ReadUnlock seat) = Unit {0}
IsFirst (Armed seat cpu value) = Unit {0}
IsFirst (Shown seat file cpu value) = Unit {0}
IsFirst (Wakeup seat) = Unit {0}
IsFirst _ = ⊥
