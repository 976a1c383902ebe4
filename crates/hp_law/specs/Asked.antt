-- Which operation an event is of, as far as the event says it. This project's own.
use Rattle.hp_event.specs.declared.op.Op.{Op}
use Rattle.hp_event.specs.declared.op.Op.TheVariants as op
use Rattle.hp_event.specs.declared.event.Event.{Event}
use Rattle.hp_event.specs.declared.event.Event.TheVariants.{Admit, Leave, Enter, Refused, Call, RegBegin, ReadUnlock, Armed, Shown, Wakeup}
use Rattle.hp_model.specs.Events.{showing}

-- the operation that an event begins or refuses; of an event in flight, which says none, any will do
abbrev pub asked_by : Event → Op
asked_by (Enter seat asked) = asked
asked_by (Refused seat errno asked) = asked
asked_by (RegBegin seat state asked) = asked
asked_by (ReadUnlock seat) = op.Unlock
asked_by (Armed seat cpu value) = op.Arm cpu value
asked_by (Shown seat file cpu value) = showing file cpu
asked_by (Wakeup seat) = op.Wakeup
asked_by _ = op.Lock

-- a client's event that belongs to an operation, and is no entry
abbrev pub IsOfOperation : Event → Type 0
IsOfOperation (Admit seat role) = ⊥
IsOfOperation (Leave seat) = ⊥
IsOfOperation (Call seat cpu state inst dir how) = ⊥
IsOfOperation _ = Unit {0}
