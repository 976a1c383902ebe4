-- What a turn of a seat may be asked for, and what a seat has in flight. This project's own.
use Rattle.std.specs.Prelude.{ℕ, List}
use Rattle.hp_event.specs.declared.op.Op.{Op}
use Rattle.hp_event.specs.declared.event.Event.{Event}
use Rattle.hp_model.specs.Pending.{IsAllowed, IsInFlight}
use Rattle.hp_machine.specs.Contents.{Contents}

-- the seat has begun the operation, and it hasn't ended
abbrev pub HasInFlight : List Event → (seat : ℕ) → Op → Type 0
HasInFlight events k op = IsInFlight events (record { seat = k; op = op })

-- it is a client's that is in, with no other operation in flight, and the operation speaks of subsystems of the head alone
abbrev pub MayAsk : Contents → (seat : ℕ) → Op → Type 0
MayAsk m k op = IsAllowed m.head m.events (record { seat = k; op = op })
