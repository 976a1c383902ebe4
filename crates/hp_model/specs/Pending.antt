-- Operations that aren't answered, and which of them a turn of their seat may be for. This project's own.
use Rattle.std.specs.Prelude.{◌≡◌, ℕ, true, Some, List, ◌⊎◌}
use Rattle.hp_event.specs.declared.op.Op.{Op}
use Rattle.hp_event.specs.declared.event.Role.TheVariants.{Client}
use Rattle.hp_event.specs.declared.head.Head.{Head}
use Rattle.hp_event.specs.declared.event.Event.{Event}
use Rattle.hp_model.specs.MapLock.{Operation, operation}
use Rattle.hp_model.specs.Registrations.{Registration, registration}
use Rattle.hp_model.specs.Subsystems.{names_sub}
use Rattle.hp_model.specs.Seats.{role_of}

-- an operation of a seat that isn't answered
pub record Pending : Type 0 where
  pub seat : ℕ
  pub op : Op

-- the seat has begun the operation, and it hasn't ended
abbrev pub IsInFlight : List Event → Pending → Type 0
IsInFlight events p =
    ((o : Operation) × (operation events ≡ Some o) × (o.seat ≡ p.seat) × (o.op ≡ p.op))
    ⊎ ((r : Registration) × (registration events ≡ Some r) × (r.seat ≡ p.seat) × (r.op ≡ p.op))

-- what a turn asks for: a client's seat that is in, with no other operation in flight, and a subsystem of the head
pub record IsAllowed (head : Head) (events : List Event) (p : Pending) : Type 0 where
  pub client : role_of p.seat events ≡ Some Client
  pub same : (op : Op) → IsInFlight events (record { seat = p.seat; op = op }) → op ≡ p.op
  pub has_sub : names_sub head p.op ≡ true
