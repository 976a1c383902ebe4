-- What queues that follow a journal say of it. This project's own.
use Rattle.std.specs.Prelude.{◌≡◌, ℕ, ◌<◌, ◌↔◌, true, List, [], ◌∷◌, ◌++◌}
use Rattle.hp_states.specs.declared.limits.TheConstants.{MAX_CPU_SET}
use Rattle.hp_event.specs.declared.head.Head.{Head}
use Rattle.hp_event.specs.declared.event.Event.{Event}
use Rattle.hp_event.specs.declared.event.Event.TheVariants.{Call}
use Rattle.hp_model.specs.InForce.{IsInForce}
use Rattle.hp_model.specs.Lawful.{IsLawful}
use Rattle.hp_work.specs.Work.{Work, is_open}

-- the processor of an event is one that there is a queue for, if it is an entry
abbrev pub HasQueue : Event → Type 0
HasQueue (Call seat cpu state inst dir how) = cpu < MAX_CPU_SET
HasQueue _ = Unit {0}

-- after some events a processor is open exactly where the state is in force on it
abbrev pub OpensBy : List Event → Work → Type 0
OpensBy events w = (cpu : ℕ) → cpu < MAX_CPU_SET → (is_open w cpu ≡ true) ↔ IsInForce cpu w.state 0 events

-- so it is with one event more, whatever lawful journal was followed
abbrev pub FollowsLawful : Work → Event → Work → Type 0
FollowsLawful w event v =
    (head : Head) (events : List Event) → IsLawful head (events ++ event ∷ []) → OpensBy events w → OpensBy (events ++ event ∷ []) v

-- and so it stays without one
abbrev pub OpensAsBefore : Work → Work → Type 0
OpensAsBefore w v = (events : List Event) → OpensBy events w → OpensBy events v
