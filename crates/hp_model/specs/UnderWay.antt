-- What comes next in what is under way: in each walk and in the registration in flight the next entry, or the end. Of the walks of
-- an upmany its own seat makes one event at a time. This project's own.
use Rattle.std.specs.Prelude.{ℕ, if◌then◌else◌, Option, Some, None, option_to_list, List, ◌++◌, filter_map}
use Rattle.hp_event.specs.declared.head.Head.{Head}
use Rattle.hp_event.specs.declared.event.Event.{Event}
use Rattle.hp_event.specs.declared.event.Event.TheVariants.{RegEnd}
use Rattle.hp_model.specs.Events.{seat_of}
use Rattle.hp_model.specs.Walks.{walk, walking}
use Rattle.hp_model.specs.Registrations.{Registration, registration, registration_entries}
use Rattle.hp_model.specs.Processors.{processors}
use Rattle.hp_model.specs.RegistrationShape.{key_of, is_adding, ok_value}
use Rattle.hp_model.specs.How.{how_in_registration}
use Rattle.hp_model.specs.Faults.{registration_answer}
use Rattle.hp_model.specs.Trees.{Tree, registration_tree}
pub use Rattle.hp_model.specs.Errands.{entry}
use Rattle.hp_model.specs.Errands.{Errand, left_of, event_of, next_of}
pub use Rattle.hp_model.specs.NextInWalk.{walk_left, event_of_walk, next_of_walk}
use Rattle.hp_model.specs.BatchTurn.{has_turn}

abbrev pub registration_errand : Head → List Event → Registration → Errand
registration_errand head events r = record {
  seat = r.seat;
  tree = registration_tree (is_adding r.op) r.state (key_of head r) (processors head r.state r.before);
  entries = registration_entries events;
  how = λ cpu state inst dir place first. how_in_registration head events r.op cpu state inst dir place;
  answer = registration_answer (ok_value r.op r.state);
  end = λ answer. RegEnd r.seat answer;
}

-- what is left of a registration
abbrev pub registration_left : Head → List Event → Registration → Tree
registration_left head events r = left_of (registration_errand head events r)

abbrev pub event_of_registration : Head → List Event → Registration → (left : Tree) → Option Event
event_of_registration head events r left = event_of events (registration_errand head events r) left

abbrev pub next_of_registration : Head → List Event → Option Registration → Option Event
next_of_registration head events None = None
next_of_registration head events (Some r) = next_of events (registration_errand head events r)

abbrev pub in_turn : Head → List Event → (cpu : ℕ) → Option Event → Option Event
in_turn head events c None = None
in_turn head events c (Some e) = if has_turn head events (seat_of e) c then Some e else None

-- what comes next in the walk of a processor, where whoever makes it has the turn
abbrev pub event_in_turn : Head → List Event → (cpu : ℕ) → Option Event
event_in_turn head events c = in_turn head events c (next_of_walk head events c (walk c events))

-- an event of each walk whose turn it is, and one of the registration
unfoldable pub under_way : Head → List Event → List Event
under_way head events =
    filter_map (event_in_turn head events) (walking events)
    ++ option_to_list (next_of_registration head events (registration events))
