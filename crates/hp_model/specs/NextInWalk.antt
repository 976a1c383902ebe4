-- What comes next in the walk of a processor, whoever makes it: the next entry, or the end. This project's own.
use Rattle.std.specs.Prelude.{ℕ, Option, Some, None, List, []}
use Rattle.hp_event.specs.declared.head.Head.{Head}
use Rattle.hp_event.specs.declared.event.Event.{Event}
use Rattle.hp_event.specs.declared.event.Event.TheVariants.{WalkEnd}
use Rattle.hp_model.specs.Walks.{Walk, walk_entries}
use Rattle.hp_model.specs.Registered.{keys}
use Rattle.hp_model.specs.Plan.{direction, plan}
use Rattle.hp_model.specs.How.{how_in_walk}
use Rattle.hp_model.specs.Faults.{walk_answer}
use Rattle.hp_model.specs.Trees.{Tree, walk_tree}
use Rattle.hp_model.specs.Errands.{Errand, left_of, event_of, next_of}

abbrev pub walk_errand : Head → List Event → (cpu : ℕ) → Walk → Errand
walk_errand head events c w = record {
  seat = w.seat;
  tree = walk_tree c (keys head w.before) (direction w.from w.to) [] (plan (keys head w.before) w.from w.to);
  entries = walk_entries c events;
  how = how_in_walk head events;
  answer = walk_answer (direction w.from w.to);
  end = λ answer. WalkEnd w.seat c answer;
}

-- what is left of a walk
abbrev pub walk_left : Head → List Event → (cpu : ℕ) → Walk → Tree
walk_left head events c w = left_of (walk_errand head events c w)

abbrev pub event_of_walk : Head → List Event → (cpu : ℕ) → Walk → (left : Tree) → Option Event
event_of_walk head events c w left = event_of events (walk_errand head events c w) left

abbrev pub next_of_walk : Head → List Event → (cpu : ℕ) → Option Walk → Option Event
next_of_walk head events c None = None
next_of_walk head events c (Some w) = next_of events (walk_errand head events c w)
