-- Errands, which walks and registrations are: a tree of what can follow, the entries so far, how an entry is made, the seat of the
-- operation, what it answers by the faults among its entries, and its end by that. What comes next in an errand is the entry of the
-- slot at which its entries stand in its tree, or its end. This project's own.
use Rattle.std.specs.Prelude.{ℕ, Bool, Option, None, option_map, List}
use Rattle.hp_states.specs.declared.dir.Dir.{Dir}
use Rattle.hp_states.specs.declared.place.Place.{Place}
use Rattle.hp_event.specs.declared.answer.Answer.{Answer}
use Rattle.hp_event.specs.declared.how.How.{How}
use Rattle.hp_event.specs.declared.event.Event.{Event}
use Rattle.hp_event.specs.declared.event.Event.TheVariants.{Call}
use Rattle.hp_model.specs.Crossing.{Slot}
use Rattle.hp_model.specs.Caller.{caller}
use Rattle.hp_model.specs.Faults.{Faulty, faults}
use Rattle.hp_model.specs.Trees.{Tree, stop, dead, step}
use Rattle.hp_model.specs.Remaining.{remaining}

pub record Errand : Type 0 where
  pub seat : ℕ
  pub tree : Tree
  pub entries : List Event
  pub how : (cpu state inst : ℕ) → Dir → Place → (first : Bool) → How
  pub answer : List Faulty → Option Answer
  pub end : Answer → Event

abbrev pub made_by : Slot → How → Option ℕ → Option Event
made_by x how by = option_map (λ k. Call k x.cpu x.state x.inst x.dir how) by

-- the entry of a slot, by who makes it; none where that is a processor's thread which isn't in
abbrev pub entry : List Event → (client : ℕ) → Slot → How → Option Event
entry events client x how = made_by x how (caller events x.cpu x.state how client)

abbrev pub how_at : Errand → Slot → How
how_at a x = a.how x.cpu x.state x.inst x.dir x.place x.first

-- what is left of it
abbrev pub left_of : Errand → Tree
left_of a = remaining a.tree a.entries

abbrev pub event_of : List Event → Errand → (left : Tree) → Option Event
event_of events a stop = option_map a.end (a.answer (faults a.entries))
event_of events a dead = None
event_of events a (step x t u) = entry events a.seat x (how_at a x)

abbrev pub next_of : List Event → Errand → Option Event
next_of events a = event_of events a (left_of a)
