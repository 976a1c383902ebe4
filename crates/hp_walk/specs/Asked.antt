-- What a walk asks for next, by where it stands: an entry, or its end. This project's own.
use Rattle.std.specs.Prelude.{◌≡◌, ℕ, Bool, false, true, ◌==◌, List, slice_index}
use Rattle.hp_states.specs.declared.dir.Dir.{Dir}
use Rattle.hp_states.specs.declared.place.Place.{Place}
use Rattle.hp_states.specs.declared.place.Place.TheVariants as placed
use Rattle.hp_states.specs.Sections.{opposite}
use Rattle.hp_event.specs.declared.how.How.{How}
use Rattle.hp_event.specs.declared.event.Event.{Event}
use Rattle.hp_event.specs.declared.event.Event.TheVariants as event
use Rattle.hp_event.specs.declared.key.Key.{Key}
use Rattle.hp_model.specs.Crossing.{Slot}
use Rattle.hp_model.specs.How.{fits}
use Rattle.hp_model.specs.Plan.{direction}
use Rattle.hp_walk.specs.declared.position.Position.{Position}
use Rattle.hp_walk.specs.declared.position.Position.TheVariants.{Forward, UndoingPart, Back, RedoingPart, Ended}
use Rattle.hp_walk.specs.declared.step.Step.{Step}
use Rattle.hp_walk.specs.declared.step.Step.TheVariants as ask
use Rattle.hp_walk.specs.declared.walk.Walk.{Walk}

-- an entry of the key of a state with this number in its list
abbrev pub call_at : (keys : ℕ → List ℕ) → (state key : ℕ) → Dir → Place → (first : Bool) → Step
call_at keys s k d place first = ask.Call (record { state = s; inst = slice_index (keys s) k }) d place first

abbrev pub asked_at : (keys : ℕ → List ℕ) → Dir → Position → Step
asked_at keys d (Forward s k) = call_at keys s k d placed.Forward (k == 0)
asked_at keys d (UndoingPart s k n code) = call_at keys s k (opposite d) placed.Part false
asked_at keys d (Back s k code) = call_at keys s k (opposite d) placed.Back (k == 0)
asked_at keys d (RedoingPart s k n first second) = call_at keys s k d placed.Part false
asked_at keys d (Ended answer) = ask.Ended answer

abbrev pub asked : (keys : ℕ → List ℕ) → Walk → Step
asked keys w = asked_at keys (direction w.from w.to) w.position

-- an entry is asked for that can be made so
abbrev pub FitsStep : Step → How → Type 0
FitsStep (ask.Call key d place first) how = fits how d key.state place ≡ true
FitsStep (ask.Ended answer) how = ⊥

-- what is so of the entry that is asked for, if one is
abbrev pub IfCall : Step → (Key → Dir → Type 0) → Type 0
IfCall (ask.Call key d place first) P = P key d
IfCall (ask.Ended answer) P = Unit {0}

-- where the entry that is asked for stands, and how it is made
abbrev pub slot_of : (cpu : ℕ) → Key → Dir → Place → (first fails : Bool) → Slot
slot_of c key d place first fails =
    record { cpu = c; state = key.state; inst = key.inst; dir = d; place = place; first = first; fails = fails }

abbrev pub entry_of : (seat cpu : ℕ) → Key → Dir → How → Event
entry_of seat c key d how = event.Call seat c key.state key.inst d how
