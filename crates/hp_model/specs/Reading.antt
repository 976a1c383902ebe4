-- How the entries of a walk in flight are read: as whole crossings, and then part of the next. This project's own.
use Rattle.std.specs.Prelude.{◌≡◌, ℕ, ◌<◌, List, [], ◌∷◌, ◌++◌, length}
use Rattle.hp_event.specs.declared.head.Head.{Head}
use Rattle.hp_event.specs.declared.event.Event.{Event}
use Rattle.hp_model.specs.Walks.{Walk}
use Rattle.hp_model.specs.Registered.{keys}
use Rattle.hp_model.specs.Plan.{direction, plan}
use Rattle.hp_model.specs.WalkShape.{Outcome, IsWalkShape}
use Rattle.hp_model.specs.Crossing.{Crossing, state_of, slots_of, slots, Fill, Begin}

-- the entries begin the next crossing, and aren't the whole of it
abbrev pub IsPart : (cpu : ℕ) → (keys : ℕ → List ℕ) → (next : List Crossing) → List Event → Type 0
IsPart c keys [] part = part ≡ []
IsPart c keys (x ∷ xs) part = Begin (slots_of c keys x) part × (length part < length (slots_of c keys x))

-- the state whose crossing has begun and isn't done or wholly undone
abbrev pub IsOpen : (next : List Crossing) → List Event → ℕ → Type 0
IsOpen next [] s = ⊥
IsOpen [] (e ∷ es) s = ⊥
IsOpen (x ∷ xs) (e ∷ es) s = s ≡ state_of x

-- Entries that begin a walk are whole crossings, and then part of the next.
pub record Reading (cpu : ℕ) (keys : ℕ → List ℕ) (crossings : List Crossing) (entries : List Event) : Type 0 where
  pub whole : List Crossing
  pub next : List Crossing
  pub crossings_are : crossings ≡ whole ++ next
  pub done_entries : List Event
  pub part : List Event
  pub entries_are : entries ≡ done_entries ++ part
  pub filled : Fill (slots cpu keys whole) done_entries
  pub is_part : IsPart cpu keys next part

-- such a reading of the entries of a walk in flight
pub record WalkReading (head : Head) (cpu : ℕ) (w : Walk) (entries : List Event) : Type 0 where
  pub outcome : Outcome
  pub crossings : List Crossing
  pub shape :
      IsWalkShape (keys head w.before) (direction w.from w.to) (plan (keys head w.before) w.from w.to) crossings outcome
  pub reading : Reading cpu (keys head w.before) crossings entries
