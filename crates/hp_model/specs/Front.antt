-- Fronts: what the holder of a seat has seen of a journal. A front stands for a journal that it begins, where all
-- events of its seat are in it. Without a seat it just begins the journal. This project's own.
use Rattle.std.specs.Prelude.{◌≡◌, ◌≢◌, ℕ, Option, Some, List, ◌++◌, All}
use Rattle.hp_event.specs.declared.event.Event.{Event}
use Rattle.hp_model.specs.Events.{seat_of}

-- an event of another seat than this one, if there is one
abbrev pub IsOther : (seat : Option ℕ) → Event → Type 0
IsOther seat e = (k : ℕ) → seat ≡ Some k → seat_of e ≢ k

pub record StandsFor (seat : Option ℕ) (front events : List Event) : Type 0 where
  pub rest : List Event
  pub whole : front ++ rest ≡ events
  pub others : All (IsOther seat) rest
