-- What contracts see of a journal: its head, its events, oldest first, and how many more are promised a place.
-- This project's own.
use Rattle.std.specs.Prelude.{ℕ, ◌+◌, ◌-◌, ◌<◌, ◌≤◌, List, [], ◌∷◌, ◌++◌, length}
use Rattle.hp_states.specs.declared.limits.TheConstants.{MAX_EVENTS}
use Rattle.hp_event.specs.declared.event.Event.{Event}
use Rattle.hp_event.specs.declared.head.Head.{Head}

pub record Story : Type 0 where
  pub head : Head
  pub events : List Event
  pub promised : ℕ

-- with its events and those promised, a journal holds so many more
abbrev pub FitsMore : Story → ℕ → Type 0
FitsMore s n = length s.events + s.promised + n ≤ MAX_EVENTS

-- or it doesn't
abbrev pub IsFullFor : Story → ℕ → Type 0
IsFullFor s n = MAX_EVENTS < length s.events + s.promised + n

-- a journal with one event more, at a promised place
abbrev pub with_event : Event → Story → Story
with_event e s = record s { events = s.events ++ e ∷ []; promised = s.promised - 1 }
