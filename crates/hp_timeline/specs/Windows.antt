-- The window of a picture: which events of a journal it shows, by their places, counted from 0 at the oldest. This
-- project's own.
use Rattle.std.specs.Prelude.{ℕ, ◌≤◌, nat_le, List, filter}
use Rattle.hp_model.specs.Lists.{numbers}
use Rattle.hp_timeline.specs.declared.window.Window.{Window}

-- it lies within so many events
pub record IsWindow (window : Window) (many : ℕ) : Type 0 where
  pub rises : window.before ≤ window.until
  pub within : window.until ≤ many

-- the places from one on, below another
abbrev pub places_between : (from until : ℕ) → List ℕ
places_between a b = filter (nat_le a) (numbers b)

-- the places of its events
abbrev pub places : Window → List ℕ
places w = places_between w.before w.until
