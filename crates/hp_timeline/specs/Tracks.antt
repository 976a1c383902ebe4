-- The line of a processor: the state that its file shows, before and after each event. This project's own.
use Rattle.std.specs.Prelude.{ℕ, ◌+◌, ◌==◌, nat_lt, if◌then◌else◌, List, [], ◌∷◌, ◌++◌, take, codes, decimal}
use Rattle.std.specs.List.{flat_map}
use Rattle.hp_event.specs.declared.head.Head.{Head}
use Rattle.hp_event.specs.declared.event.Event.{Event}
use Rattle.hp_model.specs.Shown.{shown}
use Rattle.hp_timeline.specs.declared.window.Window.{Window}
use Rattle.hp_timeline.specs.Windows.{places_between}
use Rattle.hp_timeline.specs.Sheet.{edge, middle, height}

-- an event after which another state is shown
pub record Step : Type 0 where
  pub place : ℕ
  pub state : ℕ

abbrev pub step_to : (place from to : ℕ) → List Step
step_to k a b = if a == b then [] else record { place = k; state = b } ∷ []

abbrev pub step_at : Head → (cpu : ℕ) → List Event → (place : ℕ) → List Step
step_at head c events k = step_to k (shown head c (take k events)) (shown head c (take (k + 1) events))

-- the steps at the places from one on, below another
abbrev pub steps_between : Head → (cpu : ℕ) → List Event → (from until : ℕ) → List Step
steps_between head c events a b = flat_map (step_at head c events) (places_between a b)

abbrev pub steps : Head → (cpu : ℕ) → List Event → Window → List Step
steps head c events w = steps_between head c events w.before w.until

-- where a line of these steps stands before the event of a place
abbrev pub level : (start : ℕ) → List Step → (place : ℕ) → ℕ
level start [] k = start
level start (s ∷ ss) k = if nat_lt s.place k then level s.state ss k else start

-- where the line of a processor stands before the event of a place
abbrev pub level_at : Head → (cpu : ℕ) → List Event → Window → (place : ℕ) → ℕ
level_at head c events w k = level (shown head c (take w.before events)) (steps head c events w) k

-- to the middle of the event's column, and up or down
unfoldable pub step_text : Window → (cpu : ℕ) → Step → List ℕ
step_text w c s =
    codes "H" ++ (decimal (middle w s.place) ++ (codes "V" ++ decimal (height c s.state)))

unfoldable pub start_text : (cpu state : ℕ) → List ℕ
start_text c s = codes "<path class='track' d='M450 " ++ decimal (height c s)

unfoldable pub stop_text : Window → List ℕ
stop_text w = codes "H" ++ (decimal (edge w w.until) ++ codes "'/>\n")

-- the line as far as the place
abbrev pub track_below : Head → List Event → Window → (place cpu : ℕ) → List ℕ
track_below head events w k c =
    start_text c (shown head c (take w.before events)) ++ flat_map (step_text w c) (steps_between head c events w.before k)

abbrev pub track_text : Head → List Event → Window → (cpu : ℕ) → List ℕ
track_text head events w c = track_below head events w w.until c ++ stop_text w
