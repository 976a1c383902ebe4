-- A journal that queues went through: after each event an item is put on each open processor, and after every third one the
-- front of each of their queues runs. This project's own.
use Rattle.std.specs.Prelude.{◌≡◌, ℕ, ◌+◌, ◌%◌, ◌<◌, ◌≤◌, Bool, true, false, nat_lt, ◌==◌, if◌then◌else◌, List, [], ◌∷◌, filter, fold}
use Rattle.hp_states.specs.declared.limits.TheConstants.{MAX_CPU_SET}
use Rattle.hp_event.specs.declared.event.Event.{Event}
use Rattle.hp_model.specs.Lists.{numbers}
use Rattle.hp_work.specs.declared.limits.TheConstants.{MAX_ITEMS}
use Rattle.hp_work.specs.Work.{Work, is_open, none_put}
use Rattle.hp_work.specs.Changes.{followed, put_on, ran_on}

-- the lowest of the open processors from one on
pub record IsFirstOpen (w : Work) (from cpu : ℕ) : Type 0 where
  pub within : cpu < MAX_CPU_SET
  pub at_least : from ≤ cpu
  pub opened : is_open w cpu ≡ true
  pub none_below : (other : ℕ) → from ≤ other → other < cpu → is_open w other ≡ false

-- none is open from one on
abbrev pub HasNoneOpen : Work → (from : ℕ) → Type 0
HasNoneOpen w from = (cpu : ℕ) → from ≤ cpu → is_open w cpu ≡ false

-- the open processors, in rising number
unfoldable pub open_processors : Work → List ℕ
open_processors w = filter (is_open w) (numbers MAX_CPU_SET)

-- an item is put on each of them, while there is room
abbrev pub put_if_room : Work → (cpu : ℕ) → Work
put_if_room w c = if nat_lt w.put MAX_ITEMS then put_on c w else w

unfoldable pub put_on_each : Work → Work
put_on_each w = fold put_if_room w (open_processors w)

-- the front of each of their queues runs
unfoldable pub run_on_each : Work → Work
run_on_each w = fold (λ v cpu. ran_on cpu v) w (open_processors w)

abbrev pub run_if : Bool → Work → Work
run_if b w = if b then run_on_each w else w

-- after the event of a number, the first of which is 1
abbrev pub worked_step : Work → (number : ℕ) → Event → Work
worked_step w n event = run_if (n % 3 == 0) (put_on_each (followed event w))

abbrev pub worked_from : (number : ℕ) → Work → List Event → Work
worked_from n w [] = w
worked_from n w (event ∷ events) = worked_from (n + 1) (worked_step w n event) events

-- after some events
unfoldable pub worked : (state : ℕ) → List Event → Work
worked s events = worked_from 1 (none_put s) events
