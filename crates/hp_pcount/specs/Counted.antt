-- A journal counted: 1 is added on each open processor after each event. This project's own.
use Rattle.std.specs.Prelude.{ℕ, pos, List, filter, fold, count_by, sum_by, take, length}
use Rattle.hp_states.specs.declared.limits.TheConstants.{MAX_CPU_SET}
use Rattle.hp_event.specs.declared.head.Head.{Head}
use Rattle.hp_event.specs.declared.event.Event.{Event}
use Rattle.hp_model.specs.Lists.{numbers, rising}
use Rattle.hp_pcount.specs.Tally.{Tally, is_open, none_added}
use Rattle.hp_pcount.specs.Changes.{followed, added}
use Rattle.hp_pcount.specs.Steps.{is_in_force}

-- the open processors, in rising number
unfoldable pub open_processors : Tally → List ℕ
open_processors t = filter (is_open t) (numbers MAX_CPU_SET)

-- 1 was added on each of them
abbrev pub one_on_each : Tally → Tally
one_on_each t = fold (λ u cpu. added cpu (pos 1) u) t (open_processors t)

-- after one event more
abbrev pub counted_step : Tally → Event → Tally
counted_step t event = one_on_each (followed event t)

-- after some events
unfoldable pub counted : (state batch : ℕ) → List Event → Tally
counted s b events = fold counted_step (none_added s b) events

-- on how many of the possible processors a state without an instance is in force after some events
unfoldable pub in_force_on : Head → (state : ℕ) → List Event → ℕ
in_force_on head s events = count_by (λ cpu. is_in_force cpu s events) (numbers head.possible)

-- and the sum of that over the fronts of a journal: after its first event, after its first two, and so on
unfoldable pub in_force_over : Head → (state : ℕ) → List Event → ℕ
in_force_over head s events = sum_by (λ k. in_force_on head s (take k events)) (rising 0 (length events))
