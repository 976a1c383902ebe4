-- What is written of queues that went through a journal: the items that ran, the queues that are left, and the unbound list. This
-- project's own.
use Rattle.std.specs.Prelude.{ℕ, List, [], ◌∷◌, ◌++◌, map, flat_map, codes, decimal}
use Rattle.hp_event.specs.declared.event.Event.{Event}
use Rattle.hp_model.specs.Words.{line, list_words}
use Rattle.hp_work.specs.declared.drain.Drained.{Drained}
use Rattle.hp_work.specs.Drained.{drained}
use Rattle.hp_work.specs.Work.{Work, unbound}
use Rattle.hp_work.specs.Worked.{worked}

-- a word, and behind it the items of a list
abbrev pub list_line : (word : List ℕ) → (items : List ℕ) → List ℕ
list_line word items = line (word ∷ list_words (map decimal items))

-- a queue that is left
abbrev pub drained_line : Drained → List ℕ
drained_line d = line (codes "drained" ∷ decimal d.cpu ∷ list_words (map decimal d.items))

abbrev pub lines_of : Work → List ℕ
lines_of w = list_line (codes "ran") w.ran ++ (flat_map drained_line (drained w.lists) ++ list_line (codes "unbound") (unbound w))

-- those of queues that follow a state
unfoldable pub work_lines : (state : ℕ) → List Event → List ℕ
work_lines s events = lines_of (worked s events)
