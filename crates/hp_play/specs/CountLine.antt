-- The line of counters that went through a journal. This project's own.
use Rattle.std.specs.Prelude.{ℕ, List, ◌∷◌, map, codes, decimal}
use Rattle.std.specs.Fmt.{signed_decimal}
use Rattle.hp_event.specs.declared.head.Head.{Head}
use Rattle.hp_event.specs.declared.event.Event.{Event}
use Rattle.hp_model.specs.Lists.{numbers}
use Rattle.hp_model.specs.Words.{line}
use Rattle.hp_pcount.specs.Tally.{Tally, part}
use Rattle.hp_pcount.specs.Counted.{counted, in_force_over}

-- the parts of the processors below a number
abbrev pub part_words : Tally → (possible : ℕ) → List (List ℕ)
part_words t n = map (λ cpu. signed_decimal (part t cpu)) (numbers n)

-- The total is on how many processors the state is in force, over all fronts of the journal; base and parts are those of counters to
-- which 1 is added on each open processor after each event.
abbrev pub count_words : Head → (state batch : ℕ) → List Event → List (List ℕ)
count_words head s b events =
    codes "count"
    ∷ codes "total" ∷ decimal (in_force_over head s events)
    ∷ codes "base" ∷ signed_decimal (counted s b events).base
    ∷ codes "parts" ∷ part_words (counted s b events) head.possible

abbrev pub count_line : Head → (state batch : ℕ) → List Event → List ℕ
count_line head s b events = line (count_words head s b events)
