-- What a table has in all: how many keys, and how often each of its hooks was called. This project's own.
use Rattle.std.specs.Prelude.{ℕ, Option, Some, None, List, [], ◌∷◌, sum_by}
use Rattle.std.specs.List.{flat_map}
use Rattle.hp_table.specs.Step.{Step}
use Rattle.hp_table.specs.Keys.{keys_of}

abbrev pub key_total : List (Option Step) → ℕ
key_total places = sum_by keys_of places

-- how often the hook of a place was called
abbrev pub made_at : Option Step → List ℕ
made_at None = []
made_at (Some step) = step.kept.counts.made ∷ []

-- and those of all places, in rising state
abbrev pub made_of : List (Option Step) → List ℕ
made_of places = flat_map made_at places
