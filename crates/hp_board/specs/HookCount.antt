-- How many hooks a board has, and the one that is asked with. This project's own.
use Rattle.std.specs.Prelude.{ℕ, Bool, is_some, if◌then◌else◌, Option, List, count_by}
use Rattle.hp_table.specs.Step.{Step}

-- those of the states where something is registered: each has one
abbrev pub hook_count : List (Option Step) → ℕ
hook_count places = count_by is_some places

-- of one that may be there
abbrev pub held : (had : Bool) → ℕ
held had = if had then 1 else 0
