-- How many states have names, by the table: those below a number. This project's own.
use Rattle.std.specs.Prelude.{ℕ, Option, List, count_by}
use Rattle.hp_model.specs.Lists.{numbers}
use Rattle.hp_table.specs.Named.{is_named}
use Rattle.hp_table.specs.Step.{Step}

unfoldable pub named_in : List (Option Step) → (below : ℕ) → ℕ
named_in places n = count_by (λ s. is_named places s) (numbers n)
