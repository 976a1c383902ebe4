-- Lists with a place for each number: what stands at a place that may be empty. This project's own.
use Rattle.std.specs.Prelude.{ℕ, Option, List, slice_get}
use Rattle.std.specs.Option.{option_flatten}

-- what stands at a place, if anything does
abbrev pub at_place : {X : Type 0} → List (Option X) → ℕ → Option X
at_place xs n = option_flatten (slice_get xs n)
