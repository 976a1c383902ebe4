-- What a board tells the lock of the hooks that it has lent: each seat that has one, with the entry that it is lent for. This project's
-- own.
use Rattle.std.specs.Prelude.{ℕ, Option, Some, None, List, [], ◌∷◌}
use Rattle.std.specs.List.{flat_map}
use Rattle.hp_event.specs.declared.aside.Aside.{Aside}
use Rattle.hp_model.specs.Lists.{numbers}
use Rattle.hp_model.specs.Seats.{admits}
use Rattle.hp_board.specs.Contents.{Contents}
use Rattle.hp_board.specs.Loans.{loan}

abbrev pub pair_of : (seat : ℕ) → Option Aside → List (ℕ × Aside)
pair_of k None = []
pair_of k (Some a) = (k, a) ∷ []

-- of each seat that was admitted, what is lent to it, if anything is
abbrev pub lent_pairs : Contents → List (ℕ × Aside)
lent_pairs b = flat_map (λ k. pair_of k (loan b k)) (numbers (admits b.events))
