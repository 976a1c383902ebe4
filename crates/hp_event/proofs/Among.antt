-- That a number is in a list, by looking.
use Rattle.std.proofs.Common.{◌≡◌, ℕ, ◌+◌, Bool, true, false, ◌||◌, ◌==◌, nat_lt, if◌then◌else◌, List, [], ◌∷◌, refl, arith}
use Rattle.std.proofs.lemmas.Bool.Decides.{nat_tests}
use Rattle.std.specs.List.{list_any}
use Rattle.hp_event.specs.Heads.{among, occurs}

pub among_any : (c : ℕ) (xs : List ℕ) → list_any (λ y. y == c) xs ≡ among c xs
among_any c [] = refl
among_any c (x ∷ xs) = go (x == c) (among_any c xs)
  where
    go : (b : Bool) → list_any (λ y. y == c) xs ≡ among c xs →
        (b || list_any (λ y. y == c) xs) ≡ nat_lt 0 ((if b then 1 else 0) + occurs c xs)
    go true h = grind (arith, nat_tests)
    go false h = rw h (grind (arith, nat_tests))
