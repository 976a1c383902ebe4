-- Pairs of a seat and the entry that a hook is lent to it for. This project's own.
use Rattle.std.specs.Prelude.{◌≡◌, ◌≢◌, ℕ, List, [], ◌∷◌, eqb, cond, Option, Some, None}
use Rattle.hp_event.specs.declared.aside.Aside.{Aside}

-- what is lent to a seat, if anything is
abbrev pub aside_of : (seat : ℕ) → List (ℕ × Aside) → Option Aside
aside_of k [] = None
aside_of k (p ∷ ps) = cond (eqb p.0 k) (Some p.1) (aside_of k ps)

-- nothing is to who has no seat
abbrev pub seat_aside : (seat : Option ℕ) → List (ℕ × Aside) → Option Aside
seat_aside None ps = None
seat_aside (Some k) ps = aside_of k ps

-- what is lent to each other seat is as it was
abbrev pub KeepsOthers : (seat : Option ℕ) (before after : List (ℕ × Aside)) → Type 0
KeepsOthers seat before after = (k : ℕ) → seat ≢ Some k → aside_of k after ≡ aside_of k before
