-- Words one by one: what a loop that appends them makes.
use Rattle.std.proofs.Common.{◌≡◌, ℕ, List, [], ◌∷◌, ◌++◌, ◌==◌, false, map, length, refl, ap, sym}
use Rattle.std.specs.List.{flat_map}
use Rattle.hp_model.specs.Words.{spaced, list_words}

-- words, each behind a space
pub spaced-map : {X : Type 0} (f : X → List ℕ) (xs : List X) → flat_map (λ x. 32 ∷ f x) xs ≡ spaced (map f xs)
spaced-map f [] = refl
spaced-map f (x ∷ xs) = ap (λ ys. 32 ∷ (f x ++ ys)) (spaced-map f xs)

-- a list that isn't empty has no dash
pub spaced-list_words : {X : Type 0} (f : X → List ℕ) (xs : List X) → (length xs == 0) ≡ false →
    spaced (list_words (map f xs)) ≡ flat_map (λ x. 32 ∷ f x) xs
spaced-list_words f [] h = cc
spaced-list_words f (x ∷ xs) h = sym (spaced-map f (x ∷ xs))
