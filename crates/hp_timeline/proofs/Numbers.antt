-- The numbers below one, by their places.
use Rattle.std.proofs.Common.{◌≡◌, ℕ, zero, suc, ◌+◌, ◌<◌, ◌≤◌, List, [], ◌∷◌, ◌++◌, length, get_or, refl, sym, ap, ◌∙◌, ⊎_elim, arith}
use Rattle.std.specs.List.{flat_map}
use Rattle.std.proofs.lemmas.List.{flat_map_more}
use Rattle.std.proofs.lemmas.Bool.{cases_lt}
use Rattle.hp_model.specs.Lists.{numbers}
use Rattle.hp_model.proofs.SumLemmas.{length-numbers}

front_at : (xs ys : List ℕ) (i d : ℕ) → i < length xs → get_or (xs ++ ys) i d ≡ get_or xs i d
front_at [] ys i d h = absurd (omega arith)
front_at (x ∷ xs) ys zero d h = refl
front_at (x ∷ xs) ys (suc i) d h = front_at xs ys i d (omega arith)

end_at : (xs : List ℕ) (x i d : ℕ) → i ≡ length xs → get_or (xs ++ x ∷ []) i d ≡ x
end_at [] x i d h = rw h refl
end_at (y ∷ ys) x zero d h = absurd (omega arith)
end_at (y ∷ ys) x (suc i) d h = end_at ys x i d (omega arith)

pub number_at : (n c : ℕ) → c < n → get_or (numbers n) c 0 ≡ c
number_at zero c h = absurd (omega arith)
number_at (suc n) c h = ⊎_elim (λ (b : c < n). before b (number_at n c b)) last (cases_lt c n)
  where
    before : c < n → get_or (numbers n) c 0 ≡ c → get_or (numbers n ++ n ∷ []) c 0 ≡ c
    before b at = front_at (numbers n) (n ∷ []) c 0 (rw length-numbers b) ∙ at

    last : n ≤ c → get_or (numbers n ++ n ∷ []) c 0 ≡ c
    last b = let same : c ≡ n = omega (arith, b, h) in end_at (numbers n) n c 0 (same ∙ sym (length-numbers n)) ∙ sym same

-- the same of each number below one
pub each_below : {A : Type 0} (f g : ℕ → List A) (n : ℕ) → ((k : ℕ) → k < n → f k ≡ g k) →
    flat_map f (numbers n) ≡ flat_map g (numbers n)
each_below f g zero h = refl
each_below f g (suc n) h =
    let rest : flat_map f (numbers n) ≡ flat_map g (numbers n) = each_below f g n (λ k b. h k (omega arith)) in
    sym (flat_map_more f [] (numbers n) n)
    ∙ ap (λ ys. ys ++ f n) rest
    ∙ ap (λ ys. flat_map g (numbers n) ++ ys) (h n (omega arith))
    ∙ flat_map_more g [] (numbers n) n
