-- Lists of words that are appended one by one, with a dash where there is none.
use Rattle.std.proofs.Common.{◌≡◌, ℕ, Bool, true, false, ◌==◌, if◌then◌else◌, List, [], ◌∷◌, ◌++◌, map, filter, length, refl, ap, arith, decimal}
use Rattle.std.proofs.lemmas.List.{length-append, append-nil}
use Rattle.std.proofs.lemmas.Bool.Decides.{nat_tests}
use Rattle.std.specs.List.{flat_map}
use Rattle.hp_model.specs.Lists.{among}
use Rattle.hp_model.specs.Words.{spaced, list_words}
use Rattle.hp_model.specs.Summary.{key_word}
use Rattle.hp_print.specs.declared.keys.KeyCount.{KeyCount}
use Rattle.hp_print.specs.TallyText.{is_counted, keys_of, key_text, frozen_word}

-- where nothing was appended, a dash
pub ended_list : (old now : List ℕ) (ws : List (List ℕ)) → now ≡ old ++ spaced ws →
    (if length now == length old then now ++ 32 ∷ 45 ∷ [] else now) ≡ old ++ spaced (list_words ws)
ended_list old now [] h = rw (h, append-nil) (go (length old == length old) (grind (arith, nat_tests))) where
  go : (b : Bool) → b ≡ true → (if b then old ++ 32 ∷ 45 ∷ [] else old) ≡ old ++ 32 ∷ 45 ∷ []
  go true e = refl
  go false e = cc
ended_list old now (w ∷ ws) h =
    rw h (go (length (old ++ spaced (w ∷ ws)) == length old) (let l = length-append old (spaced (w ∷ ws)) in grind (arith, nat_tests)))
  where
    go : (b : Bool) → b ≡ false →
        (if b then old ++ spaced (w ∷ ws) ++ 32 ∷ 45 ∷ [] else old ++ spaced (w ∷ ws)) ≡ old ++ spaced (w ∷ ws)
    go false e = refl
    go true e = cc

pub spaced-keys : (xs : List KeyCount) → flat_map key_text xs ≡ spaced (map key_word (keys_of xs))
spaced-keys [] = refl
spaced-keys (x ∷ xs) = go (is_counted x) (spaced-keys xs) where
  go : (b : Bool) → flat_map key_text xs ≡ spaced (map key_word (keys_of xs)) →
      (if b then 32 ∷ key_word x.key else []) ++ flat_map key_text xs
      ≡ spaced (map key_word (map (λ y. y.key) (if b then x ∷ filter is_counted xs else filter is_counted xs)))
  go true h = ap (λ ys. (32 ∷ key_word x.key) ++ ys) h
  go false h = h

pub spaced-frozen : (frozen cs : List ℕ) →
    flat_map (frozen_word frozen) cs ≡ spaced (map decimal (filter (λ c. among c frozen) cs))
spaced-frozen frozen [] = refl
spaced-frozen frozen (c ∷ cs) = go (among c frozen) (spaced-frozen frozen cs) where
  go : (b : Bool) → flat_map (frozen_word frozen) cs ≡ spaced (map decimal (filter (λ x. among x frozen) cs)) →
      (if b then 32 ∷ decimal c else []) ++ flat_map (frozen_word frozen) cs
      ≡ spaced (map decimal (if b then c ∷ filter (λ x. among x frozen) cs else filter (λ x. among x frozen) cs))
  go true h = ap (λ ys. (32 ∷ decimal c) ++ ys) h
  go false h = h
