-- The numbers of a set, one after the other: those up to the next one are those so far and that one.
use Rattle.std.proofs.Common.{◌≡◌, ℕ, zero, suc, ◌+◌, ◌<◌, ◌≤◌, Bool, true, false, cond, List, [], ◌∷◌, ◌++◌, map, decimal, refl, ap, sym, ◌∙◌, append_assoc, inl, inr, ◌⊎◌, arith}
use Rattle.std.specs.Prelude.{filter}
use Rattle.std.proofs.lemmas.Bool.{cases_lt}
use Rattle.std.proofs.lemmas.List.{append-nil}
use Rattle.std.proofs.lemmas.List.Elements.{filter-append}
use Rattle.hp_states.specs.declared.cpu_set.CpuSet.{CpuSet}
use Rattle.hp_states.specs.CpuSets.{has, IsLowestFrom, HasNoneFrom}
use Rattle.hp_model.specs.Lists.{numbers}
use Rattle.hp_model.specs.Listed.{listed}
use Rattle.hp_model.specs.Words.{spaced}

-- the numbers of a set below one
abbrev pub below : CpuSet → (n : ℕ) → List ℕ
below set n = filter (has set) (numbers n)

one_more : (set : CpuSet) (n : ℕ) (b : Bool) → has set n ≡ b → below set (n + 1) ≡ below set n ++ cond b (n ∷ []) []
one_more set n b h =
    let s : n + 1 ≡ suc n = omega arith in
    rw s (filter-append (has set) (numbers n) (n ∷ []) ∙ ap (λ c. below set n ++ cond c (n ∷ []) []) h)

-- the set has none of the numbers from one up to another
abbrev HasNone : CpuSet → (from to : ℕ) → Type 0
HasNone set from to = (c : ℕ) → from ≤ c → c < to → has set c ≡ false

gap : (set : CpuSet) (from to : ℕ) → from ≤ to → HasNone set from to → below set to ≡ below set from
gap set from zero le none = let z : from ≡ 0 = omega arith in rw z refl
gap set from (suc to) le none = go (cases_lt to from) (λ l. gap set from to l (λ c f t. none c f (omega arith)))
  where
    go : (to < from) ⊎ (from ≤ to) → (from ≤ to → below set to ≡ below set from) → below set (suc to) ≡ below set from
    go (inl l) more = let e : suc to ≡ from = omega arith in ap (below set) e
    go (inr l) more =
        let s : to + 1 ≡ suc to = omega arith in
        (rw s at (one_more set to false (none to l (omega arith)))) ∙ (append-nil (below set to) ∙ more l)

spaced-push : (xs : List ℕ) (n : ℕ) → spaced (map decimal (xs ++ n ∷ [])) ≡ spaced (map decimal xs) ++ 32 ∷ decimal n
spaced-push [] n = append-nil (32 ∷ decimal n)
spaced-push (x ∷ xs) n =
    ap (λ ys. 32 ∷ (decimal x ++ ys)) (spaced-push xs n)
    ∙ ap (λ ys. 32 ∷ ys) (sym (append_assoc (decimal x) (spaced (map decimal xs)) (32 ∷ decimal n)))

-- the text of the numbers so far and the next
pub with_next : (set : CpuSet) (from next : ℕ) → IsLowestFrom set from next →
    spaced (map decimal (below set (next + 1))) ≡ spaced (map decimal (below set from)) ++ 32 ∷ decimal next
with_next set from next h =
    ap (λ xs. spaced (map decimal xs)) (one_more set next true h.is_in ∙ ap (λ xs. xs ++ next ∷ []) (gap set from next h.at_least h.none_below))
    ∙ spaced-push (below set from) next

-- where no number follows, those so far are all
pub all_listed : (set : CpuSet) (from : ℕ) → from ≤ 256 → HasNoneFrom set from → listed set ≡ below set from
unfolding listed
all_listed set from le none = gap set from 256 le (λ c f t. none c f)
