-- The record of siblings: what it is with one processor more, or one fewer.
use Rattle.std.proofs.Common.{◌≡◌, ℕ, ◌+◌, ◌<◌, ◌≤◌, Bool, true, false, cond, not, ◌&&◌, ◌||◌, eqb, ltb, is_some, Option, Some, None, List, [], ◌∷◌, ◌++◌, refl, sym, ap, ◌∙◌, arith}
use Rattle.std.specs.Prelude.{IfSome, IfNone}
use Rattle.std.proofs.lemmas.Bool.{true≢false, and_parts, ltb-true, ltb-false, eqb-true, eqb-false}
use Rattle.hp_states.proofs.Basics.{and_false}
use Rattle.hp_states.specs.declared.cpu_set.CpuSet.{CpuSet}
use Rattle.hp_states.specs.CpuSets.{has, IsLowestFrom, HasNoneFrom}
use Rattle.hp_event.specs.declared.event.Event.{Event}
use Rattle.hp_event.specs.declared.head.Head.{Head}
use Rattle.hp_model.specs.Listed.{listed}
use Rattle.hp_model.specs.Lists.{occurs, among, without, numbers, is_empty}
use Rattle.hp_model.specs.SetOf.{set_of, IsSet}
use Rattle.hp_model.proofs.ListLemmas.{occurs-without, is_among, once_in}
use Rattle.hp_model.proofs.Passing.{find_holds}
use Rattle.hp_model.proofs.RoundsEnd.{in_numbers}
use Rattle.hp_model.proofs.SetLemmas.{set_fits, has_of, has_past, same_set, among_listed, of_listed, put_one}
use Rattle.hp_model.specs.Settled.{is_online}
use Rattle.hp_smt.specs.Siblings.{is_sibling, lowest_of, sibling_in, sibling_online}
use Rattle.hp_smt.proofs.Finding.{find_there, find_least, find_no}

among_without : (c i : ℕ) (xs : List ℕ) → among c (without i xs) ≡ (not (eqb c i) && among c xs)
among_without c i xs = ap (ltb 0) (occurs-without i c xs) ∙ go (eqb c i)
  where
    go : (b : Bool) → ltb 0 (cond b 0 (occurs c xs)) ≡ (not b && ltb 0 (occurs c xs))
    go true = refl
    go false = refl

pub taken : (set after : CpuSet) (c : ℕ) → IsSet set → IsSet after → ((o : ℕ) → has after o ≡ (not (eqb o c) && has set o)) →
    after ≡ set_of (without c (listed set))
taken set after c fits fits_after are =
    same_set after (set_of (without c (listed set))) fits_after (set_fits (without c (listed set)))
    (λ o below.
    are o
    ∙ (ap (λ (b : Bool). not (eqb o c) && b) (sym (among_listed set o fits))
    ∙ (sym (among_without o c (listed set)) ∙ sym (has_of (without c (listed set)) o below))))

pub put : (set after : CpuSet) (c : ℕ) → IsSet set → IsSet after → ((o : ℕ) → has after o ≡ (eqb o c || has set o)) →
    after ≡ set_of (listed set ++ c ∷ [])
put set after c fits fits_after are =
    put_one (listed set) c after fits_after
    (λ o. are o ∙ ap (λ (z : CpuSet). eqb o c || has z o) (sym (of_listed set fits)))

-- a processor of a set is below 256
pub below : (set : CpuSet) (c : ℕ) → IsSet set → has set c ≡ true → c < 256
below set c fits there = go (ltb c 256) refl
  where
    go : (b : Bool) → ltb c 256 ≡ b → c < 256
    go true e = ltb-true c 256 e
    go false e = absurd (true≢false (sym there ∙ has_past set c fits (ltb-false c 256 e)))

-- without one the others stay
pub stays_in : (set : CpuSet) (c d : ℕ) → IsSet set → eqb d c ≡ false → has set d ≡ true → has (set_of (without c (listed set))) d ≡ true
stays_in set c d fits other there =
    has_of (without c (listed set)) d (below set d fits there)
    ∙ (among_without d c (listed set)
    ∙ (ap (λ (b : Bool). not b && among d (listed set)) other ∙ (among_listed set d fits ∙ there)))

-- a set that has no lowest has none
pub none_in_set : (set : CpuSet) (c : ℕ) → IsSet set → is_some (lowest_of set) ≡ false → has set c ≡ true → ⊥
unfolding lowest_of
none_in_set set c fits none there =
    true≢false (sym (find_there (has set) c (numbers 256) there (in_numbers c 256 (below set c fits there))) ∙ none)

-- the lowest, as a set says it
pub lowest_said : (set : CpuSet) (found : Option ℕ) → IfSome found (λ c. IsLowestFrom set 0 c) → IfNone found (HasNoneFrom set 0) →
    found ≡ lowest_of set
unfolding lowest_of
lowest_said set (Some c) is none =
    sym (find_least (has set) 256 c is.is_in (λ d less. is.none_below d (omega arith) less) is.within)
lowest_said set None is none = sym (find_no (has set) 256 (λ d less. none d (omega arith)))

-- an empty set has none
pub lowest_none : (set : CpuSet) → ((c : ℕ) → has set c ≡ false) → lowest_of set ≡ None
unfolding lowest_of
lowest_none set none = find_no (has set) 256 (λ d less. none d)

pub lowest_in : (set : CpuSet) (c : ℕ) → IsSet set → Some c ≡ lowest_of set → c < 256
unfolding lowest_of
lowest_in set c fits is = below set c fits (find_holds (has set) c (numbers 256) (sym is))

-- the lowest sibling of a set, as a search says it
pub sibling_found : (n : ℕ) (set : CpuSet) (c : ℕ) → (has set c && is_sibling n c) ≡ true → c < 256 →
    ((d : ℕ) → d < c → (has set d && is_sibling n d) ≡ false) → Some c ≡ sibling_in n set
unfolding sibling_in
sibling_found n set c is within none = sym (find_least (λ d. has set d && is_sibling n d) 256 c is none within)

pub sibling_lacking : (n : ℕ) (set : CpuSet) → ((d : ℕ) → d < 256 → (has set d && is_sibling n d) ≡ false) → None ≡ sibling_in n set
unfolding sibling_in
sibling_lacking n set none = sym (find_no (λ d. has set d && is_sibling n d) 256 none)

-- none below a number is one, nor is one from there on that isn't in the set
pub sibling_past : (n : ℕ) (set : CpuSet) (from c : ℕ) → ((d : ℕ) → d < from → (has set d && is_sibling n d) ≡ false) →
    ((d : ℕ) → from ≤ d → d < c → has set d ≡ false) → (d : ℕ) → d < c → (has set d && is_sibling n d) ≡ false
sibling_past n set from c before none d below = go (ltb d from) refl
  where
    go : (b : Bool) → ltb d from ≡ b → (has set d && is_sibling n d) ≡ false
    go true e = before d (ltb-true d from e)
    go false e = ap (λ b. b && is_sibling n d) (none d (ltb-false d from e) below)

-- nor the lowest from there on, where that is a primary
pub sibling_next : (n : ℕ) (set : CpuSet) (from c : ℕ) → ((d : ℕ) → d < from → (has set d && is_sibling n d) ≡ false) →
    IsLowestFrom set from c → is_sibling n c ≡ false → (d : ℕ) → d < c + 1 → (has set d && is_sibling n d) ≡ false
sibling_next n set from c before least primary d below = go (eqb d c) refl
  where
    go : (b : Bool) → eqb d c ≡ b → (has set d && is_sibling n d) ≡ false
    go true e =
        ap (λ k. has set k && is_sibling n k) (eqb-true d c e) ∙ (ap (λ b. has set c && b) primary ∙ and_false (has set c))
    go false e =
        let apart = eqb-false d c e in
        sibling_past n set from c before least.none_below d (omega (arith, below, apart))

-- so it is of the lowest that is online
pub online_found : (n : ℕ) (head : Head) (xs : List Event) (c : ℕ) → (is_online c xs && is_sibling n c) ≡ true → c < head.possible →
    ((d : ℕ) → d < c → (is_online d xs && is_sibling n d) ≡ false) → Some c ≡ sibling_online n head xs
unfolding sibling_online
online_found n head xs c is within none = sym (find_least (λ d. is_online d xs && is_sibling n d) head.possible c is none within)

pub online_lacking : (n : ℕ) (head : Head) (xs : List Event) → ((d : ℕ) → d < head.possible → (is_online d xs && is_sibling n d) ≡ false) →
    None ≡ sibling_online n head xs
unfolding sibling_online
online_lacking n head xs none = sym (find_no (λ d. is_online d xs && is_sibling n d) head.possible none)

pub online_is : (n : ℕ) (head : Head) (xs : List Event) (c : ℕ) → sibling_online n head xs ≡ Some c → is_online c xs ≡ true
unfolding sibling_online
online_is n head xs c is =
    (and_parts (is_online c xs) (is_sibling n c) (find_holds (λ d. is_online d xs && is_sibling n d) c (numbers head.possible) is)).0

-- whether a list has a number that is possible
pub some_frozen : (xs : List ℕ) (c : ℕ) → among c xs ≡ true → true ≡ not (is_empty xs)
some_frozen [] c h = absurd (true≢false (sym h))
some_frozen (x ∷ xs) c h = refl

pub none_frozen : (xs : List ℕ) (possible : ℕ) → ((c : ℕ) → 0 < occurs c xs → c < possible) → ((c : ℕ) → c < possible → among c xs ≡ false) →
    false ≡ not (is_empty xs)
none_frozen [] possible within none = refl
none_frozen (x ∷ xs) possible within none =
    let here = once_in x xs in absurd (true≢false (sym (is_among x (x ∷ xs) here) ∙ none x (within x here)))
