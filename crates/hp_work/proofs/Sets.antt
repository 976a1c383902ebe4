-- Which processors are in a set, by number: what a place says after a number was put into the set, or taken out; and the lowest.
use Rattle.std.proofs.Common.{◌≡◌, ◌≢◌, ◌⊎◌, inl, inr, ℕ, zero, suc, ◌+◌, ◌<◌, ◌≤◌, Bool, true, false, not, cond, eqb, ltb, ◌&&◌, ◌||◌, List, [], ◌∷◌, length, get_or, replicate, refl, ap, sym, ◌∙◌, arith}
use Rattle.std.specs.Prelude.{Option, Some, None, IfSome, IfNone}
use Rattle.std.proofs.Math.ListN.{set}
use Rattle.std.proofs.lemmas.List.{length-set, length-replicate, ext_get_or, get_or-replicate, get_or_past, get_or-set_same, get_or-set_other}
use Rattle.std.proofs.lemmas.List.FromFn.{length-map-range_with_len, get_or-map-range_with_len}
use Rattle.std.proofs.lemmas.Bool.{cases_eq, eq-eqb, ne_eqb, ltb-true, ltb-false}
use Rattle.hp_states.specs.declared.cpu_set.CpuSet.{CpuSet}
use Rattle.hp_states.specs.declared.limits.TheConstants.{MAX_CPU_SET}
use Rattle.hp_states.specs.CpuSets.{has, IsLowestFrom, HasNoneFrom}
use Rattle.hp_work.specs.Work.{Work}
use Rattle.hp_work.specs.Worked.{IsFirstOpen, HasNoneOpen}
use Rattle.hp_work.specs.Inside.{places}
use Rattle.hp_work.specs.Changes.{lowest_from}

pub length-places : (s : CpuSet) → length (places s) ≡ MAX_CPU_SET
unfolding places
length-places s = length-map-range_with_len (has s) 0 MAX_CPU_SET

pub place_is : (s : CpuSet) (c : ℕ) → c < MAX_CPU_SET → get_or (places s) c false ≡ has s c
unfolding places
place_is s c h = get_or-map-range_with_len (has s) 0 MAX_CPU_SET c c false h (omega arith)

pub place_past : (s : CpuSet) (c : ℕ) → MAX_CPU_SET ≤ c → get_or (places s) c false ≡ false
place_past s c h = get_or_past (places s) c false (let l = length-places s in omega (arith, l, h))

-- a set with one number more, or without one
module _ (s z : CpuSet) (c : ℕ) (b : Bool) (h : c < MAX_CPU_SET) (same : (k : ℕ) → k ≢ c → has z k ≡ has s k) (here : has z c ≡ b) where
  pub places_changed : places z ≡ set (places s) c b
  places_changed =
      ext_get_or false (places z) (set (places s) c b)
      (length-places z ∙ sym (length-set (places s) c b ∙ length-places s))
      (λ k l. let n = length-places z in go k (omega (arith, l, n)) (cases_eq k c))
    where
      go : (k : ℕ) → k < MAX_CPU_SET → (k ≡ c) ⊎ (k ≢ c) → get_or (places z) k false ≡ get_or (set (places s) c b) k false
      go k l (inl e) =
          place_is z k l
          ∙ (ap (has z) e
          ∙ (here
          ∙ (sym (get_or-set_same (places s) c b false (let n = length-places s in omega (arith, n, h)))
          ∙ ap (λ j. get_or (set (places s) c b) j false) (sym e))))
      go k l (inr e) = place_is z k l ∙ (same k e ∙ (sym (place_is s k l) ∙ sym (get_or-set_other (places s) c k b false e)))

pub places_put : (s z : CpuSet) (c : ℕ) → c < MAX_CPU_SET → ((k : ℕ) → has z k ≡ (eqb k c || has s k)) →
    places z ≡ set (places s) c true
places_put s z c b h =
    places_changed s z c true b
    (λ k e. h k ∙ ap (λ t. t || has s k) (ne_eqb k c e)) (h c ∙ ap (λ t. t || has s c) (eq-eqb c c refl))

pub places_taken : (s z : CpuSet) (c : ℕ) → c < MAX_CPU_SET → ((k : ℕ) → has z k ≡ (not (eqb k c) && has s k)) →
    places z ≡ set (places s) c false
places_taken s z c b h =
    places_changed s z c false b
    (λ k e. h k ∙ ap (λ t. not t && has s k) (ne_eqb k c e)) (h c ∙ ap (λ t. not t && has s c) (eq-eqb c c refl))

pub places_none : (s : CpuSet) → ((k : ℕ) → has s k ≡ false) → places s ≡ replicate MAX_CPU_SET false
places_none s h =
    ext_get_or false (places s) (replicate MAX_CPU_SET false)
    (length-places s ∙ sym (length-replicate MAX_CPU_SET false))
    (λ k l. let n = length-places s in
    let m : k < MAX_CPU_SET = omega (arith, l, n) in
    place_is s k m ∙ (h k ∙ sym (get_or-replicate MAX_CPU_SET k false false m)))

-- ---- the lowest

lowest_found : (os : List Bool) (k d : ℕ) → d < length os → get_or os d false ≡ true → ((j : ℕ) → j < d → get_or os j false ≡ false) →
    lowest_from k os ≡ Some (k + d)
lowest_found [] k d l is none = absurd (omega (arith, l))
lowest_found (o ∷ os) k zero l is none =
    ap (λ t. cond t (Some k) (lowest_from (k + 1) os)) is ∙ (let e : k ≡ k + 0 = omega arith in ap Some e)
lowest_found (o ∷ os) k (suc d) l is none =
    ap (λ t. cond t (Some k) (lowest_from (k + 1) os)) (none 0 (omega arith))
    ∙ (lowest_found os (k + 1) d (omega (arith, l)) is (λ j b. none (suc j) (omega (arith, b)))
    ∙ (let e : k + 1 + d ≡ k + suc d = omega arith in ap Some e))

none_found : (os : List Bool) (k : ℕ) → ((j : ℕ) → get_or os j false ≡ false) → lowest_from k os ≡ None
none_found [] k none = refl
none_found (o ∷ os) k none =
    ap (λ t. cond t (Some k) (lowest_from (k + 1) os)) (none 0) ∙ none_found os (k + 1) (λ j. none (suc j))

place_false : (s : CpuSet) (c : ℕ) → has s c ≡ false → get_or (places s) c false ≡ false
place_false s c h = go (ltb c MAX_CPU_SET) refl
  where
    go : (b : Bool) → ltb c MAX_CPU_SET ≡ b → get_or (places s) c false ≡ false
    go true e = place_is s c (ltb-true c MAX_CPU_SET e) ∙ h
    go false e = place_past s c (ltb-false c MAX_CPU_SET e)

-- what a set answers as its lowest is the lowest place that says so
pub lowest_of : (s : CpuSet) (r : Option ℕ) → IfSome r (λ n. IsLowestFrom s 0 n) → IfNone r (HasNoneFrom s 0) → lowest_from 0 (places s) ≡ r
lowest_of s None some none = none_found (places s) 0 (λ j. place_false s j (none j (omega arith)))
lowest_of s (Some n) some none =
    lowest_found (places s) 0 n (let l = length-places s in let w = some.within in omega (arith, l, w))
    (place_is s n some.within ∙ some.is_in) (λ j b. place_false s j (some.none_below j (omega arith) b))
    ∙ (let e : 0 + n ≡ n = omega arith in ap Some e)

-- the lowest of a set is the first open one
pub first_is : (s : CpuSet) (w : Work) (from : ℕ) (r : Option ℕ) → w.opened ≡ places s → IfSome r (λ n. IsLowestFrom s from n) →
    IfSome r (λ n. IsFirstOpen w from n)
first_is s w from None e h = tt
first_is s w from (Some n) e h = record {
  within = h.within;
  at_least = h.at_least;
  opened = ap (λ os. get_or os n false) e ∙ (place_is s n h.within ∙ h.is_in);
  none_below = λ o a b. ap (λ os. get_or os o false) e ∙ place_false s o (h.none_below o a b);
}

pub none_is : (s : CpuSet) (w : Work) (from : ℕ) (r : Option ℕ) → w.opened ≡ places s → IfNone r (HasNoneFrom s from) →
    IfNone r (HasNoneOpen w from)
none_is s w from None e h = λ o a. ap (λ os. get_or os o false) e ∙ place_false s o (h o a)
none_is s w from (Some n) e h = tt
