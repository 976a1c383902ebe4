-- Which processors are in a set, by number: what a place says after a number was put into the set, or taken out.
use Rattle.std.proofs.Common.{◌≡◌, ◌≢◌, ◌⊎◌, inl, inr, ℕ, ◌<◌, ◌≤◌, Bool, true, false, not, eqb, ltb, ◌&&◌, ◌||◌, length, get_or, replicate, refl, ap, sym, ◌∙◌, arith}
use Rattle.std.specs.Prelude.{Option, Some, None, IfSome, IfNone}
use Rattle.std.proofs.Math.ListN.{set}
use Rattle.std.proofs.lemmas.List.{length-set, length-replicate, ext_get_or, get_or-replicate, get_or_past}
use Rattle.std.proofs.lemmas.List.FromFn.{length-map-range_with_len, get_or-map-range_with_len}
use Rattle.std.proofs.lemmas.Bool.{eq-eqb, ne_eqb, ltb-true, ltb-false}
use Rattle.hp_states.specs.declared.cpu_set.CpuSet.{CpuSet}
use Rattle.hp_states.specs.declared.limits.TheConstants.{MAX_CPU_SET}
use Rattle.hp_states.specs.CpuSets.{has, IsLowestFrom, HasNoneFrom}
use Rattle.hp_pcount.specs.Inside.{places}
use Rattle.hp_pcount.specs.Tally.{Tally, is_open}
use Rattle.hp_pcount.specs.Places.{IsFirstOpen, HasNoneOpen}
use Rattle.hp_pcount.proofs.Tallies.{at_place}

pub length-places : (s : CpuSet) → length (places s) ≡ MAX_CPU_SET
unfolding places
length-places s = length-map-range_with_len (has s) 0 MAX_CPU_SET

pub place_is : (s : CpuSet) (c : ℕ) → c < MAX_CPU_SET → get_or (places s) c false ≡ has s c
unfolding places
place_is s c h = get_or-map-range_with_len (has s) 0 MAX_CPU_SET c c false h (omega arith)

pub place_past : (s : CpuSet) (c : ℕ) → MAX_CPU_SET ≤ c → get_or (places s) c false ≡ false
place_past s c h = get_or_past (places s) c false (let l = length-places s in omega arith)

pub places_put : (s z : CpuSet) (c : ℕ) → c < MAX_CPU_SET → ((k : ℕ) → has z k ≡ (eqb k c || has s k)) →
    places z ≡ set (places s) c true
places_put s z c b h =
    ext_get_or false (places z) (set (places s) c true)
    (length-places z ∙ sym (length-set (places s) c true ∙ length-places s))
    (λ k l. let n = length-places z in let m = length-places s in
    place_is z k (omega arith) ∙ (h k ∙ sym (go k (omega arith) (at_place (places s) c k true false (omega arith)))))
  where
    go : (k : ℕ) → k < MAX_CPU_SET →
        ((k ≡ c) × (get_or (set (places s) c true) k false ≡ true))
        ⊎ ((k ≢ c) × (get_or (set (places s) c true) k false ≡ get_or (places s) k false)) →
        get_or (set (places s) c true) k false ≡ (eqb k c || has s k)
    go k l (inl p) = rw (eq-eqb k c p.0) p.1
    go k l (inr p) = rw (ne_eqb k c p.0) (p.1 ∙ place_is s k l)

pub places_taken : (s z : CpuSet) (c : ℕ) → c < MAX_CPU_SET → ((k : ℕ) → has z k ≡ (not (eqb k c) && has s k)) →
    places z ≡ set (places s) c false
places_taken s z c b h =
    ext_get_or false (places z) (set (places s) c false)
    (length-places z ∙ sym (length-set (places s) c false ∙ length-places s))
    (λ k l. let n = length-places z in let m = length-places s in
    place_is z k (omega arith) ∙ (h k ∙ sym (go k (omega arith) (at_place (places s) c k false false (omega arith)))))
  where
    go : (k : ℕ) → k < MAX_CPU_SET →
        ((k ≡ c) × (get_or (set (places s) c false) k false ≡ false))
        ⊎ ((k ≢ c) × (get_or (set (places s) c false) k false ≡ get_or (places s) k false)) →
        get_or (set (places s) c false) k false ≡ (not (eqb k c) && has s k)
    go k l (inl p) = rw (eq-eqb k c p.0) p.1
    go k l (inr p) = rw (ne_eqb k c p.0) (p.1 ∙ place_is s k l)

pub places_none : (s : CpuSet) → ((k : ℕ) → has s k ≡ false) → places s ≡ replicate MAX_CPU_SET false
places_none s h =
    ext_get_or false (places s) (replicate MAX_CPU_SET false)
    (length-places s ∙ sym (length-replicate MAX_CPU_SET false))
    (λ k l. let n = length-places s in
    let m : k < MAX_CPU_SET = omega arith in
    place_is s k m ∙ (h k ∙ sym (get_or-replicate MAX_CPU_SET k false false m)))

pub place_false : (s : CpuSet) (c : ℕ) → has s c ≡ false → get_or (places s) c false ≡ false
place_false s c h = go (ltb c MAX_CPU_SET) refl
  where
    go : (b : Bool) → ltb c MAX_CPU_SET ≡ b → get_or (places s) c false ≡ false
    go true e = place_is s c (ltb-true c MAX_CPU_SET e) ∙ h
    go false e = place_past s c (ltb-false c MAX_CPU_SET e)

-- the lowest of a set is the first open one
pub first_is : (s : CpuSet) (t : Tally) (from : ℕ) (r : Option ℕ) → t.opened ≡ places s → IfSome r (λ n. IsLowestFrom s from n) →
    IfSome r (λ n. IsFirstOpen t from n)
first_is s t from None e h = tt
first_is s t from (Some n) e h = record {
  within = h.within;
  at_least = h.at_least;
  opened = ap (λ os. get_or os n false) e ∙ (place_is s n h.within ∙ h.is_in);
  none_below = λ o a b. ap (λ os. get_or os o false) e ∙ place_false s o (h.none_below o a b);
}

pub none_is : (s : CpuSet) (t : Tally) (from : ℕ) (r : Option ℕ) → t.opened ≡ places s → IfNone r (HasNoneFrom s from) →
    IfNone r (HasNoneOpen t from)
none_is s t from None e h = λ o a. ap (λ os. get_or os o false) e ∙ place_false s o (h o a)
none_is s t from (Some n) e h = tt

-- whether a processor is open is what the set says of it
pub open_is : (s : CpuSet) (t : Tally) (c : ℕ) (b : Bool) → places s ≡ t.opened → c < MAX_CPU_SET → b ≡ has s c → is_open t c ≡ b
open_is s t c b e l h = ap (λ os. get_or os c false) (sym e) ∙ (place_is s c l ∙ sym h)
