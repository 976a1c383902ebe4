-- What is so of all counters, and what their changes make of the total.
use Rattle.std.proofs.Common.{◌≡◌, ◌≢◌, ◌⊎◌, inl, inr, ℕ, zero, suc, ◌+◌, ◌-◌, ◌*◌, ◌^◌, ◌<◌, ◌≤◌, Bool, true, false, cond, eqb, List, length, get_or, replicate, refl, ap, sym, ◌∙◌, arith}
use Rattle.std.specs.Prelude.{ℤ, pos, ◌+ℤ◌, unsigned_abs, sum_by}
use Rattle.std.proofs.Math.ListN.{set}
use Rattle.std.proofs.lemmas.Int.{ints}
use Rattle.std.proofs.lemmas.List.{length-set, get_or-set_same, get_or-set_other, set-set, length-replicate}
use Rattle.std.proofs.lemmas.List.Sums.{sum_by-le, sum_by-set, sum_by-cons}
use Rattle.std.proofs.lemmas.List.Elements.{All-from_get_or}
use Rattle.std.proofs.lemmas.Bool.{eqb-true, eqb-false, leb-false, le-leb, lt-leb}
use Rattle.hp_states.specs.declared.dir.Dir.TheVariants.{Up, Down}
use Rattle.hp_states.specs.declared.limits.TheConstants.{MAX_CPU_SET}
use Rattle.hp_pcount.specs.declared.limits.TheConstants.{LAST_FOLLOWED, MAX_BATCH}
use Rattle.hp_pcount.specs.Tally.{Tally, IsTally, part, is_open, total, none_added}
use Rattle.hp_pcount.specs.Changes.{folded, moved, raised, batched, is_full}
use Rattle.hp_pcount.proofs.Sums.{fold_from, fold_set, size_sum}

pub total_fits : (t : Tally) → IsTally t → unsigned_abs t.base + sum_by unsigned_abs t.parts ≤ 2 ^ 93
total_fits t h = let s = h.sizes in let a = h.adds_fit in omega arith

-- parts are few and small
pub parts_near : (t : Tally) → IsTally t → sum_by unsigned_abs t.parts ≤ MAX_CPU_SET * (t.batch - 1)
parts_near t h =
    let each = All-from_get_or (λ (p : ℤ). unsigned_abs p ≤ t.batch - 1) t.parts (pos 0) (λ i b. let w = h.within i in omega arith) in
    let s = sum_by-le unsigned_abs (t.batch - 1) t.parts each in
    rw h.parts_are at s

plus_none : (z : ℤ) → z +ℤ pos 0 ≡ z
plus_none z = omega (arith, ints)

both_less : (x f p by : ℤ) → x +ℤ p ≡ f +ℤ (p +ℤ by) → x ≡ f +ℤ by
both_less x f p by e = omega (arith, ints)

-- a part is folded into the base, or raised
pub total_folded : (t : Tally) (c : ℕ) → length t.parts ≡ MAX_CPU_SET → c < MAX_CPU_SET → total (folded c t) ≡ total t
total_folded t c l h =
    fold_from t.base (part t c) (set t.parts c (pos 0))
    ∙ (fold_set t.base t.parts c (pos 0) (omega arith) ∙ plus_none (total t))

pub total_raised : (t : Tally) (c : ℕ) (by : ℤ) → length t.parts ≡ MAX_CPU_SET → c < MAX_CPU_SET →
    total (raised c by t) ≡ total t +ℤ by
total_raised t c by l h =
    both_less (total (raised c by t)) (total t) (part t c) by (fold_set t.base t.parts c (part t c +ℤ by) (omega arith))

pub total_batched : (t : Tally) (c : ℕ) (by : ℤ) → length t.parts ≡ MAX_CPU_SET → c < MAX_CPU_SET →
    total (batched c (raised c by t)) ≡ total t +ℤ by
total_batched t c by l h = go (is_full (raised c by t) c)
  where
    go : (f : Bool) → total (cond f (folded c (raised c by t)) (raised c by t)) ≡ total t +ℤ by
    go true =
        total_folded (raised c by t) c (length-set t.parts c (part t c +ℤ by) ∙ l) h ∙ total_raised t c by l h
    go false = total_raised t c by l h

-- what stands at a place of a list after one place was written
pub at_place : {X : Type 0} (xs : List X) (c k : ℕ) (y d : X) → c < length xs →
    ((k ≡ c) × (get_or (set xs c y) k d ≡ y)) ⊎ ((k ≢ c) × (get_or (set xs c y) k d ≡ get_or xs k d))
at_place xs c k y d h = go (eqb k c) refl
  where
    go : (b : Bool) → eqb k c ≡ b → ((k ≡ c) × (get_or (set xs c y) k d ≡ y)) ⊎ ((k ≢ c) × (get_or (set xs c y) k d ≡ get_or xs k d))
    go true e = let s = eqb-true k c e in inl (s, ap (λ n. get_or (set xs c y) n d) s ∙ get_or-set_same xs c y d h)
    go false e = let o = eqb-false k c e in inr (o, get_or-set_other xs c k y d o)

-- counters have a part for each processor
pub record Wide (t : Tally) : Type 0 where
  pub parts_are : length t.parts ≡ MAX_CPU_SET
  pub opened_are : length t.opened ≡ MAX_CPU_SET

pub wide : (t : Tally) → IsTally t → Wide t
wide t h = record { parts_are = h.parts_are; opened_are = h.opened_are }

pub none_there : (n k : ℕ) → get_or (replicate n (pos 0)) k (pos 0) ≡ pos 0
none_there zero k = refl
none_there (suc n) zero = refl
none_there (suc n) (suc k) = none_there n k

none_sum : (n : ℕ) → sum_by unsigned_abs (replicate n (pos 0)) ≡ 0
none_sum zero = refl
none_sum (suc n) =
    let c = sum_by-cons unsigned_abs (pos 0) (replicate n (pos 0)) in
    let r = none_sum n in
    omega arith

pub tally_none : (s b : ℕ) → (1 ≤ s) × (s ≤ LAST_FOLLOWED) → (1 ≤ b) × (b ≤ MAX_BATCH) → IsTally (none_added s b)
unfolding none_added
tally_none s b hs hb = record {
  state_is = hs;
  batch_is = hb;
  parts_are = length-replicate MAX_CPU_SET (pos 0);
  opened_are = length-replicate MAX_CPU_SET false;
  closed = λ k e. none_there MAX_CPU_SET k;
  within = λ k. let one = hb.0 in rw (none_there MAX_CPU_SET k) one;
  adds_fit = omega arith;
  sizes = let z = none_sum MAX_CPU_SET in omega arith;
}

pub tally_up : (t : Tally) (c : ℕ) → IsTally t → c < MAX_CPU_SET → IsTally (moved Up c t)
tally_up t c h b = record {
  state_is = h.state_is;
  batch_is = h.batch_is;
  parts_are = h.parts_are;
  opened_are = length-set t.opened c true ∙ h.opened_are;
  closed = λ k e. closed_up k e (at_place t.opened c k true false (let l = h.opened_are in omega arith));
  within = h.within;
  adds_fit = h.adds_fit;
  sizes = h.sizes;
}
  where
    closed_up : (k : ℕ) → is_open (moved Up c t) k ≡ false →
        ((k ≡ c) × (is_open (moved Up c t) k ≡ true)) ⊎ ((k ≢ c) × (is_open (moved Up c t) k ≡ is_open t k)) → part t k ≡ pos 0
    closed_up k e (inl p) = let q = p.1 in cc
    closed_up k e (inr p) = h.closed k (sym p.1 ∙ e)

-- a part that was folded leaves nothing on its processor
folded_sizes : (t : Tally) (c : ℕ) → length t.parts ≡ MAX_CPU_SET → c < MAX_CPU_SET →
    unsigned_abs t.base + sum_by unsigned_abs t.parts ≤ 2 ^ 31 * t.adds →
    unsigned_abs (folded c t).base + sum_by unsigned_abs (folded c t).parts ≤ 2 ^ 31 * t.adds
folded_sizes t c l b z =
    let s = sum_by-set unsigned_abs t.parts c (pos 0) (pos 0) (omega arith) in
    let m = size_sum t.base (part t c) in
    omega arith

pub tally_down : (t : Tally) (c : ℕ) → IsTally t → c < MAX_CPU_SET → IsTally (moved Down c t)
tally_down t c h b = record {
  state_is = h.state_is;
  batch_is = h.batch_is;
  parts_are = length-set t.parts c (pos 0) ∙ h.parts_are;
  opened_are = length-set t.opened c false ∙ h.opened_are;
  closed = λ k e. closed_down k e (at_place t.opened c k false false (let l = h.opened_are in omega arith)) (there k);
  within = λ k. small k (there k);
  adds_fit = h.adds_fit;
  sizes = folded_sizes t c h.parts_are b h.sizes;
}
  where
    there : (k : ℕ) → ((k ≡ c) × (part (folded c t) k ≡ pos 0)) ⊎ ((k ≢ c) × (part (folded c t) k ≡ part t k))
    there k = at_place t.parts c k (pos 0) (pos 0) (let l = h.parts_are in omega arith)

    closed_down : (k : ℕ) → is_open (moved Down c t) k ≡ false →
        ((k ≡ c) × (is_open (moved Down c t) k ≡ false)) ⊎ ((k ≢ c) × (is_open (moved Down c t) k ≡ is_open t k)) →
        ((k ≡ c) × (part (folded c t) k ≡ pos 0)) ⊎ ((k ≢ c) × (part (folded c t) k ≡ part t k)) → part (folded c t) k ≡ pos 0
    closed_down k e p (inl q) = q.1
    closed_down k e (inl p) (inr q) = absurd (q.0 p.0)
    closed_down k e (inr p) (inr q) = q.1 ∙ h.closed k (sym p.1 ∙ e)

    small : (k : ℕ) → ((k ≡ c) × (part (folded c t) k ≡ pos 0)) ⊎ ((k ≢ c) × (part (folded c t) k ≡ part t k)) →
        unsigned_abs (part (folded c t) k) < t.batch
    small k (inl q) = let one = h.batch_is in rw q.1 (omega arith)
    small k (inr q) = rw q.1 (h.within k)

raised_sizes : (t : Tally) (c : ℕ) (by : ℤ) → length t.parts ≡ MAX_CPU_SET → c < MAX_CPU_SET → unsigned_abs by ≤ 2 ^ 31 →
    unsigned_abs t.base + sum_by unsigned_abs t.parts ≤ 2 ^ 31 * t.adds →
    unsigned_abs t.base + sum_by unsigned_abs (raised c by t).parts ≤ 2 ^ 31 * (t.adds + 1)
raised_sizes t c by l b y z =
    let s = sum_by-set unsigned_abs t.parts c (part t c +ℤ by) (pos 0) (omega arith) in
    let m = size_sum (part t c) by in
    omega arith

pub raised_there : (t : Tally) (c k : ℕ) (by : ℤ) → length t.parts ≡ MAX_CPU_SET → c < MAX_CPU_SET →
    ((k ≡ c) × (part (raised c by t) k ≡ part t c +ℤ by)) ⊎ ((k ≢ c) × (part (raised c by t) k ≡ part t k))
raised_there t c k by l b = at_place t.parts c k (part t c +ℤ by) (pos 0) (omega arith)

pub batched_there : (t : Tally) (c k : ℕ) (by : ℤ) → length t.parts ≡ MAX_CPU_SET → c < MAX_CPU_SET →
    ((k ≡ c) × (part (folded c (raised c by t)) k ≡ pos 0)) ⊎ ((k ≢ c) × (part (folded c (raised c by t)) k ≡ part t k))
batched_there t c k by l b =
    go
    (at_place (set t.parts c (part t c +ℤ by)) c k (pos 0) (pos 0) (let n = length-set t.parts c (part t c +ℤ by) in omega arith))
    (raised_there t c k by l b)
  where
    go : ((k ≡ c) × (part (folded c (raised c by t)) k ≡ pos 0)) ⊎ ((k ≢ c) × (part (folded c (raised c by t)) k ≡ part (raised c by t) k)) →
        ((k ≡ c) × (part (raised c by t) k ≡ part t c +ℤ by)) ⊎ ((k ≢ c) × (part (raised c by t) k ≡ part t k)) →
        ((k ≡ c) × (part (folded c (raised c by t)) k ≡ pos 0)) ⊎ ((k ≢ c) × (part (folded c (raised c by t)) k ≡ part t k))
    go (inl p) q = inl p
    go (inr p) (inl q) = absurd (p.0 q.0)
    go (inr p) (inr q) = inr (p.0, p.1 ∙ q.1)

-- a part that isn't full is below the batch
pub not_full : (t : Tally) (c : ℕ) → is_full t c ≡ false → unsigned_abs (part t c) < t.batch
not_full t c e = leb-false t.batch (unsigned_abs (part t c)) e

pub wide_raised : (t : Tally) (c : ℕ) (by : ℤ) → Wide t → Wide (raised c by t)
wide_raised t c by w =
    record { parts_are = length-set t.parts c (part t c +ℤ by) ∙ w.parts_are; opened_are = w.opened_are }

pub tally_added : (t : Tally) (c : ℕ) (by : ℤ) → IsTally t → c < MAX_CPU_SET → is_open t c ≡ true → unsigned_abs by ≤ 2 ^ 31 →
    t.adds < 2 ^ 62 → (f : Bool) → is_full (raised c by t) c ≡ f → IsTally (cond f (folded c (raised c by t)) (raised c by t))
tally_added t c by h b o y few true e = record {
  state_is = h.state_is;
  batch_is = h.batch_is;
  parts_are =
      length-set (set t.parts c (part t c +ℤ by)) c (pos 0) ∙ (length-set t.parts c (part t c +ℤ by) ∙ h.parts_are);
  opened_are = h.opened_are;
  closed = λ k s. closed_k k s (batched_there t c k by h.parts_are b);
  within = λ k. within_k k (batched_there t c k by h.parts_are b);
  adds_fit = omega arith;
  sizes =
      folded_sizes (raised c by t) c (length-set t.parts c (part t c +ℤ by) ∙ h.parts_are) b
      (raised_sizes t c by h.parts_are b y h.sizes);
}
  where
    closed_k : (k : ℕ) → is_open t k ≡ false →
        ((k ≡ c) × (part (folded c (raised c by t)) k ≡ pos 0)) ⊎ ((k ≢ c) × (part (folded c (raised c by t)) k ≡ part t k)) →
        part (folded c (raised c by t)) k ≡ pos 0
    closed_k k s (inl p) = p.1
    closed_k k s (inr p) = p.1 ∙ h.closed k s

    within_k : (k : ℕ) →
        ((k ≡ c) × (part (folded c (raised c by t)) k ≡ pos 0)) ⊎ ((k ≢ c) × (part (folded c (raised c by t)) k ≡ part t k)) →
        unsigned_abs (part (folded c (raised c by t)) k) < t.batch
    within_k k (inl p) = let one = h.batch_is in rw p.1 (omega arith)
    within_k k (inr p) = rw p.1 (h.within k)
tally_added t c by h b o y few false e = record {
  state_is = h.state_is;
  batch_is = h.batch_is;
  parts_are = length-set t.parts c (part t c +ℤ by) ∙ h.parts_are;
  opened_are = h.opened_are;
  closed = λ k s. closed_k k s (raised_there t c k by h.parts_are b);
  within = λ k. within_k k (raised_there t c k by h.parts_are b);
  adds_fit = omega arith;
  sizes = raised_sizes t c by h.parts_are b y h.sizes;
}
  where
    closed_k : (k : ℕ) → is_open t k ≡ false →
        ((k ≡ c) × (part (raised c by t) k ≡ part t c +ℤ by)) ⊎ ((k ≢ c) × (part (raised c by t) k ≡ part t k)) →
        part (raised c by t) k ≡ pos 0
    closed_k k s (inl p) = let q = ap (is_open t) p.0 in cc
    closed_k k s (inr p) = p.1 ∙ h.closed k s

    within_k : (k : ℕ) →
        ((k ≡ c) × (part (raised c by t) k ≡ part t c +ℤ by)) ⊎ ((k ≢ c) × (part (raised c by t) k ≡ part t k)) →
        unsigned_abs (part (raised c by t) k) < t.batch
    within_k k (inl p) = rw p.0 (not_full (raised c by t) c e)
    within_k k (inr p) = rw p.1 (h.within k)

pub tally_batched : (t : Tally) (c : ℕ) (by : ℤ) → IsTally t → c < MAX_CPU_SET → is_open t c ≡ true → unsigned_abs by ≤ 2 ^ 31 →
    t.adds < 2 ^ 62 → IsTally (batched c (raised c by t))
tally_batched t c by h b o y few = tally_added t c by h b o y few (is_full (raised c by t) c) refl

-- what the code makes of a part that is full then, and of one that isn't
pub full_made : (t : Tally) (c : ℕ) (by base : ℤ) → length t.parts ≡ MAX_CPU_SET → c < MAX_CPU_SET →
    t.batch ≤ unsigned_abs (part t c +ℤ by) → base ≡ t.base +ℤ (part t c +ℤ by) →
    record t { base = base; parts = set t.parts c (pos 0); adds = t.adds + 1 } ≡ batched c (raised c by t)
full_made t c by base l b f e =
    let there : part (raised c by t) c ≡ part t c +ℤ by = get_or-set_same t.parts c (part t c +ℤ by) (pos 0) (omega arith) in
    let full : is_full (raised c by t) c ≡ true = rw there (le-leb t.batch (unsigned_abs (part t c +ℤ by)) f) in
    rw (full, there, set-set t.parts c (part t c +ℤ by) (pos 0), e) refl

pub rest_made : (t : Tally) (c : ℕ) (by : ℤ) → length t.parts ≡ MAX_CPU_SET → c < MAX_CPU_SET →
    unsigned_abs (part t c +ℤ by) < t.batch → raised c by t ≡ batched c (raised c by t)
rest_made t c by l b f =
    let there : part (raised c by t) c ≡ part t c +ℤ by = get_or-set_same t.parts c (part t c +ℤ by) (pos 0) (omega arith) in
    let rest : is_full (raised c by t) c ≡ false = rw there (lt-leb t.batch (unsigned_abs (part t c +ℤ by)) f) in
    rw rest refl
