-- Rows: where a key's is, and what is in it after a change.
use Rattle.std.proofs.Common.{◌≡◌, ◌&&◌, ◌||◌, not, cond, eqb, ltb, ℕ, Bool, true, false, List, Option, Some, None, is_some, length, get_or, slice_get, position, refl, ap, sym, ◌∙◌, subst, arith}
use Rattle.std.specs.List.{position_or_len}
use Rattle.std.specs.Cmp.{IsEquivalence}
use Rattle.std.proofs.lemmas.Bool.Decides.{nat_tests}
use Rattle.std.proofs.lemmas.Bool.{eqb-true, eq-eqb, ltb-true, and_parts, true≢false}
use Rattle.std.proofs.lemmas.List.Sums.{prefix_len_stops}
use Rattle.std.proofs.lemmas.Option.{slice_get-get_or}
use Rattle.hp_states.proofs.Basics.{passed, same_some}
use Rattle.hp_states.specs.CpuSets.{has}
use Rattle.hp_states.specs.declared.cpu_set.CpuSet.{CpuSet}
use Rattle.hp_called.specs.declared.rows.RowKey.{RowKey}
use Rattle.indexmap.specs.IndexMap.{IndexMap, get, with_value_at, IsUnique}
use Rattle.indexmap.proofs.CallerLemmas.{updates-with_value_at}
use Rattle.hp_called.specs.Rows.{same_row, is_in, IsPlaceOf}

-- ---- keys

eqb_turned : (m n : ℕ) → eqb m n ≡ eqb n m
eqb_turned m n = grind (arith, nat_tests)

row_parts : (s t i j : ℕ) → s ≡ t → i ≡ j → ◌≡◌ {A = RowKey} (record { state = s; inst = i }) (record { state = t; inst = j })
row_parts s t i j p q = rw (p, q) refl

pub one_row : (a b : RowKey) → same_row a b ≡ true → a ≡ b
one_row a b h =
    let p = and_parts (eqb a.state b.state) (eqb a.inst b.inst) h in
    row_parts a.state b.state a.inst b.inst (eqb-true a.state b.state p.0) (eqb-true a.inst b.inst p.1)

rows_equivalence : IsEquivalence same_row
rows_equivalence = record {
  refl = λ x. itself x.state x.inst;
  symm = λ x y. turned x.state y.state x.inst y.inst;
  congr = λ x y z h. ap (λ q. same_row q z) (one_row x y h);
}
  where
    itself : (s i : ℕ) → (eqb s s && eqb i i) ≡ true
    itself s i = rw (eq-eqb s s refl, eq-eqb i i refl) refl

    turned : (s t i j : ℕ) → (eqb s t && eqb i j) ≡ (eqb t s && eqb j i)
    turned s t i j = rw (eqb_turned s t, eqb_turned i j) refl

unpassed : (b : Bool) → not b ≡ false → b ≡ true
unpassed true h = refl
unpassed false h = absurd (true≢false h)

-- the place that is found for a key has it
pub at_key : (k : RowKey) (ks : List RowKey) (i : ℕ) → position (same_row k) ks ≡ Some i → slice_get ks i ≡ Some k
at_key k ks i h =
    let n = position_or_len (same_row k) ks in
    let p = passed (ltb n (length ks)) (Some n) i h in
    let within = ltb-true n (length ks) p.0 in
    let is = one_row k (get_or ks n k) (unpassed (same_row k (get_or ks n k)) (prefix_len_stops (λ x. not (same_row k x)) ks k within)) in
    subst (λ m. slice_get ks m ≡ Some k) (same_some n i p.1) (slice_get-get_or ks n k within ∙ ap Some (sym is))

-- ---- rows

pub some_or : {A : Type 0} (b : Bool) (a : A) (o : Option A) → is_some (cond b (Some a) o) ≡ (b || is_some o)
some_or true a o = refl
some_or false a o = refl

pub none_and : {A : Type 0} (b : Bool) (o : Option A) → is_some (cond b None o) ≡ (not b && is_some o)
none_and true o = refl
none_and false o = refl

pub in_none : (b : Bool) (o : Option CpuSet) (c : ℕ) → is_in (cond b None o) c ≡ (not b && is_in o c)
in_none true o c = refl
in_none false o c = refl

pub in_empty : (b : Bool) (set : CpuSet) (o : Option CpuSet) (c : ℕ) → has set c ≡ false → is_in (cond b (Some set) o) c ≡ (not b && is_in o c)
in_empty true set o c h = h
in_empty false set o c h = refl

-- ---- a write into the row of a key

-- a row that is there stays there
pub stays_there : (b : Bool) (o : Option CpuSet) (was new : CpuSet) → (b ≡ true → o ≡ Some was) → is_some (cond b (Some new) o) ≡ is_some o
stays_there true o was new h = sym (ap is_some (h refl))
stays_there false o was new h = refl

-- and has the processor that was put into it, or hasn't the one that was taken out
pub put_in : (b : Bool) (o : Option CpuSet) (was new : CpuSet) (cpu c : ℕ) → (b ≡ true → o ≡ Some was) →
    has new c ≡ (eqb c cpu || has was c) →
    is_in (cond b (Some new) o) c ≡ cond (is_some o && (b && eqb cpu c)) true (is_in o c)
put_in false o was new cpu c h w = sym (left_out (is_some o) (is_in o c))
  where
    left_out : (a d : Bool) → cond (a && false) true d ≡ d
    left_out true d = refl
    left_out false d = refl
put_in true o was new cpu c h w = rw (h refl) (w ∙ ap (λ t. t || has was c) (eqb_turned c cpu) ∙ either (eqb cpu c) (has was c))
  where
    either : (a d : Bool) → (a || d) ≡ cond a true d
    either true d = refl
    either false d = refl

pub taken_out : (b : Bool) (o : Option CpuSet) (was new : CpuSet) (cpu c : ℕ) → (b ≡ true → o ≡ Some was) →
    has new c ≡ (not (eqb c cpu) && has was c) →
    is_in (cond b (Some new) o) c ≡ cond (is_some o && (b && eqb cpu c)) false (is_in o c)
taken_out false o was new cpu c h w = sym (left_out (is_some o) (is_in o c))
  where
    left_out : (a d : Bool) → cond (a && false) false d ≡ d
    left_out true d = refl
    left_out false d = refl
taken_out true o was new cpu c h w = rw (h refl) (w ∙ ap (λ t. not t && has was c) (eqb_turned c cpu) ∙ neither (eqb cpu c) (has was c))
  where
    neither : (a d : Bool) → (not a && d) ≡ cond a false d
    neither true d = refl
    neither false d = refl

-- what is written at the place of a key
pub record Written {S : Type 0} (old : IndexMap RowKey CpuSet S) (key : RowKey) (place : ℕ) (was new : CpuSet) : Type 0 where
  pub rows : (q : RowKey) → get same_row (with_value_at old place new) q ≡ cond (same_row key q) (Some new) (get same_row old q)
  pub row_was : (q : RowKey) → same_row key q ≡ true → get same_row old q ≡ Some was

pub written : {S : Type 0} (old : IndexMap RowKey CpuSet S) (key k : RowKey) (place : ℕ) (was new : CpuSet) → IsUnique same_row old →
    IsPlaceOf old key place → slice_get old.entries place ≡ Some (k, was) → Written old key place was new
written old key k place was new unique h at =
    let same : h.set ≡ was = ap (λ (e : RowKey × CpuSet). e.1) (same_some (key, h.set) (k, was) (sym h.at ∙ at)) in
    record {
      rows = (updates-with_value_at old place new rows_equivalence unique key h.set h.at).0;
      row_was = λ q s. subst (λ z. get same_row old z ≡ Some h.set) (one_row key q s) h.found ∙ ap Some same;
    }

-- so of the rows as they were before the place was looked for
module _ {S : Type 0} (old now : IndexMap RowKey CpuSet S) (same : now ≡ old) (key : RowKey) (place : ℕ) (was new : CpuSet)
    (w : Written now key place was new) where
  pub rows_stay : (q : RowKey) → is_some (get same_row (with_value_at now place new) q) ≡ is_some (get same_row old q)
  rows_stay q =
      ap is_some (w.rows q)
      ∙ (stays_there (same_row key q) (get same_row now q) was new (w.row_was q) ∙ ap (λ m. is_some (get same_row m q)) same)

  pub put_there : (c d : ℕ) → has new d ≡ (eqb d c || has was d) → (q : RowKey) →
      is_in (get same_row (with_value_at now place new) q) d
      ≡ cond (is_some (get same_row old q) && (same_row key q && eqb c d)) true (is_in (get same_row old q) d)
  put_there c d h q =
      ap (λ o. is_in o d) (w.rows q)
      ∙ (put_in (same_row key q) (get same_row now q) was new c d (w.row_was q) h
      ∙ ap (λ m. cond (is_some (get same_row m q) && (same_row key q && eqb c d)) true (is_in (get same_row m q) d)) same)

  pub taken_there : (c d : ℕ) → has new d ≡ (not (eqb d c) && has was d) → (q : RowKey) →
      is_in (get same_row (with_value_at now place new) q) d
      ≡ cond (is_some (get same_row old q) && (same_row key q && eqb c d)) false (is_in (get same_row old q) d)
  taken_there c d h q =
      ap (λ o. is_in o d) (w.rows q)
      ∙ (taken_out (same_row key q) (get same_row now q) was new c d (w.row_was q) h
      ∙ ap (λ m. cond (is_some (get same_row m q) && (same_row key q && eqb c d)) false (is_in (get same_row m q) d)) same)
