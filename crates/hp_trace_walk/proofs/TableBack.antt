-- What is known behind an ask says of what was known before it, and of a table.
use Rattle.std.proofs.Common.{◌≡◌, ◌≤◌, ◌<◌, ◌⊎◌, inl, inr, ℕ, zero, suc, ◌+◌, ◌-◌, Bool, true, false, not, cond, ltb, Option, Some, None, length, slice_get, refl, sym, subst, ◌∙◌, arith, eq-or-lt_of_le, true≢false}
use Rattle.std.proofs.lemmas.List.{length-set}
use Rattle.hp_trace_walk.specs.declared.ask.Ask.{Ask}
use Rattle.hp_trace_walk.specs.declared.ask.Asks.{Asks}
use Rattle.hp_trace_walk.specs.declared.ask.TheConstants.{MOST_CALLS, MOST_STATES}
use Rattle.hp_trace_walk.specs.declared.table.Known.{Known}
use Rattle.hp_trace_walk.specs.declared.walk.Borders.{Borders}
use Rattle.hp_trace_walk.specs.Walks.{is_starting}
use Rattle.hp_trace_walk.specs.Tables.{Kept, is_open, with_ask, shut_by, set_at, asked_at, asked_one, asked_if, asked_from, asked, asked_all, smaller}
use Rattle.hp_trace_walk.specs.Entries.{IsWithin}
use Rattle.hp_trace_walk.specs.Answered.{States, calls_of, Answers, AnswersEach}
use Rattle.hp_trace_walk.proofs.EntryLaws.{Fits, fits_less, smaller_left}
use Rattle.hp_trace_walk.proofs.PlaceLaws.{set_then, then_set, set_there, none_past}
use Rattle.hp_trace_walk.proofs.TableHolds.{IsFit}

-- what is known of a state can be, and counts no more than can be counted
pub record IsWell (x : Known) : Type 0 where
  pub open_is : is_open x ≡ true
  pub few_up : x.most_up ≤ MOST_CALLS
  pub few_down : x.most_down ≤ MOST_CALLS

pub record AreWell (k : Kept) : Type 0 where
  pub each : (s : ℕ) (x : Known) → slice_get k.known s ≡ Some x → IsWell x

well_with : (x : Known) (a : Ask) → IsWell x → is_open (with_ask x a) ≡ true → IsWell (with_ask x a)
well_with x a w open_is = go a.up open_is
  where
    after : Bool → Known
    after up =
        cond
        up
        (record {
          least_up = cond (ltb x.least_up a.least) a.least x.least_up;
          most_up = smaller x.most_up a.most;
          least_down = x.least_down;
          most_down = x.most_down;
        })
        (record {
          least_up = x.least_up;
          most_up = x.most_up;
          least_down = cond (ltb x.least_down a.least) a.least x.least_down;
          most_down = smaller x.most_down a.most;
        })

    go : (up : Bool) → is_open (after up) ≡ true → IsWell (after up)
    go true o = record {
      open_is = o;
      few_up = let l = smaller_left x.most_up a.most in let m = w.few_up in omega (arith, l, m);
      few_down = w.few_down;
    }
    go false o = record {
      open_is = o;
      few_up = w.few_up;
      few_down = let l = smaller_left x.most_down a.most in let m = w.few_down in omega (arith, l, m);
    }

-- ---- from what is known behind to what was known before, and what that says of a table

pub record Back (k behind : Kept) (Said : States → Type 0) : Type 0 where
  pub places : length behind.known ≡ length k.known
  pub shut : behind.shut ≡ None → k.shut ≡ None
  pub well : behind.shut ≡ None → AreWell k → AreWell behind
  pub fit : (t : States) → IsFit behind t → IsFit k t × Said t

back_same : (k : Kept) (Said : States → Type 0) → ((t : States) → Said t) → Back k k Said
back_same k Said said =
    record { places = refl; shut = λ h. h; well = λ h w. w; fit = λ t f. (f, said t) }

back_by : (k behind : Kept) (Said More : States → Type 0) → Back k behind Said → ((t : States) → Said t → More t) → Back k behind More
back_by k behind Said More b more =
    record { places = b.places; shut = b.shut; well = b.well; fit = λ t f. let x = b.fit t f in (x.0, more t x.1) }

back_then : (k mid behind : Kept) (Said More : States → Type 0) → Back k mid Said → Back mid behind More →
    Back k behind (λ t. Said t × More t)
back_then k mid behind Said More one two = record {
  places = two.places ∙ one.places;
  shut = λ h. one.shut (two.shut h);
  well = λ h w. two.well h (one.well (two.shut h) w);
  fit = λ t f. let y = two.fit t f in let x = one.fit t y.0 in (x.0, (x.1, y.1));
}

-- ---- an ask

open_or_shut : (x : Known) (s : ℕ) (shut : Option ℕ) → shut_by x s shut ≡ None → (is_open x ≡ true) × (shut ≡ None)
open_or_shut x s shut = go (is_open x) refl
  where
    go : (o : Bool) → is_open x ≡ o → cond (not o) (Some s) shut ≡ None → (is_open x ≡ true) × (shut ≡ None)
    go true e h = (e, h)
    go false e h = absurd cc

back_set : (a : Ask) (s : ℕ) (k : Kept) (x : Known) → slice_get k.known s ≡ Some x →
    Back k (set_at s (with_ask x a) k) (λ t. IsWithin a (calls_of (t s) a.up))
back_set a s k x e = record {
  places = length-set k.known s (with_ask x a);
  shut = λ h. (open_or_shut (with_ask x a) s k.shut h).1;
  well = λ h w. record {
    each = λ u y g.
        well_at
        w
        (well_with x a (w.each s x e) (open_or_shut (with_ask x a) s k.shut h).0)
        u
        y
        (set_then k.known s u (with_ask x a) y g);
  };
  fit = λ t f.
      let both = fits_less x a (t s) (f.each s (with_ask x a) (set_there k.known s (with_ask x a) x e)) in
      (record { each = λ u y g. fit_at t f both.one u y g (then_set k.known s u (with_ask x a) y g) }, both.other);
}
  where
    well_at : AreWell k → IsWell (with_ask x a) → (u : ℕ) (y : Known) →
        ((s ≡ u) × (with_ask x a ≡ y)) ⊎ (slice_get k.known u ≡ Some y) → IsWell y
    well_at w new u y (inl p) = subst (λ v. IsWell v) p.1 new
    well_at w new u y (inr g) = w.each u y g

    fit_at : (t : States) → IsFit (set_at s (with_ask x a) k) t → Fits x (t s) → (u : ℕ) (y : Known) → slice_get k.known u ≡ Some y →
        ((s ≡ u) × (slice_get (set_at s (with_ask x a) k).known u ≡ Some (with_ask x a)))
        ⊎ (slice_get (set_at s (with_ask x a) k).known u ≡ Some y) → Fits y (t u)
    fit_at t f one u y g (inl p) =
        let same : x ≡ y = some_same (sym e ∙ subst (λ v. slice_get k.known v ≡ Some y) (sym p.0) g) in
        subst (λ v. Fits v (t u)) same (subst (λ v. Fits x (t v)) p.0 one)
      where
        some_same : Some x ≡ Some y → x ≡ y
        some_same h = cc
    fit_at t f one u y g (inr there) = f.each u y there

back_one : (a : Ask) (s : ℕ) (k : Kept) →
    Back k (asked_one a s k) (λ t. s < length k.known → IsWithin a (calls_of (t s) a.up))
back_one a s k = go (slice_get k.known s) refl
  where
    Says : States → Type 0
    Says t = s < length k.known → IsWithin a (calls_of (t s) a.up)

    go : (o : Option Known) → slice_get k.known s ≡ o → Back k (asked_at a s k o) Says
    go None e = back_same k Says (λ t less. let far = none_past k.known s e in absurd (omega (arith, far, less)))
    go (Some x) e =
        back_by k (set_at s (with_ask x a) k) (λ t. IsWithin a (calls_of (t s) a.up)) Says (back_set a s k x e) (λ t within less. within)

back_if : (b : Borders) (a : Ask) (s : ℕ) (k : Kept) →
    Back k (asked_if b a s k) (λ t. s < length k.known → is_starting b s ≡ false → IsWithin a (calls_of (t s) a.up))
back_if b a s k = go (is_starting b s) refl
  where
    Says : States → Type 0
    Says t = s < length k.known → is_starting b s ≡ false → IsWithin a (calls_of (t s) a.up)

    go : (o : Bool) → is_starting b s ≡ o → Back k (cond (not o) (asked_one a s k) k) Says
    go true e = back_same k Says (λ t less shown. absurd (true≢false (sym e ∙ shown)))
    go false e =
        back_by
        k
        (asked_one a s k)
        (λ t. s < length k.known → IsWithin a (calls_of (t s) a.up))
        Says
        (back_one a s k)
        (λ t within less shown. within less)

abbrev AnswersFrom : Borders → Ask → (many s : ℕ) → States → Type 0
AnswersFrom b a many s t =
    (u : ℕ) → s ≤ u → u < s + many → u < MOST_STATES → is_starting b u ≡ false → IsWithin a (calls_of (t u) a.up)

back_from : (b : Borders) (a : Ask) (many s : ℕ) (k : Kept) → length k.known ≡ MOST_STATES →
    Back k (asked_from b a many s k) (AnswersFrom b a many s)
back_from b a zero s k n = back_same k (AnswersFrom b a 0 s) (λ t u near far most shown. absurd (omega (arith, near, far)))
back_from b a (suc many) s k n =
    let here = back_if b a s k in
    let rest = back_from b a many (s + 1) (asked_if b a s k) (here.places ∙ n) in
    back_by
    k
    (asked_from b a many (s + 1) (asked_if b a s k))
    (λ t. (s < length k.known → is_starting b s ≡ false → IsWithin a (calls_of (t s) a.up)) × AnswersFrom b a many (s + 1) t)
    (AnswersFrom b a (suc many) s)
    (back_then
    k
    (asked_if b a s k)
    (asked_from b a many (s + 1) (asked_if b a s k))
    (λ t. s < length k.known → is_starting b s ≡ false → IsWithin a (calls_of (t s) a.up))
    (AnswersFrom b a many (s + 1))
    here
    rest)
    (λ t both u near far most shown. go t both u far most shown (eq-or-lt_of_le near))
  where
    go : (t : States) →
        (s < length k.known → is_starting b s ≡ false → IsWithin a (calls_of (t s) a.up)) × AnswersFrom b a many (s + 1) t →
        (u : ℕ) → u < s + suc many → u < MOST_STATES → is_starting b u ≡ false → (s ≡ u) ⊎ (s < u) → IsWithin a (calls_of (t u) a.up)
    go t both u far most shown (inl same) =
        subst
        (λ v. IsWithin a (calls_of (t v) a.up))
        same
        (both.0 (omega (arith, n, same, most)) (subst (λ v. is_starting b v ≡ false) (sym same) shown))
    go t both u far most shown (inr more) = both.1 u (omega (arith, more)) (omega (arith, far)) most shown

back_asked : (b : Borders) (a : Ask) (k : Kept) → length k.known ≡ MOST_STATES → Back k (asked b a k) (λ t. Answers b t a)
back_asked b a k n =
    back_by
    k
    (asked b a k)
    (AnswersFrom b a (a.below - a.from) a.from)
    (λ t. Answers b t a)
    (back_from b a (a.below - a.from) a.from k n)
    (λ t says u near far most shown. says u near (omega (arith, near, far)) most shown)

pub back_all : (b : Borders) (a : Asks) (k : Kept) → length k.known ≡ MOST_STATES → Back k (asked_all b a k) (λ t. AnswersEach b t a)
back_all b a k n =
    let k1 = asked b a.whole k in
    let b1 = back_asked b a.whole k n in
    let n1 = b1.places ∙ n in
    let k2 = asked b a.passed k1 in
    let b2 = back_asked b a.passed k1 n1 in
    let n2 = b2.places ∙ n1 in
    let k3 = asked b a.back k2 in
    let b3 = back_asked b a.back k2 n2 in
    let n3 = b3.places ∙ n2 in
    let k4 = asked b a.before k3 in
    let b4 = back_asked b a.before k3 n3 in
    let n4 = b4.places ∙ n3 in
    let k5 = asked b a.made k4 in
    let b5 = back_asked b a.made k4 n4 in
    let n5 = b5.places ∙ n4 in
    let k6 = asked b a.other k5 in
    let b6 = back_asked b a.other k5 n5 in
    record {
      places = b6.places ∙ b5.places ∙ b4.places ∙ b3.places ∙ b2.places ∙ b1.places;
      shut = λ h. b1.shut (b2.shut (b3.shut (b4.shut (b5.shut (b6.shut h)))));
      well = λ h w.
          let h5 = b6.shut h in
          let h4 = b5.shut h5 in
          let h3 = b4.shut h4 in
          let h2 = b3.shut h3 in
          let h1 = b2.shut h2 in
          b6.well h (b5.well h5 (b4.well h4 (b3.well h3 (b2.well h2 (b1.well h1 w)))));
      fit = λ t f6.
          let x6 = b6.fit t f6 in
          let x5 = b5.fit t x6.0 in
          let x4 = b4.fit t x5.0 in
          let x3 = b3.fit t x4.0 in
          let x2 = b2.fit t x3.0 in
          let x1 = b1.fit t x2.0 in (
            x1.0,
            record { made = x5.1; other = x6.1; whole = x1.1; passed = x2.1; back = x3.1; before = x4.1 },
          );
    }
