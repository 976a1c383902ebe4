-- What is known of a state tells exactly whether an entry answers all that was asked of it.
use Rattle.std.proofs.Common.{◌≡◌, ◌≤◌, ◌⊎◌, inl, inr, ℕ, zero, suc, Bool, true, false, cond, eqb, ltb, leb, ◌||◌, List, [], ◌∷◌, refl, arith}
use Rattle.std.proofs.lemmas.Bool.{leb-true, leb-false, le-leb, ltb-true, eqb-true, and_parts, and_from}
use Rattle.hp_trace_walk.specs.declared.ask.Ask.{Ask}
use Rattle.hp_trace_walk.specs.declared.table.Known.{Known}
use Rattle.hp_trace_walk.specs.Tables.{larger, smaller, unknown, is_ordered, is_even, is_up_alone, is_open, with_ask}
use Rattle.hp_trace_walk.specs.Entries.{Entry, IsWithin, AnswersAll, HasEntry, known_by}

-- ---- the larger and the smaller

larger_within : (x y n : ℕ) → x ≤ n → y ≤ n → larger x y ≤ n
larger_within x y n hx hy = go (ltb x y)
  where
    go : (b : Bool) → cond b y x ≤ n
    go true = hy
    go false = hx

within_smaller : (x y n : ℕ) → n ≤ x → n ≤ y → n ≤ smaller x y
within_smaller x y n hx hy = go (ltb x y)
  where
    go : (b : Bool) → n ≤ cond b x y
    go true = hx
    go false = hy

pub smaller_left : (x y : ℕ) → smaller x y ≤ x
smaller_left x y = go (ltb x y) refl
  where
    go : (b : Bool) → ltb x y ≡ b → cond b x y ≤ x
    go true e = omega arith
    go false e = let h = leb-false (suc x) y e in omega (arith, h)

pub record Both (A B : Type 0) : Type 0 where
  pub one : A
  pub other : B

of_larger : (x y n : ℕ) → larger x y ≤ n → Both (x ≤ n) (y ≤ n)
of_larger x y n = go (ltb x y) refl
  where
    go : (b : Bool) → ltb x y ≡ b → cond b y x ≤ n → Both (x ≤ n) (y ≤ n)
    go true e h = let l = ltb-true x y e in record { one = omega (arith, l, h); other = h }
    go false e h = let l = leb-false (suc x) y e in record { one = h; other = omega (arith, l, h) }

of_smaller : (x y n : ℕ) → n ≤ smaller x y → Both (n ≤ x) (n ≤ y)
of_smaller x y n = go (ltb x y) refl
  where
    go : (b : Bool) → ltb x y ≡ b → n ≤ cond b x y → Both (n ≤ x) (n ≤ y)
    go true e h = let l = ltb-true x y e in record { one = h; other = omega (arith, l, h) }
    go false e h = let l = leb-false (suc x) y e in record { one = omega (arith, l, h); other = h }

-- ---- an entry is asks what is known

pub record Fits (k : Known) (e : Entry) : Type 0 where
  pub least_up : k.least_up ≤ e.up
  pub most_up : e.up ≤ k.most_up
  pub least_down : k.least_down ≤ e.down
  pub most_down : e.down ≤ k.most_down

pub fits_more : (k : Known) (a : Ask) (e : Entry) → Fits k e → IsWithin a (cond a.up e.up e.down) → Fits (with_ask k a) e
fits_more k a e f = go a.up
  where
    go : (b : Bool) → IsWithin a (cond b e.up e.down) →
        Fits
        (cond
        b
        (record {
          least_up = larger k.least_up a.least;
          most_up = smaller k.most_up a.most;
          least_down = k.least_down;
          most_down = k.most_down;
        })
        (record {
          least_up = k.least_up;
          most_up = k.most_up;
          least_down = larger k.least_down a.least;
          most_down = smaller k.most_down a.most;
        })) e
    go true w = record {
      least_up = larger_within k.least_up a.least e.up f.least_up w.least;
      most_up = within_smaller k.most_up a.most e.up f.most_up w.most;
      least_down = f.least_down;
      most_down = f.most_down;
    }
    go false w = record {
      least_up = f.least_up;
      most_up = f.most_up;
      least_down = larger_within k.least_down a.least e.down f.least_down w.least;
      most_down = within_smaller k.most_down a.most e.down f.most_down w.most;
    }

pub fits_less : (k : Known) (a : Ask) (e : Entry) → Fits (with_ask k a) e → Both (Fits k e) (IsWithin a (cond a.up e.up e.down))
fits_less k a e = go a.up
  where
    go : (b : Bool) →
        Fits
        (cond
        b
        (record {
          least_up = larger k.least_up a.least;
          most_up = smaller k.most_up a.most;
          least_down = k.least_down;
          most_down = k.most_down;
        })
        (record {
          least_up = k.least_up;
          most_up = k.most_up;
          least_down = larger k.least_down a.least;
          most_down = smaller k.most_down a.most;
        })) e →
        Both (Fits k e) (IsWithin a (cond b e.up e.down))
    go true f =
        let l = of_larger k.least_up a.least e.up f.least_up in
        let m = of_smaller k.most_up a.most e.up f.most_up in
        record {
          one = record { least_up = l.one; most_up = m.one; least_down = f.least_down; most_down = f.most_down };
          other = record { least = l.other; most = m.other };
        }
    go false f =
        let l = of_larger k.least_down a.least e.down f.least_down in
        let m = of_smaller k.most_down a.most e.down f.most_down in
        record {
          one = record { least_up = f.least_up; most_up = f.most_up; least_down = l.one; most_down = m.one };
          other = record { least = l.other; most = m.other };
        }

-- ---- all that was asked

fits_all : (k : Known) (asks : List Ask) (e : Entry) → Fits k e → AnswersAll e asks → Fits (known_by k asks) e
fits_all k [] e f w = f
fits_all k (a ∷ asks) e f w = fits_all (with_ask k a) asks e (fits_more k a e f w.0) w.1

all_fit : (k : Known) (asks : List Ask) (e : Entry) → Fits (known_by k asks) e → Both (Fits k e) (AnswersAll e asks)
all_fit k [] e f = record { one = f; other = tt }
all_fit k (a ∷ asks) e f =
    let rest = all_fit (with_ask k a) asks e f in
    let here = fits_less k a e rest.one in
    record { one = here.one; other = (here.other, rest.other) }

-- ---- an entry is asks what is known exactly where that is open

or_cases : (x y : Bool) → (x || y) ≡ true → (x ≡ true) ⊎ (y ≡ true)
or_cases true y h = inl refl
or_cases false y h = inr h

or_left : (x y : Bool) → x ≡ true → (x || y) ≡ true
or_left true y h = refl
or_left false y h = absurd cc

or_right : (x y : Bool) → y ≡ true → (x || y) ≡ true
or_right true y h = refl
or_right false y h = h

pub record Found (k : Known) : Type 0 where
  pub entry : Entry
  pub same : (entry.up ≡ entry.down) ⊎ ((entry.up ≡ 0) ⊎ (entry.down ≡ 0))
  pub fits : Fits k entry

found_none_up : (k : Known) → k.least_up ≤ k.most_up → k.least_down ≤ k.most_down → k.least_up ≡ 0 → Found k
found_none_up k u d z = record {
  entry = record { up = 0; down = k.least_down };
  same = inr (inl refl);
  fits = record { least_up = omega (arith, z); most_up = omega arith; least_down = omega arith; most_down = d };
}

found_none_down : (k : Known) → k.least_up ≤ k.most_up → k.least_down ≤ k.most_down → k.least_down ≡ 0 → Found k
found_none_down k u d z = record {
  entry = record { up = k.least_up; down = 0 };
  same = inr (inr refl);
  fits = record { least_up = omega arith; most_up = u; least_down = omega (arith, z); most_down = omega arith };
}

found_even : (k : Known) → k.least_up ≤ k.most_up → k.least_down ≤ k.most_down → k.least_up ≤ k.most_down → k.least_down ≤ k.most_up → Found k
found_even k u d x y =
    let n = larger k.least_up k.least_down in
    let parts = of_larger k.least_up k.least_down n (omega arith) in
    record {
      entry = record { up = n; down = n };
      same = inl refl;
      fits = record {
        least_up = parts.one;
        most_up = larger_within k.least_up k.least_down k.most_up u y;
        least_down = parts.other;
        most_down = larger_within k.least_up k.least_down k.most_down x d;
      };
    }

pub found : (k : Known) → is_open k ≡ true → Found k
found k open_is =
    let parts = and_parts (is_ordered k) (eqb k.least_up 0 || is_up_alone k) open_is in
    let sides = and_parts (leb k.least_up k.most_up) (leb k.least_down k.most_down) parts.0 in
    let u = leb-true k.least_up k.most_up sides.0 in
    let d = leb-true k.least_down k.most_down sides.1 in
    first u d (or_cases (eqb k.least_up 0) (is_up_alone k) parts.1)
  where
    second : k.least_up ≤ k.most_up → k.least_down ≤ k.most_down → (eqb k.least_down 0 ≡ true) ⊎ (is_even k ≡ true) → Found k
    second u d (inl z) = found_none_down k u d (eqb-true k.least_down 0 z)
    second u d (inr h) =
        let both = and_parts (leb k.least_up k.most_down) (leb k.least_down k.most_up) h in
        found_even k u d (leb-true k.least_up k.most_down both.0) (leb-true k.least_down k.most_up both.1)

    first : k.least_up ≤ k.most_up → k.least_down ≤ k.most_down → (eqb k.least_up 0 ≡ true) ⊎ (is_up_alone k ≡ true) → Found k
    first u d (inl z) = found_none_up k u d (eqb-true k.least_up 0 z)
    first u d (inr h) = second u d (or_cases (eqb k.least_down 0) (is_even k) h)

eq_test : (n : ℕ) → n ≤ 0 → eqb n 0 ≡ true
eq_test zero h = refl
eq_test (suc n) h = absurd (omega (arith, h))

pub is_open_by : (k : Known) (e : Entry) → Fits k e → (e.up ≡ e.down) ⊎ ((e.up ≡ 0) ⊎ (e.down ≡ 0)) → is_open k ≡ true
is_open_by k e f s =
    and_from
    (is_ordered k)
    (eqb k.least_up 0 || is_up_alone k)
    (and_from
    (leb k.least_up k.most_up)
    (leb k.least_down k.most_down)
    (le-leb k.least_up k.most_up (omega (arith, f.least_up, f.most_up)))
    (le-leb k.least_down k.most_down (omega (arith, f.least_down, f.most_down))))
    (go s)
  where
    go : (e.up ≡ e.down) ⊎ ((e.up ≡ 0) ⊎ (e.down ≡ 0)) → (eqb k.least_up 0 || is_up_alone k) ≡ true
    go (inl same) =
        or_right
        (eqb k.least_up 0)
        (is_up_alone k)
        (or_right
        (eqb k.least_down 0)
        (is_even k)
        (and_from
        (leb k.least_up k.most_down)
        (leb k.least_down k.most_up)
        (le-leb k.least_up k.most_down (omega (arith, f.least_up, f.most_down, same)))
        (le-leb k.least_down k.most_up (omega (arith, f.least_down, f.most_up, same)))))
    go (inr (inl none)) = or_left (eqb k.least_up 0) (is_up_alone k) (eq_test k.least_up (omega (arith, f.least_up, none)))
    go (inr (inr none)) =
        or_right
        (eqb k.least_up 0)
        (is_up_alone k)
        (or_left (eqb k.least_down 0) (is_even k) (eq_test k.least_down (omega (arith, f.least_down, none))))

-- ---- both ways

pub entry_gives : (asks : List Ask) → HasEntry asks → is_open (known_by unknown asks) ≡ true
entry_gives asks h =
    let e = h.entry in
    let start : Fits unknown e =
    record { least_up = omega arith; most_up = h.can_be.few_up; least_down = omega arith; most_down = h.can_be.few_down } in
    is_open_by (known_by unknown asks) e (fits_all unknown asks e start h.answers) h.can_be.same

pub open_gives : (asks : List Ask) → is_open (known_by unknown asks) ≡ true → HasEntry asks
open_gives asks open_is =
    let f = found (known_by unknown asks) open_is in
    let parts = all_fit unknown asks f.entry f.fits in
    record {
      entry = f.entry;
      can_be = record { same = f.same; few_up = parts.one.most_up; few_down = parts.one.most_down };
      answers = parts.other;
    }
