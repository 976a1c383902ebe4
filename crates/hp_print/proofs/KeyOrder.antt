-- The order of keys, and their places in a list that rises.
use Rattle.std.proofs.Common.{◌≡◌, ℕ, zero, suc, ◌-◌, ◌<◌, ◌≤◌, Bool, true, false, List, [], ◌∷◌, length, get_or, refl, ap, sym, arith, set, if◌then◌else◌, insert}
use Rattle.std.proofs.lemmas.Bool.Decides.{nat_tests}
use Rattle.hp_event.specs.declared.key.Key.{Key}
use Rattle.hp_model.specs.Net.{is_before}
use Rattle.hp_model.proofs.KeyOrder.{before_after, before_self}
use Rattle.hp_print.specs.declared.keys.KeyCount.{KeyCount}
use Rattle.hp_states.specs.declared.dir.Dir.{Dir}
use Rattle.hp_states.specs.declared.dir.Dir.TheVariants.{Up, Down}
use Rattle.hp_print.specs.Counts.{place, is_key, with_count, no_count, raised, raised_at, counted, IsBeforeAll, AreInOrder}

pub neither : (a b : Key) → is_before a b ≡ false → is_before b a ≡ false → is_key a b ≡ true
neither a b p q = grind (arith, nat_tests)

pub before_not_key : (a b : Key) → is_before a b ≡ true → is_key a b ≡ false
before_not_key a b p = grind (arith, nat_tests)

pub after_not_key : (a b : Key) → is_before b a ≡ true → is_key a b ≡ false
after_not_key a b p = grind (arith, nat_tests)

pub same_before : (k a y : Key) → is_key k a ≡ true → is_before a y ≡ true → is_before k y ≡ true
same_before k a y p q = grind (arith, nat_tests)

pub key_apart : (j k x : Key) → is_key k x ≡ true → is_key j x ≡ false → is_key j k ≡ false
key_apart j k x p q = grind (arith, nat_tests)

pub key_other : (j k : Key) → is_key j k ≡ false → is_key k j ≡ false
key_other j k p = grind (arith, nat_tests)

pub place_within : (k : Key) (xs : List KeyCount) → place k xs ≤ length xs
place_within k [] = omega arith
place_within k (x ∷ xs) = grind (arith, place_within k xs)

-- a key that isn't before another stands at its place or behind it
pub place_below : (k : Key) (xs : List KeyCount) (j : ℕ) (d : KeyCount) → j < length xs →
    is_before (get_or xs j d).key k ≡ false → place k xs ≤ j
place_below k [] j d h p = omega arith
place_below k (x ∷ xs) zero d h p = grind arith
place_below k (x ∷ xs) (suc j) d h p = let rest : place k xs ≤ j = place_below k xs j d (omega arith) p in grind arith

before_all_at : (k : Key) (xs : List KeyCount) (j : ℕ) (d : KeyCount) → IsBeforeAll k xs → j < length xs →
    is_before k (get_or xs j d).key ≡ true
before_all_at k [] j d h l = absurd (omega arith)
before_all_at k (x ∷ xs) zero d h l = h.0
before_all_at k (x ∷ xs) (suc j) d h l = before_all_at k xs j d h.1 (omega arith)

-- a key that is before another stands before its place
pub place_above : (k : Key) (xs : List KeyCount) (j : ℕ) (d : KeyCount) → AreInOrder xs → j < length xs →
    is_before (get_or xs j d).key k ≡ true → j < place k xs
place_above k [] j d o h p = absurd (omega arith)
place_above k (x ∷ xs) zero d o h p = grind arith
place_above k (x ∷ xs) (suc j) d o h p =
    let rest : j < place k xs = place_above k xs j d o.1 (omega arith) p in
    let first : is_before x.key k ≡ true = before_after x.key (get_or xs j d).key k (before_all_at x.key xs j d o.0 (omega arith)) p in
    grind arith

before_same : (a b k : Key) → is_before a b ≡ true → is_key b k ≡ true → is_before a k ≡ true
before_same a b k p q = grind (arith, nat_tests)

same_not_after : (a k : Key) → is_key a k ≡ true → is_before k a ≡ false
same_not_after a k p = grind (arith, nat_tests)

same_not_before : (a k : Key) → is_key a k ≡ true → is_before a k ≡ false
same_not_before a k p = grind (arith, nat_tests)

-- a key stands at its place
pub place_here : (k : Key) (xs : List KeyCount) (j : ℕ) (d : KeyCount) → AreInOrder xs → j < length xs →
    is_key (get_or xs j d).key k ≡ true → j ≡ place k xs
place_here k [] j d o h p = absurd (omega arith)
place_here k (x ∷ xs) zero d o h p = rw (same_not_before x.key k p) refl
place_here k (x ∷ xs) (suc j) d o h p =
    let rest : j ≡ place k xs = place_here k xs j d o.1 (omega arith) p in
    let first : is_before x.key k ≡ true = before_same x.key (get_or xs j d).key k (before_all_at x.key xs j d o.0 (omega arith)) p in
    rw first (ap suc rest)

-- where the last key is before another, that one's place is the end
pub place_at_end : (k : Key) (xs : List KeyCount) (d : KeyCount) → AreInOrder xs → 0 < length xs →
    is_before (get_or xs (length xs - 1) d).key k ≡ true → length xs ≡ place k xs
place_at_end k xs d o l p =
    let above : length xs - 1 < place k xs = place_above k xs (length xs - 1) d o (omega arith) p in
    let within = place_within k xs in
    omega arith

before_all_after : (a b : Key) (xs : List KeyCount) → is_before a b ≡ true → IsBeforeAll b xs → IsBeforeAll a xs
before_all_after a b [] p h = tt
before_all_after a b (x ∷ xs) p h = (before_after a b x.key p h.0, before_all_after a b xs p h.1)

before_all_same : (k a : Key) (xs : List KeyCount) → is_key k a ≡ true → IsBeforeAll a xs → IsBeforeAll k xs
before_all_same k a [] p h = tt
before_all_same k a (x ∷ xs) p h = (same_before k a x.key p h.0, before_all_same k a xs p h.1)

before_all_with : (a k : Key) (xs : List KeyCount) → is_before a k ≡ true → IsBeforeAll a xs → IsBeforeAll a (with_count k xs)
before_all_with a k [] p h = (p, tt)
before_all_with a k (x ∷ xs) p h = go (is_before x.key k) (is_before k x.key) (before_all_with a k xs p h.1) where
  go : (b c : Bool) → IsBeforeAll a (with_count k xs) → IsBeforeAll a (if b then x ∷ with_count k xs else (if c then no_count k ∷ x ∷ xs else x ∷ xs))
  go true c rest = (h.0, rest)
  go false true rest = (p, h)
  go false false rest = h

pub with_in_order : (k : Key) (xs : List KeyCount) → AreInOrder xs → AreInOrder (with_count k xs)
with_in_order k [] o = (tt, tt)
with_in_order k (x ∷ xs) o = go (is_before x.key k) refl (is_before k x.key) refl (with_in_order k xs o.1) where
  go : (b : Bool) → is_before x.key k ≡ b → (c : Bool) → is_before k x.key ≡ c → AreInOrder (with_count k xs) →
      AreInOrder (if b then x ∷ with_count k xs else (if c then no_count k ∷ x ∷ xs else x ∷ xs))
  go true p c q rest = (before_all_with x.key k xs p o.0, rest)
  go false p true q rest = ((q, before_all_after k x.key xs q o.0), o)
  go false p false q rest = o

before_all_raised : (a k : Key) (d : Dir) (xs : List KeyCount) → IsBeforeAll a xs → IsBeforeAll a (raised_at k d xs)
before_all_raised a k d [] h = tt
before_all_raised a k d (x ∷ xs) h = (go (is_key k x.key) d, before_all_raised a k d xs h.1) where
  go : (b : Bool) (d : Dir) → is_before a (if b then raised d x else x).key ≡ true
  go true Up = h.0
  go true Down = h.0
  go false d = h.0

raised_key : (b : Bool) (d : Dir) (x : KeyCount) → (if b then raised d x else x).key ≡ x.key
raised_key true Up x = refl
raised_key true Down x = refl
raised_key false d x = refl

pub raised_in_order : (k : Key) (d : Dir) (xs : List KeyCount) → AreInOrder xs → AreInOrder (raised_at k d xs)
raised_in_order k d [] o = tt
raised_in_order k d (x ∷ xs) o =
    (rw (raised_key (is_key k x.key) d x) (before_all_raised x.key k d xs o.0), raised_in_order k d xs o.1)

pub counted_in_order : (k : Key) (d : Dir) (done : Bool) (xs : List KeyCount) → AreInOrder xs → AreInOrder (counted k d done xs)
counted_in_order k d true xs o = raised_in_order k d (with_count k xs) (with_in_order k xs o)
counted_in_order k d false xs o = with_in_order k xs o

-- a list that has the key
pub with_there : (k : Key) (xs : List KeyCount) (d : KeyCount) → place k xs < length xs →
    is_before k (get_or xs (place k xs) d).key ≡ false → with_count k xs ≡ xs
with_there k [] d h p = absurd (omega arith)
with_there k (x ∷ xs) d h p = go (with_there k xs d) (is_before x.key k) refl h p where
  go : (place k xs < length xs → is_before k (get_or xs (place k xs) d).key ≡ false → with_count k xs ≡ xs) →
      (b : Bool) → is_before x.key k ≡ b → (if b then suc (place k xs) else 0) < suc (length xs) →
      is_before k (get_or (x ∷ xs) (if b then suc (place k xs) else 0) d).key ≡ false →
      (if b then x ∷ with_count k xs else (if is_before k x.key then no_count k ∷ x ∷ xs else x ∷ xs)) ≡ x ∷ xs
  go rest true e h p = ap (λ ys. x ∷ ys) (rest (omega arith) p)
  go rest false e h p = rw p refl

-- one that hasn't
pub with_new : (k : Key) (xs : List KeyCount) (d : KeyCount) →
    (place k xs < length xs → is_before k (get_or xs (place k xs) d).key ≡ true) →
    with_count k xs ≡ insert xs (place k xs) (no_count k)
with_new k [] d h = refl
with_new k (x ∷ xs) d h = go (with_new k xs d) (is_before x.key k) refl h where
  go : ((place k xs < length xs → is_before k (get_or xs (place k xs) d).key ≡ true) →
      with_count k xs ≡ insert xs (place k xs) (no_count k)) →
      (b : Bool) → is_before x.key k ≡ b →
      ((if b then suc (place k xs) else 0) < suc (length xs) →
      is_before k (get_or (x ∷ xs) (if b then suc (place k xs) else 0) d).key ≡ true) →
      (if b then x ∷ with_count k xs else (if is_before k x.key then no_count k ∷ x ∷ xs else x ∷ xs))
      ≡ insert (x ∷ xs) (if b then suc (place k xs) else 0) (no_count k)
  go rest true e h = ap (λ ys. x ∷ ys) (rest (λ l. h (omega arith)))
  go rest false e h = rw (h (omega arith)) refl

raised_after : (k : Key) (d : Dir) (xs : List KeyCount) → IsBeforeAll k xs → raised_at k d xs ≡ xs
raised_after k d [] h = refl
raised_after k d (x ∷ xs) h = rw (before_not_key k x.key h.0, raised_after k d xs h.1) refl

-- In a list that rises and has the key at its place, that place alone is raised.
pub raised_set : (k : Key) (d : Dir) (xs : List KeyCount) (z : KeyCount) → AreInOrder xs → place k xs < length xs →
    is_before k (get_or xs (place k xs) z).key ≡ false →
    raised_at k d xs ≡ set xs (place k xs) (raised d (get_or xs (place k xs) z))
raised_set k d [] z o h p = absurd (omega arith)
raised_set k d (x ∷ xs) z o h p = go (raised_set k d xs z o.1) (is_before x.key k) refl h p where
  go : (place k xs < length xs → is_before k (get_or xs (place k xs) z).key ≡ false →
      raised_at k d xs ≡ set xs (place k xs) (raised d (get_or xs (place k xs) z))) →
      (b : Bool) → is_before x.key k ≡ b → (if b then suc (place k xs) else 0) < suc (length xs) →
      is_before k (get_or (x ∷ xs) (if b then suc (place k xs) else 0) z).key ≡ false →
      raised_at k d (x ∷ xs)
      ≡ set (x ∷ xs) (if b then suc (place k xs) else 0) (raised d (get_or (x ∷ xs) (if b then suc (place k xs) else 0) z))
  go rest true e h p = rw (after_not_key k x.key e) (ap (λ ys. x ∷ ys) (rest (omega arith) p))
  go rest false e h p =
      let here : is_key k x.key ≡ true = neither k x.key p e in
      rw (here, raised_after k d xs (before_all_same k x.key xs here o.0)) refl

-- the place is kept, and the key stands there
pub place_with : (k : Key) (xs : List KeyCount) → place k (with_count k xs) ≡ place k xs
place_with k [] = rw (before_self k) refl
place_with k (x ∷ xs) = go (place_with k xs) (is_before x.key k) refl (is_before k x.key) refl where
  go : place k (with_count k xs) ≡ place k xs → (b : Bool) → is_before x.key k ≡ b → (c : Bool) → is_before k x.key ≡ c →
      place k (if b then x ∷ with_count k xs else (if c then no_count k ∷ x ∷ xs else x ∷ xs))
      ≡ (if b then suc (place k xs) else 0)
  go rest true p c q = rw p (ap suc rest)
  go rest false p true q = rw (before_self k) refl
  go rest false p false q = rw p refl

pub with_has : (k : Key) (xs : List KeyCount) (d : KeyCount) →
    (place k xs < length (with_count k xs)) × (is_before k (get_or (with_count k xs) (place k xs) d).key ≡ false)
with_has k [] d = (omega arith, before_self k)
with_has k (x ∷ xs) d = go (is_before x.key k) refl (is_before k x.key) refl (with_has k xs d) where
  go : (b : Bool) → is_before x.key k ≡ b → (c : Bool) → is_before k x.key ≡ c →
      ((place k xs < length (with_count k xs)) × (is_before k (get_or (with_count k xs) (place k xs) d).key ≡ false)) →
      ((if b then suc (place k xs) else 0)
      < length (if b then x ∷ with_count k xs else (if c then no_count k ∷ x ∷ xs else x ∷ xs)))
      × (is_before k
      (get_or (if b then x ∷ with_count k xs else (if c then no_count k ∷ x ∷ xs else x ∷ xs))
      (if b then suc (place k xs) else 0) d).key
      ≡ false)
  go true p c q rest = (omega (arith, rest.0), rest.1)
  go false p true q rest = (omega arith, before_self k)
  go false p false q rest = (omega arith, q)

-- an entry that is done raises the count at the key's place
pub counted_set : (k : Key) (d : Dir) (xs : List KeyCount) (z : KeyCount) → AreInOrder xs →
    counted k d true xs ≡ set (with_count k xs) (place k xs) (raised d (get_or (with_count k xs) (place k xs) z))
counted_set k d xs z o =
    let has : (place k xs < length (with_count k xs)) × (is_before k (get_or (with_count k xs) (place k xs) z).key ≡ false) = with_has k xs z in
    rw (← place_with k xs)
    (raised_set k d (with_count k xs) z (with_in_order k xs o) (rw (place_with k xs) has.0) (rw (place_with k xs) has.1))

-- the same, of a place and an element that code has at hand
pub there_at : (k : Key) (xs : List KeyCount) (at : ℕ) (z : KeyCount) → at ≡ place k xs → at < length xs →
    z ≡ get_or xs at z → is_before k z.key ≡ false → xs ≡ with_count k xs
there_at k xs at z p l e b =
    let here : get_or xs (place k xs) z ≡ z = cc in
    sym (with_there k xs z (rw (← p) l) (rw here b))

pub same_at : (k : Key) (xs : List KeyCount) (at : ℕ) (z : KeyCount) → AreInOrder xs → at < length xs →
    z ≡ get_or xs at z → is_key z.key k ≡ true → at ≡ place k xs
same_at k xs at z o l e b = place_here k xs at z o l (rw (← e) b)

pub same_there : (k : Key) (xs : List KeyCount) (at : ℕ) (z : KeyCount) → AreInOrder xs → at < length xs →
    z ≡ get_or xs at z → is_key z.key k ≡ true → xs ≡ with_count k xs
same_there k xs at z o l e b = there_at k xs at z (same_at k xs at z o l e b) l e (same_not_after z.key k b)

pub new_between : (k : Key) (xs : List KeyCount) (at : ℕ) (z : KeyCount) → at ≡ place k xs → z ≡ get_or xs at z →
    is_before k z.key ≡ true → with_count k xs ≡ insert xs at (no_count k)
new_between k xs at z p e b =
    let here : get_or xs (place k xs) z ≡ z = cc in
    rw p (with_new k xs z (λ l. rw here b))

pub new_end : (k : Key) (xs : List KeyCount) (at : ℕ) → at ≡ place k xs → length xs ≤ at →
    with_count k xs ≡ insert xs at (no_count k)
new_end k xs at p l =
    let out : length xs ≤ place k xs = rw (← p) l in
    rw p (with_new k xs (no_count k) (λ h. absurd (omega arith)))

pub counted_at : (k : Key) (d : Dir) (xs ys : List KeyCount) (at : ℕ) (z : KeyCount) → AreInOrder xs → at ≡ place k xs →
    ys ≡ with_count k xs → z ≡ get_or ys at z → set ys at (raised d z) ≡ counted k d true xs
counted_at k d xs ys at z o p q e =
    let here : get_or (with_count k xs) (place k xs) z ≡ z = cc in
    let all = counted_set k d xs z o in
    rw (q, p) (rw here at (sym all))
