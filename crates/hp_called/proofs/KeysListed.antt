-- The keys in force on a processor, as a list: those whose rows have it, in order, are those that counting gives.
use Rattle.std.proofs.Common.{◌≡◌, ℕ, zero, suc, ◌+◌, ◌<◌, Bool, true, false, cond, ◌&&◌, ◌||◌, eqb, ltb, Some, List, [], ◌∷◌, ◌++◌, length, get_or, take, slice_get, sum_by, refl, ap, sym, subst, ◌∙◌, arith}
use Rattle.std.specs.Prelude.{Contains, IsPermutation}
use Rattle.std.specs.List.{IsDistinct, AllByRecursion}
use Rattle.std.specs.List.Sorted.{IsSortedBy}
use Rattle.std.specs.Ordering.{is_lt, ordering_then, nat_cmp}
use Rattle.std.specs.declared.cmp.Ordering.TheVariants.{Less, Equal, Greater}
use Rattle.std.specs.Map.{keys_of, lookup}
use Rattle.std.proofs.lemmas.Bool.Decides.{nat_tests}
use Rattle.std.proofs.lemmas.Bool.{true≢false, eq-eqb, eqb-true, ltb-true, lt-ltb, and_parts}
use Rattle.std.proofs.lemmas.List.Sorted.{sum_by-IsPermutation}
use Rattle.std.proofs.lemmas.List.Sums.{sum_by-cons}
use Rattle.std.proofs.lemmas.Map.Keys.{IsDistinct-IsPermutation}
use Rattle.hp_states.specs.CpuSets.{has}
use Rattle.hp_states.specs.declared.cpu_set.CpuSet.{CpuSet}
use Rattle.hp_states.proofs.Basics.{none_some, same_some}
use Rattle.hp_event.specs.declared.event.Event.{Event}
use Rattle.hp_event.specs.declared.key.Key.{Key}
use Rattle.hp_model.specs.InForce.{ups, downs}
use Rattle.hp_model.specs.Keys.{AreRising, AreKeysInForce}
use Rattle.hp_model.specs.Net.{is_before, is_key_in_force, keys_in_force}
use Rattle.hp_model.proofs.KeyLaw.{keys_rise_and_count}
use Rattle.hp_model.proofs.KeyOrder.{before_after, before_not_after}
use Rattle.hp_called.specs.declared.rows.RowKey.{RowKey}
use Rattle.hp_called.specs.Listed.{key_of, keys_on}
use Rattle.hp_called.specs.Rows.{same, same_row, row_key, is_in}

-- ---- one row more

pub keys_on_more : (c : ℕ) (es : List (RowKey × CpuSet)) (n : ℕ) (e : RowKey × CpuSet) → slice_get es n ≡ Some e →
    keys_on c (take (n + 1) es) ≡ cond (has e.1 c) (keys_on c (take n es) ++ key_of e.0 ∷ []) (keys_on c (take n es))
keys_on_more c [] n e at = absurd (none_some e at)
keys_on_more c (x ∷ es) zero e at =
    let same : x ≡ e = same_some x e at in
    subst (λ y. keys_on c (x ∷ []) ≡ cond (has y.1 c) (key_of y.0 ∷ []) []) same refl
keys_on_more c (x ∷ es) (suc n) e at =
    let next : suc n + 1 ≡ suc (n + 1) = omega arith in
    rw next (go (has x.1 c) (has e.1 c) (keys_on_more c es n e at))
  where
    go : (a b : Bool) → keys_on c (take (n + 1) es) ≡ cond b (keys_on c (take n es) ++ key_of e.0 ∷ []) (keys_on c (take n es)) →
        cond a (key_of x.0 ∷ keys_on c (take (n + 1) es)) (keys_on c (take (n + 1) es))
        ≡ cond b (cond a (key_of x.0 ∷ keys_on c (take n es)) (keys_on c (take n es)) ++ key_of e.0 ∷ [])
        (cond a (key_of x.0 ∷ keys_on c (take n es)) (keys_on c (take n es)))
    go true true h = ap (λ ks. key_of x.0 ∷ ks) h
    go true false h = ap (λ ks. key_of x.0 ∷ ks) h
    go false true h = h
    go false false h = h

-- ---- whether a key is in a list

abbrev pub member : Key → List Key → Bool
member k [] = false
member k (x ∷ xs) = same k x || member k xs

key_parts : (s t i j : ℕ) → s ≡ t → i ≡ j → ◌≡◌ {A = Key} (record { state = s; inst = i }) (record { state = t; inst = j })
key_parts s t i j p q = rw (p, q) refl

one_key : (a b : Key) → same a b ≡ true → a ≡ b
one_key a b h =
    let p = and_parts (eqb a.state b.state) (eqb a.inst b.inst) h in
    key_parts a.state b.state a.inst b.inst (eqb-true a.state b.state p.0) (eqb-true a.inst b.inst p.1)

same_self : (k : Key) → same k k ≡ true
same_self k = rw (eq-eqb k.state k.state refl, eq-eqb k.inst k.inst refl) refl

eqb_turned : (m n : ℕ) → eqb m n ≡ eqb n m
eqb_turned m n = grind (arith, nat_tests)

same_turned : (a b : Key) → same a b ≡ same b a
same_turned a b = rw (eqb_turned a.state b.state, eqb_turned a.inst b.inst) refl

-- it is where it occurs
abbrev count : Key → List Key → ℕ
count k xs = sum_by (λ x. cond (same k x) 1 0) xs

counted : (k : Key) (xs : List Key) → member k xs ≡ ltb 0 (count k xs)
counted k [] = refl
counted k (x ∷ xs) = rw (sum_by-cons (λ y. cond (same k y) 1 0) x xs) (go (same k x) (counted k xs))
  where
    go : (b : Bool) → member k xs ≡ ltb 0 (count k xs) → (b || member k xs) ≡ ltb 0 (cond b 1 0 + count k xs)
    go true h = sym (grind (arith, nat_tests))
    go false h = h ∙ ap (λ n. ltb 0 n) (omega arith)

pub member_moved : (k : Key) (xs ys : List Key) → IsPermutation xs ys → member k ys ≡ member k xs
member_moved k xs ys h =
    counted k ys ∙ (ap (λ n. ltb 0 n) (sum_by-IsPermutation (λ x. cond (same k x) 1 0) xs ys h) ∙ sym (counted k xs))

-- in a list of counted keys
contains_member : (k : Key) (xs : List Key) → Contains xs k → member k xs ≡ true
contains_member k [] h = let none = h.1 in absurd (omega (arith, none))
contains_member k (x ∷ xs) h = go (contains_member k xs) h.0 h.1 h.2
  where
    or_so : (a b : Bool) → b ≡ true → (a || b) ≡ true
    or_so true b h = refl
    or_so false b h = h

    go : (Contains xs k → member k xs ≡ true) → (n : ℕ) → n < length (x ∷ xs) → get_or (x ∷ xs) n k ≡ k → (same k x || member k xs) ≡ true
    go more zero within is = rw (is, same_self k) refl
    go more (suc n) within is = or_so (same k x) (member k xs) (more (n, omega (arith, within), is))

member_contains : (k : Key) (xs : List Key) → member k xs ≡ true → Contains xs k
member_contains k [] h = absurd (true≢false (sym h))
member_contains k (x ∷ xs) h = go (same k x) refl h (member_contains k xs)
  where
    go : (b : Bool) → same k x ≡ b → (b || member k xs) ≡ true → (member k xs ≡ true → Contains xs k) → Contains (x ∷ xs) k
    go true e h more = (0, omega arith, sym (one_key k x e))
    go false e h more = let m = more h in let within = m.1 in (suc m.0, omega (arith, within), m.2)

member_in_force : (c : ℕ) (events : List Event) (k : Key) → member k (keys_in_force c events) ≡ is_key_in_force c events k
member_in_force c events k = go (member k (keys_in_force c events)) (is_key_in_force c events k) refl refl
  where
    all : AreKeysInForce c events (keys_in_force c events)
    all = keys_rise_and_count events c

    go : (a b : Bool) → member k (keys_in_force c events) ≡ a → is_key_in_force c events k ≡ b → a ≡ b
    go true true p q = refl
    go false false p q = refl
    go true false p q =
        let force = (all.in_force k.state k.inst).0 (member_contains k (keys_in_force c events) p) in
        absurd (true≢false (sym (lt-ltb (downs c k.state k.inst events) (ups c k.state k.inst events) force) ∙ q))
    go false true p q =
        let there = (all.in_force k.state k.inst).1 (ltb-true (downs c k.state k.inst events) (ups c k.state k.inst events) q) in
        absurd (true≢false (sym (contains_member k (keys_in_force c events) there) ∙ p))

-- ---- the keys whose rows have a processor

far_from : (c : ℕ) (k : RowKey) (es : List (RowKey × CpuSet)) → AllByRecursion (λ y. same_row k y ≡ false) (keys_of es) →
    AllByRecursion (λ y. same (key_of k) y ≡ false) (keys_on c es)
far_from c k [] h = tt
far_from c k (e ∷ es) h = go (has e.1 c) (far_from c k es h.1)
  where
    go : (b : Bool) → AllByRecursion (λ y. same (key_of k) y ≡ false) (keys_on c es) →
        AllByRecursion (λ y. same (key_of k) y ≡ false) (cond b (key_of e.0 ∷ keys_on c es) (keys_on c es))
    go true r = (h.0, r)
    go false r = r

distinct_on : (c : ℕ) (es : List (RowKey × CpuSet)) → IsDistinct same_row (keys_of es) → IsDistinct same (keys_on c es)
unfolding IsDistinct
distinct_on c [] h = tt
distinct_on c (e ∷ es) h = go (has e.1 c) (distinct_on c es h.1)
  where
    go : (b : Bool) → IsDistinct same (keys_on c es) → IsDistinct same (cond b (key_of e.0 ∷ keys_on c es) (keys_on c es))
    go true r = (far_from c e.0 es h.0, r)
    go false r = r

far_member : (k : Key) (ks : List Key) → AllByRecursion (λ y. same k y ≡ false) ks → member k ks ≡ false
far_member k [] h = refl
far_member k (x ∷ xs) h = rw h.0 (far_member k xs h.1)

-- a key is among them where its row has the processor
member_on : (c : ℕ) (es : List (RowKey × CpuSet)) (k : Key) → IsDistinct same_row (keys_of es) →
    member k (keys_on c es) ≡ is_in (lookup (same_row (row_key k)) es) c
unfolding IsDistinct
member_on c [] k h = refl
member_on c (e ∷ es) k h = go (has e.1 c) (same k (key_of e.0)) refl refl (member_on c es k h.1)
  where
    none : same k (key_of e.0) ≡ true → member k (keys_on c es) ≡ false
    none s = subst (λ q. member q (keys_on c es) ≡ false) (sym (one_key k (key_of e.0) s)) (far_member (key_of e.0) (keys_on c es) (far_from c e.0 es h.0))

    go : (b s : Bool) → has e.1 c ≡ b → same k (key_of e.0) ≡ s → member k (keys_on c es) ≡ is_in (lookup (same_row (row_key k)) es) c →
        member k (cond b (key_of e.0 ∷ keys_on c es) (keys_on c es)) ≡ is_in (cond s (Some e.1) (lookup (same_row (row_key k)) es)) c
    go true true p q r = rw q (sym p)
    go true false p q r = rw q r
    go false true p q r = none q ∙ sym p
    go false false p q r = r

-- ---- two rising lists with the same keys are one

abbrev AllAfter : Key → List Key → Type 0
AllAfter k [] = Unit {0}
AllAfter k (x ∷ xs) = (is_before k x ≡ true) × AllAfter k xs

abbrev pub Rising : List Key → Type 0
Rising [] = Unit {0}
Rising (x ∷ xs) = AllAfter x xs × Rising xs

after_more : (a b : Key) (xs : List Key) → is_before a b ≡ true → AllAfter b xs → AllAfter a xs
after_more a b [] p h = tt
after_more a b (x ∷ xs) p h = (before_after a b x p h.0, after_more a b xs p h.1)

not_same : (k x : Key) → is_before k x ≡ true → same k x ≡ false
not_same k x h = grind (arith, nat_tests)

none_after : (k : Key) (xs : List Key) → AllAfter k xs → member k xs ≡ false
none_after k [] h = refl
none_after k (x ∷ xs) h = rw (not_same k x h.0) (none_after k xs h.1)

before_member : (k x : Key) (xs : List Key) → AllAfter k xs → member x xs ≡ true → is_before k x ≡ true
before_member k x [] h m = absurd (true≢false (sym m))
before_member k x (y ∷ ys) h m = go (same x y) refl m (before_member k x ys h.1)
  where
    go : (b : Bool) → same x y ≡ b → (b || member x ys) ≡ true → (member x ys ≡ true → is_before k x ≡ true) → is_before k x ≡ true
    go true e m more = subst (λ z. is_before k z ≡ true) (sym (one_key x y e)) h.0
    go false e m more = more m

heads_same : (x y : Key) (xs ys : List Key) → Rising (x ∷ xs) → Rising (y ∷ ys) → ((k : Key) → member k (x ∷ xs) ≡ member k (y ∷ ys)) → x ≡ y
heads_same x y xs ys h k s = go (same x y) refl
  where
    in_y : (same x y || member x ys) ≡ true
    in_y = sym (s x) ∙ ap (λ b. b || member x xs) (same_self x)

    in_x : (same y x || member y xs) ≡ true
    in_x = s y ∙ ap (λ b. b || member y ys) (same_self y)

    go : (b : Bool) → same x y ≡ b → x ≡ y
    go true e = one_key x y e
    go false e =
        let later : member x ys ≡ true = ap (λ b. b || member x ys) (sym e) ∙ in_y in
        let earlier : member y xs ≡ true = ap (λ b. b || member y xs) (sym (same_turned y x ∙ e)) ∙ in_x in
        let one = before_member y x ys k.0 later in
        let other = before_member x y xs h.0 earlier in
        absurd (true≢false (sym one ∙ before_not_after x y other))

tails_same : (x : Key) (xs ys : List Key) → AllAfter x xs → AllAfter x ys → ((k : Key) → member k (x ∷ xs) ≡ member k (x ∷ ys)) →
    (k : Key) → member k xs ≡ member k ys
tails_same x xs ys h g s k = go (same k x) refl (s k)
  where
    go : (b : Bool) → same k x ≡ b → (b || member k xs) ≡ (b || member k ys) → member k xs ≡ member k ys
    go true e r =
        let is = one_key k x e in
        subst (λ z. member z xs ≡ member z ys) (sym is) (none_after x xs h ∙ sym (none_after x ys g))
    go false e r = r

pub rising_same : (xs ys : List Key) → Rising xs → Rising ys → ((k : Key) → member k xs ≡ member k ys) → xs ≡ ys
rising_same [] [] h g s = refl
rising_same [] (y ∷ ys) h g s = absurd (true≢false (sym (s y ∙ ap (λ b. b || member y ys) (same_self y))))
rising_same (x ∷ xs) [] h g s = absurd (true≢false (sym (sym (s x) ∙ ap (λ b. b || member x xs) (same_self x))))
rising_same (x ∷ xs) (y ∷ ys) h g s =
    let e = heads_same x y xs ys h g s in
    let g' = subst (λ z. AllAfter z ys) (sym e) g.0 in
    let s' = subst (λ z. (k : Key) → member k (x ∷ xs) ≡ member k (z ∷ ys)) (sym e) s in
    ap (λ zs. x ∷ zs) (rising_same xs ys h.1 g.1 (tails_same x xs ys h.0 g' s')) ∙ ap (λ z. z ∷ ys) e

-- by std's words
all_after : (x : Key) (xs : List Key) → ((j : ℕ) (d : Key) → j < length xs → is_before x (get_or xs j d) ≡ true) → AllAfter x xs
all_after x [] h = tt
all_after x (y ∷ ys) h = (h 0 x (omega arith), all_after x ys (λ j d within. h (suc j) d (omega (arith, within))))

rising_from : (xs : List Key) → AreRising xs → Rising xs
rising_from [] h = tt
rising_from (x ∷ xs) h = (
  all_after x xs (λ j d within. h 0 (suc j) d (omega arith) (omega (arith, within))),
  rising_from xs (λ i j d lt within. h (suc i) (suc j) d (omega (arith, lt)) (omega (arith, within))),
)

-- keys that are sorted and differ rise
before_next : (x y : Key) → is_before y x ≡ false → same x y ≡ false → is_before x y ≡ true
before_next x y p q = grind (arith, nat_tests)

next_is : (x y : Key) (ys : List Key) → is_before y x ≡ false → same x y ≡ false → Rising (y ∷ ys) → AllAfter x (y ∷ ys)
next_is x y ys p q h = let b = before_next x y p q in (b, after_more x y ys b h.0)

pub rising_sorted : (lt : Key → Key → Bool) → ((a b : Key) → lt a b ≡ is_before a b) → (xs : List Key) → IsSortedBy lt xs → IsDistinct same xs →
    Rising xs
unfolding IsDistinct
rising_sorted lt is [] h d = tt
rising_sorted lt is (x ∷ []) h d = (tt, tt)
rising_sorted lt is (x ∷ y ∷ ys) h d =
    let rest = rising_sorted lt is (y ∷ ys) (λ k e low within. h' k e within) d.1 in
    (next_is x y ys (sym (is y x) ∙ h 0 x (omega arith) (omega arith)) d.0.0 rest, rest)
  where
    h' : (k : ℕ) (e : Key) → k + 1 < length (y ∷ ys) → lt (get_or (y ∷ ys) (k + 1) e) (get_or (y ∷ ys) k e) ≡ false
    h' k e within =
        let next : suc k + 1 ≡ suc (k + 1) = omega arith in
        let here = h (suc k) e (omega arith) (omega (arith, within)) in
        rw next at here

-- by the order of the library
abbrev pub less : Key → Key → Bool
less a b = is_lt (ordering_then (nat_cmp a.state b.state) (nat_cmp a.inst b.inst))

less_before : (a b : Key) → less a b ≡ is_before a b
less_before a b = go (ltb a.state b.state) (eqb a.state b.state) (ltb a.inst b.inst) (eqb a.inst b.inst)
  where
    go : (p q r t : Bool) → is_lt (ordering_then (cond p Less (cond q Equal Greater)) (cond r Less (cond t Equal Greater))) ≡ (p || (q && r))
    go true q r t = refl
    go false true true t = refl
    go false true false true = refl
    go false true false false = refl
    go false false r t = refl

-- ---- together

pub listed : (c : ℕ) (events : List Event) (es : List (RowKey × CpuSet)) (ys : List Key) → IsDistinct same_row (keys_of es) →
    ((k : Key) → is_in (lookup (same_row (row_key k)) es) c ≡ is_key_in_force c events k) → IsPermutation (keys_on c es) ys →
    IsSortedBy less ys → ys ≡ keys_in_force c events
listed c events es ys distinct force moved sorted =
    rising_same ys (keys_in_force c events)
    (rising_sorted less less_before ys sorted (IsDistinct-IsPermutation same same_turned (keys_on c es) ys moved (distinct_on c es distinct)))
    (rising_from (keys_in_force c events) (keys_rise_and_count events c).rising)
    (λ k. member_moved k (keys_on c es) ys moved ∙ (member_on c es k distinct ∙ (force k ∙ sym (member_in_force c events k))))
