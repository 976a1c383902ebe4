-- The keys in force are in order, and are those that count as in force.
use Rattle.std.proofs.Common.{◌≡◌, ℕ, zero, suc, ◌+◌, ◌<◌, Bool, true, false, cond, ◌==◌, if◌then◌else◌, None, List, [], ◌∷◌, fold, filter, length, get_or, refl, sym, ap, ◌∙◌, arith}
use Rattle.std.specs.Prelude.{All, Contains}
use Rattle.std.proofs.lemmas.Bool.Decides.{nat_tests}
use Rattle.std.proofs.lemmas.Bool.{true≢false, ltb-true, lt-ltb}
use Rattle.std.proofs.lemmas.List.Elements.{All-contains, filter_passes}
use Rattle.std.proofs.lemmas.List.Kept.{AllPairs-cons, AllPairs-filter}
use Rattle.hp_states.specs.declared.dir.Dir.{Dir}
use Rattle.hp_states.specs.declared.dir.Dir.TheVariants.{Up}
use Rattle.hp_event.specs.declared.key.Key.{Key}
use Rattle.hp_event.specs.declared.event.Event.{Event}
use Rattle.hp_event.specs.declared.event.Event.TheVariants.{Call}
use Rattle.hp_event.specs.declared.head.Head.{Head}
use Rattle.hp_model.specs.InForce.{is_done_entry, done_entries, ups, downs}
use Rattle.hp_model.specs.Walks.{walk}
use Rattle.hp_model.specs.Registrations.{registration}
use Rattle.hp_model.specs.Net.{is_before, with_key, entered_step, entered, is_key_in_force, keys_in_force}
use Rattle.hp_model.specs.Lawful.{IsLawful}
use Rattle.hp_model.specs.Keys.{AreRising, HasKey, AreKeysInForce, AreKeysAtRest}
use Rattle.hp_model.proofs.Counts.{done_entries-none, done_entries-cons}
use Rattle.hp_model.proofs.KeyOrder.{before_after}
use Rattle.hp_model.proofs.Induction.{kept}
use Rattle.hp_model.proofs.HeadlineProof.{at_rest}

-- a key is before each of a list, and the keys rise, each by recursion
abbrev AllAfter : Key → List Key → Type 0
AllAfter k [] = Unit {0}
AllAfter k (x ∷ xs) = (is_before k x ≡ true) × AllAfter k xs

abbrev Rising : List Key → Type 0
Rising [] = Unit {0}
Rising (x ∷ xs) = AllAfter x xs × Rising xs

after_all : (k : Key) (xs : List Key) → AllAfter k xs → All (λ x. is_before k x ≡ true) xs
after_all k [] h i d lt = absurd (omega arith)
after_all k (x ∷ xs) h zero d lt = h.0
after_all k (x ∷ xs) h (suc i) d lt = after_all k xs h.1 i d (omega arith)

rising_pairs : (xs : List Key) → Rising xs → AreRising xs
rising_pairs [] h = λ i j d lt within. absurd (omega arith)
rising_pairs (x ∷ xs) h = AllPairs-cons (λ k x. is_before k x ≡ true) x xs (after_all x xs h.0) (rising_pairs xs h.1)

after_more : (a b : Key) (xs : List Key) → is_before a b ≡ true → AllAfter b xs → AllAfter a xs
after_more a b [] p h = tt
after_more a b (x ∷ xs) p h = (before_after a b x p h.0, after_more a b xs p h.1)

-- a key put into a rising list
after_with : (a k : Key) (xs : List Key) → is_before a k ≡ true → AllAfter a xs → AllAfter a (with_key k xs)
after_with a k [] p h = (p, tt)
after_with a k (x ∷ xs) p h = go (is_before x k) (is_before k x) (after_with a k xs p h.1)
  where
    go : (b d : Bool) → AllAfter a (with_key k xs) →
        AllAfter a (if b then x ∷ with_key k xs else (if d then k ∷ x ∷ xs else x ∷ xs))
    go true d rest = (h.0, rest)
    go false true rest = (p, h)
    go false false rest = h

rising_with : (k : Key) (xs : List Key) → Rising xs → Rising (with_key k xs)
rising_with k [] h = (tt, tt)
rising_with k (x ∷ xs) h = go (is_before x k) refl (is_before k x) refl (rising_with k xs h.1)
  where
    go : (b : Bool) → is_before x k ≡ b → (d : Bool) → is_before k x ≡ d → Rising (with_key k xs) →
        Rising (if b then x ∷ with_key k xs else (if d then k ∷ x ∷ xs else x ∷ xs))
    go true p d q rest = (after_with x k xs p h.0, rest)
    go false p true q rest = ((q, after_more k x xs q h.0), h)
    go false p false q rest = h

rising_step : (c : ℕ) (found : List Key) (e : Event) → Rising found → Rising (entered_step c found e)
rising_step c found (Call seat cpu state inst dir how) h = go (cpu == c)
  where
    go : (b : Bool) → Rising (if b then with_key (record { state = state; inst = inst }) found else found)
    go true = rising_with (record { state = state; inst = inst }) found h
    go false = h
rising_step c found e h = h

rising_from : (c : ℕ) (found : List Key) (events : List Event) → Rising found → Rising (fold (entered_step c) found events)
rising_from c found [] h = h
rising_from c found (e ∷ es) h = rising_from c (entered_step c found e) es (rising_step c found e h)

-- and what it has then
here : (x : Key) (xs : List Key) → Contains (x ∷ xs) x
here x xs = (0, omega arith, refl)

there : (k x : Key) (xs : List Key) → Contains xs k → Contains (x ∷ xs) k
there k x xs h = let within = h.1 in (suc h.0, omega arith, h.2)

same_parts : (s t i j : ℕ) → s ≡ t → i ≡ j → ◌≡◌ {A = Key} (record { state = s; inst = i }) (record { state = t; inst = j })
same_parts s t i j p q = rw (p, q) refl

same_key : (k x : Key) → is_before x k ≡ false → is_before k x ≡ false → x ≡ k
same_key k x p q =
    let states : x.state ≡ k.state = grind (arith, nat_tests) in
    let insts : x.inst ≡ k.inst = grind (arith, nat_tests) in
    same_parts x.state k.state x.inst k.inst states insts

with_has : (k : Key) (xs : List Key) → Contains (with_key k xs) k
with_has k [] = here k []
with_has k (x ∷ xs) = go (is_before x k) refl (is_before k x) refl (with_has k xs)
  where
    go : (b : Bool) → is_before x k ≡ b → (d : Bool) → is_before k x ≡ d → Contains (with_key k xs) k →
        Contains (if b then x ∷ with_key k xs else (if d then k ∷ x ∷ xs else x ∷ xs)) k
    go true p d q rest = there k x (with_key k xs) rest
    go false p true q rest = here k (x ∷ xs)
    go false p false q rest = (0, omega arith, same_key k x p q)

with_keeps : (j k : Key) (xs : List Key) → Contains xs j → Contains (with_key k xs) j
with_keeps j k [] h = let none = h.1 in absurd (omega arith)
with_keeps j k (x ∷ xs) h = go (is_before x k) (is_before k x) (with_keeps j k xs) h.0 h.1 h.2
  where
    go : (b d : Bool) → (Contains xs j → Contains (with_key k xs) j) → (n : ℕ) → n < length (x ∷ xs) → get_or (x ∷ xs) n j ≡ j →
        Contains (if b then x ∷ with_key k xs else (if d then k ∷ x ∷ xs else x ∷ xs)) j
    go true d rest zero within is = (0, omega arith, is)
    go true d rest (suc n) within is = there j x (with_key k xs) (rest (n, omega arith, is))
    go false true rest n within is = there j k (x ∷ xs) (n, within, is)
    go false false rest n within is = (n, within, is)

step_keeps : (c : ℕ) (k : Key) (found : List Key) (e : Event) → Contains found k → Contains (entered_step c found e) k
step_keeps c k found (Call seat cpu state inst dir how) h = go (cpu == c)
  where
    go : (b : Bool) → Contains (if b then with_key (record { state = state; inst = inst }) found else found) k
    go true = with_keeps k (record { state = state; inst = inst }) found h
    go false = h
step_keeps c k found e h = h

keeps_from : (c : ℕ) (k : Key) (found : List Key) (events : List Event) → Contains found k →
    Contains (fold (entered_step c) found events) k
keeps_from c k found [] h = h
keeps_from c k found (e ∷ es) h = keeps_from c k (entered_step c found e) es (step_keeps c k found e h)

-- a key with an entry that is done is there
step_has : (c s i : ℕ) (d : Dir) (found : List Key) (e : Event) → is_done_entry c s i d e ≡ true →
    HasKey (entered_step c found e) s i
step_has c s i d found (Call seat cpu state inst dir how) h =
    let on : (cpu == c) ≡ true = grind (arith, nat_tests) in
    let at : state ≡ s = grind (arith, nat_tests) in
    let of : inst ≡ i = grind (arith, nat_tests) in
    rw (on, at, of) (with_has (record { state = s; inst = i }) found)
step_has c s i d found e h = cc

has_from : (c s i : ℕ) (d : Dir) (found : List Key) (events : List Event) → 0 < done_entries c s i d events →
    HasKey (fold (entered_step c) found events) s i
has_from c s i d found [] h = absurd (omega (arith, done_entries-none c s i d))
has_from c s i d found (e ∷ es) h = go (is_done_entry c s i d e) refl (has_from c s i d (entered_step c found e) es) (rw done_entries-cons at h)
  where
    go : (b : Bool) → is_done_entry c s i d e ≡ b →
        (0 < done_entries c s i d es → HasKey (fold (entered_step c) (entered_step c found e) es) s i) →
        0 < cond b 1 0 + done_entries c s i d es → HasKey (fold (entered_step c) (entered_step c found e) es) s i
    go true p rest more = keeps_from c (record { state = s; inst = i }) (entered_step c found e) es (step_has c s i d found e p)
    go false p rest more = rest (omega arith)

-- the elements that pass
passes_keeps : (p : Key → Bool) (k : Key) (xs : List Key) → Contains xs k → p k ≡ true → Contains (filter p xs) k
passes_keeps p k [] h t = let none = h.1 in absurd (omega arith)
passes_keeps p k (x ∷ xs) h t = go (p x) refl (λ c. passes_keeps p k xs c t) h.0 h.1 h.2
  where
    go : (b : Bool) → p x ≡ b → (Contains xs k → Contains (filter p xs) k) → (n : ℕ) → n < length (x ∷ xs) →
        get_or (x ∷ xs) n k ≡ k → Contains (if b then x ∷ filter p xs else filter p xs) k
    go true q rest zero within is = (0, omega arith, is)
    go false q rest zero within is = absurd (true≢false (sym t ∙ (sym (ap p is) ∙ q)))
    go true q rest (suc n) within is = there k x (filter p xs) (rest (n, omega arith, is))
    go false q rest (suc n) within is = rest (n, omega arith, is)

pub keys_rise_and_count : (events : List Event) (c : ℕ) → AreKeysInForce c events (keys_in_force c events)
unfolding entered keys_in_force
keys_rise_and_count events c = record {
  rising = AllPairs-filter (λ k x. is_before k x ≡ true) (is_key_in_force c events) (entered c events)
      (rising_pairs (entered c events) (rising_from c [] events tt));
  in_force = λ s i.
      let k : Key = record { state = s; inst = i } in (
        λ h.
            ltb-true (downs c s i events) (ups c s i events)
            (All-contains (λ x. is_key_in_force c events x ≡ true) (keys_in_force c events) k
            (filter_passes (is_key_in_force c events) (entered c events)) h),
        λ h.
            passes_keeps (is_key_in_force c events) k (entered c events) (has_from c s i Up [] events (omega arith))
            (lt-ltb (downs c s i events) (ups c s i events) h),
      );
}

pub keys_at_rest : (head : Head) (events : List Event) (c : ℕ) → IsLawful head events → walk c events ≡ None →
    registration events ≡ None → AreKeysAtRest head c events (keys_in_force c events)
keys_at_rest head events c lawful w r =
    let all = keys_rise_and_count events c in
    record {
      rising = all.rising;
      registered = λ s i.
          let agree = at_rest head events c s i (kept head events lawful) w r in
          (λ h. agree.0 ((all.in_force s i).0 h), λ h. (all.in_force s i).1 (agree.1 h));
    }
