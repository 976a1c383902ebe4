-- What is found of the processors that an upmany lists is what the journal's definitions say of them.
use Rattle.std.proofs.Common.{◌≡◌, ℕ, zero, suc, ◌+◌, ◌<◌, ◌≤◌, Bool, true, false, not, ◌&&◌, ◌||◌, cond, eqb, ltb, is_some, get_or, Option, Some, None, List, [], ◌∷◌, length, refl, sym, ap, ◌∙◌, subst, inl, inr, ◌⊎◌, arith}
use Rattle.std.specs.Prelude.{IfSome, IfNone, filter, take}
use Rattle.std.specs.List.{list_any}
use Rattle.std.proofs.lemmas.Bool.{false≢true, and_parts, ltb-true, lt-ltb, eqb-true, cases_lt}
use Rattle.std.proofs.lemmas.Bool.Decides.{nat_tests}
use Rattle.std.proofs.lemmas.List.Folds.{list_any_at, list_any_more}
use Rattle.hp_model.proofs.RoundsEnd.{in_numbers}
use Rattle.hp_states.proofs.Basics.{and_false}
use Rattle.hp_states.specs.declared.limits.TheConstants.{MAX_CPU_SET}
use Rattle.hp_states.specs.declared.cpu_set.CpuSet.{CpuSet}
use Rattle.hp_states.specs.CpuSets.{has, IsLowestFrom, HasNoneFrom}
use Rattle.hp_states.proofs.CpuSetLowest.{past}
use Rattle.hp_event.specs.declared.head.Head.{Head}
use Rattle.hp_model.specs.Listed.{listed}
use Rattle.hp_model.specs.Lists.{is_empty, occurs, among, numbers}
use Rattle.hp_model.specs.Processors.{is_possible, is_present}
use Rattle.hp_model.proofs.ListLemmas.{occurs-numbers, in_filter, into_filter, is_among, occurs_among, once_in}

same_answer : (a b : Bool) → (a ≡ true → b ≡ true) → (b ≡ true → a ≡ true) → a ≡ b
same_answer true b h k = sym (h refl)
same_answer false true h k = k refl
same_answer false false h k = refl

-- a list of which a test leaves something, and one of which it finds something
some_left : (p : ℕ → Bool) (c : ℕ) (xs : List ℕ) → p c ≡ true → 0 < occurs c xs → not (is_empty (filter p xs)) ≡ true
some_left p c xs h there = go (filter p xs) (into_filter p c xs h there)
  where
    go : (ys : List ℕ) → 0 < occurs c ys → not (is_empty ys) ≡ true
    go [] l = absurd (omega arith)
    go (y ∷ ys) l = refl

left_there : (p : ℕ → Bool) (xs : List ℕ) → not (is_empty (filter p xs)) ≡ true → (c : ℕ) × (p c ≡ true) × (0 < occurs c xs)
left_there p xs h = go (filter p xs) refl h
  where
    go : (ys : List ℕ) → filter p xs ≡ ys → not (is_empty ys) ≡ true → (c : ℕ) × (p c ≡ true) × (0 < occurs c xs)
    go [] e h = absurd (false≢true h)
    go (y ∷ ys) e h =
        let k : 0 < occurs y (filter p xs) = subst (λ zs. 0 < occurs y zs) (sym e) (once_in y ys) in
        let f = in_filter p y xs k in (y, f.0, f.1)

any_there : (p : ℕ → Bool) (c : ℕ) (xs : List ℕ) → p c ≡ true → 0 < occurs c xs → list_any p xs ≡ true
any_there p c [] h there = absurd (omega arith)
any_there p c (x ∷ xs) h there = go (eqb x c) refl there (any_there p c xs h)
  where
    or_true : (b : Bool) → (b || true) ≡ true
    or_true true = refl
    or_true false = refl

    go : (b : Bool) → eqb x c ≡ b → 0 < cond b 1 0 + occurs c xs → (0 < occurs c xs → list_any p xs ≡ true) →
        (p x || list_any p xs) ≡ true
    go true e l more = let s : p x ≡ true = ap p (eqb-true x c e) ∙ h in rw s refl
    go false e l more = let m = more (omega (arith, l)) in rw m (or_true (p x))

there_any : (p : ℕ → Bool) (xs : List ℕ) → list_any p xs ≡ true → (c : ℕ) × (p c ≡ true) × (0 < occurs c xs)
there_any p [] h = absurd (false≢true h)
there_any p (x ∷ xs) h = go (p x) refl h (there_any p xs)
  where
    go : (b : Bool) → p x ≡ b → (b || list_any p xs) ≡ true →
        (list_any p xs ≡ true → (c : ℕ) × (p c ≡ true) × (0 < occurs c xs)) → (c : ℕ) × (p c ≡ true) × (0 < occurs c (x ∷ xs))
    go true e l more = (x, e, once_in x xs)
    go false e l more = let m = more l in let t = m.2 in (m.0, m.1, omega (arith, t))

below_numbers : (c n : ℕ) → 0 < occurs c (numbers n) → c < n
below_numbers c n there = go (ltb c n) refl (rw (occurs-numbers c n) at there)
  where
    go : (b : Bool) → ltb c n ≡ b → 0 < cond b 1 0 → c < n
    go true e l = ltb-true c n e
    go false e l = absurd (omega arith)

-- what a set has is what it lists
in_listed : (set : CpuSet) (c : ℕ) → c < MAX_CPU_SET → has set c ≡ true → 0 < occurs c (listed set)
unfolding listed
in_listed set c below h = into_filter (has set) c (numbers MAX_CPU_SET) h (in_numbers c MAX_CPU_SET below)

has_listed : (set : CpuSet) (c : ℕ) → 0 < occurs c (listed set) → has set c ≡ true
unfolding listed
has_listed set c there = (in_filter (has set) c (numbers MAX_CPU_SET) there).0

-- whether an upmany names a processor
pub names_some : (set : CpuSet) (empty : Bool) → (empty ≡ true → (c : ℕ) → has set c ≡ false) →
    (empty ≡ false → (c : ℕ) × (c < MAX_CPU_SET) × (has set c ≡ true)) → not empty ≡ not (is_empty (listed set))
names_some set true none some = go (listed set) refl
  where
    go : (xs : List ℕ) → listed set ≡ xs → false ≡ not (is_empty xs)
    go [] e = refl
    go (x ∷ xs) e =
        let k : 0 < occurs x (listed set) = subst (λ zs. 0 < occurs x zs) (sym e) (once_in x xs) in
        absurd (false≢true (sym (none refl x) ∙ has_listed set x k))
names_some set false none some =
    let s = some refl in go (listed set) (in_listed set s.0 s.1 s.2)
  where
    go : (xs : List ℕ) → 0 < occurs (some refl).0 xs → true ≡ not (is_empty xs)
    go [] l = absurd (omega arith)
    go (x ∷ xs) l = refl

-- whether it lists one that isn't possible
not_below : (c n : ℕ) → n ≤ c → not (ltb c n) ≡ true
not_below c n h = grind (arith, nat_tests)

not_ltb : (c n : ℕ) → not (ltb c n) ≡ true → n ≤ c
not_ltb c n h = grind (arith, nat_tests)

pub lists_impossible : (head : Head) (set : CpuSet) (found : Option ℕ) → IfSome found (λ c. IsLowestFrom set head.possible c) →
    IfNone found (HasNoneFrom set head.possible) →
    is_some found ≡ not (is_empty (filter (λ c. not (is_possible head c)) (listed set)))
lists_impossible head set found some none =
    same_answer (is_some found) (not (is_empty (filter p (listed set)))) (one found some) (other found none)
  where
    p : ℕ → Bool
    p c = not (is_possible head c)

    one : (v : Option ℕ) → IfSome v (λ c. IsLowestFrom set head.possible c) → is_some v ≡ true →
        not (is_empty (filter p (listed set))) ≡ true
    one None s h = absurd (false≢true h)
    one (Some c) s h =
        some_left p c (listed set) (not_below c head.possible s.at_least) (in_listed set c s.within s.is_in)

    other : (v : Option ℕ) → IfNone v (HasNoneFrom set head.possible) → not (is_empty (filter p (listed set))) ≡ true → is_some v ≡ true
    other (Some c) n h = refl
    other None n h =
        let t = left_there p (listed set) h in
        absurd (false≢true (sym (n t.0 (not_ltb t.0 head.possible t.1)) ∙ has_listed set t.0 t.2))

-- whether it lists one that is possible and absent
abbrev pub is_absent_of : Head → CpuSet → ℕ → Bool
is_absent_of head set c = ltb c head.possible && (ltb c MAX_CPU_SET && has set c)

lists_one_absent : (head : Head) (set : CpuSet) → length set.words ≡ 4 →
    list_any (is_absent_of head set) head.absent
    ≡ not (is_empty (filter (λ c. has set c && not (is_present head c)) (numbers head.possible)))
lists_one_absent head set four =
    same_answer (list_any (is_absent_of head set) head.absent) (not (is_empty (filter q (numbers head.possible)))) one other
  where
    q : ℕ → Bool
    q c = has set c && not (is_present head c)

    one : list_any (is_absent_of head set) head.absent ≡ true → not (is_empty (filter q (numbers head.possible))) ≡ true
    one h =
        let t = there_any (is_absent_of head set) head.absent h in
        let a = and_parts (ltb t.0 head.possible) (ltb t.0 MAX_CPU_SET && has set t.0) t.1 in
        let b = and_parts (ltb t.0 MAX_CPU_SET) (has set t.0) a.1 in
        let there = is_among t.0 head.absent t.2 in
        let below = a.0 in
        let in_it = b.1 in
        let passes : q t.0 ≡ true = rw (in_it, below, there) refl in
        some_left q t.0 (numbers head.possible) passes (in_numbers t.0 head.possible (ltb-true t.0 head.possible below))

    absent : (c : ℕ) → (b : Bool) → among c head.absent ≡ b → ltb c head.possible ≡ true → not (ltb c head.possible && not b) ≡ true → b ≡ true
    absent c true e l h = refl
    absent c false e l h = let f : false ≡ true = rw l at h in absurd (false≢true f)

    within : (c : ℕ) → has set c ≡ true → ltb c MAX_CPU_SET ≡ true
    within c h = go (cases_lt c MAX_CPU_SET)
      where
        go : (c < MAX_CPU_SET) ⊎ (MAX_CPU_SET ≤ c) → ltb c MAX_CPU_SET ≡ true
        go (inl l) = lt-ltb c MAX_CPU_SET l
        go (inr l) = absurd (false≢true (sym (past set four c l) ∙ h))

    other : not (is_empty (filter q (numbers head.possible))) ≡ true → list_any (is_absent_of head set) head.absent ≡ true
    other h =
        let t = left_there q (numbers head.possible) h in
        let l = lt-ltb t.0 head.possible (below_numbers t.0 head.possible t.2) in
        let a = and_parts (has set t.0) (not (is_present head t.0)) t.1 in
        let in_it = a.0 in
        let small = within t.0 in_it in
        let there = absent t.0 (among t.0 head.absent) refl l a.1 in
        any_there (is_absent_of head set) t.0 head.absent (rw (l, small, in_it) refl) (occurs_among t.0 head.absent there)

-- looking at the absent ones one after another
no_less : (c n : ℕ) → n ≤ c → ltb c n ≡ false
no_less c n h = grind (arith, nat_tests)

pub absent_none : (head : Head) (set : CpuSet) (c : ℕ) → (head.possible ≤ c) ⊎ ((MAX_CPU_SET ≤ c) ⊎ (has set c ≡ false)) →
    is_absent_of head set c ≡ false
absent_none head set c (inl h) = let l = no_less c head.possible h in rw l refl
absent_none head set c (inr (inl h)) = let l = no_less c MAX_CPU_SET h in rw l (and_false (ltb c head.possible))
absent_none head set c (inr (inr h)) = rw h (both_false (ltb c head.possible) (ltb c MAX_CPU_SET))
  where
    both_false : (a b : Bool) → (a && (b && false)) ≡ false
    both_false true true = refl
    both_false true false = refl
    both_false false b = refl

pub absent_here : (head : Head) (set : CpuSet) (xs : List ℕ) (at : ℕ) → length set.words ≡ 4 → xs ≡ head.absent → at < length xs →
    get_or xs at 0 < head.possible → get_or xs at 0 < MAX_CPU_SET → has set (get_or xs at 0) ≡ true →
    true ≡ not (is_empty (filter (λ c. has set c && not (is_present head c)) (numbers head.possible)))
absent_here head set xs at four same there possible small in_it =
    let l = lt-ltb (get_or xs at 0) head.possible possible in
    let s = lt-ltb (get_or xs at 0) MAX_CPU_SET small in
    let passes : is_absent_of head set (get_or xs at 0) ≡ true = rw (l, s, in_it) refl in
    sym (list_any_at (is_absent_of head set) xs at 0 there passes) ∙ ap (list_any (is_absent_of head set)) same
    ∙ lists_one_absent head set four

pub absent_more : (head : Head) (set : CpuSet) (xs : List ℕ) (at : ℕ) → at < length xs → is_absent_of head set (get_or xs at 0) ≡ false →
    list_any (is_absent_of head set) (take at xs) ≡ false → list_any (is_absent_of head set) (take (at + 1) xs) ≡ false
absent_more head set xs at there not_it before =
    list_any_more (is_absent_of head set) xs at 0 there ∙ (ap (λ b. b || is_absent_of head set (get_or xs at 0)) before ∙ not_it)

pub absent_nowhere : (head : Head) (set : CpuSet) (xs : List ℕ) (at : ℕ) → length set.words ≡ 4 → xs ≡ head.absent → length xs ≤ at →
    list_any (is_absent_of head set) (take at xs) ≡ false →
    false ≡ not (is_empty (filter (λ c. has set c && not (is_present head c)) (numbers head.possible)))
absent_nowhere head set xs at four same whole none =
    let all : take at xs ≡ head.absent = take_all xs at whole ∙ same in
    sym none ∙ ap (list_any (is_absent_of head set)) all ∙ lists_one_absent head set four
  where
    take_all : (xs : List ℕ) (n : ℕ) → length xs ≤ n → take n xs ≡ xs
    take_all [] zero h = refl
    take_all [] (suc n) h = refl
    take_all (x ∷ xs) zero h = absurd (omega arith)
    take_all (x ∷ xs) (suc n) h = ap (λ ys. x ∷ ys) (take_all xs n (omega arith))
