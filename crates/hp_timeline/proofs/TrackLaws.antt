-- The line of a processor is at the state that its file shows.
use Rattle.std.specs.List.{AllByRecursion as Each}
use Rattle.std.proofs.Common.{◌≡◌, ℕ, zero, suc, ◌+◌, ◌-◌, ◌<◌, ◌≤◌, Bool, true, false, ◌==◌, if◌then◌else◌, ltb, List, [], ◌∷◌, ◌++◌, take, refl, sym, ap, ◌∙◌, ⊎_elim, subst, arith, add-one}
use Rattle.std.specs.List.{flat_map}
use Rattle.std.proofs.lemmas.List.{append-nil}
use Rattle.std.proofs.lemmas.Bool.{cases_lt}
use Rattle.std.proofs.lemmas.Bool.Decides.{nat_tests}
use Rattle.hp_event.specs.declared.head.Head.{Head}
use Rattle.hp_event.specs.declared.event.Event.{Event}
use Rattle.hp_model.specs.Shown.{shown}
use Rattle.hp_timeline.specs.declared.window.Window.{Window}
use Rattle.hp_timeline.specs.Tracks.{Step, step_to, step_at, steps_between, level, level_at}
use Rattle.hp_timeline.specs.Laws.{FollowsShown}
use Rattle.hp_timeline.proofs.Places.{places_none}
use Rattle.hp_timeline.proofs.TrackSteps.{steps_more}

abbrev AreBefore : (place : ℕ) → List Step → Type 0
AreBefore n xs = Each (λ (s : Step). s.place < n) xs

before_more : (n : ℕ) (xs : List Step) → AreBefore n xs → AreBefore (n + 1) xs
before_more n [] h = tt
before_more n (x ∷ xs) h = (omega (arith, h.0), before_more n xs h.1)

before_append : (n : ℕ) (xs ys : List Step) → AreBefore n xs → AreBefore n ys → AreBefore n (xs ++ ys)
before_append n [] ys h k = k
before_append n (x ∷ xs) ys h k = (h.0, before_append n xs ys h.1 k)

below : (a b : ℕ) → a < b → ltb a b ≡ true
below a b h = grind (arith, nat_tests)

not_below : (a b : ℕ) → b ≤ a → ltb a b ≡ false
not_below a b h = grind (arith, nat_tests)

-- a step at a place changes nothing before it
level_front : (start k n to : ℕ) (xs : List Step) → k ≤ n →
    level start (xs ++ record { place = n; state = to } ∷ []) k ≡ level start xs k
level_front start k n to [] h = rw (not_below n k h) refl
level_front start k n to (x ∷ xs) h = go (ltb x.place k) (level_front x.state k n to xs h)
  where
    go : (b : Bool) → level x.state (xs ++ record { place = n; state = to } ∷ []) k ≡ level x.state xs k →
        (if b then level x.state (xs ++ record { place = n; state = to } ∷ []) k else start) ≡ (if b then level x.state xs k else start)
    go true rest = rest
    go false rest = refl

-- steps that are all before two places leave the line at one state there
level_same : (start m n : ℕ) (xs : List Step) → AreBefore m xs → AreBefore n xs → level start xs m ≡ level start xs n
level_same start m n [] h k = refl
level_same start m n (x ∷ xs) h k = rw (below x.place m h.0, below x.place n k.0) (level_same x.state m n xs h.1 k.1)

level_end : (start n to : ℕ) (xs : List Step) → AreBefore n xs → level start (xs ++ record { place = n; state = to } ∷ []) (n + 1) ≡ to
level_end start n to [] h = rw (below n (n + 1) (omega arith)) refl
level_end start n to (x ∷ xs) h = rw (below x.place (n + 1) (omega (arith, h.0))) (level_end x.state n to xs h.1)

-- one place further, where the line stood at a state and goes to another
goes_on : (start n a b : ℕ) (xs : List Step) → AreBefore n xs → level start xs n ≡ a → level start (xs ++ step_to n a b) (n + 1) ≡ b
goes_on start n a b xs before at = go (a == b) refl
  where
    go : (t : Bool) → (a == b) ≡ t → level start (xs ++ (if t then [] else record { place = n; state = b } ∷ [])) (n + 1) ≡ b
    go true e =
        let same : a ≡ b = grind (arith, nat_tests) in
        rw append-nil (level_same start (n + 1) n xs (before_more n xs before) before ∙ at ∙ same)
    go false e = level_end start n b xs before

stays : (start k n a b : ℕ) (xs : List Step) → k ≤ n → level start (xs ++ step_to n a b) k ≡ level start xs k
stays start k n a b xs h = go (a == b)
  where
    go : (t : Bool) → level start (xs ++ (if t then [] else record { place = n; state = b } ∷ [])) k ≡ level start xs k
    go true = rw append-nil refl
    go false = level_front start k n b xs h

at_place : (n a b : ℕ) → AreBefore (n + 1) (step_to n a b)
at_place n a b = go (a == b)
  where
    go : (t : Bool) → AreBefore (n + 1) (if t then [] else record { place = n; state = b } ∷ [])
    go true = tt
    go false = (omega arith, tt)

-- so far the line is at the state that is shown
record IsAtShown (head : Head) (c : ℕ) (events : List Event) (a n : ℕ) : Type 0 where
  before : AreBefore n (steps_between head c events a n)
  follows : (k : ℕ) → a ≤ k → k ≤ n →
      level (shown head c (take a events)) (steps_between head c events a n) k ≡ shown head c (take k events)

first_place : (head : Head) (c : ℕ) (events : List Event) (a : ℕ) → IsAtShown head c events a a
first_place head c events a = record {
  before = rw places_none tt;
  follows = λ k from to. let same : k ≡ a = omega (arith, from, to) in rw (places_none, same) refl;
}

next_place : (head : Head) (c : ℕ) (events : List Event) (a n : ℕ) → a ≤ n → IsAtShown head c events a n →
    IsAtShown head c events a (n + 1)
next_place head c events a n from h = record {
  before =
      rw (steps_more head c events a n from)
      (before_append (n + 1) _ _ (before_more n (steps_between head c events a n) h.before) (at_place n _ _));
  follows = λ k low high. rw (steps_more head c events a n from) (⊎_elim (λ (b : k < n + 1). earlier k low b) (λ (b : n + 1 ≤ k). last k b high) (cases_lt k (n + 1)));
}
  where
    start : ℕ
    start = shown head c (take a events)

    earlier : (k : ℕ) → a ≤ k → k < n + 1 →
        level (shown head c (take a events)) (steps_between head c events a n ++ step_at head c events n) k ≡ shown head c (take k events)
    earlier k low b = stays start k n _ _ (steps_between head c events a n) (omega (arith, b)) ∙ h.follows k low (omega (arith, b))

    last : (k : ℕ) → n + 1 ≤ k → k ≤ n + 1 →
        level (shown head c (take a events)) (steps_between head c events a n ++ step_at head c events n) k ≡ shown head c (take k events)
    last k b high =
        let same : k ≡ n + 1 = omega (arith, b, high) in
        rw same (goes_on start n _ _ (steps_between head c events a n) h.before (h.follows n from (omega arith)))

places_on : (head : Head) (c : ℕ) (events : List Event) (a d : ℕ) → IsAtShown head c events a (a + d)
places_on head c events a zero = subst (λ (n : ℕ). IsAtShown head c events a n) (zero_more a) (first_place head c events a)
  where
    zero_more : (a : ℕ) → a ≡ a + zero
    zero_more a = omega arith
places_on head c events a (suc d) =
    subst (λ (n : ℕ). IsAtShown head c events a n) (one_more a d) (next_place head c events a (a + d) (omega arith) (places_on head c events a d))
  where
    one_more : (a d : ℕ) → (a + d) + 1 ≡ a + suc d
    one_more a d = omega arith

pub follows_shown : (head : Head) (events : List Event) (w : Window) → FollowsShown head events w
follows_shown head events w c k from to =
    let n : w.before + (w.until - w.before) ≡ w.until = omega (arith, from, to) in
    (subst (λ (m : ℕ). IsAtShown head c events w.before m) n (places_on head c events w.before (w.until - w.before))).follows k from to
