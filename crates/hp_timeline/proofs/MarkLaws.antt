-- Each entry of the window has one mark.
use Rattle.std.specs.List.{AllByRecursion as Each}
use Rattle.std.proofs.Common.{◌≡◌, ◌≢◌, ℕ, zero, suc, ◌+◌, ◌<◌, ◌≤◌, Bool, true, false, ◌==◌, leb, cond, Option, Some, None, List, [], ◌∷◌, ◌++◌, refl, sym, ap, ap₂, ◌∙◌, ⊎_elim, arith}
use Rattle.std.specs.Prelude.{filter, slice_get}
use Rattle.std.specs.List.{flat_map}
use Rattle.std.proofs.lemmas.List.{append-nil}
use Rattle.std.proofs.lemmas.List.Elements.{filter-append, All-from_recursion}
use Rattle.std.proofs.lemmas.Grind.{flat_map-append}
use Rattle.std.proofs.lemmas.Bool.{cases_lt}
use Rattle.std.proofs.lemmas.Bool.Decides.{nat_tests}
use Rattle.hp_states.specs.declared.dir.Dir.{Dir}
use Rattle.hp_event.specs.declared.how.How.{How}
use Rattle.hp_event.specs.declared.event.Event.{Event}
use Rattle.hp_event.specs.declared.event.Event.TheVariants.{Call}
use Rattle.hp_model.specs.Lists.{numbers}
use Rattle.hp_timeline.specs.declared.mark.Mark.{Mark}
use Rattle.hp_timeline.specs.declared.window.Window.{Window}
use Rattle.hp_timeline.specs.Windows.{places_between}
use Rattle.hp_timeline.specs.Marks.{mark_of, marked, marks}
use Rattle.hp_timeline.specs.Laws.{IsIn, MarksEntries}

-- ---- what each place of a window gives, place by place

-- what is given by one place is at it
pub record GivesOwn {X : Type 0} (p : ℕ → X → Bool) (f : ℕ → List X) : Type 0 where
  pub own : (k : ℕ) → filter (p k) (f k) ≡ f k
  pub other : (j k : ℕ) → j ≢ k → filter (p k) (f j) ≡ []

split : {X : Type 0} (p : ℕ → X → Bool) (f : ℕ → List X) (a n k : ℕ) →
    filter (p k) (flat_map f (places_between a (suc n)))
    ≡ filter (p k) (flat_map f (places_between a n)) ++ filter (p k) (cond (leb a n) (f n) [])
split p f a n k =
    rw (filter-append (leb a) (numbers n) (n ∷ []), flat_map-append f (places_between a n) (filter (leb a) (n ∷ [])), filter-append)
    (ap (λ ys. filter (p k) (flat_map f (places_between a n)) ++ filter (p k) ys) (last (leb a n)))
  where
    last : (b : Bool) → flat_map f (cond b (n ∷ []) []) ≡ cond b (f n) []
    last true = append-nil (f n)
    last false = refl

none_above : {X : Type 0} (p : ℕ → X → Bool) (f : ℕ → List X) → GivesOwn p f → (a n k : ℕ) → n ≤ k →
    filter (p k) (flat_map f (places_between a n)) ≡ []
none_above p f g a zero k h = refl
none_above p f g a (suc n) k h =
    split p f a n k ∙ rw (none_above p f g a n k (omega arith)) (last (leb a n))
  where
    last : (b : Bool) → filter (p k) (cond b (f n) []) ≡ []
    last true = g.other n k (λ e. omega (arith, e, h))
    last false = refl

pub one_place : {X : Type 0} (p : ℕ → X → Bool) (f : ℕ → List X) → GivesOwn p f → (a n k : ℕ) → a ≤ k → k < n →
    filter (p k) (flat_map f (places_between a n)) ≡ f k
one_place p f g a zero k from below = absurd (omega arith)
one_place p f g a (suc n) k from below =
    split p f a n k ∙ ⊎_elim (λ (h : k < n). before h (one_place p f g a n k from h)) here (cases_lt k n)
  where
    here : n ≤ k → filter (p k) (flat_map f (places_between a n)) ++ filter (p k) (cond (leb a n) (f n) []) ≡ f k
    here h =
        let same : n ≡ k = omega (arith, h, below) in
        let in_window : leb a n ≡ true = test a n (omega (arith, same, from)) in
        rw (none_above p f g a n k h, in_window, same) (g.own k)
      where
        test : (a n : ℕ) → a ≤ n → leb a n ≡ true
        test a n h = grind (arith, nat_tests)

    before : k < n → filter (p k) (flat_map f (places_between a n)) ≡ f k →
        filter (p k) (flat_map f (places_between a n)) ++ filter (p k) (cond (leb a n) (f n) []) ≡ f k
    before h earlier = rw earlier (ap (λ ys. f k ++ ys) (last (leb a n)) ∙ append-nil (f k))
      where
        last : (b : Bool) → filter (p k) (cond b (f n) []) ≡ []
        last true = g.other n k (λ e. omega (arith, e, h))
        last false = refl

-- ---- marks

pub same_number : (n : ℕ) → (n == n) ≡ true
same_number n = grind (arith, nat_tests)

pub other_number : (m n : ℕ) → m ≢ n → (m == n) ≡ false
other_number m n h = grind (arith, nat_tests)

own_mark : (k : ℕ) (o : Option Event) → filter (λ (m : Mark). m.place == k) (marked k o) ≡ marked k o
own_mark k None = refl
own_mark k (Some (Call seat cpu state inst dir how)) = rw (same_number k) refl
own_mark k (Some e) = refl

other_mark : (j k : ℕ) (o : Option Event) → j ≢ k → filter (λ (m : Mark). m.place == k) (marked j o) ≡ []
other_mark j k None h = refl
other_mark j k (Some (Call seat cpu state inst dir how)) h = rw (other_number j k h) refl
other_mark j k (Some e) h = refl

marks_own : (events : List Event) → GivesOwn (λ (k : ℕ) (m : Mark). m.place == k) (λ k. marked k (slice_get events k))
marks_own events = record {
  own = λ k. own_mark k (slice_get events k);
  other = λ j k h. other_mark j k (slice_get events j) h;
}

pub each_append : {X : Type 0} (P : X → Type 0) (xs ys : List X) → Each P xs → Each P ys → Each P (xs ++ ys)
each_append P [] ys h k = k
each_append P (x ∷ xs) ys h k = (h.0, each_append P xs ys h.1 k)

at_place : (w : Window) (k : ℕ) (o : Option Event) → IsIn w k → Each (λ (m : Mark). IsIn w m.place) (marked k o)
at_place w k None h = tt
at_place w k (Some (Call seat cpu state inst dir how)) h = (h, tt)
at_place w k (Some e) h = tt

all_within : (events : List Event) (w : Window) (n : ℕ) → n ≤ w.until →
    Each (λ (m : Mark). IsIn w m.place) (flat_map (λ k. marked k (slice_get events k)) (places_between w.before n))
all_within events w zero h = tt
all_within events w (suc n) h =
    rw (filter-append (leb w.before) (numbers n) (n ∷ []), flat_map-append)
    (each_append (λ (m : Mark). IsIn w m.place) _ _ (all_within events w n (omega arith)) (last (leb w.before n) refl))
  where
    test : (a n : ℕ) → leb a n ≡ true → a ≤ n
    test a n h = grind (arith, nat_tests)

    last : (b : Bool) → leb w.before n ≡ b →
        Each (λ (m : Mark). IsIn w m.place) (flat_map (λ k. marked k (slice_get events k)) (cond b (n ∷ []) []))
    last true e = rw append-nil (at_place w n (slice_get events n) (test w.before n e, omega arith))
    last false e = tt

pub marks_entries : (events : List Event) (w : Window) → MarksEntries events w
marks_entries events w = record {
  each = λ k h. one_place _ _ (marks_own events) w.before w.until k h.0 h.1;
  within = All-from_recursion (λ (m : Mark). IsIn w m.place) (marks events w) (all_within events w w.until (omega arith));
}

-- an event that is no entry has none
pub no_mark : (k : ℕ) (e : Event) →
    ((seat cpu state inst : ℕ) (dir : Dir) (how : How) → e ≡ Call seat cpu state inst dir how → ⊥) → mark_of k e ≡ []
no_mark k (Call seat cpu state inst dir how) h = absurd (h seat cpu state inst dir how refl)
no_mark k e h = refl
