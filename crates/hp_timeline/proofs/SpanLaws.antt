-- What is drawn as over is what ends in the window, and what is drawn as in flight is what is in flight at its end.
use Rattle.std.specs.List.{AllByRecursion as Each}
use Rattle.std.proofs.Common.{◌≡◌, ◌≢◌, ℕ, zero, suc, ◌+◌, ◌-◌, ◌<◌, ◌≤◌, Bool, true, false, not, ◌&&◌, ◌==◌, leb, cond, Option, Some, None, List, [], ◌∷◌, ◌++◌, length, take, get_or, refl, sym, ap, ap₂, ◌∙◌, ⊎_elim, inl, inr, ◌⊎◌, subst, arith}
use Rattle.std.specs.Prelude.{filter, slice_get}
use Rattle.std.specs.List.{flat_map}
use Rattle.std.proofs.lemmas.List.{append-nil, take_more}
use Rattle.std.proofs.lemmas.List.Elements.{filter-append, All-from_recursion}
use Rattle.std.proofs.lemmas.Grind.{flat_map-append}
use Rattle.std.proofs.lemmas.Bool.Decides.{nat_tests}
use Rattle.hp_event.specs.declared.answer.Answer.{Answer}
use Rattle.hp_event.specs.declared.head.Head.{Head}
use Rattle.hp_event.specs.declared.event.Event.{Event}
use Rattle.hp_event.specs.declared.event.Event.TheVariants.{Enter, Refused, WalkEnd, OpEnd, RegBegin, RegEnd, ReadUnlock, Armed, Shown, Wakeup}
use Rattle.hp_model.specs.Lawful.{Stands, IsLawful}
use Rattle.hp_model.specs.Lists.{numbers}
use Rattle.hp_model.specs.MapLock.{Operation, operation}
use Rattle.hp_model.specs.Readers.{reading_since}
use Rattle.hp_model.specs.Registrations.{Registration, registration}
use Rattle.hp_model.specs.Walks.{Walk, walk}
use Rattle.hp_timeline.specs.declared.span.Class.{Class}
use Rattle.hp_timeline.specs.declared.span.Class.TheVariants as class
use Rattle.hp_timeline.specs.declared.span.Span.{Span}
use Rattle.hp_timeline.specs.declared.window.Window.{Window}
use Rattle.hp_timeline.specs.Windows.{IsWindow, places_between, places}
use Rattle.hp_timeline.specs.Spans.{class_of, walk_span, operation_span, registration_span, section_span, ended_by, ended, ended_at, walks_going, sections_going, going, spans}
use Rattle.hp_timeline.specs.Sheet.{clients}
use Rattle.hp_timeline.specs.Laws.{IsIn, DrawsSpans}
use Rattle.hp_timeline.proofs.Events.{length_take}
use Rattle.hp_timeline.proofs.MarkLaws.{GivesOwn, one_place, same_number, other_number, each_append}

-- ---- spans that are over, with their last event at a place

abbrev AreOver : (place : ℕ) → List Span → Type 0
AreOver k xs = Each (λ (s : Span). (s.is_over ≡ true) × (s.last ≡ k)) xs

walk_over : (c : Class) (k cpu : ℕ) (w : Option Walk) → AreOver k (walk_span c true k cpu w)
walk_over c k cpu None = tt
walk_over c k cpu (Some w) = ((refl, refl), tt)

operation_over : (c : Class) (k : ℕ) (o : Option Operation) → AreOver k (operation_span c true k o)
operation_over c k None = tt
operation_over c k (Some o) = ((refl, refl), tt)

registration_over : (c : Class) (k : ℕ) (r : Option Registration) → AreOver k (registration_span c true k r)
registration_over c k None = tt
registration_over c k (Some r) = ((refl, refl), tt)

section_over : (c : Class) (k seat : ℕ) (before : Option (List Event)) → AreOver k (section_span c true k seat before)
section_over c k seat None = tt
section_over c k seat (Some before) = ((refl, refl), tt)

by_over : (before : List Event) (e : Event) → AreOver (length before) (ended_by before e)
by_over before (WalkEnd seat cpu answer) = walk_over (class_of answer) (length before) cpu (walk cpu before)
by_over before (OpEnd seat answer) = operation_over (class_of answer) (length before) (operation before)
by_over before (RegEnd seat answer) = registration_over (class_of answer) (length before) (registration before)
by_over before (ReadUnlock seat) = section_over class.Done (length before) seat (reading_since seat before)
by_over before (Refused seat errno op) = ((refl, refl), tt)
by_over before (Armed seat cpu value) = ((refl, refl), tt)
by_over before (Shown seat file cpu value) = ((refl, refl), tt)
by_over before (Wakeup seat) = ((refl, refl), tt)
by_over before e = tt

there : (xs : List Event) (k : ℕ) (e : Event) → slice_get xs k ≡ Some e → k < length xs
there [] k e h = absurd (cc)
there (x ∷ xs) zero e h = omega arith
there (x ∷ xs) (suc k) e h = let low = there xs k e h in omega (arith, low)

at_over : (events : List Event) (k : ℕ) (o : Option Event) → slice_get events k ≡ o → AreOver k (ended (take k events) o)
at_over events k None h = tt
at_over events k (Some e) h =
    let low = there events k e h in
    subst (λ n. AreOver n (ended_by (take k events) e)) (length_take events k (omega (arith, low))) (by_over (take k events) e)

kept : (x : Span) (b : Bool) (ys xs : List Span) → b ≡ true → ys ≡ xs → cond b (x ∷ ys) ys ≡ x ∷ xs
kept x true ys xs e h = ap (λ zs. x ∷ zs) h
kept x false ys xs e h = absurd (cc)

over_own : (k : ℕ) (xs : List Span) → AreOver k xs → filter (λ s. s.is_over && (s.last == k)) xs ≡ xs
over_own k [] h = refl
over_own k (x ∷ xs) h =
    let over : (x.is_over && (x.last == k)) ≡ true = rw (h.0.0, h.0.1, same_number k) refl in
    kept x (x.is_over && (x.last == k)) (filter (λ s. s.is_over && (s.last == k)) xs) xs over (over_own k xs h.1)

over_other : (j k : ℕ) (xs : List Span) → j ≢ k → AreOver j xs → filter (λ s. s.is_over && (s.last == k)) xs ≡ []
over_other j k [] ne h = refl
over_other j k (x ∷ xs) ne h = rw (h.0.0, h.0.1, other_number j k ne) (over_other j k xs ne h.1)

over_none : (k : ℕ) (xs : List Span) → AreOver k xs → filter (λ s. not s.is_over) xs ≡ []
over_none k [] h = refl
over_none k (x ∷ xs) h = rw h.0.0 (over_none k xs h.1)

ends_own : (events : List Event) → GivesOwn (λ (k : ℕ) (s : Span). s.is_over && (s.last == k)) (ended_at events)
ends_own events = record {
  own = λ k. over_own k (ended_at events k) (at_over events k (slice_get events k) refl);
  other = λ j k ne. over_other j k (ended_at events j) ne (at_over events j (slice_get events j) refl);
}

-- ---- spans that are in flight

abbrev AreGoing : List Span → Type 0
AreGoing xs = Each (λ (s : Span). s.is_over ≡ false) xs

walk_goes : (last cpu : ℕ) (w : Option Walk) → AreGoing (walk_span class.Going false last cpu w)
walk_goes last cpu None = tt
walk_goes last cpu (Some w) = (refl, tt)

operation_goes : (last : ℕ) (o : Option Operation) → AreGoing (operation_span class.Going false last o)
operation_goes last None = tt
operation_goes last (Some o) = (refl, tt)

registration_goes : (last : ℕ) (r : Option Registration) → AreGoing (registration_span class.Going false last r)
registration_goes last None = tt
registration_goes last (Some r) = (refl, tt)

section_goes : (last seat : ℕ) (before : Option (List Event)) → AreGoing (section_span class.Going false last seat before)
section_goes last seat None = tt
section_goes last seat (Some before) = (refl, tt)

each_goes : (f : ℕ → List Span) (ks : List ℕ) → ((k : ℕ) → AreGoing (f k)) → AreGoing (flat_map f ks)
each_goes f [] h = tt
each_goes f (k ∷ ks) h = each_append (λ (s : Span). s.is_over ≡ false) (f k) (flat_map f ks) (h k) (each_goes f ks h)

all_going : (head : Head) (xs : List Event) (last : ℕ) → AreGoing (going head xs last)
all_going head xs last =
    each_append (λ (s : Span). s.is_over ≡ false) _ _
    (each_goes (λ c. walk_span class.Going false last c (walk c xs)) (numbers head.possible) (λ c. walk_goes last c (walk c xs)))
    (each_append (λ (s : Span). s.is_over ≡ false) _ _ (operation_goes last (operation xs))
    (each_append (λ (s : Span). s.is_over ≡ false) _ _ (registration_goes last (registration xs))
    (each_goes (λ s. section_span class.Going false last s (reading_since s xs)) (clients xs)
    (λ s. section_goes last s (reading_since s xs)))))

going_not : (k : ℕ) (xs : List Span) → AreGoing xs → filter (λ s. s.is_over && (s.last == k)) xs ≡ []
going_not k [] h = refl
going_not k (x ∷ xs) h = rw h.0 (going_not k xs h.1)

going_own : (xs : List Span) → AreGoing xs → filter (λ s. not s.is_over) xs ≡ xs
going_own [] h = refl
going_own (x ∷ xs) h =
    let goes : not x.is_over ≡ true = rw h.0 refl in
    kept x (not x.is_over) (filter (λ s. not s.is_over) xs) xs goes (going_own xs h.1)

-- ---- all of them

none_over : (events : List Event) (ks : List ℕ) → filter (λ (s : Span). not s.is_over) (flat_map (ended_at events) ks) ≡ []
none_over events [] = refl
none_over events (k ∷ ks) =
    filter-append (λ (s : Span). not s.is_over) (ended_at events k) (flat_map (ended_at events) ks)
    ∙ ap₂ (λ (x y : List Span). x ++ y) (over_none k (ended_at events k) (at_over events k (slice_get events k) refl)) (none_over events ks)

abbrev EndsIn : Window → Span → Type 0
EndsIn w s = s.is_over ≡ true → IsIn w s.last

over_in : (w : Window) (k : ℕ) (xs : List Span) → IsIn w k → AreOver k xs → Each (EndsIn w) xs
over_in w k [] i h = tt
over_in w k (x ∷ xs) i h = ((λ over. subst (IsIn w) (sym h.0.1) i), over_in w k xs i h.1)

going_in : (w : Window) (xs : List Span) → AreGoing xs → Each (EndsIn w) xs
going_in w [] h = tt
going_in w (x ∷ xs) h = ((λ over. absurd (cc (over, h.0))), going_in w xs h.1)

test : (a n : ℕ) → leb a n ≡ true → a ≤ n
test a n h = grind (arith, nat_tests)

all_in : (events : List Event) (w : Window) (n : ℕ) → n ≤ w.until → Each (EndsIn w) (flat_map (ended_at events) (places_between w.before n))
all_in events w zero h = tt
all_in events w (suc n) h =
    rw (filter-append (leb w.before) (numbers n) (n ∷ []), flat_map-append)
    (each_append (EndsIn w) _ _ (all_in events w n (omega arith)) (last (leb w.before n) refl))
  where
    last : (b : Bool) → leb w.before n ≡ b → Each (EndsIn w) (flat_map (ended_at events) (cond b (n ∷ []) []))
    last true e =
        rw append-nil (over_in w n (ended_at events n) (test w.before n e, omega arith) (at_over events n (slice_get events n) refl))
    last false e = tt

pub draws_spans : (head : Head) (events : List Event) (w : Window) → DrawsSpans head events w
draws_spans head events w =
    let left : List Span = flat_map (ended_at events) (places w) in
    let flying : List Span = going head (take w.until events) (w.until - 1) in
    let goes = all_going head (take w.until events) (w.until - 1) in
    record {
      ends = λ k i.
          filter-append (λ (s : Span). s.is_over && (s.last == k)) left flying
          ∙ ap₂ (λ (x y : List Span). x ++ y) (one_place _ _ (ends_own events) w.before w.until k i.0 i.1) (going_not k flying goes)
          ∙ append-nil (ended_at events k);
      others_go =
          filter-append (λ (s : Span). not s.is_over) left flying
          ∙ ap₂ (λ (x y : List Span). x ++ y) (none_over events (places w)) (going_own flying goes);
      within =
          All-from_recursion (EndsIn w) (spans head events w)
          (each_append (EndsIn w) left flying (all_in events w w.until (omega arith)) (going_in w flying goes));
    }
