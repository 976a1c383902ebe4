-- While the walks since the last Enter have no fault among their entries, each of them that ended answered Ok(0) and none in flight has a
-- fault; and the other way.
use Rattle.std.proofs.Common.{◌≡◌, ℕ, pos, Bool, true, false, not, cond, eqb, is_some, Option, Some, None, List, [], ◌∷◌, ◌++◌, map, refl, sym, ap, ◌∙◌}
use Rattle.std.proofs.lemmas.List.Elements.{filter_map-append, filter-append}
use Rattle.std.proofs.lemmas.Bool.{true≢false, eqb-true, eq-eqb}
use Rattle.hp_states.proofs.Basics.{none_some}
use Rattle.hp_event.specs.declared.answer.Answer.{Answer}
use Rattle.hp_event.specs.declared.answer.Answer.TheVariants.{Ok}
use Rattle.hp_event.specs.declared.head.Head.{Head}
use Rattle.hp_event.specs.declared.event.Event.{Event}
use Rattle.hp_event.specs.declared.event.Event.TheVariants.{Enter, WalkBegin, Call, WalkEnd}
use Rattle.hp_model.specs.Entries.{code_of, codes_of_faults}
use Rattle.hp_model.specs.Lawful.{Comes, IsLawful}
use Rattle.hp_model.specs.Own.{operation_entries_step, operation_entries}
use Rattle.hp_model.specs.Completes.{AreFaultless}
use Rattle.hp_model.specs.RegistrationShape.{Registering, made, undone, IsRegistrationAnswer}
use Rattle.hp_model.specs.Sequence.{answers, failures}
use Rattle.hp_model.specs.Suspend.{is_ok}
use Rattle.hp_model.specs.WalkShape.{Outcome, went, returned, stopped, IsWalkShape, IsAnswer}
use Rattle.hp_model.specs.Walks.{Walk, walk, walk_entries}
use Rattle.hp_model.proofs.Laws.{over_from_push, walk_push, walk_entries_push, answers_push}
use Rattle.hp_model.proofs.Owners.{Owners, enters_at_rest}
use Rattle.hp_model.proofs.Failing.{failing, failing-crossed}
use Rattle.hp_model.proofs.WalkEnd.{fill_faults}
use Rattle.hp_model.proofs.BatchLemmas.{begins_still}
use Rattle.hp_model.specs.Faults.{Faulty, faults}
use Rattle.hp_model.specs.Crossing.{Crossing, Fill, slots}
use Rattle.hp_states.specs.declared.dir.Dir.{Dir}
use Rattle.hp_states.specs.declared.place.Place.TheVariants.{Forward}
use Rattle.hp_model.proofs.Induction.{holds}

pub operation_entries_push : (xs : List Event) (e : Event) →
    operation_entries (xs ++ e ∷ []) ≡ operation_entries_step (operation_entries xs) xs e
unfolding operation_entries
operation_entries_push xs e = over_from_push operation_entries_step [] [] xs e

pub some_item : {X : Type 0} (x : X) (xs : List X) → x ∷ xs ≡ [] → ⊥
some_item x xs h = cc

pub empty_parts : {X : Type 0} (xs ys : List X) → xs ++ ys ≡ [] → (xs ≡ []) × (ys ≡ [])
empty_parts [] ys h = (refl, h)
empty_parts (x ∷ xs) ys h = absurd (some_item x (xs ++ ys) h)

pub codes_parts : (xs ys : List Event) → codes_of_faults (xs ++ ys) ≡ [] → (codes_of_faults xs ≡ []) × (codes_of_faults ys ≡ [])
codes_parts xs ys h = empty_parts (codes_of_faults xs) (codes_of_faults ys) (sym (filter_map-append code_of xs ys) ∙ h)

pub codes_both : (xs ys : List Event) → codes_of_faults xs ≡ [] → codes_of_faults ys ≡ [] → codes_of_faults (xs ++ ys) ≡ []
codes_both xs ys a b = filter_map-append code_of xs ys ∙ rw (a, b) refl

-- a walk without a fault
pub walked_ok : (outcome : Outcome) (entries : List Event) (answer : Answer) → codes_of_faults entries ≡ [] → IsAnswer outcome entries answer →
    answer ≡ Ok (pos 0)
walked_ok went entries answer none is = is
walked_ok returned entries answer none is = absurd (some_item is.0 [] (sym is.1 ∙ none))
walked_ok (stopped at) entries answer none is = absurd (some_item is.0 (is.1 ∷ []) (sym is.2 ∙ none))

-- a registration without a fault
pub registered_ok : (outcome : Registering) (value : ℕ) (entries : List Event) (answer : Answer) → codes_of_faults entries ≡ [] →
    IsRegistrationAnswer outcome value entries answer → answer ≡ Ok (pos value)
registered_ok made value entries answer none is = is
registered_ok undone value entries answer none is = absurd (some_item is.0 [] (sym is.1 ∙ none))

abbrev pub AreZero : List Answer → Type 0
AreZero [] = Unit {0}
AreZero (a ∷ more) = (a ≡ Ok (pos 0)) × AreZero more

pub one_more : (xs : List Answer) (a : Answer) → AreZero xs → a ≡ Ok (pos 0) → AreZero (xs ++ a ∷ [])
one_more [] a h e = (e, tt)
one_more (x ∷ xs) a h e = (h.0, one_more xs a h.1 e)

pub record Clean (xs : List Event) : Type 0 where
  pub walking : (c : ℕ) (w : Walk) → walk c xs ≡ Some w → codes_of_faults (walk_entries c xs) ≡ []
  pub walked : AreZero (answers xs)

-- while the walks since the last Enter have no fault
abbrev pub CleanIf : List Event → Type 0
CleanIf xs = codes_of_faults (operation_entries xs) ≡ [] → Clean xs

pub call_before : (b : Bool) (es : List Event) (e : Event) → codes_of_faults (cond b (es ++ e ∷ []) es) ≡ [] → codes_of_faults es ≡ []
call_before true es e h = (codes_parts es (e ∷ []) h).0
call_before false es e h = h

pub call_own : (es : List Event) (e : Event) (w : Option Walk) (v : Walk) → w ≡ Some v →
    codes_of_faults (cond (is_some w) (es ++ e ∷ []) es) ≡ [] → codes_of_faults (e ∷ []) ≡ []
call_own es e (Some w) v q h = (codes_parts es (e ∷ []) h).1
call_own es e None v q h = absurd (none_some v q)

pub clean_step : (head : Head) (xs : List Event) (e : Event) → Comes head xs e → Owners xs → CleanIf xs → CleanIf (xs ++ e ∷ [])
clean_step head xs (Enter seat op) h own i none = record {
  walking = λ c w q. absurd (enters_at_rest head xs seat op own h c w (rw (walk_push c xs (Enter seat op)) at q));
  walked = rw (answers_push xs (Enter seat op)) tt;
}
clean_step head xs (WalkBegin seat cpu from to) h own i none =
    let c = i (rw (operation_entries_push xs (WalkBegin seat cpu from to)) at none) in
    record {
      walking = λ d w q.
          rw (walk_entries_push d xs (WalkBegin seat cpu from to))
          (go c d w (eqb cpu d) (rw (walk_push d xs (WalkBegin seat cpu from to)) at q));
      walked = rw (answers_push xs (WalkBegin seat cpu from to)) c.walked;
    }
  where
    n : Walk
    n = record { seat = seat; from = from; to = to; before = xs }

    go : Clean xs → (d : ℕ) (w : Walk) (b : Bool) → cond b (Some n) (walk d xs) ≡ Some w →
        codes_of_faults (cond b [] (walk_entries d xs)) ≡ []
    go c d w true q = refl
    go c d w false q = c.walking d w q
clean_step head xs (Call seat cpu state inst dir how) h own i none =
    let e = Call seat cpu state inst dir how in
    let none1 = rw (operation_entries_push xs e) at none in
    let c = i (call_before (is_some (walk cpu xs)) (operation_entries xs) e none1) in
    record {
      walking = λ d w q.
          rw (walk_entries_push d xs e) (go c none1 d w (eqb cpu d) refl (rw (walk_push d xs e) at q));
      walked = rw (answers_push xs e) c.walked;
    }
  where
    go : Clean xs →
        codes_of_faults
        (cond (is_some (walk cpu xs)) (operation_entries xs ++ Call seat cpu state inst dir how ∷ []) (operation_entries xs)) ≡ [] →
        (d : ℕ) (w : Walk) (b : Bool) → eqb cpu d ≡ b → walk d xs ≡ Some w →
        codes_of_faults (cond b (walk_entries d xs ++ Call seat cpu state inst dir how ∷ []) (walk_entries d xs)) ≡ []
    go c none1 d w true f q =
        let same : cpu ≡ d = eqb-true cpu d f in
        codes_both (walk_entries d xs) (Call seat cpu state inst dir how ∷ []) (c.walking d w q)
        (call_own (operation_entries xs) (Call seat cpu state inst dir how) (walk cpu xs) w (rw same q) none1)
    go c none1 d w false f q = c.walking d w q
clean_step head xs (WalkEnd seat cpu answer) h own i none =
    let c = i (rw (operation_entries_push xs (WalkEnd seat cpu answer)) at none) in
    record {
      walking = λ d w q.
          rw (walk_entries_push d xs (WalkEnd seat cpu answer))
          (c.walking d w (go d w (eqb cpu d) (rw (walk_push d xs (WalkEnd seat cpu answer)) at q)));
      walked = rw (answers_push xs (WalkEnd seat cpu answer))
          (one_more (answers xs) answer c.walked
          (walked_ok h.whole.outcome (walk_entries cpu xs) answer (c.walking cpu h.of h.in_flight) h.whole.answered));
    }
  where
    go : (d : ℕ) (w : Walk) (b : Bool) → cond b None (walk d xs) ≡ Some w → walk d xs ≡ Some w
    go d w true q = absurd (none_some w q)
    go d w false q = q
clean_step head xs e h own i none =
    let c = i (rw (operation_entries_push xs e) at none) in
    record {
      walking = λ d w q. rw (walk_entries_push d xs e) (c.walking d w (rw (walk_push d xs e) at q));
      walked = rw (answers_push xs e) c.walked;
    }

pub clean : (head : Head) (xs : List Event) → IsLawful head xs → CleanIf xs
unfolding walk answers
clean head xs h =
    holds head CleanIf (λ none. record { walking = λ c w q. absurd (none_some w q); walked = tt })
    (λ xs e s k i. clean_step head xs e s.0 k.owners i) xs h

pub no_failures : (xs : List Answer) → AreZero xs → failures xs ≡ []
no_failures [] h = refl
no_failures (a ∷ more) h = go (is_ok a) (ap is_ok h.0) (no_failures more h.1)
  where
    go : (b : Bool) → b ≡ true → failures more ≡ [] → cond (not b) (a ∷ failures more) (failures more) ≡ []
    go true e none = none
    go false e none = absurd (true≢false (sym e))

-- and the other way: where no walk failed and none in flight has a fault, there is none
pub no_states : (fs : List Faulty) → map (λ f. f.state) fs ≡ [] → map (λ f. f.code) fs ≡ []
no_states [] h = refl
no_states (f ∷ fs) h = absurd (some_item f.state (map (λ g. g.state) fs) h)

pub not_ok : (a b : Answer) → a ≡ b → is_ok b ≡ false → is_ok a ≡ true → ⊥
not_ok a b e f h = true≢false (sym h ∙ (ap is_ok e ∙ f))

pub ok_faultless : (c : ℕ) (K : ℕ → List ℕ) (d : Dir) (plan : List ℕ) (xs : List Crossing) (o : Outcome) (es : List Event) (answer : Answer) →
    IsWalkShape K d plan xs o → Fill (slots c K xs) es → IsAnswer o es answer → is_ok answer ≡ true → codes_of_faults es ≡ []
ok_faultless c K d plan xs went es answer shape filled is ok =
    let f = fill_faults (slots c K xs) es filled in
    let none : failing (slots c K xs) ≡ [] = rw (shape, failing-crossed c K Forward d plan) refl in
    f.1 ∙ no_states (faults es) (sym f.0 ∙ none)
ok_faultless c K d plan xs returned es answer shape filled is ok = absurd (not_ok answer _ is.2 refl ok)
ok_faultless c K d plan xs (stopped at) es answer shape filled is ok = absurd (not_ok answer _ is.3 refl ok)

pub failures_parts : (xs : List Answer) (a : Answer) → failures (xs ++ a ∷ []) ≡ [] → (failures xs ≡ []) × (is_ok a ≡ true)
failures_parts xs a h =
    let p = empty_parts (failures xs) (failures (a ∷ [])) (sym (filter-append (λ x. not (is_ok x)) xs (a ∷ [])) ∙ h) in
    (p.0, go (is_ok a) refl p.1)
  where
    go : (b : Bool) → is_ok a ≡ b → cond (not b) (a ∷ []) [] ≡ [] → is_ok a ≡ true
    go true e n = e
    go false e n = absurd (some_item a [] n)

abbrev pub IfFaultless : List Event → Type 0
IfFaultless xs = AreFaultless xs → codes_of_faults (operation_entries xs) ≡ []

pub faultless_step : (head : Head) (xs : List Event) (e : Event) → Comes head xs e → Owners xs → IfFaultless xs → IfFaultless (xs ++ e ∷ [])
faultless_step head xs (Enter seat op) h own i f = rw (operation_entries_push xs (Enter seat op)) refl
faultless_step head xs (WalkBegin seat cpu from to) h own i f =
    let e = WalkBegin seat cpu from to in
    rw (operation_entries_push xs e)
    (i
    (record {
      ended = rw (answers_push xs e) at f.ended;
      in_flight = λ d w q.
          go d w q (begins_still head xs seat cpu from to own h) (eqb cpu d) refl
          (λ v k. rw (walk_entries_push d xs e) at (f.in_flight d v (walk_push d xs e ∙ k)));
    }))
  where
    n : Walk
    n = record { seat = seat; from = from; to = to; before = xs }

    go : (d : ℕ) (w : Walk) → walk d xs ≡ Some w → walk cpu xs ≡ None → (b : Bool) → eqb cpu d ≡ b →
        ((v : Walk) → cond b (Some n) (walk d xs) ≡ Some v → codes_of_faults (cond b [] (walk_entries d xs)) ≡ []) →
        codes_of_faults (walk_entries d xs) ≡ []
    go d w q still true f g =
        let same : cpu ≡ d = eqb-true cpu d f in
        absurd (none_some w (sym still ∙ rw same q))
    go d w q still false f g = g w q
faultless_step head xs (Call seat cpu state inst dir how) h own i f =
    let e = Call seat cpu state inst dir how in
    let own_walk : (d : ℕ) (w : Walk) → walk d xs ≡ Some w →
    codes_of_faults (cond (eqb cpu d) (walk_entries d xs ++ e ∷ []) (walk_entries d xs)) ≡ [] = λ d w q.
    rw (walk_entries_push d xs e) at (f.in_flight d w (walk_push d xs e ∙ q))
    in
    let before = i
    (record {
      ended = rw (answers_push xs e) at f.ended;
      in_flight = λ d w q. call_before (eqb cpu d) (walk_entries d xs) e (own_walk d w q);
    }) in
    rw (operation_entries_push xs e) (go before own_walk (walk cpu xs) refl)
  where
    go : codes_of_faults (operation_entries xs) ≡ [] →
        ((d : ℕ) (w : Walk) → walk d xs ≡ Some w →
        codes_of_faults (cond (eqb cpu d) (walk_entries d xs ++ Call seat cpu state inst dir how ∷ []) (walk_entries d xs)) ≡ []) →
        (w : Option Walk) → walk cpu xs ≡ w →
        codes_of_faults (cond (is_some w) (operation_entries xs ++ Call seat cpu state inst dir how ∷ []) (operation_entries xs)) ≡ []
    go none g None q = none
    go none g (Some w) q =
        let k = rw (eq-eqb cpu cpu refl) at (g cpu w q) in
        codes_both (operation_entries xs) (Call seat cpu state inst dir how ∷ []) none
        (codes_parts (walk_entries cpu xs) (Call seat cpu state inst dir how ∷ []) k).1
faultless_step head xs (WalkEnd seat cpu answer) h own i f =
    let e = WalkEnd seat cpu answer in
    let p = failures_parts (answers xs) answer (rw (answers_push xs e) at f.ended) in
    let here = ok_faultless cpu _ _ _ h.whole.crossings h.whole.outcome (walk_entries cpu xs) answer h.whole.shape h.whole.filled
    h.whole.answered p.1 in
    rw (operation_entries_push xs e)
    (i
    (record {
      ended = p.0;
      in_flight = λ d w q.
          go here d w q (eqb cpu d) refl (λ k. rw (walk_entries_push d xs e) at (f.in_flight d w (walk_push d xs e ∙ k)));
    }))
  where
    go : codes_of_faults (walk_entries cpu xs) ≡ [] → (d : ℕ) (w : Walk) → walk d xs ≡ Some w → (b : Bool) → eqb cpu d ≡ b →
        (cond b None (walk d xs) ≡ Some w → codes_of_faults (walk_entries d xs) ≡ []) → codes_of_faults (walk_entries d xs) ≡ []
    go here d w q true f g =
        let same : cpu ≡ d = eqb-true cpu d f in
        rw (← same) here
    go here d w q false f g = g q
faultless_step head xs e h own i f =
    rw (operation_entries_push xs e)
    (i
    (record {
      ended = rw (answers_push xs e) at f.ended;
      in_flight = λ d w q. rw (walk_entries_push d xs e) at (f.in_flight d w (walk_push d xs e ∙ q));
    }))

pub faultless : (head : Head) (xs : List Event) → IsLawful head xs → IfFaultless xs
unfolding operation_entries
faultless head xs h = holds head IfFaultless (λ f. refl) (λ xs e s k i. faultless_step head xs e s.0 k.owners i) xs h
