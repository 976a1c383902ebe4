-- The headline, from what every lawful journal keeps.
use Rattle.std.proofs.Common.{◌≡◌, ℕ, ◌+◌, ◌<◌, ◌≤◌, Bool, true, false, cond, eqb, leb, ◌&&◌, Option, Some, None, List, [], ◌∷◌, ◌++◌, refl, ap, sym, ◌∙◌, arith}
use Rattle.std.specs.Prelude.{◌↔◌, pos}
use Rattle.std.proofs.lemmas.Bool.{eqb-true, eq-eqb, leb-true, leb-false, and_right}
use Rattle.hp_states.proofs.Basics.{same_some}
use Rattle.hp_states.specs.declared.dir.Dir.TheVariants.{Up, Down}
use Rattle.hp_event.specs.declared.answer.Answer.{Answer}
use Rattle.hp_event.specs.declared.answer.Answer.TheVariants.{Ok, Fault, Stuck}
use Rattle.hp_event.specs.declared.head.Head.{Head}
use Rattle.hp_event.specs.declared.event.Event.{Event}
use Rattle.hp_event.specs.declared.event.Event.TheVariants.{WalkEnd, RegEnd}
use Rattle.hp_model.specs.InForce.{ups, downs}
use Rattle.hp_model.specs.Lists.{occurs}
use Rattle.hp_model.specs.Crossing.{Crossing, Slot, level, slots, Fill}
use Rattle.hp_model.specs.Plan.{direction, plan}
use Rattle.hp_model.specs.WalkShape.{Outcome, went, returned, stopped, IsWalkShape, IsAnswer, IsWholeWalk}
use Rattle.hp_model.specs.Walks.{Walk, walk, walk_entries, touched}
use Rattle.hp_model.specs.Registrations.{Registration, registration, registration_entries}
use Rattle.hp_model.specs.Registered.{keys}
use Rattle.hp_model.specs.Settled.{settled}
use Rattle.hp_model.specs.Processors.{processors}
use Rattle.hp_model.specs.RegistrationShape.{key_of, is_adding, Registering, made, undone, IsRegistrationShape, IsRegistrationAnswer, IsWholeRegistration, ok_value}
use Rattle.hp_model.specs.StandsOperations.{WalkEnds}
use Rattle.hp_model.specs.StandsRegistrations.{RegEnds}
use Rattle.hp_model.specs.Lawful.{Comes, Stands, IsLawful}
use Rattle.hp_model.specs.Headline.{Agree, Unchanged, WalkAgrees, WalkUndone, WalkStuck, RegistrationUndone, Headline}
use Rattle.hp_model.proofs.Counts.{at_or_below, done_entries_push}
use Rattle.hp_model.proofs.Path.{path_nets, plan_path, shape_path, end_of}
use Rattle.hp_model.proofs.Readings.{read_crossings, reading_nets}
use Rattle.hp_model.proofs.Laws.{registered_push, settled_push, EachAfter_push, EachAfter_more, EachAfter_front}
use Rattle.hp_model.proofs.Registrations.{is_hit, undone_even}
use Rattle.hp_model.proofs.RegistrationBounds.{shape_begun}
use Rattle.hp_model.proofs.Kept.{Balanced, WalkKept, RegistrationKept, Kept, Unmoved}
use Rattle.hp_model.proofs.WalkSteps.{end_unmoved}
use Rattle.hp_model.proofs.RegistrationSteps.{registered_undone}
use Rattle.hp_model.proofs.Induction.{kept}
use Rattle.hp_model.proofs.Beside.{Still, BesideBy, Beside, beside}
use Rattle.hp_model.proofs.ReadersKept.{readers}
use Rattle.hp_model.proofs.Once.{once}
use Rattle.hp_model.proofs.ShownLemmas.{reading_shown}

pub agree_from : (b : Bool) (s a n u d : ℕ) → leb s a ≡ b → u ≡ d + cond b n 0 → (d < u) ↔ ((s ≤ a) × (0 < n))
agree_from true s a n u d f e = let le = leb-true s a f in (λ h. (le, omega arith), λ h. let p = h.1 in omega arith)
agree_from false s a n u d f e = let gt = leb-false s a f in (λ h. absurd (omega arith), λ h. let p = h.0 in absurd (omega arith))

pub agree : (head : Head) (events : List Event) (c a s i : ℕ) →
    ups c s i events ≡ downs c s i events + at_or_below (keys head events) a s i → Agree head events c a s i
agree head events c a s i e =
    agree_from (leb s a) s a (occurs i (keys head events s)) (ups c s i events) (downs c s i events) refl e

pub at_rest : (head : Head) (events : List Event) (c s i : ℕ) → Kept head events → walk c events ≡ None → registration events ≡ None →
    Agree head events c (settled c events) s i
at_rest head events c s i k w r =
    let b : Balanced head c events = rw (w, r) at (k.at c).kept in
    agree head events c (settled c events) s i (b.at s i)

pub in_walk : (head : Head) (events : List Event) (c : ℕ) (w : Walk) → walk c events ≡ Some w →
    ((s i : ℕ) → occurs i (keys head events s) ≤ 1) → WalkKept head c w events → WalkAgrees head c w events
in_walk head events c w e once k = record {
  readable = record {
    outcome = k.so_far.outcome;
    crossings = k.so_far.crossings;
    shape = k.so_far.shape;
    reading = read_crossings c (keys head w.before) k.so_far.crossings (walk_entries c events) k.so_far.begun;
  };
  agree = λ r s i shut.
      let K = keys head w.before in
      let p = shape_path K (direction w.from w.to) (plan K w.from w.to) w.from w.to r.crossings r.outcome
      (plan_path K w.from w.to) r.shape in
      let net = reading_nets c K w.from (end_of r.outcome w.from w.to) r.crossings (walk_entries c events) s i p r.reading shut in
      let b = rw (← k.from_is) at (k.balanced.at s i) in
      let up = k.counts s i Up in
      let down = k.counts s i Down in
      let is_level = reading_shown head c w events e (λ t j. rw (k.registered_same t) at (once t j)) r in
      rw is_level (agree head events c (level w.from r.reading.whole) s i (rw (k.registered_same s) (omega arith)));
}

pub not_hit : (s t : ℕ) (key : Option ℕ) (i : ℕ) → ((t ≡ s) × (key ≡ Some i) → ⊥) → is_hit s key t i ≡ false
not_hit s t None i h = and_right (eqb s t) false refl
not_hit s t (Some j) i h = go (eqb s t) (eqb j i) refl refl
  where
    go : (p q : Bool) → eqb s t ≡ p → eqb j i ≡ q → (p && q) ≡ false
    go true true e f = absurd (h (sym (eqb-true s t e), ap Some (eqb-true j i f)))
    go true false e f = refl
    go false q e f = refl

pub in_registration : (head : Head) (events : List Event) (r : Registration) (c s i : ℕ) → RegistrationKept head r events →
    ((s ≡ r.state) × (key_of head r ≡ Some i) → ⊥) → Agree head events c (settled c events) s i
in_registration head events r c s i k other =
    let shut = not_hit r.state s (key_of head r) i other in
    let up = shape_begun c s i Up (is_adding r.op) r.state (key_of head r) (processors head r.state r.before) k.so_far.slots
    k.so_far.outcome (registration_entries events) k.so_far.shape shut k.so_far.begun in
    let down = shape_begun c s i Down (is_adding r.op) r.state (key_of head r) (processors head r.state r.before) k.so_far.slots
    k.so_far.outcome (registration_entries events) k.so_far.shape shut k.so_far.begun in
    let up' = k.counts c s i Up in
    let down' = k.counts c s i Down in
    let b = (k.balanced c).at s i in
    agree head events c (settled c events) s i (rw (k.registered_same s, k.settled_same c) (omega arith))

-- what is in force is as it was where more is done by as much as before
pub unchanged_from : (c : ℕ) (before events : List Event) →
    ((s i : ℕ) → ups c s i events + downs c s i before ≡ downs c s i events + ups c s i before) →
    settled c events ≡ settled c before → Unchanged c before events
unchanged_from c before events h e = record {
  in_force = λ s i. let n = h s i in (λ p. omega arith, λ p. omega arith);
  settled_same = e;
}

pub others_unchanged : (head : Head) (before : List Event) (seat c : ℕ) (answer : Answer) (w : Walk) (o : ℕ) → Beside before →
    walk c before ≡ Some w → touched c o before ≡ false → Unchanged o w.before (before ++ WalkEnd seat c answer ∷ [])
others_unchanged head before seat c answer w o b e t =
    let g : BesideBy c o before (Some w) = rw e at (b.at c o) in
    go (g t) (eqb c o) refl
  where
    some_none : (w : Walk) → Some w ≡ None → ⊥
    some_none w h = cc

    go : Still o w.before before → (same : Bool) → eqb c o ≡ same → Unchanged o w.before (before ++ WalkEnd seat c answer ∷ [])
    go s true f =
        let g : c ≡ o = eqb-true c o f in
        let h : walk o before ≡ Some w = rw g at e in
        absurd (some_none w (sym h ∙ s.no_walk))
    go s false f =
        let u : Unmoved head o before (before ++ WalkEnd seat c answer ∷ []) = end_unmoved head o before seat c answer f in
        unchanged_from o w.before (before ++ WalkEnd seat c answer ∷ [])
        (λ t i.
        let up = u.counts_same t i Up ∙ s.counts_same t i Up in
        let down = u.counts_same t i Down ∙ s.counts_same t i Down in
        omega arith)
        (u.settled_same ∙ s.settled_same)

pub fault_even : (c : ℕ) (K : ℕ → List ℕ) (from to : ℕ) (o : Outcome) (xs : List Crossing) (es : List Event) (code : ℕ) →
    IsWalkShape K (direction from to) (plan K from to) xs o → Fill (slots c K xs) es → IsAnswer o es (Fault code) →
    (s i : ℕ) → ups c s i es ≡ downs c s i es
fault_even c K from to went xs es code shape filled answered s i = absurd (not_ok code answered)
  where
    not_ok : (code : ℕ) → Fault code ≡ Ok (pos 0) → ⊥
    not_ok code h = cc
fault_even c K from to returned xs es code shape filled answered s i =
    let p = shape_path K (direction from to) (plan K from to) from to xs returned (plan_path K from to) shape in
    let net = path_nets c K from from xs es s i p filled in
    omega arith
fault_even c K from to (stopped at) xs es code shape filled answered s i =
    absurd (not_stuck code answered.0 answered.1 at answered.3)
  where
    not_stuck : (code first second at : ℕ) → Fault code ≡ Stuck first second at → ⊥
    not_stuck code first second at h = cc

pub walk_undone : (head : Head) (before : List Event) (seat c code : ℕ) (w : Walk) → Beside before →
    walk c before ≡ Some w → WalkKept head c w before →
    IsWholeWalk c (keys head w.before) (direction w.from w.to) (plan (keys head w.before) w.from w.to) (walk_entries c before) (Fault code) →
    WalkUndone head c w before (before ++ WalkEnd seat c (Fault code) ∷ [])
walk_undone head before seat c code w b e k whole =
    let self : eqb c c ≡ true = eq-eqb c c refl in
    let even = fault_even c (keys head w.before) w.from w.to whole.outcome whole.crossings (walk_entries c before) code
    whole.shape whole.filled whole.answered in
    record {
      even = even;
      unchanged = unchanged_from c w.before (before ++ WalkEnd seat c (Fault code) ∷ [])
          (λ s i.
          let n = even s i in
          let up = k.counts s i Up in
          let down = k.counts s i Down in
          rw (
            done_entries_push c s i Up before (WalkEnd seat c (Fault code)),
            done_entries_push c s i Down before (WalkEnd seat c (Fault code)),
          )
          (omega arith))
          (settled_push c before (WalkEnd seat c (Fault code)) ∙ rw self k.settled_same);
      registered_same = λ s. registered_push head s before (WalkEnd seat c (Fault code)) ∙ k.registered_same s;
      others = λ o t. others_unchanged head before seat c (Fault code) w o b e t;
    }

pub walk_stuck : (head : Head) (before : List Event) (seat c first second at : ℕ) (w : Walk) → Beside before →
    walk c before ≡ Some w → WalkKept head c w before →
    WalkStuck head c at w before (before ++ WalkEnd seat c (Stuck first second at) ∷ [])
walk_stuck head before seat c first second at w b e k =
    let self : eqb c c ≡ true = eq-eqb c c refl in
    record {
      stands_at = settled_push c before (WalkEnd seat c (Stuck first second at)) ∙ rw self refl;
      registered_same = λ s. registered_push head s before (WalkEnd seat c (Stuck first second at)) ∙ k.registered_same s;
      others = λ o t. others_unchanged head before seat c (Stuck first second at) w o b e t;
    }

pub registration_even : (head : Head) (r : Registration) (o : Registering) (xs : List Slot) (es : List Event) (code : ℕ) →
    IsRegistrationShape (is_adding r.op) r.state (key_of head r) (processors head r.state r.before) xs o → Fill xs es →
    IsRegistrationAnswer o (ok_value r.op r.state) es (Fault code) → (c s i : ℕ) → ups c s i es ≡ downs c s i es
registration_even head r made xs es code shape filled answered c s i = absurd (not_ok code (ok_value r.op r.state) answered)
  where
    not_ok : (code value : ℕ) → Fault code ≡ Ok (pos value) → ⊥
    not_ok code value h = cc
registration_even head r undone xs es code shape filled answered c s i =
    undone_even c s i r.state (is_adding r.op) (key_of head r) (processors head r.state r.before) xs es shape filled

pub registration_undone : (head : Head) (before : List Event) (seat code : ℕ) (r : Registration) → RegistrationKept head r before →
    IsWholeRegistration head r (registration_entries before) (Fault code) →
    RegistrationUndone head r (before ++ RegEnd seat (Fault code) ∷ [])
registration_undone head before seat code r k whole = record {
  everyone = λ c.
      unchanged_from c r.before (before ++ RegEnd seat (Fault code) ∷ [])
      (λ s i.
      let n = registration_even head r whole.outcome whole.slots (registration_entries before) code whole.shape whole.filled
      whole.answered c s i in
      let up = k.counts c s i Up in
      let down = k.counts c s i Down in
      rw (
        done_entries_push c s i Up before (RegEnd seat (Fault code)),
        done_entries_push c s i Down before (RegEnd seat (Fault code)),
      )
      (omega arith))
      (settled_push c before (RegEnd seat (Fault code)) ∙ k.settled_same c);
  registered_same = λ s. registered_undone head before seat (Fault code) code s refl ∙ k.registered_same s;
}

-- the last event of a lawful journal stands after the others, which are lawful
pub last : (head : Head) (before : List Event) (e : Event) → IsLawful head (before ++ e ∷ []) →
    IsLawful head before × Comes head before e
last head before e h = let r = EachAfter_push (Stands head) [] before e h.1 in ((h.0, r.0), r.1.0)

pub walk_fault_last : (head : Head) (before : List Event) (seat c code : ℕ) (w : Walk) →
    IsLawful head (before ++ WalkEnd seat c (Fault code) ∷ []) → walk c before ≡ Some w →
    WalkUndone head c w before (before ++ WalkEnd seat c (Fault code) ∷ [])
walk_fault_last head before seat c code w lawful at =
    let l = last head before (WalkEnd seat c (Fault code)) lawful in
    let h : WalkEnds head before seat c (Fault code) = l.1 in
    let same : h.of ≡ w = same_some h.of w (sym h.in_flight ∙ at) in
    let k : WalkKept head c w before = rw at at ((kept head before l.0).at c).kept in
    walk_undone head before seat c code w (beside head before l.0) at k (rw same at h.whole)

pub walk_stuck_last : (head : Head) (before : List Event) (seat c first second at : ℕ) (w : Walk) →
    IsLawful head (before ++ WalkEnd seat c (Stuck first second at) ∷ []) → walk c before ≡ Some w →
    WalkStuck head c at w before (before ++ WalkEnd seat c (Stuck first second at) ∷ [])
walk_stuck_last head before seat c first second at w lawful e =
    let l = last head before (WalkEnd seat c (Stuck first second at)) lawful in
    let k : WalkKept head c w before = rw e at ((kept head before l.0).at c).kept in
    walk_stuck head before seat c first second at w (beside head before l.0) e k

pub registration_fault_last : (head : Head) (before : List Event) (seat code : ℕ) (r : Registration) →
    IsLawful head (before ++ RegEnd seat (Fault code) ∷ []) → registration before ≡ Some r →
    RegistrationUndone head r (before ++ RegEnd seat (Fault code) ∷ [])
registration_fault_last head before seat code r lawful at =
    let l = last head before (RegEnd seat (Fault code)) lawful in
    let h : RegEnds head before seat (Fault code) = l.1 in
    let same : h.of ≡ r = same_some h.of r (sym h.in_flight ∙ at) in
    let k : RegistrationKept head r before = rw at at (kept head before l.0).registration_kept in
    registration_undone head before seat code r k (rw same at h.whole)

-- the headline of a journal, from what it keeps and from how its last event stands
pub headline : (head : Head) (events : List Event) → IsLawful head events → Headline head events
headline head events lawful =
    let k = kept head events lawful in
    record {
      once = λ c s i. let o = once head c s i events k in (o.low, o.high);
      at_rest = λ c s i w r. at_rest head events c s i k w r;
      in_walk = λ c w e. in_walk head events c w e k.once (rw e at (k.at c).kept);
      in_registration = λ r e c s i other. in_registration head events r c s i (rw e at k.registration_kept) other;
      walk_fault = λ before seat c code w e f. rw e (walk_fault_last head before seat c code w (rw e at lawful) f);
      walk_stuck = λ before seat c first second at w e f.
          rw e (walk_stuck_last head before seat c first second at w (rw e at lawful) f);
      registration_fault = λ before seat code r e f.
          rw e (registration_fault_last head before seat code r (rw e at lawful) f);
      readers = λ k before e. rw e at ((readers head events lawful).at k);
    }

-- every front of a lawful journal is lawful, and one event more that stands keeps it so
pub lawful_front : (head : Head) (front rest : List Event) → IsLawful head (front ++ rest) → IsLawful head front
lawful_front head front rest h = (h.0, EachAfter_front (Stands head) [] front rest h.1)

pub lawful_more : (head : Head) (events : List Event) (e : Event) → IsLawful head events → Stands head events e →
    IsLawful head (events ++ e ∷ [])
lawful_more head events e h s = (h.0, EachAfter_more (Stands head) [] events e h.1 s)

pub headline_of_front : (head : Head) (front rest : List Event) → IsLawful head (front ++ rest) → Headline head front
headline_of_front head front rest h = headline head front (lawful_front head front rest h)
