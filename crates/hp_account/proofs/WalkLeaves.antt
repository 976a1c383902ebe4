-- A walk that ends leaves its processor at one of the states.
use Rattle.std.proofs.Common.{◌≡◌, ℕ, ◌+◌, ◌-◌, ◌<◌, ◌≤◌, Bool, true, false, not, cond, eqb, ltb, Option, Some, None, List, ◌∷◌, ◌++◌, zero, suc, refl, sym, ap, ◌∙◌, subst, arith}
use Rattle.std.specs.Prelude.{reverse}
use Rattle.std.proofs.lemmas.Bool.{eq-eqb, eqb-true}
use Rattle.hp_states.proofs.Basics.{same_some}
use Rattle.hp_states.specs.Crossings.{state_after}
use Rattle.hp_states.specs.declared.limits.TheConstants.{ONLINE}
use Rattle.hp_states.specs.declared.dir.Dir.{Dir}
use Rattle.hp_states.specs.declared.dir.Dir.TheVariants.{Up, Down}
use Rattle.hp_event.specs.Leaves.{leaves_at}
use Rattle.hp_event.specs.declared.answer.Answer.{Answer}
use Rattle.hp_event.specs.declared.head.Head.{Head}
use Rattle.hp_event.specs.declared.event.Event.{Event}
use Rattle.hp_model.specs.Plan.{direction, plan}
use Rattle.hp_model.specs.Lists.{occurs, rising, is_empty}
use Rattle.hp_model.specs.Plan.{plan, keyed}
use Rattle.hp_model.specs.Registered.{keys}
use Rattle.hp_model.specs.Settled.{left_at}
use Rattle.hp_model.specs.StandsOperations.{WalkEnds}
use Rattle.hp_model.specs.Walks.{Walk, walk_entries}
use Rattle.hp_model.specs.WalkShape.{Outcome, went, returned, stopped, IsWalkShape, IsAnswer, IsWholeWalk}
use Rattle.hp_model.specs.Lawful.{IsLawful}
use Rattle.hp_model.proofs.Counts.{occurs-append}
use Rattle.hp_model.proofs.Operations.{in_filter}
use Rattle.hp_model.proofs.TreeShapes.{cut_back}
use Rattle.hp_walk.specs.Cursor.{to_of}
use Rattle.hp_account.specs.declared.flights.Flight.{Flight}
use Rattle.hp_account.specs.declared.flights.Flights.{Flights}
use Rattle.hp_account.specs.FlightChanges.{IfWalks}
use Rattle.hp_account.specs.Flights.{IsFlightOf, IsFlights}
use Rattle.hp_account.specs.Places.{at_place}
use Rattle.hp_account.proofs.CanAppend.{ended_on}
use Rattle.hp_account.proofs.StandingMore.{EndsAt}

in_rising : (s a n : ℕ) → 0 < occurs s (rising a n) → s ≤ a + n
in_rising s a zero h = absurd (omega arith)
in_rising s a (suc n) h = go (eqb (suc a) s) refl (in_rising s (suc a) n) h
  where
    go : (b : Bool) → eqb (suc a) s ≡ b → (0 < occurs s (rising (suc a) n) → s ≤ suc a + n) → 0 < cond b 1 0 + occurs s (rising (suc a) n) → s ≤ a + suc n
    go true e more h = let at : suc a ≡ s = eqb-true (suc a) s e in omega (arith, at)
    go false e more h = let m : s ≤ suc a + n = more (omega (arith, h)) in omega (arith, m)

-- a state in the midst of a list is in it
in_midst : (s : ℕ) (before after : List ℕ) → 0 < occurs s (before ++ s ∷ after)
in_midst s before after =
    let self : eqb s s ≡ true = eq-eqb s s refl in
    let parts : occurs s (before ++ s ∷ after) ≡ occurs s before + (cond (eqb s s) 1 0 + occurs s after) = occurs-append s before (s ∷ after) in
    subst (λ (n : ℕ). 0 < n) (sym parts) (rw self (omega arith))

-- the states of a plan are none above those between which it goes
in_keyed : (keys : ℕ → List ℕ) (s a n top : ℕ) (before after : List ℕ) → keyed keys (rising a n) ≡ before ++ s ∷ after → a + n ≤ top → s ≤ top
in_keyed keys s a n top before after is most =
    let there = subst (λ xs. 0 < occurs s xs) (sym is) (in_midst s before after) in
    let r = in_rising s a n (in_filter (λ t. not (is_empty (keys t))) s (rising a n) there).1 in
    omega (arith, r, most)

in_plan : (keys : ℕ → List ℕ) (from to s : ℕ) (before after : List ℕ) → from ≤ ONLINE → to ≤ ONLINE →
    plan keys from to ≡ before ++ s ∷ after → s ≤ ONLINE
in_plan keys from to s before after from_most to_most is = go (ltb from to) is
  where
    go : (b : Bool) → cond b (keyed keys (rising from (to - from))) (reverse (keyed keys (rising to (from - to)))) ≡ before ++ s ∷ after → s ≤ ONLINE
    go true h = in_keyed keys s from (to - from) ONLINE before after h (omega (arith, from_most, to_most))
    go false h =
        in_keyed keys s to (from - to) ONLINE (reverse after) (reverse before)
        (cut_back (keyed keys (rising to (from - to))) before s after h) (omega (arith, from_most, to_most))

after_most : (d : Dir) (s : ℕ) → s ≤ ONLINE → state_after d s ≤ ONLINE
after_most Up s h = h
after_most Down s h = omega (arith, h)

answer_most : (cpu : ℕ) (keys : ℕ → List ℕ) (from to : ℕ) (entries : List Event) (answer : Answer) (at : ℕ) → from ≤ ONLINE → to ≤ ONLINE →
    IsWholeWalk cpu keys (direction from to) (plan keys from to) entries answer → at ≤ ONLINE → leaves_at answer to at ≤ ONLINE
answer_most cpu keys from to entries answer at from_most to_most w most = go w.outcome w.shape w.answered
  where
    go : (o : Outcome) → IsWalkShape keys (direction from to) (plan keys from to) w.crossings o → IsAnswer o entries answer →
        leaves_at answer to at ≤ ONLINE
    go went shape a = subst (λ (x : Answer). leaves_at x to at ≤ ONLINE) (sym a) to_most
    go returned shape a = subst (λ (x : Answer). leaves_at x to at ≤ ONLINE) (sym a.2) most
    go (stopped left) shape a =
        let s = in_plan keys from to shape.stuck_state shape.before (shape.between ++ shape.state ∷ shape.after) from_most to_most shape.plan_is in
        subst (λ (x : Answer). leaves_at x to at ≤ ONLINE) (sym a.3)
        (subst (λ (n : ℕ). n ≤ ONLINE) (sym shape.at_is) (after_most (direction from to) shape.stuck_state s))

-- the end of a walk says where it leaves its processor
pub ends_at : (head : Head) (es : List Event) (f : Flights) (seat cpu to : ℕ) (answer : Answer) → IsLawful head es →
    WalkEnds head es seat cpu answer → IsFlights head es f → IfWalks (at_place f.by_cpu.items cpu) (λ flight. to_of flight.walk ≡ to) →
    EndsAt head es cpu to answer
ends_at head es f seat cpu to answer lawful comes is went_there =
    go (at_place f.by_cpu.items cpu) (is.each cpu) went_there
  where
    go : (o : Option Flight) → IsFlightOf head es cpu o → IfWalks o (λ flight. to_of flight.walk ≡ to) → EndsAt head es cpu to answer
    go None none there = elim there [ ]
    go (Some flight) b there =
        let same : b.of ≡ comes.of = same_some b.of comes.of (sym b.in_flight ∙ comes.in_flight) in
        let to_is : comes.of.to ≡ to = ap (λ (w : Walk). w.to) (sym same) ∙ sym b.walk_is.2 ∙ there in
        let from_is : comes.of.from ≡ flight.walk.from = ap (λ (w : Walk). w.from) (sym same) ∙ sym b.walk_is.1 in
        let from_most : comes.of.from ≤ ONLINE = subst (λ (n : ℕ). n ≤ ONLINE) (sym from_is) b.after.within.from_most in
        let to_most : comes.of.to ≤ ONLINE =
        subst (λ (n : ℕ). n ≤ ONLINE) (b.walk_is.2 ∙ ap (λ (w : Walk). w.to) same) b.after.within.to_most in
        record {
          below = ended_on head es seat cpu answer lawful comes;
          walk_is = λ at. ap (λ (w : Option Walk). left_at answer w at) comes.in_flight ∙ ap (λ (n : ℕ). leaves_at answer n at) to_is;
          most = λ at h.
              subst (λ (n : ℕ). leaves_at answer n at ≤ ONLINE) to_is
              (answer_most cpu (keys head comes.of.before) comes.of.from comes.of.to (walk_entries cpu es) answer at from_most to_most comes.whole h);
        }
