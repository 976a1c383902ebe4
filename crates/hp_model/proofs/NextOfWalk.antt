-- While a walk is in flight an event of it can come next: an entry, or its end.
use Rattle.std.proofs.Common.{◌≡◌, ℕ, ◌≤◌, true, not, Some, List, [], ◌∷◌, length, refl, ap, sym, subst, ◌∙◌, inl, inr, ◌⊎◌, arith}
use Rattle.std.proofs.lemmas.List.{length-map}
use Rattle.hp_states.proofs.Basics.{not_not}
use Rattle.hp_states.specs.declared.dir.Dir.{Dir}
use Rattle.hp_event.specs.declared.how.How.{How}
use Rattle.hp_event.specs.declared.answer.Answer.{Answer}
use Rattle.hp_event.specs.declared.head.Head.{Head}
use Rattle.hp_event.specs.declared.event.Event.{Event}
use Rattle.hp_model.specs.Walks.{Walk, walk, walk_entries}
use Rattle.hp_model.specs.Registered.{keys}
use Rattle.hp_model.specs.Seats.{ap_seat}
use Rattle.hp_model.specs.Plan.{direction, plan}
use Rattle.hp_model.specs.Entries.{is_done}
use Rattle.hp_model.specs.StandsCalls.{IsNext, WalkEntry}
use Rattle.hp_model.specs.StandsOperations.{WalkEnds}
use Rattle.hp_model.specs.How.{how_in_walk}
use Rattle.hp_model.specs.Faults.{Faulty, faults, walk_answer}
use Rattle.hp_model.specs.Crossing.{Slot, slots}
use Rattle.hp_model.specs.WalkShape.{IsWholeWalk}
use Rattle.hp_model.specs.NextInWalk.{walk_errand, next_of_walk}
use Rattle.hp_model.specs.BatchTurn.{has_turn}
use Rattle.hp_model.proofs.NextSlot.{with_fails, Tree, stop, step, walk_tree, shape_follows}
use Rattle.hp_model.proofs.TreeShapes.{tree_shape}
use Rattle.hp_model.proofs.Cursor.{Runs, sound_walk, IsNextIn, end_of_walk}
use Rattle.hp_model.proofs.Failing.{shape_outcome}
use Rattle.hp_model.proofs.WalkEnd.{fill_faults, whole_walk}
use Rattle.hp_model.proofs.Kept.{WalkKept}
use Rattle.hp_model.proofs.TreeSteps.{IsOn, steps_walk}
use Rattle.hp_model.proofs.Remains.{IsAt, at_end, at_step, at_tree}
use Rattle.hp_model.proofs.Errands.{IsSound, entry_at, goes}
use Rattle.hp_model.proofs.HowLemmas.{walk_fails}

answer_of_few : (d : Dir) (fs : List Faulty) → length fs ≤ 2 → (answer : Answer) × (walk_answer d fs ≡ Some answer)
answer_of_few d [] h = (_, refl)
answer_of_few d (f ∷ []) h = (_, refl)
answer_of_few d (f ∷ (g ∷ [])) h = (_, refl)
answer_of_few d (f ∷ (g ∷ (j ∷ js))) h = absurd (omega (arith, h))

-- what comes next in a walk: its end, or an entry
pub record EndsNext (head : Head) (xs : List Event) (c : ℕ) (w : Walk) : Type 0 where
  pub answer : Answer
  pub whole :
      IsWholeWalk c (keys head w.before) (direction w.from w.to) (plan (keys head w.before) w.from w.to) (walk_entries c xs)
      answer

pub record EntryNext (head : Head) (xs : List Event) (c : ℕ) (w : Walk) : Type 0 where
  pub state : ℕ
  pub inst : ℕ
  pub dir : Dir
  pub how : How
  pub entry : WalkEntry head xs c state inst dir how
  pub client_is : entry.of.seat ≡ w.seat

walk_answers : (head : Head) (xs : List Event) (c : ℕ) (w : Walk) →
    Runs (walk_tree c (keys head w.before) (direction w.from w.to) [] (plan (keys head w.before) w.from w.to)) (walk_entries c xs) stop →
    (answer : Answer) × (walk_answer (direction w.from w.to) (faults (walk_entries c xs)) ≡ Some answer)
walk_answers head xs c w r =
    let K = keys head w.before in
    let d = direction w.from w.to in
    let e = end_of_walk c K d (plan K w.from w.to) (walk_entries c xs) (record { runs = r }) in
    let few = (shape_outcome c K d (plan K w.from w.to) e.crossings e.outcome e.shape).1 in
    let f = ap length (fill_faults (slots c K e.crossings) (walk_entries c xs) e.filled).0
    ∙ length-map (faults (walk_entries c xs)) (λ (z : Faulty). z.state) in
    answer_of_few d (faults (walk_entries c xs)) (omega arith)

-- the end that comes next stands where it is its turn
pub ends_with : (head : Head) (xs : List Event) (c : ℕ) (w : Walk) → walk c xs ≡ Some w → (n : EndsNext head xs c w) →
    has_turn head xs w.seat c ≡ true → WalkEnds head xs w.seat c n.answer
ends_with head xs c w at n t = record { of = w; in_flight = at; seat_is = refl; turn = t; whole = n.whole }

walk_sound : (head : Head) (xs : List Event) (c : ℕ) (w : Walk) → IsSound (IsOn c) (walk_errand head xs c w)
walk_sound head xs c w =
    let K = keys head w.before in
    record {
      sound = (sound_walk c K (direction w.from w.to) [] (plan K w.from w.to)).1;
      steps = steps_walk c K (direction w.from w.to) [] (plan K w.from w.to);
      fails = walk_fails head xs;
    }

-- the entry at which the entries of a walk stand
pub walk_entry : (head : Head) (xs : List Event) (c : ℕ) (w : Walk) (s : Slot) (a b : Tree) → walk c xs ≡ Some w →
    Runs (walk_tree c (keys head w.before) (direction w.from w.to) [] (plan (keys head w.before) w.from w.to)) (walk_entries c xs) (step s a b) →
    (s.cpu ≡ c)
    × (e : WalkEntry head xs c s.state s.inst s.dir (how_in_walk head xs c s.state s.inst s.dir s.place s.first))
    × (e.of.seat ≡ w.seat)
walk_entry head xs c w s a b at r =
    let K = keys head w.before in
    let n = entry_at (IsOn c) (walk_errand head xs c w) s a b (walk_sound head xs c w) r in
    let is = subst (λ z. IsNextIn (walk_errand head xs c w).tree (walk_entries c xs) (made_slot z)) n.0 n.1 in
    let g = tree_shape c K (direction w.from w.to) (plan K w.from w.to) is.slots is.follows in (
      n.0,
      record {
        of = w;
        in_flight = at;
        outcome = g.outcome;
        crossings = g.crossings;
        shape = g.shape;
        slot = made_slot c;
        is_next = subst (λ z. IsNext z (walk_entries c xs) (made_slot c)) g.slots_are is.is_next;
        fits = (sym n.0, refl, refl, refl, not_not (is_done (how_in_walk head xs c s.state s.inst s.dir s.place s.first)));
        how_is = refl;
      },
      refl,
    )
  where
    made_slot : (cpu : ℕ) → Slot
    made_slot z = with_fails s (not (is_done (how_in_walk head xs z s.state s.inst s.dir s.place s.first)))

walk_at : (head : Head) (xs : List Event) (c : ℕ) (w : Walk) → WalkKept head c w xs →
    IsAt (walk_tree c (keys head w.before) (direction w.from w.to) [] (plan (keys head w.before) w.from w.to)) (walk_entries c xs)
walk_at head xs c w kept =
    let K = keys head w.before in
    let d = direction w.from w.to in
    let f = kept.so_far in
    at_tree (walk_tree c K d [] (plan K w.from w.to)) (slots c K f.crossings) (walk_entries c xs)
    (shape_follows c K d (plan K w.from w.to) f.crossings f.outcome f.shape) f.begun

pub walk_next : (head : Head) (xs : List Event) (c : ℕ) (w : Walk) → walk c xs ≡ Some w → WalkKept head c w xs →
    EndsNext head xs c w ⊎ EntryNext head xs c w
walk_next head xs c w at kept = go (walk_at head xs c w kept)
  where
    go : IsAt (walk_tree c (keys head w.before) (direction w.from w.to) [] (plan (keys head w.before) w.from w.to)) (walk_entries c xs) →
        EndsNext head xs c w ⊎ EntryNext head xs c w
    go (at_end r) =
        let K = keys head w.before in
        let a = walk_answers head xs c w r in
        let whole = whole_walk c K (direction w.from w.to) (plan K w.from w.to) (walk_entries c xs) a.0 (record { runs = r }) a.1 in
        inl (record { answer = a.0; whole = whole })
    go (at_step s a b r) =
        let e = walk_entry head xs c w s a b at r in
        inr (record {
          state = s.state;
          inst = s.inst;
          dir = s.dir;
          how = how_in_walk head xs c s.state s.inst s.dir s.place s.first;
          entry = e.1;
          client_is = e.2;
        })

-- so something does, where the thread of the processor is in
pub walk_goes : (head : Head) (xs : List Event) (c : ℕ) (w : Walk) → WalkKept head c w xs → (k : ℕ) × (ap_seat c xs ≡ Some k) →
    (e : Event) × (next_of_walk head xs c (Some w) ≡ Some e)
walk_goes head xs c w kept thread =
    goes xs (IsOn c) (walk_errand head xs c w) (walk_sound head xs c w) (walk_at head xs c w kept) (walk_answers head xs c w)
    (λ x on. (thread.0, ap (λ z. ap_seat z xs) on ∙ thread.1))
