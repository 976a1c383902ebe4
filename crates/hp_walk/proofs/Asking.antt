-- What a walk asks for: the entry that comes next. And where it is going, by the faults that there were.
use Rattle.std.proofs.Common.{◌≡◌, ℕ, ◌+◌, Bool, true, false, cond, eqb, Some, List, [], ◌∷◌, take, drop, refl}
use Rattle.std.specs.Prelude.{slice_index}
use Rattle.std.proofs.lemmas.Bool.{false≢true}
use Rattle.hp_states.proofs.Basics.{none_some, same_some}
use Rattle.hp_states.specs.declared.dir.Dir.{Dir}
use Rattle.hp_states.specs.declared.place.Place.{Place}
use Rattle.hp_states.specs.declared.place.Place.TheVariants as placed
use Rattle.hp_states.specs.Sections.{opposite, can_fail}
use Rattle.hp_event.specs.declared.answer.Answer.{Answer}
use Rattle.hp_event.specs.declared.event.Event.{Event}
use Rattle.hp_event.specs.declared.key.Key.{Key}
use Rattle.hp_model.specs.Faults.{Faulty, faults, walk_answer}
use Rattle.hp_model.specs.Plan.{direction, plan}
use Rattle.hp_model.specs.Shown.{heading}
use Rattle.hp_states.specs.Crossings.{state_before}
use Rattle.hp_model.specs.WalkShape.{IsWholeWalk}
use Rattle.hp_model.proofs.NextSlot.{Tree, stop, dead, step, walk_tree}
use Rattle.hp_model.proofs.Cursor.{IsLive, sound_below, sound_walk, sound_back, sound_part, next_of}
use Rattle.hp_model.proofs.WalkEnd.{whole_walk}
use Rattle.hp_walk.specs.declared.position.Position.{Position}
use Rattle.hp_walk.specs.declared.position.Position.TheVariants.{Forward, UndoingPart, Back, RedoingPart, Ended}
use Rattle.hp_walk.specs.declared.walk.Walk.{Walk}
use Rattle.hp_walk.specs.Asked.{slot_of}
use Rattle.hp_model.specs.Suspend.{is_ok}
use Rattle.hp_walk.specs.Faulted.{is_faultless}
use Rattle.hp_walk.specs.After.{rollback_tree, tree_of, HasFaults, IsAfter, ComesNext}
use Rattle.hp_walk.proofs.Steps.{visit_at, part_at}
use Rattle.hp_walk.proofs.Going.{onward, undoing, going}
use Rattle.hp_walk.proofs.Returning.{redoing, returning, part_again}
use Rattle.hp_walk.proofs.Seen.{codes_are}

pub comes_next : (keys : ℕ → List ℕ) (entries : List Event) (w : Walk) (key : Key) (d : Dir) (place : Place) (first : Bool)
    (a b : Tree) → IsAfter keys entries w → tree_of keys w ≡ step (slot_of w.cpu key d place first false) a b →
    (can_fail d key.state place ≡ true → IsLive b) → ComesNext keys entries w key d place first
comes_next keys entries w key d place first a b h e live =
    let stands = rw e at h.stands in
    let plan_of : List ℕ = plan keys w.from w.to in
    let along : Dir = direction w.from w.to in
    let sound =
    sound_below (walk_tree w.cpu keys along [] plan_of) entries (step (slot_of w.cpu key d place first false) a b) stands.runs
    (sound_walk w.cpu keys along [] plan_of).1
    in
    record {
      done = next_of w.cpu keys along plan_of entries (slot_of w.cpu key d place first false) a b false stands sound.0;
      fault = λ may. next_of w.cpu keys along plan_of entries (slot_of w.cpu key d place first false) a b true stands (live may);
    }

-- with no fault it goes on to its end, and with one back to its start
heading_on : (from to : ℕ) (entries : List Event) → faults entries ≡ [] → to ≡ heading from to entries
heading_on from to entries none = rw (codes_are entries, none) refl

heading_back : (from to : ℕ) (entries : List Event) (f : Faulty) (fs : List Faulty) → faults entries ≡ f ∷ fs →
    from ≡ heading from to entries
heading_back from to entries f fs some = rw (codes_are entries, some) refl

heading_ended : (d : Dir) (from to : ℕ) (entries : List Event) (answer : Answer) (fs : List Faulty) → faults entries ≡ fs →
    walk_answer d fs ≡ Some answer → cond (is_ok answer) to from ≡ heading from to entries
heading_ended d from to entries answer [] e h = rw (← same_some _ _ h) (heading_on from to entries e)
heading_ended d from to entries answer (f ∷ []) e h = rw (← same_some _ _ h) (heading_back from to entries f [] e)
heading_ended d from to entries answer (f ∷ (g ∷ [])) e h = rw (← same_some _ _ h) (heading_back from to entries f (g ∷ []) e)
heading_ended d from to entries answer (f ∷ (g ∷ (j ∷ js))) e h = absurd (none_some _ h)

pub heading_is : (d : Dir) (from to : ℕ) (entries : List Event) (p : Position) → HasFaults d p (faults entries) →
    cond (is_faultless p) to from ≡ heading from to entries
heading_is d from to entries (Forward s k) h = heading_on from to entries h
heading_is d from to entries (UndoingPart s k n code) h = heading_back from to entries _ _ h.1
heading_is d from to entries (Back s k code) h = heading_back from to entries _ _ h.1
heading_is d from to entries (RedoingPart s k n first second) h = heading_back from to entries _ _ h.1
heading_is d from to entries (Ended answer) h = heading_ended d from to entries answer (faults entries) refl h

-- at each position
pub asks_forward : (keys : ℕ → List ℕ) (entries : List Event) (w : Walk) (s k : ℕ) → w.position ≡ Forward s k →
    IsAfter keys entries w →
    ComesNext keys entries w (record { state = s; inst = slice_index (keys s) k }) (direction w.from w.to) placed.Forward (eqb k 0)
asks_forward keys entries w s k e h =
    let at = rw e at h.within.at in
    let d : Dir = direction w.from w.to in
    comes_next keys entries w (record { state = s; inst = slice_index (keys s) k }) d placed.Forward (eqb k 0)
    (going keys w s false (k + 1)) (undoing keys w s (take k (keys s))) h
    (rw e (visit_at w.cpu placed.Forward d s (eqb k 0) (keys s) k (onward keys w s) (undoing keys w s) at.1))
    (λ may.
    let back = sound_back w.cpu keys (opposite d) (plan keys (state_before d s) w.from) in
    (sound_part w.cpu (opposite d) s (take k (keys s)) (rollback_tree keys w d s) back.0 back.1).0)

pub asks_undoing : (keys : ℕ → List ℕ) (entries : List Event) (w : Walk) (s k n code : ℕ) → w.position ≡ UndoingPart s k n code →
    IsAfter keys entries w →
    ComesNext keys entries w (record { state = s; inst = slice_index (keys s) k }) (opposite (direction w.from w.to)) placed.Part false
asks_undoing keys entries w s k n code e h =
    let at = rw e at h.within.at in
    let d : Dir = direction w.from w.to in
    comes_next keys entries w (record { state = s; inst = slice_index (keys s) k }) (opposite d) placed.Part false
    (undoing keys w s (drop (k + 1) (take n (keys s)))) dead h
    (rw e (part_at w.cpu (opposite d) s (keys s) k n (rollback_tree keys w d s) at.1 at.2)) (λ may. false≢true may)

pub asks_back : (keys : ℕ → List ℕ) (entries : List Event) (w : Walk) (s k code : ℕ) → w.position ≡ Back s k code →
    IsAfter keys entries w →
    ComesNext keys entries w (record { state = s; inst = slice_index (keys s) k }) (opposite (direction w.from w.to)) placed.Back (eqb k 0)
asks_back keys entries w s k code e h =
    let at = rw e at h.within.at in
    let d : Dir = direction w.from w.to in
    comes_next keys entries w (record { state = s; inst = slice_index (keys s) k }) (opposite d) placed.Back (eqb k 0)
    (returning keys w s false (k + 1)) (redoing w s (take k (keys s))) h
    (rw e (visit_at w.cpu placed.Back (opposite d) s (eqb k 0) (keys s) k (rollback_tree keys w d s) (redoing w s) at.1))
    (λ may. (sound_part w.cpu (opposite (opposite d)) s (take k (keys s)) stop tt tt).0)

pub asks_redoing : (keys : ℕ → List ℕ) (entries : List Event) (w : Walk) (s k n code second : ℕ) →
    w.position ≡ RedoingPart s k n code second → IsAfter keys entries w →
    ComesNext keys entries w (record { state = s; inst = slice_index (keys s) k }) (direction w.from w.to) placed.Part false
asks_redoing keys entries w s k n code second e h =
    let at = rw e at h.within.at in
    comes_next keys entries w (record { state = s; inst = slice_index (keys s) k }) (direction w.from w.to) placed.Part false
    (redoing w s (drop (k + 1) (take n (keys s)))) dead h (rw e (part_again keys w s k n at.0 at.1 at.2)) (λ may. false≢true may)

pub asks_ended : (keys : ℕ → List ℕ) (entries : List Event) (w : Walk) (answer : Answer) → w.position ≡ Ended answer →
    IsAfter keys entries w →
    IsWholeWalk w.cpu keys (direction w.from w.to) (plan keys w.from w.to) entries answer
asks_ended keys entries w answer e h =
    whole_walk w.cpu keys (direction w.from w.to) (plan keys w.from w.to) entries answer (rw e at h.stands) (rw e at h.faults_are)
