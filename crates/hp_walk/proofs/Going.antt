-- Where a walk goes past an entry on the way to its target, and past one that undoes part of the state that faulted there.
use Rattle.std.proofs.Common.{◌≡◌, ℕ, ◌+◌, ◌<◌, Bool, true, false, eqb, Some, List, ◌∷◌, length, take, drop, refl, ap, sym, ◌∙◌, arith}
use Rattle.std.specs.Prelude.{slice_index}
use Rattle.std.proofs.lemmas.List.{append-nil}
use Rattle.std.proofs.lemmas.Bool.{ne_eqb}
use Rattle.hp_states.specs.declared.dir.Dir.{Dir}
use Rattle.hp_states.specs.declared.place.Place.TheVariants as placed
use Rattle.hp_states.specs.Sections.{opposite}
use Rattle.hp_event.specs.declared.how.How.{How}
use Rattle.hp_states.specs.Crossings.{state_before, state_after}
use Rattle.hp_model.specs.Entries.{is_done, fault_of}
use Rattle.hp_model.specs.Plan.{direction, plan}
use Rattle.hp_model.proofs.NextSlot.{Tree, dead, visit_tree, part_tree, walk_tree}
use Rattle.hp_walk.specs.declared.position.Position.{Position}
use Rattle.hp_walk.specs.declared.position.Position.TheVariants.{Forward, UndoingPart}
use Rattle.hp_walk.specs.declared.walk.Walk.{Walk}
use Rattle.hp_walk.specs.After.{rollback_tree, IsWithin}
use Rattle.hp_walk.specs.Took.{Took, IsNextOnTheWay, IsNextInRollback}
use Rattle.hp_walk.proofs.Crossed.{not_none, near_between, far_between, plan_behind_crossed}
use Rattle.hp_walk.proofs.Steps.{visit_at, visit_end, part_at, part_end}
use Rattle.hp_walk.proofs.Seen.{IsDistinct, done_none, some_fails, shown_fault, shown_earlier, shown_last}
use Rattle.hp_walk.proofs.Moves.{moved, took_by, tree_ahead, at_ahead, faults_ahead, tree_behind, at_behind, faults_behind}

-- what follows a state that is crossed, and what follows a fault there
abbrev pub onward : (keys : ℕ → List ℕ) → Walk → (state : ℕ) → Tree
onward keys w s =
    walk_tree w.cpu keys (direction w.from w.to) (s ∷ plan keys (state_before (direction w.from w.to) s) w.from)
    (plan keys (state_after (direction w.from w.to) s) w.to)

abbrev pub undoing : (keys : ℕ → List ℕ) → Walk → (state : ℕ) → (earlier : List ℕ) → Tree
undoing keys w s earlier =
    part_tree w.cpu (opposite (direction w.from w.to)) s earlier (rollback_tree keys w (direction w.from w.to) s)

abbrev pub going : (keys : ℕ → List ℕ) → Walk → (state : ℕ) → (first : Bool) → (key : ℕ) → Tree
going keys w s first k =
    visit_tree w.cpu placed.Forward (direction w.from w.to) s first (take k (keys s)) (drop k (keys s)) (onward keys w s)
    (undoing keys w s)

pub forward_more : (keys : ℕ → List ℕ) (how : How) (w : Walk) (s k : ℕ) → w.position ≡ Forward s k → IsWithin keys w →
    IsDistinct (keys s) → is_done how ≡ true → k + 1 < length (keys s) → Took keys how w (moved w w.shown (Forward s (k + 1)))
forward_more keys how w s k e h distinct done before =
    let at = rw e at h.at in
    let d : Dir = direction w.from w.to in
    took_by keys how w w.shown (Forward s (k + 1)) (record { state = s; inst = slice_index (keys s) k }) d placed.Forward
    (eqb k 0) false (going keys w s false (k + 1)) (undoing keys w s (take k (keys s))) h
    (record {
      asked_is = rw e refl;
      tree_is = rw e (visit_at w.cpu placed.Forward d s (eqb k 0) (keys s) k (onward keys w s) (undoing keys w s) at.1);
      made = done;
      at = (at.0, before);
      leads = rw (ne_eqb (k + 1) 0 (λ z. absurd (omega arith))) refl;
      faults_are = rw (e, done_none how done) (λ found none. append-nil found ∙ none);
      shown_is = λ seat. shown_earlier keys w.shown seat w.cpu s k d how done distinct before;
    })

pub forward_last : (keys : ℕ → List ℕ) (how : How) (w : Walk) (s k : ℕ) (p : Position) → w.position ≡ Forward s k →
    IsWithin keys w → is_done how ≡ true → k + 1 ≡ length (keys s) →
    IsNextOnTheWay keys (direction w.from w.to) (state_after (direction w.from w.to) s) w.to p →
    Took keys how w (moved w (state_after (direction w.from w.to) s) p)
forward_last keys how w s k p e h done last ahead =
    let at = rw e at h.at in
    let d : Dir = direction w.from w.to in
    let there = far_between d w.from w.to s at.0 in
    took_by keys how w (state_after d s) p (record { state = s; inst = slice_index (keys s) k }) d placed.Forward
    (eqb k 0) false (going keys w s false (k + 1)) (undoing keys w s (take k (keys s))) h
    (record {
      asked_is = rw e refl;
      tree_is = rw e (visit_at w.cpu placed.Forward d s (eqb k 0) (keys s) k (onward keys w s) (undoing keys w s) at.1);
      made = done;
      at = at_ahead keys w d (state_after d s) p there ahead;
      leads =
          tree_ahead keys w d (state_after d s) p there ahead
          ∙ ap (λ (stack : List ℕ). walk_tree w.cpu keys d stack (plan keys (state_after d s) w.to))
          (plan_behind_crossed keys d w.from w.to s at.0 (not_none (keys s) k at.1))
          ∙ sym (visit_end w.cpu placed.Forward d s false (keys s) (k + 1) (onward keys w s) (undoing keys w s) last);
      faults_are =
          rw (e, done_none how done) (λ found none. rw (append-nil found, none) (faults_ahead keys w d (state_after d s) p ahead));
      shown_is = λ seat. shown_last keys w.shown seat w.cpu s k d how done last;
    })

pub forward_fault : (keys : ℕ → List ℕ) (how : How) (w : Walk) (s k code : ℕ) → w.position ≡ Forward s k → IsWithin keys w →
    fault_of how ≡ Some code → 0 < k → Took keys how w (moved w w.shown (UndoingPart s 0 k code))
forward_fault keys how w s k code e h fault some =
    let at = rw e at h.at in
    let d : Dir = direction w.from w.to in
    let fails = some_fails how code fault in
    took_by keys how w w.shown (UndoingPart s 0 k code) (record { state = s; inst = slice_index (keys s) k }) d placed.Forward
    (eqb k 0) true (going keys w s false (k + 1)) (undoing keys w s (take k (keys s))) h
    (record {
      asked_is = rw e refl;
      tree_is = rw e (visit_at w.cpu placed.Forward d s (eqb k 0) (keys s) k (onward keys w s) (undoing keys w s) at.1);
      made = fails;
      at = (at.0, some, at.1);
      leads = refl;
      faults_are = rw (e, fault) (λ found none. (s, rw none refl));
      shown_is = λ seat. shown_fault keys w.shown seat w.cpu s (slice_index (keys s) k) d how fails;
    })

pub forward_fault_first : (keys : ℕ → List ℕ) (how : How) (w : Walk) (s k code : ℕ) (p : Position) → w.position ≡ Forward s k →
    IsWithin keys w → fault_of how ≡ Some code → k ≡ 0 →
    IsNextInRollback keys (opposite (direction w.from w.to)) (state_before (direction w.from w.to) s) w.from code p →
    Took keys how w (moved w w.shown p)
forward_fault_first keys how w s k code p e h fault first back =
    let at = rw e at h.at in
    let d : Dir = direction w.from w.to in
    let there = near_between d w.from w.to s at.0 in
    let fails = some_fails how code fault in
    took_by keys how w w.shown p (record { state = s; inst = slice_index (keys s) k }) d placed.Forward
    (eqb k 0) true (going keys w s false (k + 1)) (undoing keys w s (take k (keys s))) h
    (record {
      asked_is = rw e refl;
      tree_is = rw e (visit_at w.cpu placed.Forward d s (eqb k 0) (keys s) k (onward keys w s) (undoing keys w s) at.1);
      made = fails;
      at = at_behind keys w d (state_before d s) code p there back;
      leads = rw first (tree_behind keys w d (state_before d s) code p there back);
      faults_are = rw (e, fault) (λ found none. rw none (faults_behind keys w d (opposite d) (state_before d s) code s p back));
      shown_is = λ seat. shown_fault keys w.shown seat w.cpu s (slice_index (keys s) k) d how fails;
    })

pub undoing_more : (keys : ℕ → List ℕ) (how : How) (w : Walk) (s k n code : ℕ) → w.position ≡ UndoingPart s k n code →
    IsWithin keys w → IsDistinct (keys s) → is_done how ≡ true → k + 1 < n →
    Took keys how w (moved w w.shown (UndoingPart s (k + 1) n code))
undoing_more keys how w s k n code e h distinct done before =
    let at = rw e at h.at in
    let d : Dir = direction w.from w.to in
    took_by keys how w w.shown (UndoingPart s (k + 1) n code) (record { state = s; inst = slice_index (keys s) k }) (opposite d)
    placed.Part false false (undoing keys w s (drop (k + 1) (take n (keys s)))) dead h
    (record {
      asked_is = rw e refl;
      tree_is = rw e (part_at w.cpu (opposite d) s (keys s) k n (rollback_tree keys w d s) at.1 at.2);
      made = done;
      at = (at.0, before, at.2);
      leads = refl;
      faults_are = rw (e, done_none how done) (λ found one. (one.0, append-nil found ∙ one.1));
      shown_is = λ seat. shown_earlier keys w.shown seat w.cpu s k (opposite d) how done distinct (omega (arith, at.2, before));
    })

pub undoing_last : (keys : ℕ → List ℕ) (how : How) (w : Walk) (s k n code : ℕ) (p : Position) → w.position ≡ UndoingPart s k n code →
    IsWithin keys w → IsDistinct (keys s) → is_done how ≡ true → k + 1 ≡ n →
    IsNextInRollback keys (opposite (direction w.from w.to)) (state_before (direction w.from w.to) s) w.from code p →
    Took keys how w (moved w w.shown p)
undoing_last keys how w s k n code p e h distinct done last back =
    let at = rw e at h.at in
    let d : Dir = direction w.from w.to in
    let there = near_between d w.from w.to s at.0 in
    took_by keys how w w.shown p (record { state = s; inst = slice_index (keys s) k }) (opposite d)
    placed.Part false false (undoing keys w s (drop (k + 1) (take n (keys s)))) dead h
    (record {
      asked_is = rw e refl;
      tree_is = rw e (part_at w.cpu (opposite d) s (keys s) k n (rollback_tree keys w d s) at.1 at.2);
      made = done;
      at = at_behind keys w d (state_before d s) code p there back;
      leads =
          tree_behind keys w d (state_before d s) code p there back
          ∙ sym (part_end w.cpu (opposite d) s (keys s) (k + 1) n (rollback_tree keys w d s) last at.2);
      faults_are =
          rw (e, done_none how done)
          (λ found one. rw (append-nil found, one.1) (faults_behind keys w d (opposite d) (state_before d s) code one.0 p back));
      shown_is = λ seat. shown_earlier keys w.shown seat w.cpu s k (opposite d) how done distinct (omega (arith, at.2, last));
    })
