-- Where a walk goes past an entry of its rollback, and past one that does again part of the state that faulted there.
use Rattle.std.proofs.Common.{◌≡◌, ℕ, ◌+◌, ◌<◌, Bool, true, false, eqb, Some, List, length, take, drop, refl, sym, ◌∙◌, arith}
use Rattle.std.specs.Prelude.{slice_index}
use Rattle.std.proofs.lemmas.List.{append-nil}
use Rattle.std.proofs.lemmas.Bool.{ne_eqb}
use Rattle.hp_states.specs.declared.dir.Dir.{Dir}
use Rattle.hp_states.specs.declared.place.Place.TheVariants as placed
use Rattle.hp_states.specs.Sections.{opposite}
use Rattle.hp_event.specs.declared.answer.Answer.TheVariants as answer
use Rattle.hp_event.specs.declared.how.How.{How}
use Rattle.hp_states.specs.Crossings.{state_before, state_after}
use Rattle.hp_model.specs.Entries.{is_done, fault_of}
use Rattle.hp_model.specs.Plan.{direction}
use Rattle.hp_model.proofs.NextSlot.{Tree, stop, dead, visit_tree, part_tree}
use Rattle.hp_model.proofs.Path.{far_opposite}
use Rattle.hp_walk.specs.declared.position.Position.{Position}
use Rattle.hp_walk.specs.declared.position.Position.TheVariants.{Back, RedoingPart, Ended}
use Rattle.hp_walk.specs.declared.walk.Walk.{Walk}
use Rattle.hp_walk.specs.Keys.{IsCrossed}
use Rattle.hp_walk.specs.After.{rollback_tree, IsWithin}
use Rattle.hp_walk.specs.Took.{Took, IsNextInRollback}
use Rattle.hp_walk.proofs.Crossed.{near_between}
use Rattle.hp_walk.proofs.Steps.{opposite_opposite, visit_at, visit_end, part_at, part_end}
use Rattle.hp_walk.proofs.Seen.{IsDistinct, done_none, some_fails, shown_fault, shown_earlier, shown_last}
use Rattle.hp_walk.proofs.Moves.{moved, took_by, tree_behind, at_behind, faults_behind}

-- what follows a fault in the rollback
abbrev pub redoing : Walk → (state : ℕ) → (earlier : List ℕ) → Tree
redoing w s earlier = part_tree w.cpu (opposite (opposite (direction w.from w.to))) s earlier stop

abbrev pub returning : (keys : ℕ → List ℕ) → Walk → (state : ℕ) → (first : Bool) → (key : ℕ) → Tree
returning keys w s first k =
    visit_tree w.cpu placed.Back (opposite (direction w.from w.to)) s first (take k (keys s)) (drop k (keys s))
    (rollback_tree keys w (direction w.from w.to) s) (redoing w s)

pub back_more : (keys : ℕ → List ℕ) (how : How) (w : Walk) (s k code : ℕ) → w.position ≡ Back s k code → IsWithin keys w →
    IsDistinct (keys s) → is_done how ≡ true → k + 1 < length (keys s) →
    Took keys how w (moved w w.shown (Back s (k + 1) code))
back_more keys how w s k code e h distinct done before =
    let at = rw e at h.at in
    let d : Dir = direction w.from w.to in
    took_by keys how w w.shown (Back s (k + 1) code) (record { state = s; inst = slice_index (keys s) k }) (opposite d) placed.Back
    (eqb k 0) false (returning keys w s false (k + 1)) (redoing w s (take k (keys s))) h
    (record {
      asked_is = rw e refl;
      tree_is = rw e (visit_at w.cpu placed.Back (opposite d) s (eqb k 0) (keys s) k (rollback_tree keys w d s) (redoing w s) at.1);
      made = done;
      at = (at.0, before);
      leads = rw (ne_eqb (k + 1) 0 (λ z. absurd (omega arith))) refl;
      faults_are = rw (e, done_none how done) (λ found one. (one.0, append-nil found ∙ one.1));
      shown_is = λ seat. shown_earlier keys w.shown seat w.cpu s k (opposite d) how done distinct before;
    })

pub back_last : (keys : ℕ → List ℕ) (how : How) (w : Walk) (s k code : ℕ) (p : Position) → w.position ≡ Back s k code →
    IsWithin keys w → is_done how ≡ true → k + 1 ≡ length (keys s) →
    IsNextInRollback keys (opposite (direction w.from w.to)) (state_before (direction w.from w.to) s) w.from code p →
    Took keys how w (moved w (state_before (direction w.from w.to) s) p)
back_last keys how w s k code p e h done last back =
    let at = rw e at h.at in
    let d : Dir = direction w.from w.to in
    let there = near_between d w.from w.to s at.0 in
    took_by keys how w (state_before d s) p (record { state = s; inst = slice_index (keys s) k }) (opposite d) placed.Back
    (eqb k 0) false (returning keys w s false (k + 1)) (redoing w s (take k (keys s))) h
    (record {
      asked_is = rw e refl;
      tree_is = rw e (visit_at w.cpu placed.Back (opposite d) s (eqb k 0) (keys s) k (rollback_tree keys w d s) (redoing w s) at.1);
      made = done;
      at = at_behind keys w d (state_before d s) code p there back;
      leads =
          tree_behind keys w d (state_before d s) code p there back
          ∙ sym (visit_end w.cpu placed.Back (opposite d) s false (keys s) (k + 1) (rollback_tree keys w d s) (redoing w s) last);
      faults_are =
          rw (e, done_none how done)
          (λ found one. rw (append-nil found, one.1) (faults_behind keys w d (opposite d) (state_before d s) code one.0 p back));
      shown_is = λ seat. shown_last keys w.shown seat w.cpu s k (opposite d) how done last ∙ far_opposite d s;
    })

pub back_fault : (keys : ℕ → List ℕ) (how : How) (w : Walk) (s k code second : ℕ) → w.position ≡ Back s k code →
    IsWithin keys w → fault_of how ≡ Some second → 0 < k → Took keys how w (moved w w.shown (RedoingPart s 0 k code second))
back_fault keys how w s k code second e h fault some =
    let at = rw e at h.at in
    let d : Dir = direction w.from w.to in
    let fails = some_fails how second fault in
    took_by keys how w w.shown (RedoingPart s 0 k code second) (record { state = s; inst = slice_index (keys s) k }) (opposite d) placed.Back
    (eqb k 0) true (returning keys w s false (k + 1)) (redoing w s (take k (keys s))) h
    (record {
      asked_is = rw e refl;
      tree_is = rw e (visit_at w.cpu placed.Back (opposite d) s (eqb k 0) (keys s) k (rollback_tree keys w d s) (redoing w s) at.1);
      made = fails;
      at = (at.0, some, at.1);
      leads = refl;
      faults_are = rw (e, fault) (λ found one. (one.0, rw one.1 refl));
      shown_is = λ seat. shown_fault keys w.shown seat w.cpu s (slice_index (keys s) k) (opposite d) how fails;
    })

pub back_fault_first : (keys : ℕ → List ℕ) (how : How) (w : Walk) (s k code second : ℕ) → w.position ≡ Back s k code →
    IsWithin keys w → fault_of how ≡ Some second → k ≡ 0 →
    Took keys how w (moved w w.shown (Ended (answer.Stuck code second (state_after (direction w.from w.to) s))))
back_fault_first keys how w s k code second e h fault first =
    let at = rw e at h.at in
    let d : Dir = direction w.from w.to in
    let fails = some_fails how second fault in
    took_by keys how w w.shown (Ended (answer.Stuck code second (state_after d s))) (record { state = s; inst = slice_index (keys s) k })
    (opposite d) placed.Back
    (eqb k 0) true (returning keys w s false (k + 1)) (redoing w s (take k (keys s))) h
    (record {
      asked_is = rw e refl;
      tree_is = rw e (visit_at w.cpu placed.Back (opposite d) s (eqb k 0) (keys s) k (rollback_tree keys w d s) (redoing w s) at.1);
      made = fails;
      at = tt;
      leads = rw first refl;
      faults_are = rw (e, fault) (λ found one. rw one.1 refl);
      shown_is = λ seat. shown_fault keys w.shown seat w.cpu s (slice_index (keys s) k) (opposite d) how fails;
    })

-- part of the state that is done again
pub part_again : (keys : ℕ → List ℕ) (w : Walk) (s k n : ℕ) → IsCrossed (direction w.from w.to) w.from w.to s → k < n →
    n < length (keys s) →
    redoing w s (drop k (take n (keys s)))
    ≡ Tree.step
    (record {
      cpu = w.cpu;
      state = s;
      inst = slice_index (keys s) k;
      dir = direction w.from w.to;
      place = placed.Part;
      first = false;
      fails = false;
    })
    (redoing w s (drop (k + 1) (take n (keys s)))) dead
part_again keys w s k n crossed before below =
    rw (opposite_opposite (direction w.from w.to)) (part_at w.cpu (direction w.from w.to) s (keys s) k n stop before below)

pub redoing_more : (keys : ℕ → List ℕ) (how : How) (w : Walk) (s k n code second : ℕ) → w.position ≡ RedoingPart s k n code second →
    IsWithin keys w → IsDistinct (keys s) → is_done how ≡ true → k + 1 < n →
    Took keys how w (moved w w.shown (RedoingPart s (k + 1) n code second))
redoing_more keys how w s k n code second e h distinct done before =
    let at = rw e at h.at in
    let d : Dir = direction w.from w.to in
    took_by keys how w w.shown (RedoingPart s (k + 1) n code second) (record { state = s; inst = slice_index (keys s) k }) d
    placed.Part false false (redoing w s (drop (k + 1) (take n (keys s)))) dead h
    (record {
      asked_is = rw e refl;
      tree_is = rw e (part_again keys w s k n at.0 at.1 at.2);
      made = done;
      at = (at.0, before, at.2);
      leads = refl;
      faults_are = rw (e, done_none how done) (λ found two. (two.0, append-nil found ∙ two.1));
      shown_is = λ seat. shown_earlier keys w.shown seat w.cpu s k d how done distinct (omega (arith, at.2, before));
    })

pub redoing_last : (keys : ℕ → List ℕ) (how : How) (w : Walk) (s k n code second : ℕ) → w.position ≡ RedoingPart s k n code second →
    IsWithin keys w → IsDistinct (keys s) → is_done how ≡ true → k + 1 ≡ n →
    Took keys how w (moved w w.shown (Ended (answer.Stuck code second (state_after (direction w.from w.to) s))))
redoing_last keys how w s k n code second e h distinct done last =
    let at = rw e at h.at in
    let d : Dir = direction w.from w.to in
    took_by keys how w w.shown (Ended (answer.Stuck code second (state_after d s))) (record { state = s; inst = slice_index (keys s) k }) d
    placed.Part false false (redoing w s (drop (k + 1) (take n (keys s)))) dead h
    (record {
      asked_is = rw e refl;
      tree_is = rw e (part_again keys w s k n at.0 at.1 at.2);
      made = done;
      at = tt;
      leads = sym (part_end w.cpu (opposite (opposite d)) s (keys s) (k + 1) n stop last at.2);
      faults_are = rw (e, done_none how done) (λ found two. rw (append-nil found, two.1) refl);
      shown_is = λ seat. shown_earlier keys w.shown seat w.cpu s k d how done distinct (omega (arith, at.2, last));
    })
