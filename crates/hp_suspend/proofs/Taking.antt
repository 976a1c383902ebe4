-- What one answer more makes of the counts.
use Rattle.std.proofs.Common.{◌≡◌, ℕ, ◌+◌, Bool, true, false, cond, not, Option, Some, None, List, [], ◌∷◌, ◌++◌, length, refl, ap, sym, ◌∙◌}
use Rattle.std.specs.Prelude.{ℤ, slice_get, is_some}
use Rattle.std.proofs.lemmas.List.{length-append}
use Rattle.std.proofs.lemmas.List.Elements.{filter-append}
use Rattle.hp_event.specs.declared.op.Op.{Op}
use Rattle.hp_event.specs.declared.answer.Answer.{Answer}
use Rattle.hp_event.specs.declared.head.Head.{Head}
use Rattle.hp_event.specs.declared.event.Event.{Event}
use Rattle.hp_event.specs.declared.event.Event.TheVariants.{Enter, WalkEnd}
use Rattle.hp_model.specs.Suspend.{is_ok}
use Rattle.hp_model.specs.Sequence.{answers, failures}
use Rattle.hp_model.proofs.Laws.{answers_push}
use Rattle.hp_suspend.specs.Booting.{is_fault, faults, IsBooting}
use Rattle.hp_suspend.specs.Thawing.{IsThawing}
use Rattle.hp_suspend.specs.Freezing.{IsFreezing}
use Rattle.hp_suspend.specs.ByLists.{ended_after, freeze_after, thaw_after, boot_after}
use Rattle.hp_suspend.specs.declared.freeze.Freeze.{Freeze}
use Rattle.hp_suspend.specs.declared.thaw.Thaw.{Thaw}
use Rattle.hp_suspend.specs.declared.boot.Boot.{Boot}

-- the first of two lists is that of the first list where it has one
first_of_both : (xs ys : List Answer) →
    slice_get (xs ++ ys) 0 ≡ cond (is_some (slice_get xs 0)) (slice_get xs 0) (slice_get ys 0)
first_of_both [] ys = refl
first_of_both (x ∷ xs) ys = refl

first_failure : (answer : Answer) → cond (is_ok answer) None (Some answer) ≡ slice_get (failures (answer ∷ [])) 0
first_failure answer = go (is_ok answer)
  where
    go : (b : Bool) → cond b None (Some answer) ≡ slice_get (cond (not b) (answer ∷ []) []) 0
    go true = refl
    go false = refl

one_failed : (answer : Answer) → length (failures (answer ∷ [])) ≡ cond (is_ok answer) 0 1
one_failed answer = go (is_ok answer)
  where
    go : (b : Bool) → length (cond (not b) (answer ∷ []) []) ≡ cond b 0 1
    go true = refl
    go false = refl

one_fault : (answer : Answer) → length (faults (answer ∷ [])) ≡ cond (is_fault answer) 1 0
one_fault answer = go (is_fault answer)
  where
    go : (b : Bool) → length (cond b (answer ∷ []) []) ≡ cond b 1 0
    go true = refl
    go false = refl

failures_push : (events : List Event) (seat cpu : ℕ) (answer : Answer) →
    failures (answers (events ++ WalkEnd seat cpu answer ∷ [])) ≡ failures (answers events) ++ failures (answer ∷ [])
failures_push events seat cpu answer =
    ap failures (answers_push events (WalkEnd seat cpu answer)) ∙ filter-append (λ x. not (is_ok x)) (answers events) (answer ∷ [])

faults_push : (events : List Event) (seat cpu : ℕ) (answer : Answer) →
    faults (answers (events ++ WalkEnd seat cpu answer ∷ [])) ≡ faults (answers events) ++ faults (answer ∷ [])
faults_push events seat cpu answer =
    ap faults (answers_push events (WalkEnd seat cpu answer)) ∙ filter-append is_fault (answers events) (answer ∷ [])

pub failed_more : (events : List Event) (seat cpu : ℕ) (answer : Answer) →
    length (failures (answers (events ++ WalkEnd seat cpu answer ∷ [])))
    ≡ length (failures (answers events)) + cond (is_ok answer) 0 1
failed_more events seat cpu answer =
    ap length (failures_push events seat cpu answer)
    ∙ length-append (failures (answers events)) (failures (answer ∷ []))
    ∙ ap (λ n. length (failures (answers events)) + n) (one_failed answer)

faults_more : (events : List Event) (seat cpu : ℕ) (answer : Answer) →
    length (faults (answers (events ++ WalkEnd seat cpu answer ∷ [])))
    ≡ length (faults (answers events)) + cond (is_fault answer) 1 0
faults_more events seat cpu answer =
    ap length (faults_push events seat cpu answer)
    ∙ length-append (faults (answers events)) (faults (answer ∷ []))
    ∙ ap (λ n. length (faults (answers events)) + n) (one_fault answer)

pub freezing_took : (f g : Freeze) (answer : Answer) → g ≡ freeze_after f answer →
    (head : Head) (entered events : List Event) (primary : ℤ) (seat cpu : ℕ) → IsFreezing head entered events primary f →
    IsFreezing head entered (events ++ WalkEnd seat cpu answer ∷ []) primary g
freezing_took f g answer is head entered events primary seat cpu h = record {
  primary_is = ap (λ z. z.primary) is ∙ h.primary_is;
  ended_is =
      ap (λ z. z.ended) is
      ∙ first_kept f.ended
      ∙ ap (λ o. cond (is_some o) o (cond (is_ok answer) None (Some answer))) h.ended_is
      ∙ ap (λ o. cond (is_some (slice_get (failures (answers events)) 0)) (slice_get (failures (answers events)) 0) o)
      (first_failure answer)
      ∙ sym (first_of_both (failures (answers events)) (failures (answer ∷ [])))
      ∙ ap (λ xs. slice_get xs 0) (sym (failures_push events seat cpu answer));
}
  where
    first_kept : (o : Option Answer) → ended_after answer o ≡ cond (is_some o) o (cond (is_ok answer) None (Some answer))
    first_kept None = refl
    first_kept (Some first) = refl

pub thawing_took : (t u : Thaw) (answer : Answer) → u ≡ thaw_after t answer →
    (events : List Event) (seat cpu : ℕ) → IsThawing events t → IsThawing (events ++ WalkEnd seat cpu answer ∷ []) u
thawing_took t u answer is events seat cpu h = record {
  failed_is =
      ap (λ z. z.failed) is
      ∙ ap (λ n. n + cond (is_ok answer) 0 1) h.failed_is
      ∙ sym (failed_more events seat cpu answer);
}

pub booting_took : (b d : Boot) (answer : Answer) → d ≡ boot_after b answer →
    (max : ℕ) (events : List Event) (seat cpu : ℕ) → IsBooting max events b →
    IsBooting max (events ++ WalkEnd seat cpu answer ∷ []) d
booting_took b d answer is max events seat cpu h = record {
  max_is = ap (λ z. z.max) is ∙ h.max_is;
  failed_is =
      ap (λ z. z.failed) is
      ∙ ap (λ n. n + cond (is_ok answer) 0 1) h.failed_is
      ∙ sym (failed_more events seat cpu answer);
  turned_back_is =
      ap (λ z. z.turned_back) is
      ∙ ap (λ n. n + cond (is_fault answer) 1 0) h.turned_back_is
      ∙ sym (faults_more events seat cpu answer);
}

-- nothing is answered yet
pub thawing_begins : (t : Thaw) → t.failed ≡ 0 → (before : List Event) (seat : ℕ) (op : Op) → IsThawing (before ++ Enter seat op ∷ []) t
thawing_begins t e before seat op = record { failed_is = rw (answers_push before (Enter seat op)) e }

pub booting_begins : (b : Boot) (max : ℕ) → b.max ≡ max → b.failed ≡ 0 → b.turned_back ≡ 0 → (before : List Event) (seat : ℕ) (op : Op) →
    IsBooting max (before ++ Enter seat op ∷ []) b
booting_begins b max m e f before seat op = record {
  max_is = m;
  failed_is = rw (answers_push before (Enter seat op)) e;
  turned_back_is = rw (answers_push before (Enter seat op)) f;
}
