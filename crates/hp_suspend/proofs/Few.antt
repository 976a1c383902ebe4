-- No more walks failed than there are events.
use Rattle.std.proofs.Common.{ℕ, ◌+◌, ◌≤◌, Bool, true, false, cond, not, List, [], ◌∷◌, ◌++◌, length, arith}
use Rattle.std.specs.Prelude.{filter}
use Rattle.std.proofs.lemmas.List.{length-append}
use Rattle.hp_states.specs.declared.cpu_set.CpuSet.{CpuSet}
use Rattle.hp_event.specs.declared.answer.Answer.{Answer}
use Rattle.hp_event.specs.declared.head.Head.{Head}
use Rattle.hp_event.specs.declared.event.Event.{Event}
use Rattle.hp_event.specs.declared.event.Event.TheVariants.{Enter, WalkEnd}
use Rattle.hp_model.specs.Journal.{over_from}
use Rattle.hp_model.specs.Suspend.{is_ok}
use Rattle.hp_model.specs.Sequence.{answers_step, answers}
use Rattle.hp_suspend.specs.Batching.{IsBatching}
use Rattle.hp_suspend.specs.Thawing.{IsThawing}
use Rattle.hp_suspend.specs.Booting.{is_fault, IsBooting}
use Rattle.hp_suspend.specs.declared.batch.Batch.{Batch}
use Rattle.hp_suspend.specs.declared.thaw.Thaw.{Thaw}
use Rattle.hp_suspend.specs.declared.boot.Boot.{Boot}

answers_one : (found : List Answer) (before : List Event) (e : Event) → length (answers_step found before e) ≤ length found + 1
answers_one found before (Enter seat op) = omega arith
answers_one found before (WalkEnd seat cpu answer) = omega (arith, length-append found (answer ∷ []))
answers_one found before e = omega arith

answers_few : (found : List Answer) (before es : List Event) →
    length (over_from answers_step found before es) ≤ length found + length es
answers_few found before [] = omega arith
answers_few found before (e ∷ es) =
    let one = answers_one found before e in
    let more = answers_few (answers_step found before e) (before ++ e ∷ []) es in
    omega (arith, one, more)

filter_few : (p : Answer → Bool) (xs : List Answer) → length (filter p xs) ≤ length xs
filter_few p [] = omega arith
filter_few p (x ∷ xs) = go (p x) (filter_few p xs)
  where
    go : (b : Bool) → length (filter p xs) ≤ length xs → length (cond b (x ∷ filter p xs) (filter p xs)) ≤ length (x ∷ xs)
    go true h = omega (arith, h)
    go false h = omega (arith, h)

few : (p : Answer → Bool) (events : List Event) → length (filter p (answers events)) ≤ length events
unfolding answers
few p events = omega (arith, filter_few p (answers events), answers_few [] [] events)

pub thawing_few : (events : List Event) (t : Thaw) → IsThawing events t → t.failed ≤ length events
thawing_few events t h = rw h.failed_is (few (λ x. not (is_ok x)) events)

pub booting_few : (events : List Event) (max : ℕ) (b : Boot) → IsBooting max events b →
    (b.failed ≤ length events) × (b.turned_back ≤ length events)
booting_few events max b h =
    (rw h.failed_is (few (λ x. not (is_ok x)) events), rw h.turned_back_is (few is_fault events))

pub batching_few : (head : Head) (entered events : List Event) (set : CpuSet) (b : Batch) → IsBatching head entered events set b →
    b.failed ≤ length events
batching_few head entered events set b h = rw h.failed_is (few (λ x. not (is_ok x)) events)
