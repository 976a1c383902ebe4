-- A quiet event answers no walk.
use Rattle.std.proofs.Common.{◌≡◌, true, false, List, [], ◌∷◌, ◌++◌}
use Rattle.std.proofs.lemmas.Bool.{true≢false, false≢true}
use Rattle.std.specs.Prelude.{ℕ, ℤ}
use Rattle.hp_states.specs.declared.cpu_set.CpuSet.{CpuSet}
use Rattle.hp_event.specs.declared.head.Head.{Head}
use Rattle.hp_event.specs.declared.event.Event.{Event}
use Rattle.hp_event.specs.declared.event.Event.TheVariants.{Enter, WalkBegin, WalkEnd}
use Rattle.hp_model.specs.Batch.{begun}
use Rattle.hp_model.specs.Sequence.{answers}
use Rattle.hp_model.proofs.Laws.{begun_push, answers_push}
use Rattle.hp_suspend.specs.Quiet.{is_quiet, is_walk_begin}
use Rattle.hp_suspend.specs.Batching.{IsBatching}
use Rattle.hp_suspend.specs.Freezing.{IsFreezing}
use Rattle.hp_suspend.specs.Thawing.{IsThawing}
use Rattle.hp_suspend.specs.Booting.{IsBooting}
use Rattle.hp_suspend.specs.declared.batch.Batch.{Batch}
use Rattle.hp_suspend.specs.declared.freeze.Freeze.{Freeze}
use Rattle.hp_suspend.specs.declared.thaw.Thaw.{Thaw}
use Rattle.hp_suspend.specs.declared.boot.Boot.{Boot}

pub quiet_answers : (events : List Event) (e : Event) → is_quiet e ≡ true → answers (events ++ e ∷ []) ≡ answers events
quiet_answers events (Enter seat op) h = absurd (false≢true h)
quiet_answers events (WalkEnd seat cpu answer) h = absurd (false≢true h)
quiet_answers events e h = answers_push events e

pub freezing_quiet : (event : Event) → is_quiet event ≡ true →
    (head : Head) (entered events : List Event) (primary : ℤ) (f : Freeze) → IsFreezing head entered events primary f →
    IsFreezing head entered (events ++ event ∷ []) primary f
freezing_quiet event q head entered events primary f h =
    record { primary_is = h.primary_is; ended_is = rw (quiet_answers events event q) h.ended_is }

pub thawing_quiet : (event : Event) → is_quiet event ≡ true → (events : List Event) (t : Thaw) → IsThawing events t →
    IsThawing (events ++ event ∷ []) t
thawing_quiet event q events t h = record { failed_is = rw (quiet_answers events event q) h.failed_is }

pub booting_quiet : (event : Event) → is_quiet event ≡ true → (max : ℕ) (events : List Event) (b : Boot) →
    IsBooting max events b → IsBooting max (events ++ event ∷ []) b
booting_quiet event q max events b h = record {
  max_is = h.max_is;
  failed_is = rw (quiet_answers events event q) h.failed_is;
  turned_back_is = rw (quiet_answers events event q) h.turned_back_is;
}

quiet_begun : (events : List Event) (e : Event) → is_quiet e ≡ true → is_walk_begin e ≡ false → begun (events ++ e ∷ []) ≡ begun events
quiet_begun events (Enter seat op) h k = absurd (false≢true h)
quiet_begun events (WalkBegin seat cpu from to) h k = absurd (true≢false k)
quiet_begun events e h k = begun_push events e

pub batching_quiet : (event : Event) → is_quiet event ≡ true → is_walk_begin event ≡ false → (head : Head) (entered events : List Event)
    (set : CpuSet) (b : Batch) → IsBatching head entered events set b → IsBatching head entered (events ++ event ∷ []) set b
batching_quiet event q k head entered events set b h = record {
  left_is = λ c. rw (quiet_begun events event q k) (h.left_is c);
  begun_is = rw (quiet_begun events event q k) h.begun_is;
  failed_is = rw (quiet_answers events event q) h.failed_is;
}
