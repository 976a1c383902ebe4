-- What is so of the journal of a script that was played.
use Rattle.std.proofs.Common.{◌≡◌, ℕ, ◌+◌, Option, Some, None, List, length, refl, sym, subst, ◌∙◌}
use Rattle.hp_states.proofs.Basics.{none_some}
use Rattle.hp_event.specs.declared.head.Head.{Head}
use Rattle.hp_event.specs.declared.event.Event.{Event}
use Rattle.hp_model.specs.Lawful.{IsLawful}
use Rattle.hp_model.specs.MapLock.{operation}
use Rattle.hp_model.specs.Processors.{present}
use Rattle.hp_model.specs.Registrations.{registration}
use Rattle.hp_model.specs.Schedule.{first_turns, IsRunBy}
use Rattle.hp_model.specs.Scripts.{IsScript}
use Rattle.hp_model.specs.Walks.{Walk, walk}
use Rattle.hp_model.proofs.HeadlineProof.{headline_of_front}
use Rattle.hp_model.proofs.CompletesProof.{completes_of_front}
use Rattle.hp_model.proofs.OneWalkProof.{one_walk_of_front}
use Rattle.hp_model.proofs.KeyLaw.{keys_at_rest}
use Rattle.hp_model.proofs.OneNext.{owners}
use Rattle.hp_model.proofs.ScriptRuns.{run_lawful}
use Rattle.hp_script.specs.Schedules.{schedule_written}
use Rattle.hp_script.specs.Script.{Contents}
use Rattle.hp_play.specs.Played.{HasLaws, IsJournalOf}

-- no processor walks where nobody holds the map lock
no_walk : (head : Head) (events : List Event) (cpu : ℕ) → IsLawful head events → operation events ≡ None → walk cpu events ≡ None
no_walk head events cpu lawful free = go (walk cpu events) refl
  where
    go : (w : Option Walk) → walk cpu events ≡ w → w ≡ None
    go None f = refl
    go (Some w) f =
        let p = (owners head events lawful).walk_op cpu w f in absurd (none_some p.0 (sym free ∙ p.1))

-- a lawful journal at rest has the laws
pub laws_of : (head : Head) (events : List Event) → IsLawful head events → operation events ≡ None → registration events ≡ None →
    HasLaws head events
laws_of head events lawful free quiet = record {
  lawful = lawful;
  headline = λ front rest is. headline_of_front head front rest (subst (λ es. IsLawful head es) (sym is) lawful);
  one_walk = λ front rest is. one_walk_of_front head front rest (subst (λ es. IsLawful head es) (sym is) lawful);
  completes = λ front rest is. completes_of_front head front rest (subst (λ es. IsLawful head es) (sym is) lawful);
  no_operation = free;
  no_registration = quiet;
  keys = λ cpu. keys_at_rest head events cpu lawful (no_walk head events cpu lawful free) quiet;
}

pub journal_of : (script : Contents) (events : List Event) → IsScript script.head script.actors →
    IsRunBy script.head script.actors (schedule_written script.schedule) events → operation events ≡ None →
    registration events ≡ None → IsJournalOf script events
journal_of script events plays run free quiet = record {
  run = run;
  laws =
      laws_of script.head events
      (run_lawful script.head script.actors
      (first_turns (length (present script.head) + length script.actors) (schedule_written script.schedule)) events
      plays.head_is plays.few_seats run)
      free quiet;
}
