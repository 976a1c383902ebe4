-- The run of a script: the admissions, the turns of its schedule, and then closing rounds, each one turn to each seat in rising
-- number, until every operation is answered. This project's own.
use Rattle.std.specs.Prelude.{◌≡◌, ℕ, zero, suc, ◌+◌, ◌<◌, ◌≤◌, Bool, true, false, ◌&&◌, is_none, List, length, replicate}
use Rattle.hp_states.specs.declared.limits.TheConstants.{MAX_SEATS}
use Rattle.hp_event.specs.declared.op.Op.{Op}
use Rattle.hp_event.specs.declared.head.Head.{Head}
use Rattle.hp_event.specs.declared.event.Event.{Event}
use Rattle.hp_model.specs.Lists.{numbers}
use Rattle.hp_model.specs.Processors.{present}
use Rattle.hp_model.specs.Admissions.{admissions}
use Rattle.hp_model.specs.ScriptTurns.{RunState, unanswered, after_turns}

-- nothing is answered yet
abbrev pub start : Head → (actors : List (List Op)) → RunState
start head actors = record { events = admissions head actors; answers = replicate (length actors) 0 }

-- how far the run is after turns of these seats
abbrev pub run_after : Head → (actors : List (List Op)) → (seats : List ℕ) → RunState
run_after head actors seats = after_turns head actors (start head actors) seats

-- whether every operation of the first actors is answered
abbrev pub answered_below : (actors : List (List Op)) → (answers : List ℕ) → (actor : ℕ) → Bool
answered_below actors answers zero = true
answered_below actors answers (suc n) = answered_below actors answers n && is_none (unanswered actors answers n)

-- whether every operation is
abbrev pub is_over : (actors : List (List Op)) → RunState → Bool
is_over actors at = answered_below actors at.answers (length actors)

abbrev pub after_round : Head → (actors : List (List Op)) → RunState → RunState
after_round head actors at = after_turns head actors at (numbers (length (present head) + length actors))

-- after the schedule and so many closing rounds
abbrev pub after_rounds : Head → (actors : List (List Op)) → (schedule : List ℕ) → (rounds : ℕ) → RunState
after_rounds head actors schedule zero = after_turns head actors (start head actors) schedule
after_rounds head actors schedule (suc n) = after_round head actors (after_rounds head actors schedule n)

-- the rounds are as many as it takes
pub record IsRun (head : Head) (actors : List (List Op)) (schedule : List ℕ) (events : List Event) : Type 0 where
  pub rounds : ℕ
  pub over : is_over actors (after_rounds head actors schedule rounds) ≡ true
  pub no_sooner : (n : ℕ) → n < rounds → is_over actors (after_rounds head actors schedule n) ≡ false
  pub events_are : events ≡ (after_rounds head actors schedule rounds).events

-- the run of some actors by some schedule, where there are seats for all
abbrev pub IsSomeRun : Head → List Event → Type 0
IsSomeRun head events =
    (actors : List (List Op))
    × (schedule : List ℕ)
    × (length (present head) + length actors ≤ MAX_SEATS)
    × IsRun head actors schedule events

-- two runs of the same actors by the same schedule are one
abbrev pub RunsAreOne : Head → (one other : List Event) → Type 0
RunsAreOne head one other =
    (actors : List (List Op)) (schedule : List ℕ) → IsRun head actors schedule one → IsRun head actors schedule other →
    one ≡ other
