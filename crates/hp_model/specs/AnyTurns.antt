-- What is so of the run of a script after any turns of its seats. This project's own.
use Rattle.std.specs.Prelude.{◌≡◌, ℕ, ◌+◌, ◌<◌, ◌≤◌, true, false, Some, List, length, get_or, sum_by}
use Rattle.hp_states.specs.declared.limits.TheConstants.{MAX_EVENTS}
use Rattle.hp_event.specs.declared.op.Op.{Op}
use Rattle.hp_event.specs.declared.head.Head.{Head}
use Rattle.hp_event.specs.declared.event.Event.{Event}
use Rattle.hp_model.specs.Distance.{distance}
use Rattle.hp_model.specs.Events.{answered}
use Rattle.hp_model.specs.Pending.{IsAllowed}
use Rattle.hp_model.specs.Processors.{present}
use Rattle.hp_model.specs.ScriptRun.{start, run_after, is_over, after_round, IsRun}
use Rattle.hp_model.specs.ScriptTurns.{unanswered, turn}
use Rattle.hp_model.specs.Scripts.{IsScript}
use Rattle.hp_model.specs.TurnMakes.{TurnMakes}
use Rattle.hp_model.specs.WithoutEvent.{answered_without_event}

-- a fact of each script that a machine with the head can play, and of any list of seats whose turns it has
abbrev pub EachScript : Head → (Head → (actors : List (List Op)) → (seats : List ℕ) → Type 0) → Type 0
EachScript head Fact = (actors : List (List Op)) (seats : List ℕ) → IsScript head actors → Fact head actors seats

-- where an actor's turn is for this operation, its seat may ask for it
abbrev pub MayAsk : Op → Head → (actors : List (List Op)) → (seats : List ℕ) → Type 0
MayAsk op head actors seats =
    (actor : ℕ) → unanswered actors (run_after head actors seats).answers actor ≡ Some op →
    IsAllowed head (run_after head actors seats).events (record { seat = length (present head) + actor; op = op })

-- a turn of any seat makes what stands
abbrev pub EachTurnMakes : Head → (actors : List (List Op)) → (seats : List ℕ) → Type 0
EachTurnMakes head actors seats =
    (seat : ℕ) →
    TurnMakes head actors (run_after head actors seats) seat (turn head actors (run_after head actors seats) seat)

-- of each actor as many operations are answered as the journal shows of its seat, and those that were answered without an event
abbrev pub AnswersAreShown : Head → (actors : List (List Op)) → (seats : List ℕ) → Type 0
AnswersAreShown head actors seats =
    (actor : ℕ) → actor < length actors →
    get_or (run_after head actors seats).answers actor 0
    ≡ answered (length (present head) + actor) (run_after head actors seats).events
    + answered_without_event head actors (start head actors) seats actor

-- a round gets further, unless every operation is answered
abbrev pub RoundsGoOn : Head → (actors : List (List Op)) → (seats : List ℕ) → Type 0
RoundsGoOn head actors seats =
    is_over actors (run_after head actors seats) ≡ false →
    distance (run_after head actors seats) < distance (after_round head actors (run_after head actors seats))

-- the run is no further than a journal has room for and the actors have operations
abbrev pub IsNoFurther : Head → (actors : List (List Op)) → (seats : List ℕ) → Type 0
IsNoFurther head actors seats =
    distance (run_after head actors seats) ≤ MAX_EVENTS + sum_by (λ ops. length ops) actors

-- the script has a run with these turns for its schedule
abbrev pub HasRun : Head → (actors : List (List Op)) → (schedule : List ℕ) → Type 0
HasRun head actors schedule = (events : List Event) × IsRun head actors schedule events

-- where every operation is answered, a turn of any seat does nothing more
abbrev pub StaysOver : Head → (actors : List (List Op)) → (seats : List ℕ) → Type 0
StaysOver head actors seats =
    (seat : ℕ) → is_over actors (run_after head actors seats) ≡ true →
    turn head actors (run_after head actors seats) seat ≡ run_after head actors seats
