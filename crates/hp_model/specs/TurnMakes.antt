-- What a turn makes of how far a run is, by what stands: it appends the one event that it can take, or its operation is answered
-- LogFull without one, or it does nothing where neither can be. This project's own.
use Rattle.std.specs.Prelude.{◌≡◌, ℕ, ◌-◌, true, nat_lt, if◌then◌else◌, List, [], ◌∷◌, ◌++◌, length, ◌⊎◌}
use Rattle.hp_event.specs.declared.op.Op.{Op}
use Rattle.hp_event.specs.declared.head.Head.{Head}
use Rattle.hp_event.specs.declared.event.Event.{Event}
use Rattle.hp_model.specs.Processors.{present}
use Rattle.hp_model.specs.Events.{seat_of, is_answer}
use Rattle.hp_model.specs.Lawful.{Stands}
use Rattle.hp_model.specs.Full.{IsFull}
use Rattle.hp_model.specs.Tasks.{Task, entries, operation, nothing, task_of, IsFor}
use Rattle.hp_model.specs.ScriptTurns.{RunState, unanswered, counted}

-- what the turn of a seat is for
abbrev pub task : Head → (actors : List (List Op)) → RunState → (seat : ℕ) → Task
task head actors at k =
    if nat_lt k (length (present head)) then entries else task_of (unanswered actors at.answers (k - length (present head)))

-- an event that the turn can append
pub record CanTake (head : Head) (actors : List (List Op)) (at : RunState) (seat : ℕ) (e : Event) : Type 0 where
  pub stands : Stands head at.events e
  pub by : seat_of e ≡ seat
  pub is_for : IsFor (task head actors at seat) e

abbrev pub LacksRoom : Head → RunState → (seat : ℕ) → Task → Type 0
LacksRoom head at k entries = ⊥
LacksRoom head at k (operation op) = IsFull head at.events k op
LacksRoom head at k nothing = ⊥

-- an event that answers counts for the seat's actor; an entry of a processor's thread never answers
abbrev pub Appends : Head → (actors : List (List Op)) → RunState → (seat : ℕ) → (after : RunState) → Type 0
Appends head actors at k after =
    (e : Event)
    × CanTake head actors at k e
    × (after
    ≡ record { events = at.events ++ e ∷ []; answers = counted (k - length (present head)) (is_answer e) at.answers })

abbrev pub AnswersFull : Head → (actors : List (List Op)) → RunState → (seat : ℕ) → (after : RunState) → Type 0
AnswersFull head actors at k after =
    LacksRoom head at k (task head actors at k)
    × (after ≡ record { events = at.events; answers = counted (k - length (present head)) true at.answers })

abbrev pub Stays : Head → (actors : List (List Op)) → RunState → (seat : ℕ) → (after : RunState) → Type 0
Stays head actors at k after =
    ((e : Event) → CanTake head actors at k e → ⊥) × (LacksRoom head at k (task head actors at k) → ⊥) × (after ≡ at)

abbrev pub TurnMakes : Head → (actors : List (List Op)) → RunState → (seat : ℕ) → (after : RunState) → Type 0
TurnMakes head actors at k after =
    Appends head actors at k after ⊎ (AnswersFull head actors at k after ⊎ Stays head actors at k after)
