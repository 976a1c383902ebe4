-- What a registration asks for by what the caller keeps: the table, where processors stand, and which are absent. This
-- project's own; what it asks for by its key and its processors is `Asked.antt`.
use Rattle.std.specs.Prelude.{◌≡◌, ℕ, ◌<◌, true, Option, List, length}
use Rattle.hp_event.specs.declared.key.Key.{Key}
use Rattle.hp_table.specs.Step.{Step}
use Rattle.hp_reg.specs.declared.step.RegStep.{RegStep}
use Rattle.hp_reg.specs.After.{GoesOnFrom}
use Rattle.hp_reg.specs.Asked.{asked}
use Rattle.hp_reg.specs.Concerned.{is_concerned, key_at, cpus_at}
use Rattle.hp_reg.specs.Progress.{Progress}

-- what comes next
abbrev pub asked_by : List (Option Step) → (settled absent : List ℕ) → Progress → RegStep
asked_by places settled absent p = asked (key_at places p) (cpus_at settled absent p) p

-- this goes on with whatever entries the registration stands after
abbrev pub GoesOnWith : List (Option Step) → (settled absent : List ℕ) → Progress → RegStep → Type 0
GoesOnWith places settled absent p next = GoesOnFrom (key_at places p) (cpus_at settled absent p) p next

-- an entry is on a processor that has a place and is concerned, and its key is one of the registration's state
abbrev pub ConcernsItsState : (settled absent : List ℕ) → Progress → (cpu : ℕ) → Key → Type 0
ConcernsItsState settled absent p c key =
    (c < length settled) × (is_concerned p.state settled absent c ≡ true) × (key.state ≡ p.state)
