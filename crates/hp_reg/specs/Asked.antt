-- What a registration asks for: the entry on the lowest processor that is left, or its end. After
-- `__cpuhp_setup_state_cpuslocked`, `cpuhp_rollback_install` and `__cpuhp_remove_state_cpuslocked` of `kernel/cpu.c`;
-- that undoing and removing never fail, where a fault is a `BUG_ON` in `cpuhp_issue_call`, is this project's own.
use Rattle.std.specs.Prelude.{ℕ, pos, Bool, true, false, Option, Some, None, List, [], ◌∷◌}
use Rattle.hp_states.specs.declared.dir.Dir.{Dir}
use Rattle.hp_states.specs.declared.dir.Dir.TheVariants.{Up, Down}
use Rattle.hp_states.specs.declared.place.Place.{Place}
use Rattle.hp_states.specs.declared.place.Place.TheVariants.{Add, Undo, Remove}
use Rattle.hp_event.specs.declared.key.Key.{Key}
use Rattle.hp_event.specs.declared.answer.Answer.{Answer}
use Rattle.hp_event.specs.declared.answer.Answer.TheVariants.{Ok, Fault}
use Rattle.hp_model.specs.RegistrationShape.{is_adding, ok_value}
use Rattle.hp_reg.specs.declared.phase.Phase.{Phase}
use Rattle.hp_reg.specs.declared.phase.Phase.TheVariants.{Making, Undoing}
use Rattle.hp_reg.specs.declared.step.RegStep.{RegStep}
use Rattle.hp_reg.specs.declared.step.RegStep.TheVariants.{Call, Ended}
use Rattle.hp_reg.specs.Progress.{Progress, cpus_left}

abbrev pub direction : Phase → (adding : Bool) → Dir
direction (Making from) true = Up
direction (Making from) false = Down
direction (Undoing from failed code) adding = Down

abbrev pub place : Phase → (adding : Bool) → Place
place (Making from) true = Add
place (Making from) false = Remove
place (Undoing from failed code) adding = Undo

-- the answer where nothing is left
abbrev pub answer_in : Phase → (value : ℕ) → Answer
answer_in (Making from) value = Ok (pos value)
answer_in (Undoing from failed code) value = Fault code

abbrev pub answer : Progress → Answer
answer p = answer_in p.phase (ok_value p.op p.state)

abbrev pub call : Progress → (inst cpu : ℕ) → RegStep
call p i c =
    Call c (record { state = p.state; inst = i }) (direction p.phase (is_adding p.op)) (place p.phase (is_adding p.op))

abbrev pub call_or_end : Progress → (inst : ℕ) → List ℕ → RegStep
call_or_end p i [] = Ended (answer p)
call_or_end p i (c ∷ cs) = call p i c

-- what comes next, by the instance of the key and the processors concerned
abbrev pub asked : Option ℕ → (cpus : List ℕ) → Progress → RegStep
asked None cpus p = Ended (answer p)
asked (Some i) cpus p = call_or_end p i (cpus_left p.phase cpus)

-- what holds of the processor and the key of an entry that is asked for
abbrev pub IfCall : RegStep → (ℕ → Key → Type 0) → Type 0
IfCall (Call c k d p) P = P c k
IfCall (Ended answer) P = Unit {0}
