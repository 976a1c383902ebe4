-- How many entries a registration can still ask for: over P processors at most 2P - 1 in all, where the last of them
-- fails in adding. This project's own.
use Rattle.std.specs.Prelude.{◌≡◌, ℕ, zero, suc, ◌+◌, ◌<◌, Bool, true, false, Option, Some, None, List, length, AllPairs}
use Rattle.hp_states.specs.declared.dir.Dir.{Dir}
use Rattle.hp_states.specs.declared.place.Place.{Place}
use Rattle.hp_event.specs.declared.key.Key.{Key}
use Rattle.hp_event.specs.declared.how.How.{How}
use Rattle.hp_model.specs.How.{fits}
use Rattle.hp_model.specs.RegistrationShape.{is_adding}
use Rattle.hp_reg.specs.declared.phase.Phase.{Phase}
use Rattle.hp_reg.specs.declared.phase.Phase.TheVariants.{Making, Undoing}
use Rattle.hp_reg.specs.declared.step.RegStep.TheVariants.{Call}
use Rattle.hp_reg.specs.Progress.{Progress, cpus_left}
use Rattle.hp_reg.specs.Asked.{asked}

-- adding on the processors that are left, of which the last may fail: then all others are undone
abbrev pub adds_left : (left cpus : ℕ) → ℕ
adds_left zero n = 0
adds_left (suc others) n = others + n

abbrev pub calls_in : Phase → (adding : Bool) → (left cpus : ℕ) → ℕ
calls_in (Making from) true left n = adds_left left n
calls_in (Making from) false left n = left
calls_in (Undoing from failed code) adding left n = left

abbrev pub calls_left : Option ℕ → (cpus : List ℕ) → Progress → ℕ
calls_left None cpus p = 0
calls_left (Some i) cpus p = calls_in p.phase (is_adding p.op) (length (cpus_left p.phase cpus)) (length cpus)

-- past an entry that was asked for on this processor and made so, where that fits its place, less is left
abbrev pub LessIsLeft : Progress → (cpu : ℕ) → How → Progress → Type 0
LessIsLeft p cpu how q =
    (key : Option ℕ) (cpus : List ℕ) (at : Key) (dir : Dir) (place : Place) → AllPairs (λ c d. c < d) cpus →
    asked key cpus p ≡ Call cpu at dir place → fits how dir at.state place ≡ true → calls_left key cpus q < calls_left key cpus p
