-- What contracts see of the table: a place for each state, from the lowest on, with what is registered there. After
-- `cpuhp_hp_states` of `kernel/cpu.c`, an array of `struct cpuhp_step`.
use Rattle.std.specs.Prelude.{◌≡◌, ℕ, Bool, true, Option, Some, None, IfSome, IsSome, List, [], slice_get, slice_set}
use Rattle.hp_states.specs.Rules.{Site}
use Rattle.hp_states.specs.declared.plan.Rule.{Rule}
use Rattle.hp_hook.specs.Counted.{Counts}
use Rattle.hp_table.specs.Kept.{Kept, answer_at, called, loaded, lent, with_hook}

-- what is registered at a state: the record, and the instances, newest first
pub record Step : Type 0 where
  pub kept : Kept
  pub insts : List ℕ

-- what is registered at a state, if anything is
abbrev pub step_at : List (Option Step) → (state : ℕ) → Option Step
step_at places s = place_of (slice_get places s)
  where
    place_of : Option (Option Step) → Option Step
    place_of None = None
    place_of (Some place) = place

-- a state that was just registered: it has no instances
abbrev pub bare : Kept → Step
bare kept = record { kept = kept; insts = [] }

-- what is registered, changed
abbrev pub changed : (Step → Step) → Option Step → Option Step
changed f None = None
changed f (Some step) = Some (f step)

-- the table once what is registered at one state is changed: all other states stay
abbrev pub changed_at : List (Option Step) → (state : ℕ) → (Step → Step) → List (Option Step)
changed_at places s f = slice_set places s (changed f (step_at places s))

-- the record of what is registered
abbrev pub kept_of : Option Step → Option Kept
kept_of None = None
kept_of (Some step) = Some step.kept

-- a step whose hook has answered a call
abbrev pub called_step : Site → Step → Step
called_step site step = record { kept = called step.kept site; insts = step.insts }

-- a step whose hook is loaded with a plan
abbrev pub loaded_step : List Rule → Step → Step
loaded_step plan step = record { kept = loaded step.kept plan; insts = step.insts }

-- a step whose hook is lent
abbrev pub lent_step : Step → Step
lent_step step = record { kept = lent step.kept; insts = step.insts }

-- a step whose hook is there, having counted this
abbrev pub step_with : Counts → Step → Step
step_with counts step = record { kept = with_hook counts step.kept; insts = step.insts }

-- a hook that has counted this is that of what is registered
abbrev pub HasCounted : Counts → Option Step → Type 0
HasCounted counts place = IfSome place (λ step. counts ≡ step.kept.counts)

-- the hook of what is registered answers this to a call
abbrev pub Answers : Option Step → Site → (answer : ℕ) → Type 0
Answers place site answer = IfSome place (λ step. answer ≡ answer_at step.kept site)

-- whether the hook of what is registered is there; where nothing is there is none to miss
abbrev pub is_home : Option Step → Bool
is_home None = true
is_home (Some step) = step.kept.home

-- every hook is there
abbrev pub AllHome : List (Option Step) → Type 0
AllHome places = (s : ℕ) → is_home (step_at places s) ≡ true

-- something is registered, and its hook is there
abbrev pub HasHook : Option Step → Type 0
HasHook place = IsSome place × (is_home place ≡ true)
