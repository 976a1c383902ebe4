-- On which processors a registration makes an entry, and of which key, by what the caller keeps: the table, where
-- processors stand, and which are absent. After the loops over the present processors of
-- `__cpuhp_setup_state_cpuslocked` and its kin of `kernel/cpu.c`.
use Rattle.std.specs.Prelude.{◌≡◌, ℕ, ◌<◌, ◌≤◌, Bool, true, false, not, ◌&&◌, nat_le, Option, Some, None, List, ◌∷◌, filter, length, slice_index}
use Rattle.hp_event.specs.declared.op.Op.{Op}
use Rattle.hp_event.specs.declared.op.Op.TheVariants.{Setup, Remove, Add, Del}
use Rattle.hp_model.specs.Lists.{among, numbers}
use Rattle.hp_model.specs.RegistrationShape.{single}
use Rattle.hp_table.specs.Step.{Step, step_at}
use Rattle.hp_reg.specs.declared.phase.Phase.{Phase}
use Rattle.hp_reg.specs.Progress.{Progress, cpus_left}

-- a processor that isn't absent and stands at the state or above it
abbrev pub is_concerned : (state : ℕ) → (settled absent : List ℕ) → (cpu : ℕ) → Bool
is_concerned s settled absent c = not (among c absent) && nat_le s (slice_index settled c)

-- these, in rising number
abbrev pub concerned : (state : ℕ) → (settled absent : List ℕ) → List ℕ
concerned s settled absent = filter (is_concerned s settled absent) (numbers (length settled))

-- a processor between two numbers that is
abbrev pub IsConcernedWithin : (state : ℕ) → (settled absent : List ℕ) → (from to : ℕ) → (cpu : ℕ) → Type 0
IsConcernedWithin s settled absent from to c = (from ≤ c) × (c < to) × (is_concerned s settled absent c ≡ true)

-- no processor between them is
abbrev pub NoneConcerned : (state : ℕ) → (settled absent : List ℕ) → (from to : ℕ) → Type 0
NoneConcerned s settled absent from to = (d : ℕ) → from ≤ d → d < to → is_concerned s settled absent d ≡ false

-- the lowest processor whose entry is still to come in a phase: it has a place, and is concerned
abbrev pub IsFirstLeft : Phase → (state : ℕ) → (settled absent : List ℕ) → (cpu : ℕ) → Type 0
IsFirstLeft phase s settled absent c =
    (c < length settled) × (is_concerned s settled absent c ≡ true)
    × ((others : List ℕ) × (cpus_left phase (concerned s settled absent) ≡ c ∷ others))

abbrev pub single_in : Option Step → Option ℕ
single_in None = None
single_in (Some step) = single step.kept.multi

-- the instance of the key: the one that an add or a del names, 0 for a setup or a remove of a single state, and none
-- for one of a state with an instance list
abbrev pub key_in : Op → Option Step → Option ℕ
key_in (Setup state sub form) place = single_in place
key_in (Remove state form) place = single_in place
key_in (Add state inst form) place = Some inst
key_in (Del state inst form) place = Some inst
key_in _ place = None

-- the instance of the key of a registration, and the processors that it concerns
abbrev pub key_at : List (Option Step) → Progress → Option ℕ
key_at places p = key_in p.op (step_at places p.state)

abbrev pub cpus_at : (settled absent : List ℕ) → Progress → List ℕ
cpus_at settled absent p = concerned p.state settled absent
