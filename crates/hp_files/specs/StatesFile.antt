-- The states file: a line for each named state, in rising number. After `states_show` of `kernel/cpu.c`, whose lines
-- are of the form `%3d: %s\n`; which states have a name, and from whom, is this project's own.
use Rattle.std.specs.Prelude.{ℕ, ◌+◌, ◌-◌, Option, Some, None, option_map, option_and_then, List, [], ◌∷◌, ◌++◌, length, replicate, codes, decimal}
use Rattle.std.specs.Option.{option_or}
use Rattle.std.specs.List.{flat_map}
use Rattle.hp_states.specs.declared.limits.TheConstants.{ONLINE}
use Rattle.hp_states.specs.Sections.{name_of_builtin}
use Rattle.hp_event.specs.declared.head.Head.{Head}
use Rattle.hp_event.specs.declared.event.Event.{Event}
use Rattle.hp_model.specs.Lists.{numbers}
use Rattle.hp_model.specs.Registered.{registered}
use Rattle.hp_model.specs.Subsystems.{sub_numbered}
use Rattle.hp_table.specs.Step.{Step, step_at}

-- a number at the right of three places: spaces stand before its digits
abbrev pub right_in_three : ℕ → List ℕ
right_in_three number = replicate (3 - length (decimal number)) 32 ++ decimal number

-- the line of a state that has a name
abbrev pub state_line : (state : ℕ) (name : List ℕ) → List ℕ
state_line s name = right_in_three s ++ codes ": " ++ name ++ 10 ∷ []

-- a state without a name has no line
abbrev pub line_of : (state : ℕ) (name : Option (List ℕ)) → List ℕ
line_of s None = []
line_of s (Some name) = state_line s name

-- the file, where it is given what each state's name is
unfoldable pub states_file : (name_of : (state : ℕ) → Option (List ℕ)) → List ℕ
states_file name_of = flat_map (λ s. line_of s (name_of s)) (numbers (ONLINE + 1))

-- the name of a subsystem of the head, by its number
abbrev pub name_of_sub : Head → (number : ℕ) → Option (List ℕ)
name_of_sub head number = option_map (λ sub. sub.name) (sub_numbered head number)

-- a state's name: the built-in one, or else that of the subsystem that is registered there
abbrev pub name_with : Head → (sub : Option ℕ) (state : ℕ) → Option (List ℕ)
name_with head sub s = option_or (name_of_builtin s) (option_and_then (name_of_sub head) sub)

-- a state's name, by the events
abbrev pub name_at : Head → List Event → (state : ℕ) → Option (List ℕ)
name_at head events s = name_with head (option_map (λ r. r.sub) (registered head s events)) s

-- a state's name, by the table
abbrev pub name_in : Head → List (Option Step) → (state : ℕ) → Option (List ℕ)
name_in head table s = name_with head (option_map (λ step. step.kept.sub) (step_at table s)) s

-- the states file of a journal
abbrev pub states : Head → List Event → List ℕ
states head events = states_file (name_at head events)
