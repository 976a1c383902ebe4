-- The sections of the state table, its built-in names, and where a callback may fail. The order of the
-- anchors is that of `cpuhotplug.h`; the numbers, the names, the states that a walk can't stop at and
-- where a callback may fail are this project's own.
use Rattle.std.specs.Prelude.{ℕ, Bool, true, false, not, ◌&&◌, ◌+◌, ◌==◌, nat_lt, nat_le, is_some, if◌then◌else◌, Option, Some, None, List, [], ◌∷◌, codes}
use Rattle.hp_states.specs.declared.limits.TheConstants.{OFFLINE, PREPARE_DYN, PREPARE_DYN_END, BRINGUP_CPU, AP_ONLINE, TEARDOWN_CPU, ONLINE_DYN, ONLINE_DYN_END, ONLINE}
use Rattle.hp_states.specs.declared.section.Section.{Section}
use Rattle.hp_states.specs.declared.section.Section.TheVariants.{Prepare, Starting, Online}
use Rattle.hp_states.specs.declared.section.Range.{Range}
use Rattle.hp_states.specs.declared.section.Range.TheVariants as range
use Rattle.hp_states.specs.declared.dir.Dir.{Dir}
use Rattle.hp_states.specs.declared.dir.Dir.TheVariants.{Up, Down}
use Rattle.hp_states.specs.declared.place.Place.{Place}
use Rattle.hp_states.specs.declared.place.Place.TheVariants.{Forward, Back, Part, Add, Undo, Remove}

-- PREPARE is 0 to 62, STARTING is 63 to 100, ONLINE is 101 to 200
abbrev pub section_at : (state : ℕ) → Section
section_at s = if nat_le s BRINGUP_CPU then Prepare else (if nat_le s AP_ONLINE then Starting else Online)

-- an entry at an AP state is made by the processor's own seat
abbrev pub is_ap_state : (state : ℕ) → Bool
is_ap_state s = nat_lt BRINGUP_CPU s && not (s == TEARDOWN_CPU)

abbrev pub is_atomic_state : (state : ℕ) → Bool
is_atomic_state s = nat_lt BRINGUP_CPU s && nat_lt s AP_ONLINE

-- a processor is online at the states from 101 on
abbrev pub is_online_state : (state : ℕ) → Bool
is_online_state s = nat_lt AP_ONLINE s

-- a walk can be aimed at all states but 62 to 102
abbrev pub is_stop : (state : ℕ) → Bool
is_stop s = not (nat_le BRINGUP_CPU s && nat_le s (TEARDOWN_CPU + 1))

-- the states that are named from the start
abbrev pub builtins : List (ℕ × List ℕ)
builtins =
    (OFFLINE, codes "offline")
    ∷ (BRINGUP_CPU, codes "cpu:bringup")
    ∷ (63, codes "idle:dead")
    ∷ (64, codes "ap:offline")
    ∷ (AP_ONLINE, codes "ap:online")
    ∷ (TEARDOWN_CPU, codes "cpu:teardown")
    ∷ (102, codes "online:idle")
    ∷ (199, codes "sched:active")
    ∷ (ONLINE, codes "online") ∷ []

-- the name that a list of numbers with names gives a number
abbrev pub name_in : List (ℕ × List ℕ) → ℕ → Option (List ℕ)
name_in [] s = None
name_in (named ∷ others) s = if s == named.0 then Some named.1 else name_in others s

abbrev pub name_of_builtin : (state : ℕ) → Option (List ℕ)
name_of_builtin s = name_in builtins s

abbrev pub is_builtin : (state : ℕ) → Bool
is_builtin s = is_some (name_of_builtin s)

-- where a processor stands before its first walk: processor 0 at the highest state, the others at the lowest
abbrev pub first_state : (cpu : ℕ) → ℕ
first_state c = if c == 0 then ONLINE else OFFLINE

-- a dynamic range is asked for by the number of its first state
abbrev pub is_dynamic : (state : ℕ) → Bool
is_dynamic s = if s == PREPARE_DYN then true else s == ONLINE_DYN

-- the range that is asked for, where one is
abbrev pub range_asked_by : (state : ℕ) → Option Range
range_asked_by s = if s == PREPARE_DYN then Some range.Prepare else (if s == ONLINE_DYN then Some range.Online else None)

-- the first and the last state of a range
abbrev pub first_slot : Range → ℕ
first_slot range.Prepare = PREPARE_DYN
first_slot range.Online = ONLINE_DYN

abbrev pub last_slot : Range → ℕ
last_slot range.Prepare = PREPARE_DYN_END
last_slot range.Online = ONLINE_DYN_END

-- the last state of the range that is asked for
abbrev pub end_of_range : (asked : ℕ) → ℕ
end_of_range asked = if asked == PREPARE_DYN then PREPARE_DYN_END else ONLINE_DYN_END

abbrev pub is_up : Dir → Bool
is_up Up = true
is_up Down = false

abbrev pub opposite : Dir → Dir
opposite Up = Down
opposite Down = Up

-- which entries of a section may fail in a walk
abbrev pub can_fail_walking : Dir → Section → Bool
can_fail_walking d Prepare = is_up d
can_fail_walking d Starting = false
can_fail_walking d Online = true

-- which may fail in adding
abbrev pub can_fail_adding : Dir → Section → Bool
can_fail_adding d Prepare = is_up d
can_fail_adding d Starting = false
can_fail_adding d Online = is_up d

-- whether an entry may fail, by its direction, its state and what it is made for
abbrev pub can_fail : Dir → (state : ℕ) → Place → Bool
can_fail d s Forward = can_fail_walking d (section_at s)
can_fail d s Back = can_fail_walking d (section_at s)
can_fail d s Part = false
can_fail d s Add = can_fail_adding d (section_at s)
can_fail d s Undo = false
can_fail d s Remove = false
