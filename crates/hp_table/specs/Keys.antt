-- The keys of states, and how many they are. A key is a state and an instance: a state with an instance list has a key
-- for each instance, a state without one has a key of its own. After `cpuhp_invoke_callback` of `kernel/cpu.c`.
use Rattle.std.specs.Prelude.{ℕ, ◌+◌, if◌then◌else◌, Option, Some, None, List, [], ◌∷◌, length, take, drop, sum_by}
use Rattle.hp_table.specs.Step.{Step, step_at}

-- the instances of the keys of what is registered, in list order: newest first, or 0 alone
abbrev pub insts_of : Option Step → List ℕ
insts_of None = []
insts_of (Some step) = if step.kept.multi then step.insts else 0 ∷ []

abbrev pub keys_by : List (Option Step) → (state : ℕ) → List ℕ
keys_by places s = insts_of (step_at places s)

-- how many they are

abbrev pub keys_of : Option Step → ℕ
keys_of None = 0
keys_of (Some step) = if step.kept.multi then length step.insts else 1

-- of the states above `low` and up to `high`
abbrev pub keys_between : List (Option Step) → (low high : ℕ) → ℕ
keys_between places low high = sum_by keys_of (drop (low + 1) (take (high + 1) places))
