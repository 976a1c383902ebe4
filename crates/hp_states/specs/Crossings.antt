-- The direction of a walk, and where a processor stands before and after it crosses a state. After `cpuhp_next_state`
-- of `kernel/cpu.c`, where the processor stands at the next state before its callback is called.
use Rattle.std.specs.Prelude.{ℕ, ◌-◌, nat_lt, if◌then◌else◌}
use Rattle.hp_states.specs.declared.dir.Dir.{Dir}
use Rattle.hp_states.specs.declared.dir.Dir.TheVariants.{Up, Down}

abbrev pub direction : (from to : ℕ) → Dir
direction from to = if nat_lt from to then Up else Down

-- the state that stands before a done crossing, and after it
abbrev pub state_before : Dir → (state : ℕ) → ℕ
state_before Up s = s - 1
state_before Down s = s

abbrev pub state_after : Dir → (state : ℕ) → ℕ
state_after Up s = s
state_after Down s = s - 1
