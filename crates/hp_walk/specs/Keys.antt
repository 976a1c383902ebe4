-- The next state that has a key, of those that a walk crosses. After `cpuhp_next_state` of `kernel/cpu.c`, which
-- passes over a state without a callback of that direction too.
use Rattle.std.specs.Prelude.{◌≡◌, ◌≢◌, ℕ, ◌<◌, ◌≤◌, List, []}
use Rattle.hp_states.specs.declared.dir.Dir.{Dir}
use Rattle.hp_states.specs.declared.dir.Dir.TheVariants.{Up, Down}
pub use Rattle.hp_table.specs.Keys.{insts_of, keys_by}

-- a state that a walk from one state to another crosses, if it has a key
abbrev pub IsCrossed : Dir → (from to state : ℕ) → Type 0
IsCrossed Up from to s = (from < s) × (s ≤ to)
IsCrossed Down from to s = (to < s) × (s ≤ from)

-- one comes before another in that direction
abbrev pub ComesBefore : Dir → ℕ → ℕ → Type 0
ComesBefore Up t s = t < s
ComesBefore Down t s = s < t

-- the first with a key of those that a walk crosses
pub record IsNextState (keys : ℕ → List ℕ) (d : Dir) (from to state : ℕ) : Type 0 where
  pub crossed : IsCrossed d from to state
  pub has_key : keys state ≢ []
  pub none_before : (t : ℕ) → IsCrossed d from to t → ComesBefore d t state → keys t ≡ []

abbrev pub IsNoState : (keys : ℕ → List ℕ) → Dir → (from to : ℕ) → Type 0
IsNoState keys d from to = (t : ℕ) → IsCrossed d from to t → keys t ≡ []
