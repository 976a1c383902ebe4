-- Which states have a name: the built-in ones and those that are registered. After `cpuhp_store_callbacks` of
-- `kernel/cpu.c`, where a step with a name is taken.
use Rattle.std.specs.Prelude.{◌≡◌, ◌⊎◌, ℕ, ◌<◌, ◌≤◌, Bool, false, ◌||◌, is_some, IsSome, IsTrue, Option, None, List}
use Rattle.hp_states.specs.declared.limits.TheConstants.{OFFLINE, ONLINE}
pub use Rattle.hp_states.specs.Sections.{is_builtin}
use Rattle.hp_table.specs.Step.{Step, step_at}

abbrev pub is_named : List (Option Step) → (state : ℕ) → Bool
is_named places s = is_builtin s || is_some (step_at places s)

-- the lowest state, where nothing can be registered, or one that is as high as the highest
abbrev pub IsAtAnEnd : (state : ℕ) → Type 0
IsAtAnEnd s = (s ≡ OFFLINE) ⊎ (ONLINE ≤ s)

-- a state between these that has no name yet
abbrev pub IsFree : List (Option Step) → (state : ℕ) → Type 0
IsFree places s = (OFFLINE < s) × (s < ONLINE) × (is_named places s ≡ false)

-- one that has a name
abbrev pub IsTaken : List (Option Step) → (state : ℕ) → Type 0
IsTaken places s = (OFFLINE < s) × (s < ONLINE) × IsTrue (is_named places s)

-- nothing is registered at the states from one on up to another
abbrev pub IsNoneRegistered : List (Option Step) → (from to : ℕ) → Type 0
IsNoneRegistered places from to = (s : ℕ) → from ≤ s → s ≤ to → step_at places s ≡ None

-- the lowest of these states where something is registered
pub record IsNextRegistered (places : List (Option Step)) (from to state : ℕ) : Type 0 where
  pub at_least : from ≤ state
  pub at_most : state ≤ to
  pub there : IsSome (step_at places state)
  pub none_below : (s : ℕ) → from ≤ s → s < state → step_at places s ≡ None
