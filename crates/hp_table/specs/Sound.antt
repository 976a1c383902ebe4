-- What is so of every table: how many states and instances there are, and where nothing is registered. The limits
-- are this project's own.
use Rattle.std.specs.Prelude.{◌≡◌, ◌≢◌, ℕ, ◌+◌, ◌<◌, ◌≤◌, true, false, Option, None, IfSome, List, [], length, All, AllPairs}
use Rattle.hp_states.specs.declared.limits.TheConstants.{MAX_INSTANCES, MAX_TABLE_INSTANCES, ONLINE}
use Rattle.hp_table.specs.Step.{Step, step_at}
use Rattle.hp_table.specs.Named.{is_builtin}
use Rattle.hp_table.specs.Instances.{instance_count}

-- of a registered state: few instances, none of them numbered 0, no two the same, and none without an instance list
pub record IsSoundStep (step : Step) : Type 0 where
  pub few : length step.insts ≤ MAX_INSTANCES
  pub numbered : All (λ i. 0 < i) step.insts
  pub distinct : AllPairs (λ i j. i ≢ j) step.insts
  pub single : step.kept.multi ≡ false → step.insts ≡ []

pub record IsSound (places : List (Option Step)) : Type 0 where
  pub states : length places ≡ ONLINE + 1
  pub builtins : (s : ℕ) → is_builtin s ≡ true → step_at places s ≡ None
  pub steps : (s : ℕ) → IfSome (step_at places s) IsSoundStep
  pub few : instance_count places ≤ MAX_TABLE_INSTANCES
