-- What holds of each script that is read: a machine can be started with its head and can play its actors, its numbers
-- are in their ranges, and there are hooks enough for its setups. This project's own.
use Rattle.std.specs.Prelude.{◌≡◌, ℕ, ◌≤◌, true, List, length, All, sum_by, count_by}
use Rattle.hp_states.specs.declared.limits.TheConstants.{MAX_ACTORS, MAX_OPERATIONS}
use Rattle.hp_event.specs.declared.op.Op.{Op}
use Rattle.hp_event.specs.Ops.{is_setup}
use Rattle.hp_model.specs.Scripts.{IsScript}
use Rattle.hp_script.specs.Ranges.{is_op, is_schedule}
use Rattle.hp_script.specs.Script.{Contents}
use Rattle.hp_script.specs.Judged.{IsRead}

-- the hooks that some operations take
abbrev pub setups_in : List Op → ℕ
setups_in ops = count_by is_setup ops

pub record IsPlayable (hooks : ℕ) (script : Contents) : Type 0 where
  pub plays : IsScript script.head script.actors
  pub few_actors : length script.actors ≤ MAX_ACTORS
  pub few_ops : All (λ ops. length ops ≤ MAX_OPERATIONS) script.actors
  pub ops_are : All (All (λ op. is_op op ≡ true)) script.actors
  pub schedule_is : is_schedule script.schedule ≡ true
  pub hooks_for_all : sum_by setups_in script.actors ≤ hooks

-- what is read of the bytes can be played
abbrev pub PlaysIfRead : (hooks : ℕ) (bytes : List ℕ) → Type 0
PlaysIfRead hooks bytes = (script : Contents) → IsRead hooks bytes script → IsPlayable hooks script
