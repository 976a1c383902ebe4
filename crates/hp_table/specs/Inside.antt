-- What is true of the fields of a table: it is sound, the number beside its places counts its instances, and the set beside
-- them has the states where something is registered. This project's own.
use Rattle.std.specs.Prelude.{◌≡◌, ℕ, Option, is_some, List}
use Rattle.hp_states.specs.CpuSets.{has}
use Rattle.hp_states.specs.declared.cpu_set.CpuSet.{CpuSet}
use Rattle.hp_table.specs.Step.{Step, step_at}
use Rattle.hp_table.specs.Instances.{instance_count}
use Rattle.hp_table.specs.Sound.{IsSound}

pub record IsCounted (places : List (Option Step)) (count : ℕ) : Type 0 where
  pub sound : IsSound places
  pub counts : count ≡ instance_count places

-- a set has the states where something is registered
abbrev pub IsMarked : List (Option Step) → CpuSet → Type 0
IsMarked places states = (state : ℕ) → has states state ≡ is_some (step_at places state)

pub record IsInside (places : List (Option Step)) (count : ℕ) (states : CpuSet) : Type 0 where
  pub counted : IsCounted places count
  pub marked : IsMarked places states
