-- The rows of a called set: the processors that a key's row has, if the key has one. This project's own.
use Rattle.std.specs.Prelude.{◌≡◌, ◌<◌, ◌&&◌, ◌==◌, ℕ, Bool, true, false, Option, Some, None, is_some, slice_get}
use Rattle.hp_states.specs.CpuSets.{has}
use Rattle.hp_states.specs.declared.cpu_set.CpuSet.{CpuSet}
use Rattle.hp_states.specs.declared.dir.Dir.{Dir}
use Rattle.hp_states.specs.declared.dir.Dir.TheVariants.{Up, Down}
use Rattle.hp_event.specs.declared.key.Key.{Key}
use Rattle.indexmap.specs.IndexMap.{IndexMap, get, spare}
use Rattle.hp_called.specs.declared.rows.RowKey.{RowKey}
use Rattle.hp_called.specs.declared.rows.Rows.{Rows}

-- a key as the map has it
abbrev pub row_key : Key → RowKey
row_key k = record { state = k.state; inst = k.inst }

abbrev pub same_row : (one other : RowKey) → Bool
same_row a b = (a.state == b.state) && (a.inst == b.inst)

-- two keys are one
abbrev pub same : (one other : Key) → Bool
same a b = (a.state == b.state) && (a.inst == b.inst)

-- the processors of a key's row, if it has one
abbrev pub row : Rows → Key → Option CpuSet
row rows k = get same_row rows.sets (row_key k)

abbrev pub has_row : Rows → Key → Bool
has_row rows k = is_some (row rows k)

abbrev pub is_in : Option CpuSet → (cpu : ℕ) → Bool
is_in None c = false
is_in (Some set) c = has set c

-- whether a key's row has a processor
abbrev pub is_on : Rows → Key → (cpu : ℕ) → Bool
is_on rows k c = is_in (row rows k) c

abbrev pub is_up : Dir → Bool
is_up Up = true
is_up Down = false

-- one row more needs no memory
abbrev pub HasRoom : Rows → Type 0
HasRoom rows = 0 < spare rows.sets

-- the row of a key is at this place of the map
pub record IsPlaceOf {S : Type 0} (sets : IndexMap RowKey CpuSet S) (k : RowKey) (place : ℕ) : Type 0 where
  pub set : CpuSet
  pub at : slice_get sets.entries place ≡ Some (k, set)
  pub found : get same_row sets k ≡ Some set
