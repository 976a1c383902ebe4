-- The keys whose rows have a processor, in the order of the rows. This project's own.
use Rattle.std.specs.Prelude.{ℕ, if◌then◌else◌, List, [], ◌∷◌}
use Rattle.hp_states.specs.CpuSets.{has}
use Rattle.hp_states.specs.declared.cpu_set.CpuSet.{CpuSet}
use Rattle.hp_event.specs.declared.key.Key.{Key}
use Rattle.hp_called.specs.declared.rows.RowKey.{RowKey}

-- the key of a row
abbrev pub key_of : RowKey → Key
key_of row = record { state = row.state; inst = row.inst }

abbrev pub keys_on : (cpu : ℕ) → List (RowKey × CpuSet) → List Key
keys_on c [] = []
keys_on c (e ∷ es) = if has e.1 c then key_of e.0 ∷ keys_on c es else keys_on c es
