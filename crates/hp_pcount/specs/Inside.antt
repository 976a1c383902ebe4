-- What contracts see of the fields of counters. This project's own.
use Rattle.std.specs.Prelude.{Bool, List, map}
use Rattle.std.specs.List.{range_with_len}
use Rattle.hp_states.specs.declared.limits.TheConstants.{MAX_CPU_SET}
use Rattle.hp_states.specs.CpuSets.{has}
use Rattle.hp_states.specs.declared.cpu_set.CpuSet.{CpuSet}
use Rattle.hp_pcount.specs.declared.counters.Counters.TheInside.{Inside}
use Rattle.hp_pcount.specs.Tally.{Tally}

-- which processors are in a set, by number
unfoldable pub places : CpuSet → List Bool
places set = map (has set) (range_with_len 0 MAX_CPU_SET)

abbrev pub tally : Inside → Tally
tally c = record {
  state = c.state;
  batch = c.batch;
  base = c.base;
  parts = c.parts;
  opened = places c.opened;
  adds = c.adds;
}
