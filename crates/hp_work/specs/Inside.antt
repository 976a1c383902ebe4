-- What contracts see of the fields of queues, and what is so of them at any time. This project's own.
use Rattle.std.specs.Prelude.{◌≡◌, ◌+◌, ◌≤◌, Bool, List, map, length, sum_by, vec_capacity}
use Rattle.std.specs.List.{range_with_len}
use Rattle.hp_states.specs.declared.limits.TheConstants.{MAX_CPU_SET}
use Rattle.hp_states.specs.CpuSets.{has}
use Rattle.hp_states.specs.declared.cpu_set.CpuSet.{CpuSet}
use Rattle.hp_work.specs.declared.chains.TheConstants.{LISTS}
use Rattle.hp_work.specs.declared.limits.TheConstants.{LAST_FOLLOWED, MAX_ITEMS}
use Rattle.hp_work.specs.declared.queues.Queues.TheInside.{Inside}
use Rattle.hp_work.specs.Work.{Work, StandOnce}

-- which processors are in a set, by number
unfoldable pub places : CpuSet → List Bool
places set = map (has set) (range_with_len 0 MAX_CPU_SET)

abbrev pub work : Inside → Work
work q = record {
  state = q.state;
  opened = places q.opened;
  lists = q.lists;
  ran = q.ran.items;
  put = q.put;
}

-- each item that was put stands once in what ran and the lists; all of them fit, and what ran has room for them
pub record IsSound (q : Inside) : Type 0 where
  pub state_is : (1 ≤ q.state) × (q.state ≤ LAST_FOLLOWED)
  pub lists_are : length q.lists ≡ LISTS
  pub stand : StandOnce (work q)
  pub all_put : length q.ran.items + sum_by length q.lists ≡ q.put
  pub few : q.put ≤ MAX_ITEMS
  pub room : MAX_ITEMS ≤ vec_capacity q.ran
