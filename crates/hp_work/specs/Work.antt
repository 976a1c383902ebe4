-- What contracts see of queues: the state that they follow, which processors are open, the queues of the processors by
-- number and behind them the unbound list, the items that ran, and how many were put. After `struct worker_pool` of
-- `kernel/workqueue.c`; that queues follow a state is this project's own.
use Rattle.std.specs.Prelude.{◌≡◌, ℕ, ◌+◌, ◌<◌, ◌≤◌, Bool, false, List, [], slice_index_or, replicate}
use Rattle.hp_states.specs.declared.limits.TheConstants.{MAX_CPU_SET}
use Rattle.hp_work.specs.declared.chains.TheConstants.{LISTS, UNBOUND}
use Rattle.hp_work.specs.Lists.{list, times, times_in}

pub record Work : Type 0 where
  pub state : ℕ
  pub opened : List Bool
  pub lists : List (List ℕ)
  pub ran : List ℕ
  pub put : ℕ

abbrev pub is_open : Work → (cpu : ℕ) → Bool
is_open w c = slice_index_or w.opened c false

-- the queue of a processor, and the unbound list
abbrev pub queue : Work → (cpu : ℕ) → List ℕ
queue w c = list w.lists c

abbrev pub unbound : Work → List ℕ
unbound w = list w.lists UNBOUND

-- no item was put, and no processor is open
unfoldable pub none_put : (state : ℕ) → Work
none_put s = record {
  state = s;
  opened = replicate MAX_CPU_SET false;
  lists = replicate LISTS [];
  ran = [];
  put = 0;
}

-- how often an item stands in what ran, the queues and the unbound list together
abbrev pub stands : (item : ℕ) → Work → ℕ
stands n w = times n w.ran + times_in n w.lists

-- each item that was put stands there exactly once, and nothing else does
pub record StandOnce (w : Work) : Type 0 where
  pub once : (item : ℕ) → item < w.put → stands item w ≡ 1
  pub nothing_else : (item : ℕ) → w.put ≤ item → stands item w ≡ 0
