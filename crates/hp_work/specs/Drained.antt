-- What `drain` answers: the queues that have items, in rising processor number, the unbound list, and what ran. This
-- project's own.
use Rattle.std.specs.Prelude.{◌≡◌, ℕ, ◌<◌, not, ◌==◌, List, filter, map, length, slice_index_or}
use Rattle.hp_states.specs.declared.limits.TheConstants.{MAX_CPU_SET}
use Rattle.hp_model.specs.Lists.{numbers}
use Rattle.hp_work.specs.declared.chains.TheConstants.{UNBOUND}
use Rattle.hp_work.specs.declared.drain.Drain.{Drain}
use Rattle.hp_work.specs.declared.drain.Drained.{Drained}
use Rattle.hp_work.specs.Lists.{list}
use Rattle.hp_work.specs.Work.{Work}

-- the processors whose queues have items, rising
abbrev pub with_items : (lists : List (List ℕ)) → List ℕ
with_items ls = filter (λ c. not (length (list ls c) == 0)) (numbers MAX_CPU_SET)

-- and their queues
abbrev pub queue_in : (lists : List (List ℕ)) → (cpu : ℕ) → Drained
queue_in ls c = record { cpu = c; items = list ls c }

-- there is a queue for the processor at a place of some, and that queue
abbrev pub IsQueueAt : (cpus : List ℕ) → (at : ℕ) → Type 0
IsQueueAt cpus at = (at < length cpus) × (slice_index_or cpus at 0 < MAX_CPU_SET)

abbrev pub queue_at : (lists : List (List ℕ)) → (cpus : List ℕ) → (at : ℕ) → Drained
queue_at ls cpus at = queue_in ls (slice_index_or cpus at 0)

abbrev pub drained : (lists : List (List ℕ)) → List Drained
drained ls = map (queue_in ls) (with_items ls)

-- it is what the lists hold, and what ran
pub record Holds (lists : List (List ℕ)) (ran : List ℕ) (d : Drain) : Type 0 where
  pub queues : d.queues ≡ drained lists
  pub unbound : d.unbound ≡ list lists UNBOUND
  pub ran_are : d.ran ≡ ran

abbrev pub IsDrained : Work → Drain → Type 0
IsDrained w d = Holds w.lists w.ran d
