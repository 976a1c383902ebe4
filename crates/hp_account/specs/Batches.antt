-- What comes next of an upmany that walks, as the account finds it. This project's own.
use Rattle.std.specs.Prelude.{◌≡◌, ◌<◌, ◌≤◌, ℕ, true, Option, None, Some, List, ◌⊎◌}
use Rattle.hp_states.specs.declared.cpu_set.CpuSet.{CpuSet}
use Rattle.hp_states.specs.CpuSets.{IsLowestFrom, has}
use Rattle.hp_event.specs.declared.head.Head.{Head}
use Rattle.hp_event.specs.declared.event.Event.{Event}
use Rattle.hp_event.specs.declared.op.Op.TheVariants.{UpMany}
use Rattle.hp_model.specs.MapLock.{Operation, operation}
use Rattle.hp_suspend.specs.declared.batch.Batch.{Batch as ABatch}
use Rattle.hp_suspend.specs.Batching.{IsBatching}
use Rattle.hp_account.specs.declared.operation.MapOperation.{MapOperation}
use Rattle.hp_account.specs.declared.operation.Walks.{Walks}
use Rattle.hp_account.specs.declared.operation.Walks.TheVariants.{Batch}
use Rattle.hp_account.specs.declared.account.Account.{Account}
use Rattle.hp_account.specs.Places.{at_place}
use Rattle.hp_account.specs.UnderWay.{NothingUnderWay, is_batch_walking}

abbrev pub batch_by : (seat : ℕ) → Walks → Option (ℕ × ABatch)
batch_by k (Batch b) = Some (k, b)
batch_by k sequence = None

-- the upmany in flight, with its seat
abbrev pub batch_of : Option MapOperation → Option (ℕ × ABatch)
batch_of None = None
batch_of (Some held) = batch_by held.seat held.sequence

-- it is in flight, and this is the lowest processor that walks
pub record IsWalking (p : Account) (batch : ABatch) (lowest : ℕ) : Type 0 where
  pub seat : ℕ
  pub batch_is : batch_of p.operation ≡ Some (seat, batch)
  pub lowest_is : IsLowestFrom p.flights.walking 0 lowest

-- nothing is under way but what an upmany walks
abbrev pub IsKnown : Head → List Event → Type 0
IsKnown head events = NothingUnderWay head events ⊎ (is_batch_walking events ≡ true)

-- an upmany of a seat is in flight, and this is how far it is
pub record IsUpmanyAt (head : Head) (events : List Event) (seat : ℕ) (batch : ABatch) : Type 0 where
  pub of : Operation
  pub held : operation events ≡ Some of
  pub seat_is : of.seat ≡ seat
  pub set : CpuSet
  pub op_is : of.op ≡ UpMany set
  pub batching : IsBatching head of.before events set batch

-- the thread of a processor has to make the next entry of its walk, and is in as this seat
abbrev pub IsServed : Account → (cpu seat : ℕ) → Type 0
IsServed p c k = (has p.awaited c ≡ true) × (at_place p.seats.threads c ≡ Some k)

-- no thread that is in has to, of the processors from one on up to another
abbrev pub NoneServed : Account → (from to : ℕ) → Type 0
NoneServed p from to = (c : ℕ) → from ≤ c → c < to → has p.awaited c ≡ true → at_place p.seats.threads c ≡ None

abbrev pub NoneServedFrom : Account → (from : ℕ) → Type 0
NoneServedFrom p from = (c : ℕ) → from ≤ c → has p.awaited c ≡ true → at_place p.seats.threads c ≡ None

-- the lowest from one on whose thread has to
pub record IsServedFrom (p : Account) (from cpu seat : ℕ) : Type 0 where
  pub at_least : from ≤ cpu
  pub served : IsServed p cpu seat
  pub none_below : NoneServed p from cpu
