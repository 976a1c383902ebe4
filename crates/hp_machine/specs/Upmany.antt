-- What comes next of an upmany that walks. This project's own.
use Rattle.std.specs.Prelude.{◌≡◌, ◌&&◌, if◌then◌else◌, nat_le, nat_lt, ℕ, true, Option, None, Some, List}
use Rattle.hp_states.specs.declared.cpu_set.CpuSet.{CpuSet}
use Rattle.hp_event.specs.declared.head.Head.{Head}
use Rattle.hp_event.specs.declared.event.Event.{Event}
use Rattle.hp_event.specs.declared.op.Op.TheVariants.{UpMany}
use Rattle.hp_model.specs.BatchTurn.{lowest_walking}
use Rattle.hp_model.specs.MapLock.{Operation, operation}
use Rattle.hp_model.specs.Walks.{is_walking}
use Rattle.hp_suspend.specs.declared.batch.Batch.{Batch as ABatch}
use Rattle.hp_suspend.specs.Batching.{IsBatching}

-- the operation of a seat is an upmany, this is how far it is, and this is the lowest processor that walks
pub record IsHoldersTurn (head : Head) (events : List Event) (seat : ℕ) (batch : ABatch) (lowest : ℕ) : Type 0 where
  pub of : Operation
  pub held : operation events ≡ Some of
  pub seat_is : of.seat ≡ seat
  pub set : CpuSet
  pub op_is : of.op ≡ UpMany set
  pub batching : IsBatching head of.before events set batch
  pub walks : is_walking events ≡ true
  pub lowest_is : lowest_walking head events ≡ Some lowest

-- of the processor of an own entry, where that is one from `from` on, and of a thread's the lower one, with the seat
abbrev pub lower : (own : Option ℕ) → (from holder : ℕ) → (due : Option (ℕ × ℕ)) → Option (ℕ × ℕ)
lower None from k due = due
lower (Some own) from k None = if nat_le from own then Some (own, k) else None
lower (Some own) from k (Some due) = if nat_le from own && nat_lt own due.0 then Some (own, k) else Some due
