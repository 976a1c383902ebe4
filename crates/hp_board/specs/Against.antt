-- What stands against an operation of a seat: that it is refused, that an entry of it failed, or that a freeze finds a wakeup pending
-- before a walk. This project's own.
use Rattle.std.specs.Prelude.{◌≡◌, ℕ, false, Some, None, List, []}
use Rattle.hp_event.specs.declared.op.Op.{Op}
use Rattle.hp_event.specs.declared.head.Head.{Head}
use Rattle.hp_event.specs.declared.event.Event.{Event}
use Rattle.hp_model.specs.Completes.{IsWoken}
use Rattle.hp_model.specs.MapLock.{Operation, operation}
use Rattle.hp_model.specs.Own.{own_faults}
use Rattle.hp_model.specs.Refusals.{refusal}
use Rattle.hp_model.specs.Seats.{is_busy}

-- an operation that hasn't begun isn't refused; no entry is a fault of what the seat has in flight; and a freeze finds no wakeup pending
-- before a walk that it would have next
pub record NothingAgainst (head : Head) (events : List Event) (seat : ℕ) (op : Op) : Type 0 where
  pub not_refused : is_busy seat events ≡ false → refusal head events seat op ≡ None
  pub no_fault : own_faults seat events ≡ []
  pub no_wakeup : (o : Operation) → operation events ≡ Some o → o.seat ≡ seat → IsWoken head o events → ⊥
