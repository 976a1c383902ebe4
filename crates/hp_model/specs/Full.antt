-- An operation that is answered LogFull and makes no event: its first event is kept out by room alone. This project's
-- own.
use Rattle.std.specs.Prelude.{◌≡◌, ℕ, List}
use Rattle.hp_event.specs.declared.op.Op.{Op}
use Rattle.hp_event.specs.declared.head.Head.{Head}
use Rattle.hp_event.specs.declared.event.Event.{Event}
use Rattle.hp_model.specs.Events.{seat_of, BelongsTo}
use Rattle.hp_model.specs.Seats.{IsFree}
use Rattle.hp_model.specs.Lawful.{IsKeptOut}

pub record IsFull (head : Head) (events : List Event) (seat : ℕ) (op : Op) : Type 0 where
  pub free : IsFree events seat
  pub first : Event
  pub by : seat_of first ≡ seat
  pub of : BelongsTo op first
  pub kept_out : IsKeptOut head events first
