-- What contracts see of the machine of a journal's checker. This project's own.
use Rattle.std.specs.Prelude.{List}
use Rattle.hp_event.specs.declared.head.Head.{Head}
use Rattle.hp_event.specs.declared.event.Event.{Event}

-- the head, and the events that it took, oldest first
pub record Taken : Type 0 where
  pub head : Head
  pub events : List Event
