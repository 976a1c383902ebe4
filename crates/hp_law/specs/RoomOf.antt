-- The room that an event takes of its own, where it can stand next. This project's own.
use Rattle.std.specs.Prelude.{◌≡◌, ◌↔◌, ℕ, Option, IsSome, IfSome, List}
use Rattle.hp_event.specs.declared.head.Head.{Head}
use Rattle.hp_event.specs.declared.event.Event.{Event}
use Rattle.hp_model.specs.Lawful.{Stands}
use Rattle.hp_model.specs.Needs.{need, taken}

-- a number where the event stands, and it is what the event takes
pub record IsRoomOf (head : Head) (events : List Event) (e : Event) (room : Option ℕ) : Type 0 where
  pub stands : IsSome room ↔ Stands head events e
  pub takes : IfSome room (λ n. n ≡ taken (need head events e))
