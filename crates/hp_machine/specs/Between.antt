-- The operation that holds the map lock between its walks: that a seat's is there, and what comes next of it. After
-- `cpus_write_lock` of `kernel/cpu.c`, which each walk takes anew.
use Rattle.std.specs.Prelude.{◌≡◌, ◌==◌, ℕ, Some, None, List, [], find}
use Rattle.hp_event.specs.declared.head.Head.{Head}
use Rattle.hp_event.specs.declared.event.Event.{Event}
use Rattle.hp_model.specs.Events.{seat_of}
use Rattle.hp_model.specs.MapLock.{Operation, operation}
use Rattle.hp_model.specs.Sequence.{Next, next}
use Rattle.hp_model.specs.Walks.{walking}
use Rattle.hp_model.specs.UnderWay.{under_way}

-- the seat's operation holds the map lock, nothing walks, and nothing that is under way is the seat's to make
pub record IsBetween (head : Head) (events : List Event) (seat : ℕ) : Type 0 where
  pub of : Operation
  pub held : operation events ≡ Some of
  pub seat_is : of.seat ≡ seat
  pub no_walk : walking events ≡ []
  pub none : find (λ e. seat_of e == seat) (under_way head events) ≡ None

-- and this comes next of it
pub record Gives (head : Head) (events : List Event) (seat : ℕ) (what : Next) : Type 0 where
  pub between : IsBetween head events seat
  pub what_is : next head events between.of.before between.of.op ≡ what
