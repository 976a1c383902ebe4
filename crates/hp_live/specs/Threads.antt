-- What the thread of a processor makes of its front: entries that are due from it. This project's own.
use Rattle.std.specs.Prelude.{◌≡◌, ℕ, None, true, List, All}
use Rattle.hp_event.specs.declared.event.Event.{Event}
use Rattle.hp_event.specs.declared.head.Head.{Head}
use Rattle.hp_machine.specs.Clients.{clients}
use Rattle.hp_model.specs.Events.{is_call}
use Rattle.hp_model.specs.NextEvent.{due_entry}
use Rattle.hp_live.specs.Grew.{Grew}
use Rattle.hp_live.specs.Sections.{LeavesIn}

abbrev pub IsCall : Event → Type 0
IsCall e = is_call e ≡ true

-- past the old front its seat has entries alone
pub record Enters (seat : ℕ) (old new : List Event) : Type 0 where
  pub entries : List Event
  pub grew : Grew seat old new entries
  pub are_calls : All IsCall entries

-- no client is in, and no entry is due from the seat
pub record Rests (head : Head) (seat : ℕ) (events : List Event) : Type 0 where
  pub no_client : clients events ≡ 0
  pub none_due : due_entry head events seat ≡ None

-- and so it is at the end
pub record Serves (head : Head) (seat : ℕ) (old new : List Event) : Type 0 where
  pub enters : Enters seat old new
  pub rests : Rests head seat new

-- and after them it leaves, and sees nothing more
pub record LeavesAfter (head : Head) (seat : ℕ) (old new : List Event) : Type 0 where
  pub last : List Event
  pub enters : Enters seat old last
  pub leaves : LeavesIn head seat last new
