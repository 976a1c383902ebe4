-- The called set of a journal: a key has a row exactly if it is registered or a registration in flight adds it, and the row has
-- exactly the processors on which the key is in force. This project's own.
use Rattle.std.specs.Prelude.{◌≡◌, ◌||◌, ℕ, Bool, Option, Some, None, List}
use Rattle.hp_event.specs.declared.event.Event.{Event}
use Rattle.hp_event.specs.declared.head.Head.{Head}
use Rattle.hp_event.specs.declared.key.Key.{Key}
use Rattle.hp_model.specs.Lists.{among}
use Rattle.hp_model.specs.Net.{is_key_in_force}
use Rattle.hp_model.specs.Registered.{keys}
use Rattle.hp_model.specs.Registrations.{Registration, registration}
use Rattle.hp_called.specs.declared.ending.Ending.{Ending}
use Rattle.hp_called.specs.declared.called.Called.{Called}
use Rattle.hp_called.specs.Rows.{has_row, is_on}
use Rattle.hp_called.specs.Steps.{ending_by, is_added}

-- what the end of the registration in flight may take out
abbrev pub ending_of : Head → Option Registration → Option Ending
ending_of head None = None
ending_of head (Some r) = ending_by head r.op r.state

-- a key is registered, or a registration in flight adds it
abbrev pub is_there : Head → List Event → Key → Bool
is_there head events k = is_added (ending_of head (registration events)) k || among k.inst (keys head events k.state)

pub record IsCalled (head : Head) (events : List Event) (called : Called) : Type 0 where
  pub rows : (k : Key) → has_row called.rows k ≡ is_there head events k
  pub in_force : (k : Key) (c : ℕ) → is_on called.rows k c ≡ is_key_in_force c events k
  pub ending_is : called.ending ≡ ending_of head (registration events)
