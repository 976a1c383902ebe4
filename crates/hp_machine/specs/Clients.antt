-- How many clients are in. This project's own.
use Rattle.std.specs.Prelude.{ℕ, List, count_by}
use Rattle.hp_event.specs.declared.event.Event.{Event}
use Rattle.hp_model.specs.FirstEvent.{is_client}
use Rattle.hp_model.specs.Lists.{numbers}
use Rattle.hp_model.specs.Seats.{admits, role_of}

-- of the seats that were admitted, so many are in as clients
unfoldable pub clients : List Event → ℕ
clients events = count_by (λ k. is_client (role_of k events)) (numbers (admits events))
