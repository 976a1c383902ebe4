-- How a front grew: which events of a seat it has past the old one. This project's own.
use Rattle.std.specs.Prelude.{◌≡◌, ◌==◌, ℕ, List, ◌++◌, filter}
use Rattle.hp_event.specs.declared.event.Event.{Event}
use Rattle.hp_model.specs.Events.{seat_of}

abbrev pub of_seat : (seat : ℕ) → List Event → List Event
of_seat k events = filter (λ e. seat_of e == k) events

-- past the old front the new one has just these events of the seat
pub record Grew (seat : ℕ) (old new own : List Event) : Type 0 where
  pub rest : List Event
  pub whole : old ++ rest ≡ new
  pub own_is : of_seat seat rest ≡ own
