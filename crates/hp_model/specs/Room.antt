-- Room: whether an event's need fits into the journal beside what is promised already. This project's own.
use Rattle.std.specs.Prelude.{ℕ, ◌+◌, Bool, true, nat_le, Option, Some, None, List, length}
use Rattle.hp_states.specs.declared.limits.TheConstants.{MAX_EVENTS}
use Rattle.hp_event.specs.declared.head.Head.{Head}
use Rattle.hp_event.specs.declared.event.Event.{Event}
use Rattle.hp_model.specs.Needs.{need}
use Rattle.hp_model.specs.Promised.{promised}

-- what was promised always fits
abbrev pub is_room : Head → List Event → (need : Option ℕ) → Bool
is_room head events None = true
is_room head events (Some n) = nat_le (length events + promised head events + n) MAX_EVENTS

abbrev pub has_room : Head → List Event → Event → Bool
has_room head events e = is_room head events (need head events e)
