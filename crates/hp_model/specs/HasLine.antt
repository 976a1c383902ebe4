-- Which events have a line in the text of a journal: an upmany lists at least one processor. This project's own.
use Rattle.std.specs.Prelude.{Bool, true, not}
use Rattle.hp_event.specs.declared.op.Op.{Op}
use Rattle.hp_event.specs.declared.op.Op.TheVariants.{UpMany}
use Rattle.hp_event.specs.declared.event.Event.{Event}
use Rattle.hp_event.specs.declared.event.Event.TheVariants.{Enter, Refused, RegBegin}
use Rattle.hp_model.specs.Lists.{is_empty}
use Rattle.hp_model.specs.Listed.{listed}

-- an operation that is an upmany lists one
abbrev pub lists_one : Op → Bool
lists_one (UpMany set) = not (is_empty (listed set))
lists_one op = true

abbrev pub has_line : Event → Bool
has_line (Enter seat op) = lists_one op
has_line (Refused seat errno op) = lists_one op
has_line (RegBegin seat state op) = lists_one op
has_line event = true
