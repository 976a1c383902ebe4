-- The events that change nothing of a sequence of walks: all but the Enter that begins one and the end of a walk. This
-- project's own.
use Rattle.std.specs.Prelude.{Bool, true, false}
use Rattle.hp_event.specs.declared.event.Event.{Event}
use Rattle.hp_event.specs.declared.event.Event.TheVariants.{Enter, WalkBegin, WalkEnd}

abbrev pub is_quiet : Event → Bool
is_quiet (Enter seat op) = false
is_quiet (WalkEnd seat cpu answer) = false
is_quiet _ = true

-- whether a walk begins, which an upmany keeps too
abbrev pub is_walk_begin : Event → Bool
is_walk_begin (WalkBegin seat cpu from to) = true
is_walk_begin _ = false
