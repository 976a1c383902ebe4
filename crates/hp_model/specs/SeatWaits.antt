-- What a seat's operation waits for: before its first event, and before a walk that comes next. This project's own.
use Rattle.std.specs.Prelude.{ℕ, ◌&&◌, ◌==◌, if◌then◌else◌, Option, Some, None, List}
use Rattle.hp_event.specs.declared.op.Op.{Op}
use Rattle.hp_event.specs.declared.head.Head.{Head}
use Rattle.hp_event.specs.declared.event.Event.{Event}
use Rattle.hp_model.specs.MapLock.{Operation, operation}
use Rattle.hp_model.specs.Sequence.{Next, walks, ends, nothing, next, is_between}
use Rattle.hp_model.specs.Seats.{is_busy}
use Rattle.hp_model.specs.Waits.{Wait, wait_to_walk, wait_to_begin}

abbrev pub wait_before : List Event → Next → Option Wait
wait_before events (walks cpu to) = wait_to_walk events
wait_before events (ends answer) = None
wait_before events nothing = None

-- the holder of the map lock waits before a walk of it begins
abbrev pub wait_of_holder : Head → List Event → (seat : ℕ) → Option Operation → Option Wait
wait_of_holder head events k None = None
wait_of_holder head events k (Some o) =
    if o.seat == k && is_between o.op events then wait_before events (next head events o.before o.op) else None

abbrev pub wait : Head → List Event → (seat : ℕ) → Op → Option Wait
wait head events k op =
    if is_busy k events then wait_of_holder head events k (operation events) else wait_to_begin events op
