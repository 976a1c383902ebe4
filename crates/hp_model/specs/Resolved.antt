-- The state of a registration: for a dynamic setup the lowest of its range without a name, else the one asked
-- for. After `cpuhp_reserve_state` of `kernel/cpu.c`.
use Rattle.std.specs.Prelude.{ℕ, ◌-◌, not, if◌then◌else◌, Option, Some, None, List, ◌∷◌, find}
use Rattle.hp_states.specs.Sections.{is_dynamic, end_of_range}
use Rattle.hp_event.specs.declared.op.Op.{Op}
use Rattle.hp_event.specs.declared.op.Op.TheVariants.{Setup, Remove, Add, Del}
use Rattle.hp_event.specs.declared.head.Head.{Head}
use Rattle.hp_event.specs.declared.event.Event.{Event}
use Rattle.hp_model.specs.Lists.{rising}
use Rattle.hp_model.specs.Registered.{is_named}

unfoldable pub lowest_free : Head → (asked : ℕ) → List Event → Option ℕ
lowest_free head asked events =
    find (λ s. not (is_named head s events)) (asked ∷ rising asked (end_of_range asked - asked))

-- none for an operation that isn't a registration, and where the range is full
abbrev pub resolved : Head → List Event → Op → Option ℕ
resolved head events (Setup state sub form) =
    if is_dynamic state then lowest_free head state events else Some state
resolved head events (Remove state form) = Some state
resolved head events (Add state inst form) = Some state
resolved head events (Del state inst form) = Some state
resolved head events _ = None
