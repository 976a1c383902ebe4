-- How an entry is made: called, or not and why. After `cpuhp_invoke_callback` of `kernel/cpu.c`, which
-- takes an armed fault; which faults are overruled, that walks alone take one, and that an absent callback, which
-- `cpuhp_next_state` skips, has an entry, is this project's own.
use Rattle.std.specs.Prelude.{ℕ, Bool, false, ◌&&◌, ◌||◌, if◌then◌else◌, List}
use Rattle.hp_states.specs.declared.dir.Dir.{Dir}
use Rattle.hp_states.specs.declared.place.Place.{Place}
use Rattle.hp_states.specs.Sections.{can_fail}
use Rattle.hp_states.specs.Rules.{answer_of}
use Rattle.hp_event.specs.declared.how.How.{How}
use Rattle.hp_event.specs.declared.how.How.TheVariants.{Injected, Empty, Presumed}
pub use Rattle.hp_event.specs.Hows.{how_answered}
use Rattle.hp_event.specs.declared.op.Op.{Op}
use Rattle.hp_event.specs.declared.op.Op.TheVariants.{Setup, Remove, Add, Del}
use Rattle.hp_event.specs.declared.head.Head.{Head}
use Rattle.hp_event.specs.declared.event.Event.{Event}
use Rattle.hp_model.specs.Entries.{is_done}
use Rattle.hp_model.specs.Subsystems.{has_callback, plan_of}
use Rattle.hp_model.specs.Armed.{armed, is_armed_at}
use Rattle.hp_model.specs.Calls.{sites, sub_at}

-- whether an entry can be made so in its place: done, or a fault where that may come
abbrev pub fits : How → Dir → (state : ℕ) → Place → Bool
fits how d s place = is_done how || can_fail d s place

-- what the plan of the state's subsystem answers to a call
abbrev pub answer_at : Head → List Event → (cpu state inst : ℕ) → Dir → ℕ
answer_at head events c s i d =
    answer_of (plan_of (sub_at head s events)) (sites s events) (record { cpu = c; inst = i; dir = d })

-- an armed fault is taken at the first entry of a crossing, where that may fail
abbrev pub takes_fault : List Event → (cpu state : ℕ) → Dir → Place → (first : Bool) → Bool
takes_fault events c s d place first = first && (can_fail d s place && is_armed_at (armed c events) s)

-- how an entry of a walk is made
abbrev pub how_in_walk : Head → List Event → (cpu state inst : ℕ) → Dir → Place → (first : Bool) → How
how_in_walk head events c s i d place first =
    if has_callback (sub_at head s events) d
    then (if takes_fault events c s d place first
    then Injected
    else how_answered (can_fail d s place) (answer_at head events c s i d))
    else Empty

abbrev pub is_nocalls : Op → Bool
is_nocalls (Setup state sub form) = form.nocalls
is_nocalls (Remove state form) = form.nocalls
is_nocalls (Add state inst form) = form.nocalls
is_nocalls (Del state inst form) = form.nocalls
is_nocalls _ = false

-- how an entry of a registration is made
abbrev pub how_in_registration : Head → List Event → Op → (cpu state inst : ℕ) → Dir → Place → How
how_in_registration head events op c s i d place =
    if is_nocalls op
    then Presumed
    else (if has_callback (sub_at head s events) d
    then how_answered (can_fail d s place) (answer_at head events c s i d)
    else Empty)
