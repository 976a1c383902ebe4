-- Who makes an entry: at an AP state the processor's own thread, else the seat whose operation it is. After
-- `cpuhp_kick_ap` and `cpuhp_invoke_ap_callback` of `kernel/cpu.c`; that a walk's in STARTING are the thread's, and those
-- of a down in PREPARE the caller's, is this project's own: there the first run outside of the thread, on the processor,
-- and the second in a worker.
use Rattle.std.specs.Prelude.{ℕ, Bool, true, false, not, ◌&&◌, if◌then◌else◌, Option, Some, List}
use Rattle.hp_states.specs.Sections.{is_ap_state}
use Rattle.hp_event.specs.declared.how.How.{How}
use Rattle.hp_event.specs.declared.how.How.TheVariants.{RanOk, RanFault, Injected, Empty, Presumed, Overruled}
use Rattle.hp_event.specs.declared.event.Event.{Event}
use Rattle.hp_model.specs.Seats.{ap_seat}

abbrev pub is_presumed : How → Bool
is_presumed Presumed = true
is_presumed RanOk = false
is_presumed (RanFault code) = false
is_presumed Injected = false
is_presumed Empty = false
is_presumed (Overruled code) = false

-- whether the processor's own seat makes it
abbrev pub is_made_by_ap : (state : ℕ) → How → Bool
is_made_by_ap s how = is_ap_state s && not (is_presumed how)

abbrev pub caller : List Event → (cpu state : ℕ) → How → (client : ℕ) → Option ℕ
caller events c s how client = if is_made_by_ap s how then ap_seat c events else Some client
