-- The state at which a processor is armed: there its next crossing fails once. After `fail_store`
-- and `st->fail` of `kernel/cpu.c`; that walks alone take it, and only at a state with a key, is this project's own:
-- there registrations take it too, and states without instances.
use Rattle.std.specs.Prelude.{ℕ, ℤ, pos, negsuc, Bool, false, ◌==◌, if◌then◌else◌, Option, Some, None, List}
use Rattle.hp_event.specs.declared.how.How.{How}
use Rattle.hp_event.specs.declared.how.How.TheVariants.{RanOk, RanFault, Injected, Empty, Presumed, Overruled}
use Rattle.hp_event.specs.declared.event.Event.{Event}
use Rattle.hp_event.specs.declared.event.Event.TheVariants.{Call, Armed}
use Rattle.hp_model.specs.Journal.{over}

-- what `fail` was written: a state, or -1 for none
abbrev pub armed_by : ℤ → Option ℕ
armed_by (pos n) = Some n
armed_by (negsuc n) = None

abbrev pub disarmed_by : How → Option ℕ → Option ℕ
disarmed_by Injected found = None
disarmed_by RanOk found = found
disarmed_by (RanFault code) found = found
disarmed_by Empty found = found
disarmed_by Presumed found = found
disarmed_by (Overruled code) found = found

abbrev pub armed_step : (cpu : ℕ) → Option ℕ → List Event → Event → Option ℕ
armed_step c found before (Armed seat cpu value) = if cpu == c then armed_by value else found
armed_step c found before (Call seat cpu state inst dir how) = if cpu == c then disarmed_by how found else found
armed_step c found before _ = found

-- the state that was written last, where no fault was injected since
unfoldable pub armed : (cpu : ℕ) → List Event → Option ℕ
armed c events = over (armed_step c) None events

abbrev pub is_armed_at : Option ℕ → (state : ℕ) → Bool
is_armed_at None s = false
is_armed_at (Some n) s = n == s
