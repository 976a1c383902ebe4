-- Passes of the threads. This project's own.
use Rattle.std.specs.Prelude.{◌≡◌, ℕ, true, false, None, List}
use Rattle.hp_event.specs.declared.event.Event.{Event}
use Rattle.hp_live.specs.Known.{IsOf, IsSamePass, Seated}
use Rattle.hp_live.specs.ReadSections.{IsOnlineThroughout, Reader}
use Rattle.hp_live.specs.declared.hotplug.Hotplug.{Hotplug}
use Rattle.hp_model.specs.Seats.{is_busy}
use Rattle.hp_states.specs.CpuSets.{has}

-- a client's pass that the machine gave, with nothing in flight and nothing lent
pub record IsReady {H : Type 0} (machine : Hotplug H) (pass : Seated) : Type 0 where
  pub own : IsOf machine pass.lock
  pub idle : is_busy pass.seat pass.front ≡ false
  pub nothing : pass.lent ≡ None

-- the pass is of the same seat as before, again with nothing in flight and nothing lent
pub record IsNext (old new : Seated) : Type 0 where
  pub same : IsSamePass old new
  pub idle : is_busy new.seat new.front ≡ false
  pub nothing : new.lent ≡ None

-- a processor of a read section: at each of its fronts to the end of these events, which have its end, just its processors are online,
-- and this is one of them
pub record WasOnline (reader : Reader) (events : List Event) (cpu : ℕ) : Type 0 where
  pub throughout : IsOnlineThroughout reader events
  pub one_of_them : has reader.online cpu ≡ true
