-- The registration in flight, one at most, and its entries. After `__cpuhp_setup_state_cpuslocked` and its
-- kin of `kernel/cpu.c`, under `cpuhp_state_mutex`.
use Rattle.std.specs.Prelude.{ℕ, Bool, is_some, Option, Some, None, List, [], ◌∷◌, ◌++◌}
use Rattle.hp_event.specs.declared.op.Op.{Op}
use Rattle.hp_event.specs.declared.event.Event.{Event}
use Rattle.hp_event.specs.declared.event.Event.TheVariants.{RegBegin, RegEnd, Call}
use Rattle.hp_model.specs.Journal.{over}

-- a registration in flight: who asks, its resolved state, its operation, and the events before its RegBegin
pub record Registration : Type 0 where
  pub seat : ℕ
  pub state : ℕ
  pub op : Op
  pub before : List Event

abbrev pub registration_step : Option Registration → List Event → Event → Option Registration
registration_step found before (RegBegin seat state op) =
    Some (record { seat = seat; state = state; op = op; before = before })
registration_step found before (RegEnd seat answer) = None
registration_step found before _ = found

-- the registration that has begun and not ended
unfoldable pub registration : List Event → Option Registration
registration events = over registration_step None events

abbrev pub is_registering : List Event → Bool
is_registering events = is_some (registration events)

abbrev pub registration_entries_step : List Event → List Event → Event → List Event
registration_entries_step found before (RegBegin seat state op) = []
registration_entries_step found before (Call seat cpu state inst dir how) =
    found ++ Call seat cpu state inst dir how ∷ []
registration_entries_step found before _ = found

-- the entries since the last RegBegin
unfoldable pub registration_entries : List Event → List Event
registration_entries events = over registration_entries_step [] events
