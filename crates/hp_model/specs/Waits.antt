-- What an operation waits for before it begins, and before a walk of it begins. After `cpu_add_remove_lock`,
-- `cpu_hotplug_lock` and `cpuhp_state_mutex` of `kernel/cpu.c`; the order, and that nobody waits behind a walk that
-- waits, as readers and registrations do there, is this project's own.
use Rattle.std.specs.Prelude.{zero, suc, ℕ, ℤ, pos, negsuc, Bool, true, false, not, ◌&&◌, if◌then◌else◌, is_some, Option, Some, None, List, [], ◌∷◌, length}
use Rattle.hp_event.specs.declared.op.Op.{Op}
use Rattle.hp_event.specs.declared.op.Op.TheVariants.{Up, Down, Target, Arm, ShowStates, Setup, Remove, Add, Del, Lock, Boot, Disable, Enable, Freeze, Thaw, UpMany}
use Rattle.hp_event.specs.declared.event.Event.{Event}
use Rattle.hp_model.specs.Walks.{Walk, walk, walking}
use Rattle.hp_model.specs.Registrations.{Registration, registration}
use Rattle.hp_model.specs.MapLock.{Operation, operation}
use Rattle.hp_model.specs.Lists.{is_empty}
use Rattle.hp_model.specs.Readers.{readers}
use Rattle.hp_model.specs.Batch.{begun, is_upmany, is_batch_begun}

-- that seat holds the map lock; so many readers are in; that seat's registration is in flight; that seat holds the
-- write side of the hotplug lock
pub data Wait : Type 0 where
  maps_held : (seat : ℕ) → Wait
  readers_in : (count : ℕ) → Wait
  reg_in : (seat : ℕ) → Wait
  writer_in : (seat : ℕ) → Wait

abbrev pub wait_for_map : Option Operation → Option Wait
wait_for_map None = None
wait_for_map (Some o) = Some (maps_held o.seat)

abbrev pub wait_for_readers : (seats : List ℕ) → Option Wait
wait_for_readers [] = None
wait_for_readers (k ∷ ks) = Some (readers_in (length (k ∷ ks)))

abbrev pub wait_for_registration : Option Registration → Option Wait
wait_for_registration None = None
wait_for_registration (Some r) = Some (reg_in r.seat)

abbrev pub wait_for_walk : Option Walk → Option Wait
wait_for_walk None = None
wait_for_walk (Some w) = Some (writer_in w.seat)

-- an upmany that has begun a walk
abbrev pub wait_for_batch : (begun : List ℕ) → Option Operation → Option Wait
wait_for_batch cs None = None
wait_for_batch cs (Some o) = if is_upmany o.op && not (is_empty cs) then Some (writer_in o.seat) else None

-- the walks in flight are of one operation, so the first of the processors that walk says who holds the write side; an upmany
-- holds it to its end
abbrev pub wait_for_writer : (cpus : List ℕ) → List Event → Option Wait
wait_for_writer [] events = wait_for_batch (begun events) (operation events)
wait_for_writer (c ∷ cs) events = wait_for_walk (walk c events)

-- the first of two waits
abbrev pub first_wait : Option Wait → Option Wait → Option Wait
first_wait None second = second
first_wait (Some w) second = Some w

abbrev pub wait_to_register : List Event → Option Wait
wait_to_register events = first_wait (wait_for_writer (walking events) events) (wait_for_registration (registration events))

-- before a walk begins; in an upmany the walks after the first wait for nothing
abbrev pub wait_to_walk : List Event → Option Wait
wait_to_walk events =
    if is_batch_begun events
    then None
    else first_wait (wait_for_readers (readers events)) (wait_for_registration (registration events))

-- -1 disarms
abbrev pub is_disarming : ℤ → Bool
is_disarming (pos n) = false
is_disarming (negsuc zero) = true
is_disarming (negsuc (suc n)) = false

-- before an operation begins
abbrev pub wait_to_begin : List Event → Op → Option Wait
wait_to_begin events (Up cpu) = wait_for_map (operation events)
wait_to_begin events (Down cpu) = wait_for_map (operation events)
wait_to_begin events (Target cpu to) =
    first_wait (wait_for_map (operation events)) (wait_for_registration (registration events))
wait_to_begin events (Boot n) = wait_for_map (operation events)
wait_to_begin events Disable = wait_for_map (operation events)
wait_to_begin events Enable = wait_for_map (operation events)
wait_to_begin events (Freeze primary) = wait_for_map (operation events)
wait_to_begin events Thaw = wait_for_map (operation events)
wait_to_begin events (UpMany set) = wait_for_map (operation events)
wait_to_begin events (Arm cpu value) =
    if is_disarming value then None else wait_for_registration (registration events)
wait_to_begin events ShowStates = wait_for_registration (registration events)
wait_to_begin events Lock = wait_for_writer (walking events) events
wait_to_begin events (Setup state sub form) = wait_to_register events
wait_to_begin events (Remove state form) = wait_to_register events
wait_to_begin events (Add state inst form) = wait_to_register events
wait_to_begin events (Del state inst form) = wait_to_register events
wait_to_begin events _ = None

abbrev pub is_waiting : List Event → Op → Bool
is_waiting events op = is_some (wait_to_begin events op)
