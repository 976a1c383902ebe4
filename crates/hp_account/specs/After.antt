-- What one event more makes of the parts of the account that are plain folds. This project's own.
use Rattle.std.specs.Prelude.{ℕ, Bool, if◌then◌else◌, true, false, Some, None, [], ◌∷◌, ◌++◌, slice_index}
use Rattle.hp_event.specs.Leaves.{leaves_at}
use Rattle.hp_event.specs.declared.op.Op.{Op}
use Rattle.hp_event.specs.declared.how.How.{How}
use Rattle.hp_event.specs.declared.how.How.TheVariants.{Injected}
use Rattle.hp_event.specs.declared.event.Event.{Event}
use Rattle.hp_event.specs.declared.event.Event.TheVariants.{Admit, Leave, Enter, WalkBegin, Call, WalkEnd, OpEnd, RegBegin, RegEnd, ReadLock, ReadUnlock, Armed, Wakeup}
use Rattle.hp_model.specs.Armed.{armed_by}
use Rattle.hp_locks.specs.Holders.{Holders, with_map, with_writer, with_registrar, with_reader}
use Rattle.hp_account.specs.Seats.{SeatsView, with_seat, without_seat}
use Rattle.hp_account.specs.Processors.{ProcessorsView, with_settled, with_armed}
use Rattle.hp_account.specs.Suspended.{SuspendedView, once_entered, walked, ended, woken}

abbrev pub roll_after : Event → SeatsView → SeatsView
roll_after (Admit seat role) r = with_seat role r
roll_after (Leave seat) r = without_seat seat r
roll_after _ r = r

abbrev pub disarmed_after : How → (cpu : ℕ) → ProcessorsView → ProcessorsView
disarmed_after Injected c p = with_armed c None p
disarmed_after _ c p = p

-- `to` is where the walk went that ends
abbrev pub standing_after : (to : ℕ) → Event → ProcessorsView → ProcessorsView
standing_after to (Call seat cpu state inst dir how) p = disarmed_after how cpu p
standing_after to (WalkEnd seat cpu answer) p = with_settled cpu (leaves_at answer to (slice_index p.settled cpu)) p
standing_after to (Armed seat cpu value) p = with_armed cpu (armed_by value) p
standing_after to _ p = p

-- `op` is the operation that holds the map lock, where a walk or an operation ends
abbrev pub suspension_after : Op → Event → SuspendedView → SuspendedView
suspension_after op (Enter seat asked) s = once_entered asked s
suspension_after op (WalkEnd seat cpu answer) s = walked op cpu answer s
suspension_after op (OpEnd seat answer) s = ended op s
suspension_after op (Wakeup seat) s = woken s
suspension_after op _ s = s

-- an upmany (`batch`) keeps the write side from its first walk to its end
abbrev pub holders_after : (batch : Bool) → Event → Holders → Holders
holders_after batch (Admit seat role) h =
    record { map = h.map; writer = h.writer; registrar = h.registrar; reading = h.reading ++ false ∷ [] }
holders_after batch (Enter seat op) h = with_map (Some seat) h
holders_after batch (OpEnd seat answer) h = with_map None (with_writer None h)
holders_after batch (WalkBegin seat cpu from to) h = with_writer (Some seat) h
holders_after batch (WalkEnd seat cpu answer) h = if batch then h else with_writer None h
holders_after batch (RegBegin seat state op) h = with_registrar (Some seat) h
holders_after batch (RegEnd seat answer) h = with_registrar None h
holders_after batch (ReadLock seat) h = with_reader seat true h
holders_after batch (ReadUnlock seat) h = with_reader seat false h
holders_after batch _ h = h
