-- A write of control: whether it is answered at once, what its turns make of the machine and of the setting, and what it answers. After
-- `__store_smt_control`, `cpuhp_smt_disable` and `cpuhp_smt_enable` of `kernel/cpu.c`; that a write goes on by turns, what it waits for,
-- and what is recorded are this project's own.
use Rattle.std.specs.Prelude.{ℕ, zero, pos, Bool, true, false, not, ◌&&◌, ◌||◌, ◌==◌, is_some, if◌then◌else◌, Option, Some, None, List, ◌∷◌, ◌++◌, [], length}
use Rattle.hp_states.specs.declared.cpu_set.CpuSet.{CpuSet}
use Rattle.hp_states.specs.declared.limits.TheConstants.{EPERM, EBUSY}
use Rattle.hp_event.specs.declared.answer.Answer.{Answer}
use Rattle.hp_event.specs.declared.answer.Answer.TheVariants.{Ok, Refused, LogFull}
use Rattle.hp_event.specs.declared.head.Head.{Head}
use Rattle.hp_event.specs.declared.event.Event.{Event}
use Rattle.hp_event.specs.declared.op.Op.{Op}
use Rattle.hp_event.specs.declared.op.Op.TheVariants.{Wakeup}
use Rattle.hp_model.specs.Events.{answer_by}
use Rattle.hp_model.specs.Listed.{listed}
use Rattle.hp_model.specs.Lists.{is_empty, without}
use Rattle.hp_model.specs.MapLock.{is_map_held}
use Rattle.hp_model.specs.NextEvent.{next_event, is_full}
use Rattle.hp_model.specs.SetOf.{set_of}
use Rattle.hp_model.specs.Suspend.{is_disabled, frozen}
use Rattle.hp_smt.specs.Modes.{is_force_off, is_mode_of, wants_on, begun_mode, ended_mode, own_op}
use Rattle.hp_smt.specs.Siblings.{lowest_of, sibling_online}
use Rattle.hp_smt.specs.declared.mode.Control.{Control}
use Rattle.hp_smt.specs.declared.mode.Control.TheVariants.{On}
use Rattle.hp_smt.specs.declared.mode.Mode.{Mode}
use Rattle.hp_smt.specs.declared.mode.Mode.TheVariants as mode
use Rattle.hp_smt.specs.declared.setting.Setting.{Setting}
use Rattle.hp_smt.specs.declared.setting.Write.{Write}

-- ---- the write in flight

-- that of a seat
abbrev pub write_by : (seat : ℕ) → Option Write → Option Write
write_by k None = None
write_by k (Some w) = if w.seat == k then Some w else None

abbrev pub is_of_other : (seat : ℕ) → Option Write → Bool
is_of_other k None = false
is_of_other k (Some w) = not (w.seat == k)

-- a write as it begins, after so many events
abbrev pub begun : Setting → (seat : ℕ) → Control → (since : ℕ) → Write
begun s k want since =
    record { seat = k; want = want; was = s.mode; taking = None; since = since; first = s.recorded }

abbrev pub or_begun : Option Write → (new : Write) → Write
or_begun None new = new
or_begun (Some w) new = w

-- the write that a turn of a seat goes on with: the one in flight, or one that begins
abbrev pub current : List Event → Setting → (seat : ℕ) → Control → Write
current events s k want = or_begun (write_by k s.write) (begun s k want (length events))

-- while an operation of its own is in flight for a processor, or between two of them
abbrev pub taking_of : Write → Option ℕ → Write
taking_of w c = record w { taking = c }

-- the operation that a seat has in flight by its write; a wakeup, which nothing refuses, where there is none
abbrev pub op_taking : Control → Option ℕ → Op
op_taking want None = Wakeup
op_taking want (Some c) = own_op want c

abbrev pub op_flying : Option Write → Op
op_flying None = Wakeup
op_flying (Some w) = op_taking w.want w.taking

abbrev pub flying_op : (seat : ℕ) → Option Write → Op
flying_op k write = op_flying (write_by k write)

-- ---- the setting

abbrev pub at_rest : Mode → CpuSet → Setting
at_rest mode recorded = record { mode = mode; recorded = recorded; write = None }

abbrev pub under : CpuSet → Write → Setting
under recorded w = record { mode = begun_mode w.want; recorded = recorded; write = Some w }

-- the mode that there is again where a write isn't answered Ok(0)
abbrev pub fallen_back : Control → (was : Mode) → Mode
fallen_back On was = mode.On
fallen_back _ was = was

abbrev pub mode_before : Write → Mode
mode_before w = fallen_back w.want w.was

-- a write of On brings a recorded processor up; the others record one that they took down
abbrev pub recorded_after : Control → CpuSet → (cpu : ℕ) → CpuSet
recorded_after On set c = set_of (without c (listed set))
recorded_after _ set c = set_of (listed set ++ c ∷ [])

-- ---- answers at its first turn

-- while another seat's write is in flight; in the mode ForceOff; and where the write is of the mode that there is, but for a write of On
-- while some processor is recorded
abbrev pub decided : Setting → (seat : ℕ) → Control → Option Answer
decided s k want =
    if is_of_other k s.write
    then Some (Refused EBUSY)
    else (if is_force_off s.mode
    then Some (Refused EPERM)
    else (if is_mode_of want s.mode && not (wants_on want && is_some (lowest_of s.recorded)) then Some (Ok (pos 0)) else None))

abbrev pub at_once : Setting → (seat : ℕ) → Control → Option Answer
at_once s k want = if is_some (write_by k s.write) then None else decided s k want

-- ---- its turns

-- the event that a turn makes, if it makes one; the setting after it; and what the write is answered, if it is
pub record Step : Type 0 where
  pub event : Option Event
  pub setting : Setting
  pub answer : Option Answer

abbrev pub goes_on : Option Event → Setting → Step
goes_on e setting = record { event = e; setting = setting; answer = None }

abbrev pub answers : Option Event → Setting → Answer → Step
answers e setting a = record { event = e; setting = setting; answer = Some a }

abbrev pub or_chosen : (taking chosen : Option ℕ) → Option ℕ
or_chosen None chosen = chosen
or_chosen (Some c) chosen = Some c

-- the processor that its own operation in flight is for; else the lowest that is recorded, or the lowest sibling that is online
abbrev pub own_cpu : Head → List Event → (threads : ℕ) → CpuSet → Write → Option ℕ
own_cpu head events n recorded w =
    or_chosen w.taking (if wants_on w.want then lowest_of recorded else sibling_online n head events)

-- whether an answer is Ok(0)
abbrev pub is_done : Answer → Bool
is_done (Ok (pos zero)) = true
is_done _ = false

-- an event of its own operation on a processor
abbrev pub after_answer : CpuSet → Write → (cpu : ℕ) → Event → Option Answer → Step
after_answer recorded w c e None = goes_on (Some e) (under recorded (taking_of w (Some c)))
after_answer recorded w c e (Some a) =
    if is_done a
    then goes_on (Some e) (under (recorded_after w.want recorded c) (taking_of w None))
    else answers (Some e) (at_rest (mode_before w) recorded) a

-- or no event: there is no room for the first one, or the operation waits
abbrev pub after_own : CpuSet → Write → (cpu : ℕ) → Option Event → (full : Bool) → Step
after_own recorded w c (Some e) full = after_answer recorded w c e (answer_by e)
after_own recorded w c None true = answers None (at_rest (mode_before w) recorded) LogFull
after_own recorded w c None false = goes_on None (under recorded w)

-- with no processor left, a write of Off or ForceOff waits until the map lock is free, so until no boot is in flight, and is refused
-- while hotplug is disabled or something is frozen
abbrev pub finished : List Event → CpuSet → Write → (wants_on : Bool) → Step
finished events recorded w true = answers None (at_rest (ended_mode w.want) recorded) (Ok (pos 0))
finished events recorded w false =
    if is_map_held events
    then goes_on None (under recorded w)
    else (if is_disabled events || not (is_empty (frozen events))
    then answers None (at_rest (mode_before w) recorded) (Refused EBUSY)
    else answers None (at_rest (ended_mode w.want) recorded) (Ok (pos 0)))

abbrev pub gone_on_with : Head → List Event → CpuSet → Write → Option ℕ → Step
gone_on_with head events recorded w None = finished events recorded w (wants_on w.want)
gone_on_with head events recorded w (Some c) =
    after_own recorded w c (next_event head events w.seat (own_op w.want c)) (is_full head events w.seat (own_op w.want c))

abbrev pub gone_on : Head → List Event → (threads : ℕ) → CpuSet → Write → Step
gone_on head events n recorded w = gone_on_with head events recorded w (own_cpu head events n recorded w)

abbrev pub unless_at_once : Setting → Option Answer → Step → Step
unless_at_once s (Some a) step = answers None s a
unless_at_once s None step = step

-- a turn of a seat for a write
abbrev pub control_step : Head → List Event → (threads : ℕ) → Setting → (seat : ℕ) → Control → Step
control_step head events n s k want =
    unless_at_once s (at_once s k want) (gone_on head events n s.recorded (current events s k want))
