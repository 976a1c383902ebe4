-- What a turn of a seat makes of SMT control: for an operation, which is denied where it would bring a sibling up against the mode; and
-- for a write of control. After `cpu_smt_allowed` and
-- `__store_smt_control` of `kernel/cpu.c`; that both go on by turns, what they wait for, and that a target below online
-- isn't denied, are this project's own.
use Rattle.std.specs.Prelude.{◌≡◌, ℕ, Bool, true, false, not, ◌&&◌, is_some, Option, Some, None, length, List}
use Rattle.hp_event.specs.declared.event.Event.{Event}
use Rattle.hp_event.specs.declared.op.Op.{Op}
use Rattle.hp_locks.specs.declared.why.Why.{Why}
use Rattle.hp_locks.specs.declared.why.Why.TheVariants.{MapsHeld}
use Rattle.hp_model.specs.MapLock.{Operation, operation}
use Rattle.hp_model.specs.Seats.{is_busy}
use Rattle.hp_board.specs.Contents.{Contents}
use Rattle.hp_board.specs.Turns.{IsTurn, IsServed, IsNotYet, NextTakesRoom}
use Rattle.hp_board.specs.declared.turn.Turn.{Turn}
use Rattle.hp_board.specs.declared.turn.Turn.TheVariants.{Made, Answered, NotYet}
use Rattle.hp_smt.specs.Contents.{Controlled, after_step}
use Rattle.hp_smt.specs.Modes.{is_on, wants_on, own_op}
use Rattle.hp_smt.specs.Siblings.{is_up_of_sibling}
use Rattle.hp_smt.specs.Writes.{Step, control_step, current, own_cpu, finished}
use Rattle.hp_smt.specs.declared.mode.Control.{Control}
use Rattle.hp_smt.specs.declared.mode.Mode.{Mode}
use Rattle.hp_smt.specs.declared.setting.Gone.{Gone}
use Rattle.hp_smt.specs.declared.setting.Write.{Write}
use Rattle.hp_smt.specs.declared.turn.SmtTurn.{SmtTurn}
use Rattle.hp_smt.specs.declared.turn.SmtTurn.TheVariants.{Board, Denied}

-- ---- operations

-- whether the first turn of an operation is denied: not every processor may be brought up, and it asks for a sibling
abbrev pub is_denied_by : List Event → (threads : ℕ) → Mode → (seat : ℕ) → Op → Bool
is_denied_by events n mode k op = not (is_busy k events) && (not (is_on mode) && is_up_of_sibling n op)

abbrev pub is_denied : Controlled → (seat : ℕ) → Op → Bool
is_denied s k op = is_denied_by s.board.events s.threads s.setting.mode k op

-- only the machine has changed
abbrev pub MovesBoard : (old new : Controlled) → Type 0
MovesBoard old new = new ≡ record { board = new.board; threads = old.threads; setting = old.setting }

-- the machine's turn, or nothing
abbrev pub IsSmtTurn : (seat : ℕ) → Op → (old new : Controlled) → SmtTurn → Type 0
IsSmtTurn k op old new (Board turn) = IsTurn k op old.board new.board turn × MovesBoard old new × (is_denied old k op ≡ false)
IsSmtTurn k op old new Denied = (new ≡ old) × (is_denied old k op ≡ true)

abbrev pub IsSmtServed : (seat : ℕ) → (old new : Controlled) → Turn → Type 0
IsSmtServed k old new turn = IsServed k old.board new.board turn × MovesBoard old new

-- ---- writes

abbrev pub step_of : Controlled → (seat : ℕ) → Control → Step
step_of s k want = control_step s.board.head s.board.events s.threads s.setting k want

-- the write that a turn goes on with
abbrev pub current_of : Controlled → (seat : ℕ) → Control → Write
current_of s k want = current s.board.events s.setting k want

-- what a write waits for: what its own operation does, or that the map lock is free
abbrev pub IsWaitOf : Contents → Write → (own : Option ℕ) → Why → Type 0
IsWaitOf b w (Some c) why = IsNotYet w.seat (own_op w.want c) b why
IsWaitOf b w None why = (o : Operation) × (operation b.events ≡ Some o) × (why ≡ MapsHeld o.seat)

-- the turn says what the step made: its one event, at its place, and the answer of the write
abbrev pub SaysStep : (old : Contents) → Step → Turn → Type 0
SaysStep b step (Made at) = (is_some step.event ≡ true) × (step.answer ≡ None) × (at ≡ length b.events)
SaysStep b step (Answered (Some at) a) = (is_some step.event ≡ true) × (step.answer ≡ Some a) × (at ≡ length b.events)
SaysStep b step (Answered None a) = (step.event ≡ None) × (step.answer ≡ Some a)
SaysStep b step (NotYet why) = (step.event ≡ None) × (step.answer ≡ None)

abbrev pub SaysWait : Contents → Write → (own : Option ℕ) → Turn → Type 0
SaysWait b w own (NotYet why) = IsWaitOf b w own why
SaysWait b w own _ = Unit {0}

-- a turn of a write that goes on, or begins
pub record IsGoneOn (step : Step) (own : Option ℕ) (w : Write) (old new : Controlled) (turn : Turn) : Type 0 where
  pub new_is : new ≡ after_step old step
  pub says : SaysStep old.board step turn
  pub waits : SaysWait old.board w own turn

-- a turn of a seat for a write of control
abbrev pub IsControl : (seat : ℕ) → Control → (old new : Controlled) → Turn → Type 0
IsControl k want old new turn =
    IsGoneOn (step_of old k want)
    (own_cpu old.board.head old.board.events old.threads old.setting.recorded (current_of old k want)) (current_of old k want) old new turn

-- an event of a write's own operation takes room
abbrev pub OwnTakesRoom : Contents → Write → (own : Option ℕ) → Type 0
OwnTakesRoom b w None = ⊥
OwnTakesRoom b w (Some c) = NextTakesRoom b w.seat (own_op w.want c)

abbrev pub WantsRoom : Controlled → Write → Type 0
WantsRoom s w = OwnTakesRoom s.board w (own_cpu s.board.head s.board.events s.threads s.setting.recorded w)

abbrev pub finished_step : Controlled → Write → Step
finished_step s w = finished s.board.events s.setting.recorded w (wants_on w.want)

-- what a turn of a write says where it has no processor left: as `finished` of the write, without an event
pub record IsFinished (s : Controlled) (w : Write) (gone : Gone) : Type 0 where
  pub setting_is : gone.setting ≡ (finished_step s w).setting
  pub says : SaysStep s.board (finished_step s w) gone.turn
  pub waits : SaysWait s.board w None gone.turn
