-- Whose an event is, which operation of a client it belongs to, and what it answers. This project's own.
use Rattle.std.specs.Prelude.{◌≡◌, ℕ, Bool, true, false, ◌&&◌, ◌==◌, pos, is_some, Option, Some, None, List, count_by}
use Rattle.hp_event.specs.declared.op.Op.{Op}
use Rattle.hp_event.specs.declared.op.Op.TheVariants.{Arm, ShowState, ShowTarget, ShowFail, ShowStates, Setup, Remove, Add, Del}
use Rattle.hp_event.specs.declared.answer.Answer.{Answer}
use Rattle.hp_event.specs.declared.answer.Answer.TheVariants as answer
use Rattle.hp_event.specs.declared.event.File.{File}
use Rattle.hp_event.specs.declared.event.File.TheVariants.{State, Target, Fail, States}
use Rattle.hp_event.specs.declared.event.Event.{Event}
use Rattle.hp_event.specs.declared.event.Event.TheVariants.{Enter, Refused, WalkBegin, Call, WalkEnd, OpEnd, RegBegin, RegEnd, ReadLock, ReadUnlock, Armed, Shown, Wakeup}
pub use Rattle.hp_event.specs.Events.{seat_of}
use Rattle.hp_model.specs.MapLock.{is_map_op}

abbrev pub is_call : Event → Bool
is_call (Call seat cpu state inst dir how) = true
is_call _ = false

abbrev pub is_registration_op : Op → Bool
is_registration_op (Setup state sub form) = true
is_registration_op (Remove state form) = true
is_registration_op (Add state inst form) = true
is_registration_op (Del state inst form) = true
is_registration_op _ = false

-- what shows a file
abbrev pub showing : File → (cpu : ℕ) → Op
showing State c = ShowState c
showing Target c = ShowTarget c
showing Fail c = ShowFail c
showing States c = ShowStates

-- an event of a client's operation: a seat has one in flight at most, whose walks, entries and end are its own
abbrev pub BelongsTo : Op → Event → Type 0
BelongsTo op (Enter seat asked) = asked ≡ op
BelongsTo op (Refused seat errno asked) = asked ≡ op
BelongsTo op (WalkBegin seat cpu from to) = is_map_op op ≡ true
BelongsTo op (Call seat cpu state inst dir how) = Unit {0}
BelongsTo op (WalkEnd seat cpu answer) = is_map_op op ≡ true
BelongsTo op (OpEnd seat answer) = is_map_op op ≡ true
BelongsTo op (RegBegin seat state asked) = asked ≡ op
BelongsTo op (RegEnd seat answer) = is_registration_op op ≡ true
BelongsTo op (ReadLock seat) = op ≡ Op.Lock
BelongsTo op (ReadUnlock seat) = op ≡ Op.Unlock
BelongsTo op (Armed seat cpu value) = op ≡ Arm cpu value
BelongsTo op (Shown seat file cpu value) = op ≡ showing file cpu
BelongsTo op (Wakeup seat) = op ≡ Op.Wakeup
BelongsTo op _ = ⊥

-- the answer of an operation that an event gives, where it gives one; of a file that is shown it is the value
abbrev pub answer_by : Event → Option Answer
answer_by (Refused seat errno op) = Some (answer.Refused errno)
answer_by (OpEnd seat given) = Some given
answer_by (RegEnd seat given) = Some given
answer_by (ReadLock seat) = Some (answer.Ok (pos 0))
answer_by (ReadUnlock seat) = Some (answer.Ok (pos 0))
answer_by (Armed seat cpu value) = Some (answer.Ok (pos 0))
answer_by (Shown seat file cpu value) = Some (answer.Ok value)
answer_by (Wakeup seat) = Some (answer.Ok (pos 0))
answer_by _ = None

-- whether an event answers an operation
abbrev pub is_answer : Event → Bool
is_answer e = is_some (answer_by e)

-- how many operations of a seat are answered
abbrev pub answered : (seat : ℕ) → List Event → ℕ
answered k events = count_by (λ e. is_answer e && (seat_of e == k)) events
