-- What a turn of a seat makes of a board, and what it answers: the one event that comes next of the seat and its operation, or
-- nothing, where there is no room for it or something is waited for. This project's own.
use Rattle.std.specs.Prelude.{◌≡◌, ◌⊎◌, ℕ, Bool, true, false, Option, Some, None, IsSome, IsSomeAnd, List, length}
use Rattle.hp_event.specs.declared.answer.Answer.{Answer}
use Rattle.hp_event.specs.declared.answer.Answer.TheVariants.{LogFull}
use Rattle.hp_event.specs.declared.event.Event.{Event}
use Rattle.hp_event.specs.declared.head.Head.{Head}
use Rattle.hp_event.specs.declared.op.Op.{Op}
use Rattle.hp_locks.specs.declared.why.Why.{Why}
use Rattle.hp_locks.specs.declared.why.Why.TheVariants.{ApTurn, HookOut, Idle}
use Rattle.hp_model.specs.Events.{answer_by}
use Rattle.hp_model.specs.Needs.{need}
use Rattle.hp_model.specs.NextEvent.{next_event, due_entry, is_full}
use Rattle.hp_machine.specs.Next.{IsKept}
use Rattle.hp_machine.specs.StandsNext.{next_event_of}
use Rattle.hp_board.specs.declared.turn.Turn.{Turn}
use Rattle.hp_board.specs.declared.turn.Turn.TheVariants.{Made, Answered, NotYet}
use Rattle.hp_board.specs.Contents.{Contents, with_event}
use Rattle.hp_board.specs.Loans.{CallsAway, WaitsForThread, WaitsToArm}

-- this one event was appended, at this place, and gives this answer, or none
pub record Makes (next : Option Event) (at : ℕ) (answer : Option Answer) (old new : Contents) : Type 0 where
  pub event : Event
  pub next_is : next ≡ Some event
  pub new_is : new ≡ with_event old event
  pub place_is : at ≡ length old.events
  pub answer_is : answer_by event ≡ answer

-- nothing was, since there is no room for the operation's first event
pub record IsFullFor (seat : ℕ) (op : Op) (answer : Answer) (old new : Contents) : Type 0 where
  pub full : is_full old.head old.events seat op ≡ true
  pub answer_is : answer ≡ LogFull
  pub same : new ≡ old

-- what is answered of an event, at its place
abbrev pub turn_by : Option Answer → (at : ℕ) → Turn
turn_by None at = Made at
turn_by (Some answer) at = Answered (Some at) answer

-- whether the operation isn't answered, so that its seat asks for it again
abbrev pub goes_on : Turn → Bool
goes_on (Answered at answer) = false
goes_on _ = true

-- the hook of a state is lent, and the operation waits for it: where the next entry is a thread's to make, that it comes home for that
-- entry; and a write of `fail` that can stand, that it comes home from the entry in the middle of the processor's walk
abbrev pub IsHookOut : (state seat : ℕ) → Op → Contents → Type 0
IsHookOut s k op b = WaitsForThread b s k op ⊎ WaitsToArm b s k op

-- what it waits for; a thread alone where the entry that this has to make calls no hook that is away
abbrev pub IsNotYet : (seat : ℕ) → Op → Contents → Why → Type 0
IsNotYet k op b (HookOut s) = IsHookOut s k op b
IsNotYet k op b (ApTurn cpu) = IsKept b.head b.events k op (ApTurn cpu) × ((s : ℕ) → WaitsForThread b s k op → ⊥)
IsNotYet k op b why = IsKept b.head b.events k op why

-- what a turn of a client's seat does
abbrev pub IsTurn : (seat : ℕ) → Op → (old new : Contents) → Turn → Type 0
IsTurn k op old new (Made at) = Makes (next_event old.head old.events k op) at None old new
IsTurn k op old new (Answered (Some at) answer) = Makes (next_event old.head old.events k op) at (Some answer) old new
IsTurn k op old new (Answered None answer) = IsFullFor k op answer old new
IsTurn k op old new (NotYet why) = IsNotYet k op old why × (new ≡ old)

-- what a thread's turn does: it makes the entry that is due from it, if one is, and waits where that calls a hook that is away
abbrev pub IsServed : (seat : ℕ) → (old new : Contents) → Turn → Type 0
IsServed k old new (Made at) = Makes (due_entry old.head old.events k) at None old new
IsServed k old new (NotYet (HookOut s)) = CallsAway old s (due_entry old.head old.events k) × (new ≡ old)
IsServed k old new (NotYet Idle) = (due_entry old.head old.events k ≡ None) × (new ≡ old)
IsServed k old new _ = ⊥

-- an event comes next that takes room: the first of an operation or the begin of a walk
abbrev pub TakesRoom : Head → (events : List Event) → (next : Option Event) → Type 0
TakesRoom head events next = IsSomeAnd next (λ event. IsSome (need head events event))

-- so does what comes next of a seat and its operation
abbrev pub NextTakesRoom : Contents → (seat : ℕ) → Op → Type 0
NextTakesRoom b k op = TakesRoom b.head b.events (next_event_of b k op)
