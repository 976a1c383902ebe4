-- Laws of turns and of the events that they make: which seats stay busy, what may be asked after a turn, and what an operation answers.
-- This project's own.
use Rattle.std.specs.Prelude.{◌≡◌, ◌≢◌, ◌⊎◌, ℕ, pos, true, false, None, Some, Option, List, [], ◌∷◌, ◌++◌}
use Rattle.hp_event.specs.declared.answer.Answer.{Answer}
use Rattle.hp_event.specs.declared.answer.Answer.TheVariants.{Ok, LogFull}
use Rattle.hp_event.specs.declared.event.Event.{Event}
use Rattle.hp_event.specs.declared.event.Event.TheVariants.{WalkEnd}
use Rattle.hp_event.specs.declared.head.Head.{Head}
use Rattle.hp_event.specs.declared.op.Op.{Op}
use Rattle.hp_account.specs.TableChanges.{is_setup}
use Rattle.hp_machine.specs.MayAsk.{MayAsk}
use Rattle.hp_model.specs.Entries.{codes_of_faults}
use Rattle.hp_model.specs.Events.{seat_of, answer_by, is_answer}
use Rattle.hp_model.specs.Lawful.{IsLawful, Stands}
use Rattle.hp_model.specs.Moves.{ArePending}
use Rattle.hp_model.specs.NextEvent.{next_event}
use Rattle.hp_model.specs.Pending.{Pending}
use Rattle.hp_model.specs.Seats.{is_busy}
use Rattle.hp_model.specs.Suspend.{is_ok}
use Rattle.hp_model.specs.Walks.{walk_entries}
use Rattle.hp_table.specs.Step.{AllHome}
use Rattle.hp_board.specs.Against.{NothingAgainst}
use Rattle.hp_board.specs.Contents.{Contents}
use Rattle.hp_board.specs.Hooks.{has_hook}
use Rattle.hp_board.specs.Moving.{SomeMoves}
use Rattle.hp_board.specs.Turns.{IsTurn}
use Rattle.hp_board.specs.declared.turn.Turn.{Turn}
use Rattle.hp_board.specs.declared.turn.Turn.TheVariants.{Answered}

-- ---- events

-- an event that stands leaves another seat than its own as busy as it was
abbrev pub LeavesOtherBusy : Head → List Event → Event → (seat : ℕ) → Type 0
LeavesOtherBusy head events e k =
    Stands head events e → seat_of e ≢ k → is_busy k (events ++ e ∷ []) ≡ is_busy k events

-- so the seat's next ask has its hook as before
abbrev pub LeavesOthersHook : Head → List Event → Event → (seat : ℕ) → Type 0
LeavesOthersHook head events e k =
    (op : Op) → Stands head events e → seat_of e ≢ k → has_hook (events ++ e ∷ []) k op ≡ has_hook events k op

-- a seat that is busy stays so after an event of its own that answers nothing
abbrev pub StaysBusy : List Event → Event → (seat : ℕ) → Type 0
StaysBusy events e k =
    seat_of e ≡ k → answer_by e ≡ None → is_busy k events ≡ true → is_busy k (events ++ e ∷ []) ≡ true

-- what comes next of a setup and is no answer leaves its seat busy
abbrev pub SetupGoesOn : Head → List Event → Event → (seat : ℕ) → Op → Type 0
SetupGoesOn head events e k op =
    is_setup op ≡ true → next_event head events k op ≡ Some e → answer_by e ≡ None → is_busy k (events ++ e ∷ []) ≡ true

-- so does what comes next of any operation
abbrev pub GoesOnBusy : Head → List Event → Event → (seat : ℕ) → Op → Type 0
GoesOnBusy head events e k op =
    next_event head events k op ≡ Some e → answer_by e ≡ None → is_busy k (events ++ e ∷ []) ≡ true

-- an event that answers leaves its seat with nothing in flight
abbrev pub AnswerFrees : Head → List Event → Event → Type 0
AnswerFrees head events e =
    IsLawful head events → Stands head events e → is_answer e ≡ true → is_busy (seat_of e) (events ++ e ∷ []) ≡ false

-- a walk that ends with no fault among its entries answers Ok(0)
abbrev pub EndsOk : Head → List Event → (seat cpu : ℕ) → Answer → Type 0
EndsOk head events k c answer =
    Stands head events (WalkEnd k c answer) → codes_of_faults (walk_entries c events) ≡ [] → answer ≡ Ok (pos 0)

-- ---- turns

-- this is so of a lawful board and of what a turn makes of it, for an operation that its seat may ask for
abbrev pub AfterTurn : (seat : ℕ) → Op → Turn → (Contents → Contents → Type 0) → Type 0
AfterTurn k op turn Holds =
    (old new : Contents) → IsLawful old.head old.events → MayAsk old k op → IsTurn k op old new turn → Holds old new

-- where nothing stands against the operation, a turn that answers it answers Ok, or LogFull
abbrev pub AnswersOk : (seat : ℕ) → Op → (at : Option ℕ) → Answer → Type 0
AnswersOk k op at answer =
    (old new : Contents) → IsLawful old.head old.events → MayAsk old k op → NothingAgainst old.head old.events k op →
    IsTurn k op old new (Answered at answer) → (is_ok answer ≡ true) ⊎ (answer ≡ LogFull)

-- where no hook is lent, and all that operations wait for is among those that aren't answered, some seat can move
abbrev pub SomeSeatMoves : Contents → List Pending → Type 0
SomeSeatMoves b pending =
    IsLawful b.head b.events → AllHome b.places → ArePending b.head b.events pending → SomeMoves b pending
