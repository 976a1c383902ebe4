-- What an operation made of the front of its pass, from its first turn on. This project's own.
use Rattle.std.specs.Prelude.{◌≡◌, ◌⊎◌, ℕ, Bool, true, false, is_some, Option, Some, None, IfSome, List, [], ◌∷◌, ◌++◌, All}
use Rattle.hp_event.specs.declared.answer.Answer.{Answer}
use Rattle.hp_event.specs.declared.answer.Answer.TheVariants.{LogFull}
use Rattle.hp_event.specs.declared.event.Event.{Event}
use Rattle.hp_event.specs.declared.head.Head.{Head}
use Rattle.hp_event.specs.declared.op.Op.{Op}
use Rattle.hp_hook.specs.Counted.{Counts}
use Rattle.hp_model.specs.Events.{answer_by, BelongsTo}
use Rattle.hp_model.specs.Lawful.{IsLawful}
use Rattle.hp_model.specs.Seats.{is_busy}
use Rattle.hp_model.specs.NextEvent.{next_event, is_full}
use Rattle.hp_account.specs.TableChanges.{hands_hook}
use Rattle.hp_board.specs.Turns.{TakesRoom}
use Rattle.hp_live.specs.Grew.{Grew}
use Rattle.hp_board.specs.declared.turn.Turn.TheVariants.{Made}
use Rattle.hp_live.specs.Hooks.{IsOfState, TurnsHook}
use Rattle.hp_live.specs.Sections.{EntersIn, LentIn, TurnedIn}
use Rattle.hp_live.specs.declared.step.Stepped.{Stepped}
use Rattle.hp_live.specs.declared.step.Stepped.TheVariants.{Turned, Lent}

-- an event of the operation that doesn't answer it
abbrev pub GoesOn : Op → Event → Type 0
GoesOn op e = BelongsTo op e × (answer_by e ≡ None)

-- the operation was answered by an event, the last of the new front. Past the old front its seat has this event and, before
-- it, others of the operation, none of which answers it
pub record AnsweredBy (head : Head) (seat : ℕ) (op : Op) (old new : List Event) (answer : Answer) : Type 0 where
  pub earlier : List Event
  pub before : List Event
  pub event : Event
  pub grew : Grew seat old before earlier
  pub lawful : IsLawful head before
  pub goes_on : All (GoesOn op) earlier
  pub next_is : next_event head before seat op ≡ Some event
  pub belongs : BelongsTo op event
  pub new_is : new ≡ before ++ event ∷ []
  pub answers : answer_by event ≡ Some answer

-- it was answered LogFull without an event: there was no room for its first at the end of the new front
pub record FullFor (head : Head) (seat : ℕ) (op : Op) (old new : List Event) (answer : Answer) : Type 0 where
  pub grew : Grew seat old new []
  pub full : is_full head new seat op ≡ true
  pub answer_is : answer ≡ LogFull

abbrev pub IsAnswered : Head → (seat : ℕ) → Op → (old new : List Event) → Answer → Type 0
IsAnswered head k op old new answer = AnsweredBy head k op old new answer ⊎ FullFor head k op old new answer

-- the hook that is there, if one is, is the one that was handed in
abbrev pub IsHandedIn : {H : Type 0} → (was now : Option H) → Type 0
IsHandedIn was now = IfSome now (λ hook. was ≡ Some hook)

-- an event answered it: the hook that is there then, if one is, is that of the state of its registration, where the event hands that
-- out, and else the one that was handed in
pub record AnsweredWith {H : Type 0} (seen : H → Counts) (head : Head) (seat : ℕ) (op : Op) (old new : List Event) (was now : Option H)
    (answer : Answer) : Type 0 where
  pub by : AnsweredBy head seat op old new answer
  pub states : hands_hook by.before by.event ≡ true → IfSome now (IsOfState seen head by.before)
  pub same : hands_hook by.before by.event ≡ false → IsHandedIn was now

-- which hook comes back with the answer, where one does
abbrev pub ComesBack : {H : Type 0} → (seen : H → Counts) → Head → (seat : ℕ) → Op → (old new : List Event) → (was now : Option H) →
    Answer → Type 0
ComesBack seen head k op old new was now answer =
    AnsweredWith seen head k op old new was now answer ⊎ (FullFor head k op old new answer × IsHandedIn was now)

-- memory was wanting for an event of it, and what it made doesn't answer it: with any event made it is in flight
pub record Halted (head : Head) (seat : ℕ) (op : Op) (old new : List Event) : Type 0 where
  pub made : List Event
  pub grew : Grew seat old new made
  pub goes_on : All (GoesOn op) made
  pub busy : (made ≡ []) ⊎ (is_busy seat new ≡ true)
  pub takes_room : TakesRoom head new (next_event head new seat op)

-- ---- one section of an operation

abbrev pub is_lent : Stepped → Bool
is_lent (Lent state) = true
is_lent _ = false

-- what one section of a client's seat made of its front, and of the hook of its operation
abbrev pub SteppedIn : {H : Type 0} → (seen : H → Counts) → Head → (seat : ℕ) → Op → (was now : Option H) → (old new : List Event) →
    Stepped → Type 0
SteppedIn seen head k op was now old new (Turned turn) =
    (t : TurnedIn head k op (is_some was) (is_some now) old new turn) × TurnsHook seen head t.found k op was now turn
SteppedIn seen head k op was now old new (Lent state) = LentIn head k old new × (now ≡ was)

-- the hook that a seat carried came home in it, and its entry was made
abbrev pub EnteredIn : Head → (seat : ℕ) → (old new : List Event) → Stepped → Type 0
EnteredIn head k old new (Turned (Made at)) = EntersIn head k old new at
EnteredIn head k old new stepped = ⊥
