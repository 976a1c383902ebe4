-- What one lock section made of a journal, by a seat. This project's own.
use Rattle.std.specs.Prelude.{◌≡◌, ◌≢◌, ℕ, Bool, true, Option, Some, None, List, [], ◌∷◌, ◌++◌, length}
use Rattle.hp_event.specs.declared.answer.Answer.{Answer}
use Rattle.hp_event.specs.declared.answer.Answer.TheVariants.{LogFull}
use Rattle.hp_event.specs.declared.event.Event.{Event}
use Rattle.hp_event.specs.declared.event.Event.TheVariants.{Admit, Leave}
use Rattle.hp_event.specs.declared.event.Role.{Role}
use Rattle.hp_event.specs.declared.head.Head.{Head}
use Rattle.hp_event.specs.declared.op.Op.{Op}
use Rattle.hp_locks.specs.declared.why.Why.TheVariants.{Idle, HookOut}
use Rattle.hp_model.specs.Events.{answer_by}
use Rattle.hp_model.specs.Front.{StandsFor}
use Rattle.hp_model.specs.Lawful.{IsLawful}
use Rattle.hp_model.specs.NextEvent.{next_event, due_entry, is_full}
use Rattle.hp_model.specs.Pending.{IsAllowed}
use Rattle.hp_model.specs.Seats.{admits}
use Rattle.hp_machine.specs.Admission.{refusal_of}
use Rattle.hp_machine.specs.declared.admission.AdmitError.{AdmitError}
use Rattle.hp_machine.specs.declared.admission.AdmitError.TheVariants.{NoMemory}
use Rattle.hp_turn.specs.Story.{Knows}
use Rattle.hp_board.specs.Hooks.{has_hook, has_hook_after}
use Rattle.hp_board.specs.Turns.{TakesRoom, goes_on}
use Rattle.hp_board.specs.declared.turn.Turn.{Turn}
use Rattle.hp_board.specs.declared.turn.Turn.TheVariants.{Made, Answered, NotYet}
use Rattle.hp_live.specs.Grew.{Grew}

-- one event was appended, at this place, and gives this answer, or none
pub record Adds (next : Option Event) (at : ℕ) (answer : Option Answer) (old new : List Event) : Type 0 where
  pub event : Event
  pub next_is : next ≡ Some event
  pub new_is : new ≡ old ++ event ∷ []
  pub place_is : at ≡ length old
  pub answer_is : answer_by event ≡ answer

-- nothing was, since there is no room for the operation's first event
pub record LacksRoom (head : Head) (seat : ℕ) (op : Op) (answer : Answer) (old new : List Event) : Type 0 where
  pub full : is_full head old seat op ≡ true
  pub answer_is : answer ≡ LogFull
  pub same : new ≡ old

-- what a turn of a client's seat makes of the events, and what it answers
abbrev pub TurnOn : Head → (seat : ℕ) → Op → (old new : List Event) → Turn → Type 0
TurnOn head k op old new (Made at) = Adds (next_event head old k op) at None old new
TurnOn head k op old new (Answered (Some at) answer) = Adds (next_event head old k op) at (Some answer) old new
TurnOn head k op old new (Answered None answer) = LacksRoom head k op answer old new
TurnOn head k op old new (NotYet why) = new ≡ old

-- what a thread's turn makes of them
abbrev pub ServedOn : Head → (seat : ℕ) → (old new : List Event) → Turn → Type 0
ServedOn head k old new (Made at) = Adds (due_entry head old k) at None old new
ServedOn head k old new (NotYet Idle) = (due_entry head old k ≡ None) × (new ≡ old)
ServedOn head k old new (NotYet (HookOut state)) = new ≡ old
ServedOn head k old new _ = ⊥

-- what a turn may be asked for with, by a front: the conditions of a turn of the board
pub record CanAsk (head : Head) (front : List Event) (seat : ℕ) (op : Op) (hook : Bool) : Type 0 where
  pub allowed : IsAllowed head front (record { seat = seat; op = op })
  pub hook_is : hook ≡ has_hook front seat op

-- a section with a turn of a client's seat: the lock gave a journal that the old front stands for, and the turn
-- made the new front of it
pub record TurnedIn (head : Head) (seat : ℕ) (op : Op) (had has : Bool) (old new : List Event) (turn : Turn) : Type 0 where
  pub found : List Event
  pub seen : StandsFor (Some seat) old found
  pub lawful : IsLawful head found
  pub asked : CanAsk head found seat op had
  pub turned : TurnOn head seat op found new turn
  pub hook : has ≡ has_hook_after found (next_event head found seat op) had
  pub again : goes_on turn ≡ true → has ≡ has_hook new seat op

-- a section in which memory was wanting: it made nothing
pub record WantedIn (head : Head) (seat : ℕ) (op : Op) (old new : List Event) : Type 0 where
  pub seen : StandsFor (Some seat) old new
  pub lawful : IsLawful head new
  pub takes_room : TakesRoom head new (next_event head new seat op)

-- a section in which the hook of the entry that is due from a seat was lent to it: it made no event
pub record LentIn (head : Head) (seat : ℕ) (old new : List Event) : Type 0 where
  pub seen : StandsFor (Some seat) old new
  pub lawful : IsLawful head new

-- a section with a turn of a thread's seat
pub record ServedIn (head : Head) (seat : ℕ) (old new : List Event) (turn : Turn) : Type 0 where
  pub found : List Event
  pub seen : StandsFor (Some seat) old found
  pub lawful : IsLawful head found
  pub served : ServedOn head seat found new turn

-- a section in which a seat makes the entry that is due from it, at this place
pub record EntersIn (head : Head) (seat : ℕ) (old new : List Event) (at : ℕ) : Type 0 where
  pub found : List Event
  pub seen : StandsFor (Some seat) old found
  pub lawful : IsLawful head found
  pub entered : Adds (due_entry head found seat) at None found new

-- a section in which a seat leaves
pub record LeavesIn (head : Head) (seat : ℕ) (old new : List Event) : Type 0 where
  pub found : List Event
  pub seen : StandsFor (Some seat) old found
  pub lawful : IsLawful head found
  pub new_is : new ≡ found ++ Leave seat ∷ []

-- a section in which a seat comes in, by a pass that may admit: past the old front there is no other Admit, and no other event
-- of the seat
pub record AdmitsIn (head : Head) (role : Role) (old new : List Event) (seat : ℕ) : Type 0 where
  pub found : List Event
  pub knew : Knows None true old found
  pub lawful : IsLawful head found
  pub seat_is : seat ≡ admits found
  pub free : refusal_of head found role ≡ None
  pub new_is : new ≡ found ++ Admit seat role ∷ []
  pub grew : Grew seat old new (Admit seat role ∷ [])

-- a section in which none did
pub record RefusesIn (head : Head) (role : Role) (old new : List Event) (error : AdmitError) : Type 0 where
  pub knew : Knows None true old new
  pub refused : error ≢ NoMemory → refusal_of head new role ≡ Some error
  pub no_memory : error ≡ NoMemory → refusal_of head new role ≡ None
