-- What a seat makes of a journal, from what it has seen first up to its leave: an actor's, and a thread's. This project's own.
use Rattle.std.specs.Prelude.{◌≡◌, ℕ, Some, List, [], ◌∷◌}
use Rattle.hp_event.specs.declared.answer.Answer.{Answer}
use Rattle.hp_event.specs.declared.event.Event.{Event}
use Rattle.hp_event.specs.declared.head.Head.{Head}
use Rattle.hp_event.specs.declared.op.Op.{Op}
use Rattle.hp_model.specs.Front.{StandsFor}
use Rattle.hp_live.specs.Runs.{IsAnswered}
use Rattle.hp_live.specs.Sections.{LeavesIn}
use Rattle.hp_live.specs.Threads.{LeavesAfter}

-- An operation was answered: by its last event, and its seat has no event between the two fronts but those of it; or LogFull without an
-- event, where the new front has no room for its first.
pub record IsDone (head : Head) (seat : ℕ) (op : Op) (old new : List Event) : Type 0 where
  pub answer : Answer
  pub answered : IsAnswered head seat op old new answer

-- operations one after another, each once
abbrev pub Plays : Head → (seat : ℕ) → List Op → (old new : List Event) → Type 0
Plays head k [] old new = new ≡ old
Plays head k (op ∷ ops) old new = (mid : List Event) × IsDone head k op old mid × Plays head k ops mid new

-- and after them the leave
pub record Acts (head : Head) (seat : ℕ) (ops : List Op) (old new : List Event) : Type 0 where
  pub last : List Event
  pub plays : Plays head seat ops old last
  pub leaves : LeavesIn head seat last new

-- a journal in which an actor's seat has that past the first front, and nothing more
pub record HasActed (head : Head) (seat : ℕ) (ops : List Op) (first journal : List Event) : Type 0 where
  pub ended : List Event
  pub acts : Acts head seat ops first ended
  pub no_more : StandsFor (Some seat) ended journal

-- one in which the seat of a processor's thread has entries past it, then its leave, and nothing more
pub record HasServed (head : Head) (seat : ℕ) (first journal : List Event) : Type 0 where
  pub ended : List Event
  pub leaves : LeavesAfter head seat first ended
  pub no_more : StandsFor (Some seat) ended journal
