-- Where an operation of the map lock begins and ends, where its walks do, and where an operation is refused.
-- This project's own.
use Rattle.std.specs.Prelude.{◌≡◌, ℕ, true, false, Some, None, List, ◌⊎◌}
use Rattle.hp_event.specs.declared.op.Op.{Op}
use Rattle.hp_event.specs.declared.answer.Answer.{Answer}
use Rattle.hp_event.specs.declared.answer.Answer.TheVariants.{LogFull}
use Rattle.hp_event.specs.declared.head.Head.{Head}
use Rattle.hp_event.specs.declared.event.Event.{Event}
use Rattle.hp_event.specs.declared.event.Event.TheVariants.{WalkBegin}
use Rattle.hp_model.specs.Walks.{Walk, walk, walk_entries, is_walking}
use Rattle.hp_model.specs.MapLock.{is_map_op, Operation, operation}
use Rattle.hp_model.specs.Seats.{IsFree}
use Rattle.hp_model.specs.Waits.{wait_to_walk}
use Rattle.hp_model.specs.Registered.{keys}
use Rattle.hp_model.specs.Settled.{settled}
use Rattle.hp_model.specs.Sequence.{next, walks, ends, is_between}
use Rattle.hp_model.specs.Subsystems.{names_sub}
use Rattle.hp_model.specs.Refusals.{refusal, Passes}
use Rattle.hp_model.specs.Room.{has_room}
use Rattle.hp_model.specs.Plan.{direction, plan}
use Rattle.hp_model.specs.WalkShape.{IsWholeWalk}
use Rattle.hp_model.specs.BatchTurn.{has_turn}

pub record Enters (head : Head) (before : List Event) (seat : ℕ) (op : Op) : Type 0 where
  pub free : IsFree before seat
  pub has_sub : names_sub head op ≡ true
  pub takes_map : is_map_op op ≡ true
  pub passes : Passes head before seat op

pub record IsRefused (head : Head) (before : List Event) (seat errno : ℕ) (op : Op) : Type 0 where
  pub free : IsFree before seat
  pub has_sub : names_sub head op ≡ true
  pub refused : refusal head before seat op ≡ Some errno

pub record WalkBegins (head : Head) (before : List Event) (seat cpu from to : ℕ) : Type 0 where
  pub of : Operation
  pub held : operation before ≡ Some of
  pub seat_is : of.seat ≡ seat
  pub between : is_between of.op before ≡ true
  pub gives : next head before of.before of.op ≡ walks cpu to
  pub from_is : from ≡ settled cpu before
  pub no_wait : wait_to_walk before ≡ None

pub record WalkEnds (head : Head) (before : List Event) (seat cpu : ℕ) (answer : Answer) : Type 0 where
  pub of : Walk
  pub in_flight : walk cpu before ≡ Some of
  pub seat_is : of.seat ≡ seat
  pub turn : has_turn head before seat cpu ≡ true
  pub whole :
      IsWholeWalk cpu (keys head of.before) (direction of.from of.to) (plan (keys head of.before) of.from of.to)
      (walk_entries cpu before) answer

-- what comes next is the end
pub record IsOver (head : Head) (before : List Event) (seat : ℕ) (answer : Answer) : Type 0 where
  pub of : Operation
  pub held : operation before ≡ Some of
  pub seat_is : of.seat ≡ seat
  pub no_walk : is_walking before ≡ false
  pub gives : next head before of.before of.op ≡ ends answer

-- what comes next is a walk that could begin, and is kept out by room alone
pub record IsCut (head : Head) (before : List Event) (seat : ℕ) (answer : Answer) : Type 0 where
  pub cpu : ℕ
  pub from : ℕ
  pub to : ℕ
  pub begins : WalkBegins head before seat cpu from to
  pub no_room : has_room head before (WalkBegin seat cpu from to) ≡ false
  pub answer_is : answer ≡ LogFull

abbrev pub OpEnds : Head → (before : List Event) → (seat : ℕ) → Answer → Type 0
OpEnds head before seat answer = IsOver head before seat answer ⊎ IsCut head before seat answer
