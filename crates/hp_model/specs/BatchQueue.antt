-- The walks of an upmany that its seat goes on with, as a queue: they stand in the order of their last events, so the first of them has
-- the turn, and one event more takes one out and puts one at the end. This project's own.
use Rattle.std.specs.Prelude.{◌≡◌, ◌≢◌, ℕ, ◌<◌, ◌≤◌, Bool, true, false, ◌==◌, if◌then◌else◌, Option, Some, None, List, [], ◌∷◌, ◌++◌, length}
use Rattle.hp_event.specs.declared.head.Head.{Head}
use Rattle.hp_event.specs.declared.event.Event.{Event}
use Rattle.hp_event.specs.declared.event.Event.TheVariants.{WalkBegin, Call, WalkEnd}
use Rattle.hp_model.specs.Batch.{is_upmany, to_begin}
use Rattle.hp_model.specs.BatchTurn.{last_event, is_by, own_walks, turn_of}
use Rattle.hp_model.specs.Events.{seat_of}
use Rattle.hp_model.specs.Lawful.{Comes}
use Rattle.hp_model.specs.Lists.{occurs, among}
use Rattle.hp_model.specs.MapLock.{Operation, operation}
use Rattle.hp_model.specs.NextInWalk.{next_of_walk}
use Rattle.hp_model.specs.Walks.{walk}

-- each place is before all later ones
abbrev pub RiseBy : (place : ℕ → ℕ) → List ℕ → Type 0
RiseBy place [] = Unit {0}
RiseBy place (c ∷ cs) = ((d : ℕ) → 0 < occurs d cs → place c < place d) × RiseBy place cs

-- the same numbers, in the order of their last events
pub record IsQueue (head : Head) (events : List Event) (seat : ℕ) (queue : List ℕ) : Type 0 where
  pub rises : RiseBy (λ c. last_event c events) queue
  pub same : (c : ℕ) → among c queue ≡ among c (own_walks head events seat)

abbrev pub first : List ℕ → Option ℕ
first [] = None
first (c ∷ cs) = Some c

-- whether the next event of the walk of a processor is a seat's
abbrev pub is_own : Head → List Event → (seat cpu : ℕ) → Bool
is_own head events k c = is_by k (next_of_walk head events c (walk c events))

-- without a number at its front
abbrev pub from_front : (cpu : ℕ) → List ℕ → List ℕ
from_front c [] = []
from_front c (d ∷ ds) = if d == c then ds else d ∷ ds

abbrev pub at_end : Bool → (cpu : ℕ) → List ℕ → List ℕ
at_end true c queue = queue ++ c ∷ []
at_end false c queue = queue

-- a queue after one event: of a walk, its processor isn't at the front any more, and at the end where its next event is the seat's again
abbrev pub queue_after : (is_own : ℕ → Bool) → List ℕ → Event → List ℕ
queue_after own queue (WalkBegin seat c from to) = at_end (own c) c (from_front c queue)
queue_after own queue (Call seat c state inst dir how) = at_end (own c) c (from_front c queue)
queue_after own queue (WalkEnd seat c answer) = at_end (own c) c (from_front c queue)
queue_after own queue _ = queue

-- the first has the turn, where no walk is left to begin
abbrev pub FirstHasTurn : Head → List Event → (queue : List ℕ) → Type 0
FirstHasTurn head events queue =
    (seat : ℕ) → to_begin head events ≡ [] → IsQueue head events seat queue → turn_of head events seat ≡ first queue

-- an event that comes next, and leaves an upmany in flight, makes that of its queue
abbrev pub QueueMoves : Head → List Event → Event → (queue : List ℕ) → Type 0
QueueMoves head events e queue =
    (o : Operation) → Comes head events e → operation events ≡ Some o → is_upmany o.op ≡ true →
    operation (events ++ e ∷ []) ≡ Some o → IsQueue head events o.seat queue →
    IsQueue head (events ++ e ∷ []) o.seat (queue_after (is_own head (events ++ e ∷ []) o.seat) queue e)

-- it is no longer than there are possible processors
abbrev pub QueueFits : Head → List Event → (queue : List ℕ) → Type 0
QueueFits head events queue = (seat : ℕ) → IsQueue head events seat queue → length queue ≤ head.possible

-- an event of another seat that comes next leaves the turn where it is
abbrev pub KeepsTurn : Head → List Event → Event → Type 0
KeepsTurn head events e =
    (o : Operation) (cpu : ℕ) → Comes head events e → operation events ≡ Some o → is_upmany o.op ≡ true →
    seat_of e ≢ o.seat → turn_of head events o.seat ≡ Some cpu → turn_of head (events ++ e ∷ []) o.seat ≡ Some cpu
