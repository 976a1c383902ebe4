-- How far a run is after a turn: what the machine appended, and whether an operation is answered.
use Rattle.std.proofs.Common.{◌≡◌, ℕ, ◌+◌, ◌-◌, ◌<◌, ◌≤◌, Bool, false, ltb, Option, Some, None, List, [], ◌∷◌, ◌++◌, length, refl, ap, sym, ◌∙◌, arith}
use Rattle.std.specs.Prelude.{option_to_list}
use Rattle.std.proofs.lemmas.Bool.{lt-ltb}
use Rattle.std.proofs.lemmas.List.{append-nil}
use Rattle.std.proofs.lemmas.Option.{slice_get_past}
use Rattle.hp_states.proofs.Basics.{not_below}
use Rattle.hp_event.specs.declared.op.Op.{Op}
use Rattle.hp_event.specs.declared.head.Head.{Head}
use Rattle.hp_event.specs.declared.event.Event.{Event}
use Rattle.hp_model.specs.Processors.{present}
use Rattle.hp_model.specs.ScriptRun.{start}
use Rattle.hp_model.specs.NextEvent.{due_entry, next_event, is_full}
use Rattle.hp_model.specs.ScriptTurns.{RunState, unanswered, counted, after_entry, after_event, after_asking, turn, after_turns}
use Rattle.hp_actors.specs.RunInvariant.{IsReached}
use Rattle.hp_actors.specs.ActorTurns.{is_answered, event_for, answers_for}

-- one turn more
pub turns_push : (head : Head) (actors : List (List Op)) (at : RunState) (seats : List ℕ) (k : ℕ) →
    after_turns head actors at (seats ++ k ∷ []) ≡ turn head actors (after_turns head actors at seats) k
unfolding after_turns
turns_push head actors at [] k = refl
turns_push head actors at (s ∷ ss) k = turns_push head actors (turn head actors at s) ss k

pub turns_none : (head : Head) (actors : List (List Op)) (at : RunState) → after_turns head actors at [] ≡ at
unfolding after_turns
turns_none head actors at = refl

pub turns_more : (head : Head) (actors : List (List Op)) (at : RunState) (xs ys : List ℕ) →
    after_turns head actors at (xs ++ ys) ≡ after_turns head actors (after_turns head actors at xs) ys
unfolding after_turns
turns_more head actors at [] ys = refl
turns_more head actors at (s ∷ ss) ys = turns_more head actors (turn head actors at s) ss ys

pub reached_more : (head : Head) (actors : List (List Op)) (at : RunState) (k : ℕ) → IsReached head actors at →
    IsReached head actors (turn head actors at k)
reached_more head actors at k r =
    (r.0 ++ k ∷ [], ap (λ z. turn head actors z k) r.1 ∙ sym (turns_push head actors (start head actors) r.0 k))

pub entry_is : (o : Option Event) (at : RunState) → after_entry o at ≡ record { events = at.events ++ option_to_list o; answers = at.answers }
entry_is None at = ap (λ es. record { events = es; answers = at.answers }) (sym (append-nil at.events))
entry_is (Some e) at = refl

-- the turn of a processor's thread
pub thread_turn : (head : Head) (actors : List (List Op)) (at : RunState) (k : ℕ) → k < length (present head) →
    turn head actors at k ≡ record { events = at.events ++ option_to_list (due_entry head at.events k); answers = at.answers }
thread_turn head actors at k below = rw (lt-ltb k (length (present head)) below) (entry_is (due_entry head at.events k) at)

-- nothing is done where no entry is due
pub idle_turn : (head : Head) (actors : List (List Op)) (at : RunState) (k : ℕ) → k < length (present head) →
    due_entry head at.events k ≡ None → turn head actors at k ≡ at
idle_turn head actors at k below none = rw (lt-ltb k (length (present head)) below, none) refl

pub event_is : (i : ℕ) (o : Option Event) (full : Bool) (at : RunState) →
    after_event i o full at
    ≡ record { events = at.events ++ option_to_list o; answers = counted i (is_answered o full) at.answers }
event_is i None full at = ap (λ es. record { events = es; answers = counted i full at.answers }) (sym (append-nil at.events))
event_is i (Some e) full at = refl

pub asking_is : (head : Head) (k i : ℕ) (o : Option Op) (at : RunState) →
    after_asking head k i o at
    ≡ record {
      events = at.events ++ option_to_list (event_for head at.events k o);
      answers = counted i (answers_for head at.events k o) at.answers;
    }
asking_is head k i None at = ap (λ es. record { events = es; answers = at.answers }) (sym (append-nil at.events))
asking_is head k i (Some op) at = event_is i (next_event head at.events k op) (is_full head at.events k op) at

-- the turn of an actor's seat, or of a number that is no seat
pub actor_turn : (head : Head) (actors : List (List Op)) (at : RunState) (k i : ℕ) → k ≡ length (present head) + i →
    turn head actors at k
    ≡ record {
      events = at.events ++ option_to_list (event_for head at.events k (unanswered actors at.answers i));
      answers = counted i (answers_for head at.events k (unanswered actors at.answers i)) at.answers;
    }
actor_turn head actors at k i is =
    let P : ℕ = length (present head) in
    let past : ltb k P ≡ false = not_below k P (omega (arith, is)) in
    let place : k - P ≡ i = omega (arith, is) in
    rw (past, place) (asking_is head k i (unanswered actors at.answers i) at)

-- an actor that isn't there has nothing to be answered
pub no_actor : (actors : List (List Op)) (answers : List ℕ) (i : ℕ) → length actors ≤ i → unanswered actors answers i ≡ None
no_actor actors answers i past = rw (slice_get_past actors i past) refl

pub none_turn : (head : Head) (actors : List (List Op)) (at : RunState) (k i : ℕ) → k ≡ length (present head) + i →
    unanswered actors at.answers i ≡ None → turn head actors at k ≡ at
none_turn head actors at k i is none =
    let P : ℕ = length (present head) in
    let past : ltb k P ≡ false = not_below k P (omega (arith, is)) in
    let place : k - P ≡ i = omega (arith, is) in
    rw (past, place, none) refl
