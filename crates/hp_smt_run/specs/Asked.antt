-- What a turn under SMT control makes of an actor: its operation was denied, or its turn is the machine's. This project's own.
use Rattle.std.specs.Prelude.{◌≡◌, ◌⊎◌, ℕ, ◌+◌, true, false, Some, List, [], ◌∷◌, ◌++◌}
use Rattle.hp_event.specs.declared.op.Op.{Op}
use Rattle.hp_actors.specs.declared.actor.Actor.{Actor}
use Rattle.hp_actors.specs.ActorTurns.{asked, answered_after, events_after}
use Rattle.hp_actors.specs.Positions.{ops_of}
use Rattle.hp_actors.specs.Racks.{hooks_beside}
use Rattle.hp_actors.specs.RunInvariant.{HasHook}
use Rattle.hp_smt.specs.Contents.{Controlled}
use Rattle.hp_smt.specs.Turns.{MovesBoard, is_denied}

-- the operation has ended without an event, and its seat is noted
pub record IsDenied {H : Type 0} (seat : ℕ) (old new : Controlled) (actor now : Actor H) (seats seats_now : List ℕ) : Type 0 where
  pub op : Op
  pub asked_is : asked actor ≡ Some op
  pub denied : is_denied old seat op ≡ true
  pub same : new ≡ old
  pub answered_is : now.answered ≡ actor.answered + 1
  pub ops_are : ops_of now ≡ ops_of actor
  pub hook : HasHook old.board.events seat now
  pub kept : hooks_beside new.board now ≡ hooks_beside old.board actor
  pub denied_are : seats_now ≡ seats ++ seat ∷ []

pub record IsLetThrough {H : Type 0} (seat : ℕ) (old new : Controlled) (actor now : Actor H) (seats seats_now : List ℕ) : Type 0 where
  pub let_through : (op : Op) → asked actor ≡ Some op → is_denied old seat op ≡ false
  pub moves : MovesBoard old new
  pub head_is : new.board.head ≡ old.board.head
  pub events_are : new.board.events ≡ events_after old.board seat actor
  pub answered_is : now.answered ≡ answered_after old.board seat actor
  pub ops_are : ops_of now ≡ ops_of actor
  pub hook : HasHook new.board.events seat now
  pub kept : hooks_beside new.board now ≡ hooks_beside old.board actor
  pub denied_are : seats_now ≡ seats

abbrev pub IsStepped : {H : Type 0} → (seat : ℕ) → (old new : Controlled) → (actor now : Actor H) → (seats seats_now : List ℕ) → Type 0
IsStepped k old new actor now seats seats_now =
    IsDenied k old new actor now seats seats_now ⊎ IsLetThrough k old new actor now seats seats_now
