-- Actors that are passed over: where an operation waits to begin, or in flight for a thread, by which events a wait can end, and what
-- a run knows of the actors that wait. This project's own.
use Rattle.std.specs.Prelude.{◌≡◌, ℕ, ◌+◌, ◌≤◌, Bool, true, false, IfSome, Option, Some, None, List, [], ◌∷◌, ◌++◌, length, slice_get}
use Rattle.hp_event.specs.declared.op.Op.{Op}
use Rattle.hp_event.specs.declared.head.Head.{Head}
use Rattle.hp_event.specs.declared.event.Event.{Event}
use Rattle.hp_event.specs.declared.event.Event.TheVariants.{WalkEnd, OpEnd, RegEnd}
use Rattle.hp_model.specs.ApTurn.{IsApTurn}
use Rattle.hp_model.specs.MapLock.{is_map_op}
use Rattle.hp_model.specs.NextEvent.{next_event, is_full}
use Rattle.hp_model.specs.RefusalsAtOnce.{first_that_holds, refusals_at_once}
use Rattle.hp_model.specs.Seats.{is_busy}
use Rattle.hp_model.specs.Waits.{is_waiting}
use Rattle.hp_board.specs.Contents.{Contents}
use Rattle.hp_board.specs.declared.turn.Turn.{Turn}
use Rattle.hp_board.specs.declared.turn.Turn.TheVariants.{NotYet}
use Rattle.hp_actors.specs.Actors.{wait_for}
use Rattle.hp_actors.specs.declared.actor.Actor.{Actor}
use Rattle.hp_actors.specs.declared.actor.Waits.{Waits}
use Rattle.hp_actors.specs.declared.actor.Waits.TheVariants.{Unknown, WhileMapHeld, UntilEnd, Forever}
use Rattle.hp_actors.specs.ActorTurns.{asked}

-- a turn for the operation makes no event, and doesn't answer it
pub record MakesNoEvent (head : Head) (events : List Event) (seat : ℕ) (op : Op) : Type 0 where
  pub no_event : next_event head events seat op ≡ None
  pub not_full : is_full head events seat op ≡ false

-- the next entry of what it has in flight is a thread's to make
abbrev pub WaitsForThread : Head → List Event → (seat : ℕ) → Type 0
WaitsForThread head events k = (cpu : ℕ) × IsApTurn head events k cpu

-- nothing of the seat is in flight, and its operation isn't refused at once
pub record IsReady (head : Head) (events : List Event) (seat : ℕ) (op : Op) : Type 0 where
  pub idle : is_busy seat events ≡ false
  pub not_refused : first_that_holds (refusals_at_once head events seat op) ≡ None

-- but can't begin
pub record IsWaiting (head : Head) (events : List Event) (seat : ℕ) (op : Op) : Type 0 where
  pub ready : IsReady head events seat op
  pub waits : is_waiting events op ≡ true

-- what is waited for is in flight until it ends
abbrev pub is_end : Event → Bool
is_end (WalkEnd seat cpu answer) = true
is_end (OpEnd seat answer) = true
is_end (RegEnd seat answer) = true
is_end _ = false

abbrev pub EndsNothing : Option Event → Type 0
EndsNothing o = IfSome o (λ e. is_end e ≡ false)

-- the last end, by what it was before the last event
abbrev pub IsLastEnd : List Event → (before now : ℕ) → Type 0
IsLastEnd events last now =
    (before : List Event) (event : Event) → events ≡ before ++ event ∷ [] → last ≤ length before → now ≡ last →
    is_end event ≡ false

-- a turn for this makes nothing: it waits, or there is no operation
abbrev pub MakesNothing : Head → List Event → (seat : ℕ) → Option Op → Type 0
MakesNothing head events k None = Unit {0}
MakesNothing head events k (Some op) = IsWaiting head events k op

-- it waits whenever the map lock is held, or there is no operation
abbrev pub NeedsMap : Head → List Event → (seat : ℕ) → Option Op → Type 0
NeedsMap head events k None = Unit {0}
NeedsMap head events k (Some op) = IsReady head events k op × (is_map_op op ≡ true)

-- what is known of an operation for which a seat has turns
abbrev pub IsKnown : Head → List Event → (last_end seat : ℕ) → Option Op → Waits → Type 0
IsKnown head events last k op Unknown = Unit {0}
IsKnown head events last k op WhileMapHeld = NeedsMap head events k op
IsKnown head events last k op (UntilEnd since) = (since ≤ last) × (since ≡ last → MakesNothing head events k op)
IsKnown head events last k op Forever = op ≡ None

abbrev pub KnowsWait : {H : Type 0} → Head → List Event → (last_end seat : ℕ) → Actor H → Type 0
KnowsWait head events last k actor = IsKnown head events last k (asked actor) actor.waits

pub record KnowsWaits {H : Type 0} (board : Contents) (threads last_end : ℕ) (actors : List (Actor H)) : Type 0 where
  pub made : last_end ≤ length board.events
  pub each : (i : ℕ) (actor : Actor H) → slice_get actors i ≡ Some actor → KnowsWait board.head board.events last_end (threads + i) actor

-- what is noted of waiting after a turn of a seat: where nothing of it is in flight, for how long it waits for what it waits for
abbrev pub wait_after : (had : Waits) → Turn → (busy : Bool) → (last_end : ℕ) → Waits
wait_after had (NotYet why) false last = wait_for why last
wait_after had turn busy last = had

abbrev pub waited : {H : Type 0} → Actor H → Turn → (busy : Bool) → (last_end : ℕ) → Actor H
waited actor turn busy last = record actor { waits = wait_after actor.waits turn busy last }
