-- What a turn of a client's seat finds for its operation: an event of it that stands, no room for its first event,
-- something that it waits for, or a thread that has to make the next entry. This project's own.
use Rattle.std.specs.Prelude.{◌≡◌, ℕ, Some, None, List, ◌⊎◌}
use Rattle.hp_event.specs.declared.op.Op.{Op}
use Rattle.hp_event.specs.declared.head.Head.{Head}
use Rattle.hp_event.specs.declared.event.Event.{Event}
use Rattle.hp_model.specs.Events.{seat_of, BelongsTo}
use Rattle.hp_model.specs.Waits.{Wait}
use Rattle.hp_model.specs.SeatWaits.{wait}
use Rattle.hp_model.specs.Refusals.{refusal}
use Rattle.hp_model.specs.Lawful.{Stands, IsLawful}
use Rattle.hp_model.specs.Full.{IsFull}
use Rattle.hp_model.specs.Pending.{Pending, IsAllowed}
use Rattle.hp_model.specs.ApTurn.{IsApTurn}

-- an event of the operation that can stand next
abbrev pub IsEventFor : Head → List Event → Pending → Event → Type 0
IsEventFor head events p e = Stands head events e × (seat_of e ≡ p.seat) × BelongsTo p.op e

abbrev pub HasEvent : Head → List Event → Pending → Type 0
HasEvent head events p = (e : Event) × Stands head events e × (seat_of e ≡ p.seat) × BelongsTo p.op e

-- where an operation is refused at once, it isn't asked what it waits for
abbrev pub IsKeptWaiting : Head → List Event → Pending → Type 0
IsKeptWaiting head events p =
    (why : Wait) × (refusal head events p.seat p.op ≡ None) × (wait head events p.seat p.op ≡ Some why)

abbrev pub NeedsThread : Head → List Event → Pending → Type 0
NeedsThread head events p = (cpu : ℕ) × IsApTurn head events p.seat cpu

-- the turn makes no event: there is no room for the first one, or it waits, or a thread has to make the next entry
abbrev pub MakesNone : Head → List Event → Pending → Type 0
MakesNone head events p =
    IsFull head events p.seat p.op ⊎ (IsKeptWaiting head events p ⊎ NeedsThread head events p)

abbrev pub TurnFinds : Head → List Event → Pending → Type 0
TurnFinds head events p = HasEvent head events p ⊎ MakesNone head events p

-- at most one of the four
pub record FindsOne (head : Head) (events : List Event) (p : Pending) : Type 0 where
  pub event_full : HasEvent head events p → IsFull head events p.seat p.op → ⊥
  pub event_waits : HasEvent head events p → IsKeptWaiting head events p → ⊥
  pub event_thread : HasEvent head events p → NeedsThread head events p → ⊥
  pub full_waits : IsFull head events p.seat p.op → IsKeptWaiting head events p → ⊥
  pub full_thread : IsFull head events p.seat p.op → NeedsThread head events p → ⊥
  pub waits_thread : IsKeptWaiting head events p → NeedsThread head events p → ⊥

-- a fact of each operation that a turn may be for, after a lawful journal
abbrev pub EachAllowed : Head → List Event → (Head → List Event → Pending → Type 0) → Type 0
EachAllowed head events Fact = (p : Pending) → IsLawful head events → IsAllowed head events p → Fact head events p

-- an event that can stand next, of the same seat and of the same operation as another, is that one
abbrev pub AreOneNext : Head → List Event → Op → (one other : Event) → Type 0
AreOneNext head events op one other =
    Stands head events one → Stands head events other → seat_of one ≡ seat_of other →
    BelongsTo op one → BelongsTo op other → one ≡ other
