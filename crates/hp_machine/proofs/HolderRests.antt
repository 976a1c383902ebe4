-- The operation that holds the map lock is one that a turn may ask for; of a seat that has one in flight what comes next doesn't ask
-- which it is, and nothing does while the seat waits for a processor's thread.
use Rattle.std.proofs.Common.{◌≡◌, ℕ, true, false, Some, None, List, inl, inr, refl, ap, sym, ◌∙◌}
use Rattle.std.proofs.lemmas.Bool.{eq-eqb}
use Rattle.hp_states.proofs.Basics.{same_some}
use Rattle.hp_event.specs.declared.op.Op.{Op}
use Rattle.hp_event.specs.declared.head.Head.{Head}
use Rattle.hp_event.specs.declared.event.Event.{Event}
use Rattle.hp_model.specs.ApTurn.{IsApTurn}
use Rattle.hp_model.specs.Lawful.{IsLawful}
use Rattle.hp_model.specs.MapLock.{Operation, operation}
use Rattle.hp_model.specs.NextEvent.{next_event, is_full}
use Rattle.hp_model.specs.Pending.{Pending, IsInFlight, IsAllowed}
use Rattle.hp_model.specs.Seats.{is_busy}
use Rattle.hp_model.proofs.NextGives.{next_nothing}
use Rattle.hp_model.proofs.Operations.{Entered}
use Rattle.hp_model.proofs.Owners.{Owners}
use Rattle.hp_model.proofs.SomeMoves.{facts}

-- the holder's operation, as one that isn't answered
abbrev pub held_as : Operation → Pending
held_as o = record { seat = o.seat; op = o.op }

pub held_allowed : (head : Head) (es : List Event) (o : Operation) → IsLawful head es → operation es ≡ Some o →
    IsAllowed head es (held_as o)
held_allowed head es o lawful held = record { client = own.op_client o held; same = same; has_sub = entered.enters.has_sub }
  where
    own : Owners es
    own = (facts head es lawful).owners

    entered : Entered head o
    entered = let k = (facts head es lawful).operations in rw held at k.entered

    same : (op : Op) → IsInFlight es (record { seat = o.seat; op = op }) → op ≡ o.op
    same op (inl p) = sym p.3 ∙ ap (λ z. z.op) (same_some p.0 o (sym p.1 ∙ held))
    same op (inr r) = absurd (own.apart o r.0 held r.1 (sym r.2))

pub holder_busy : (es : List Event) (o : Operation) → operation es ≡ Some o → is_busy o.seat es ≡ true
holder_busy es o held = let own = eq-eqb o.seat o.seat refl in rw (held, own) refl

pub next_same : (head : Head) (es : List Event) (k : ℕ) (op other : Op) → is_busy k es ≡ true →
    next_event head es k op ≡ next_event head es k other
unfolding next_event
next_same head es k op other busy = rw busy refl

-- and it has its room
pub not_full : (head : Head) (es : List Event) (k : ℕ) (op : Op) → is_busy k es ≡ true → is_full head es k op ≡ false
unfolding is_full
not_full head es k op busy = rw busy refl

pub held_up_rests : (head : Head) (es : List Event) (o : Operation) (c : ℕ) (op : Op) → IsLawful head es → operation es ≡ Some o →
    IsApTurn head es o.seat c → next_event head es o.seat op ≡ None
held_up_rests head es o c op lawful held turn =
    next_same head es o.seat op o.op (holder_busy es o held)
    ∙ (next_nothing head es (held_as o) lawful (held_allowed head es o lawful held)).1 (inr (inr (c, turn)))
