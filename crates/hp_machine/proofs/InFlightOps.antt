-- The operation of the seat that holds the map lock is the one that it has in flight.
use Rattle.std.proofs.Common.{◌≡◌, ◌↔◌, ℕ, Some, List, inl, inr, sym, ap, ◌∙◌}
use Rattle.hp_states.proofs.Basics.{same_some}
use Rattle.hp_event.specs.declared.head.Head.{Head}
use Rattle.hp_event.specs.declared.op.Op.{Op}
use Rattle.hp_event.specs.declared.event.Event.{Event}
use Rattle.hp_model.specs.Lawful.{IsLawful}
use Rattle.hp_model.specs.MapLock.{Operation}
use Rattle.hp_model.specs.Pending.{IsInFlight}
use Rattle.hp_model.proofs.OneNext.{owners}
use Rattle.hp_account.specs.declared.operation.MapOperation.{MapOperation}
use Rattle.hp_account.specs.Operations.{IsHeld}

held_op : (head : Head) (es : List Event) (h : MapOperation) (k : ℕ) (op : Op) → IsLawful head es → IsHeld head es h → h.seat ≡ k →
    IsInFlight es (record { seat = k; op = op }) → h.op ≡ op
held_op head es h k op lawful is by (inl f) =
    is.op_is ∙ ap (λ (o : Operation). o.op) (same_some is.of f.0 (sym is.held ∙ f.1)) ∙ f.3
held_op head es h k op lawful is by (inr f) =
    absurd ((owners head es lawful).apart is.of f.0 is.held f.1 (sym is.seat_is ∙ by ∙ sym f.2))

pub held_op_is : (head : Head) (es : List Event) (h : MapOperation) (k : ℕ) (op : Op) → IsLawful head es → IsHeld head es h → h.seat ≡ k →
    IsInFlight es (record { seat = k; op = op }) ↔ (Some h.op ≡ Some op)
held_op_is head es h k op lawful is by = (
  λ flies. ap Some (held_op head es h k op lawful is by flies),
  λ same. inl (is.of, is.held, sym is.seat_is ∙ by, sym is.op_is ∙ same_some h.op op same),
)
