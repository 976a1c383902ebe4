use Rattle.std.proofs.Common.{◌≡◌, ◌↔◌, ℕ, IsTrue, true, Some, None, ◌∙◌, refl, sym, subst}
use Rattle.hp_event.specs.declared.op.Op.{Op}
use Rattle.hp_model.specs.Pending.{IsInFlight}
use Rattle.hp_board.specs.Contents.{Contents}
use Rattle.hp_board.proofs.board.Board.is_of.Goals as goal

same : (a b : Op) → Some a ≡ Some b → a ≡ b
same a b h = cc

none_some : (a : Op) → None ≡ Some a → ⊥
none_some a h = cc

abbrev Only : Contents → (seat : ℕ) → Op → Type 0
Only b k op = (x : Op) → IsInFlight b.events (record { seat = k; op = x }) → x ≡ op

pub returns-in-Some : goal.returns-in-Some
returns-in-Some g c =
    let op = c.in-Some.in_flight in
    let flies = (c.op.ensures op).1 c.in-Some.is in
    subst (λ (b : Contents). IsTrue c.is_same.result ↔ Only b c.args.seat c.args.op.now) c.self.view_is (
      λ yes x there. same x op (sym ((c.op.ensures x).0 there) ∙ c.in-Some.is) ∙ c.is_same.ensures.0 yes,
      λ only. c.is_same.ensures.1 (only op flies),
    )

pub returns-in-None : goal.returns-in-None
returns-in-None g c =
    subst (λ (b : Contents). IsTrue true ↔ Only b c.args.seat c.args.op.now) c.self.view_is
    (λ yes x there. absurd (none_some x (sym c.in-None.is ∙ (c.op.ensures x).0 there)), λ only. refl)
