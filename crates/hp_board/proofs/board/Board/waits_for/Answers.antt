use Rattle.std.proofs.Common.{◌≡◌, ℕ, false, Some, ◌∙◌, inl, sym, subst}
use Rattle.std.proofs.lemmas.Bool.{true≢false}
use Rattle.hp_machine.proofs.ThreadsWaited.{one_wait}
use Rattle.hp_event.specs.declared.op.Op.{Op}
use Rattle.hp_model.specs.ApTurn.{IsApTurn}
use Rattle.hp_model.specs.Lawful.{IsLawful}
use Rattle.hp_table.specs.Step.{step_at, is_home}
use Rattle.hp_machine.specs.Next.{IsKept}
use Rattle.hp_account.specs.UnderWay.{hook_asked}
use Rattle.hp_locks.specs.declared.why.Why.TheVariants.{ApTurn}
use Rattle.hp_board.specs.Contents.{Contents}
use Rattle.hp_board.specs.Loans.{WaitsForThread}
use Rattle.hp_board.proofs.OwnEntries.{one_asked}
use Rattle.hp_board.proofs.board.Board.waits_for.Goals as goal

out_for : (b : Contents) (cpu s seat : ℕ) (op : Op) → is_home (step_at b.places s) ≡ false →
    ((seat : ℕ) (turn : IsApTurn b.head b.events seat cpu) → hook_asked turn.state turn.how ≡ Some s) →
    IsKept b.head b.events seat op (ApTurn cpu) → WaitsForThread b s seat op
out_for b cpu s seat op away asks kept = record { cpu = cpu; kept = kept; asks = asks seat kept.why_is; away = away }

pub returns-in-Some : goal.returns-in-Some
returns-in-Some g c = λ seat op kept.
    let b = c.args.self.now in
    let h = c.in-Some.ensures in
    inl (out_for b c.in-ApTurn.cpu c.in-Some.state seat op h.some h.asks (subst (IsKept b.head b.events seat op) c.in-ApTurn.is kept))

pub returns-in-None : goal.returns-in-None
returns-in-None g c = λ seat op kept.
    let b = c.args.self.now in
    let lawful = subst (λ (b : Contents). IsLawful b.head b.events) c.self.view_is c.sound.ensures.lawful in
    let here = subst (IsKept b.head b.events seat op) c.in-ApTurn.is kept in (
      here,
      λ s w.
          let a = w.kept.why_is in
          let same = one_wait b.head b.events seat c.in-ApTurn.cpu w.cpu lawful here.why_is a in
          let asks = one_asked b.head b.events seat c.in-ApTurn.cpu w.cpu here.why_is a lawful same ∙ w.asks in
          true≢false (sym (c.in-None.ensures.none seat s here.why_is asks) ∙ w.away),
    )
