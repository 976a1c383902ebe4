use Rattle.std.proofs.Common.{◌≡◌, false, true, refl, sym, ◌∙◌, arith}
use Rattle.hp_model.specs.Suspend.{is_ok}
use Rattle.hp_suspend.proofs.Batched.{batch_took}
use Rattle.hp_suspend.proofs.batch.Batch.took.Goals as goal

pub returns-then-not-is_ok : goal.returns-then-not-is_ok
returns-then-not-is_ok c =
    let e : is_ok c.args.answer ≡ false = sym c.is_ok.ensures ∙ c.if-not-is_ok.true in
    record { batching = batch_took c.args.self.now _ c.args.answer refl refl (rw e (omega arith)); one_more = omega arith }

pub returns-else-not-is_ok : goal.returns-else-not-is_ok
returns-else-not-is_ok c =
    let e : is_ok c.args.answer ≡ true = sym c.is_ok.ensures ∙ c.if-not-is_ok.false in
    record { batching = batch_took c.args.self.now _ c.args.answer refl refl (rw e (omega arith)); one_more = omega arith }
