use Rattle.std.proofs.Common.{◌≡◌, ◌+◌, false, true, refl, ap, sym, ◌∙◌, arith}
use Rattle.hp_event.specs.Answers.{is_ok}
use Rattle.hp_suspend.specs.ByLists.{thaw_after}
use Rattle.hp_suspend.proofs.Taking.{thawing_took}
use Rattle.hp_suspend.proofs.thaw.Thaw.took.Goals as goal

pub returns-then-not-is_ok : goal.returns-then-not-is_ok
returns-then-not-is_ok c =
    let e : is_ok c.args.answer ≡ false = sym c.is_ok.ensures ∙ c.if-not-is_ok.true in
    let is : _ ≡ thaw_after c.args.self.now c.args.answer = rw e refl in
    record { thawing = thawing_took c.args.self.now _ c.args.answer is; counted = is }

pub returns-else-not-is_ok : goal.returns-else-not-is_ok
returns-else-not-is_ok c =
    let e : is_ok c.args.answer ≡ true = sym c.is_ok.ensures ∙ c.if-not-is_ok.false in
    let same : c.args.self.now.failed ≡ c.args.self.now.failed + 0 = omega arith in
    let is : c.args.self.now ≡ thaw_after c.args.self.now c.args.answer = rw e (ap (λ n. record { failed = n }) same) in
    record { thawing = thawing_took c.args.self.now _ c.args.answer is; counted = is }
