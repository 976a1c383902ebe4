use Rattle.std.proofs.Common.{◌≡◌, ◌+◌, Bool, false, true, cond, refl, ap, sym, ◌∙◌, arith}
use Rattle.hp_event.specs.declared.answer.Answer.{Answer}
use Rattle.hp_event.specs.Answers.{is_ok}
use Rattle.hp_suspend.specs.Booting.{is_fault}
use Rattle.hp_suspend.specs.declared.boot.Boot.{Boot}
use Rattle.hp_suspend.specs.ByLists.{boot_after}
use Rattle.hp_suspend.proofs.Taking.{booting_took}
use Rattle.hp_suspend.proofs.boot.Boot.took.Goals as goal
use Rattle.hp_suspend.proofs.boot.Boot.took.Goals.{then-not-is_ok, else-not-is_ok}

-- what the first `if` makes of the boot
abbrev counted_failure : (b : Boot) (ok : Bool) → Boot
counted_failure b ok = record { max = b.max; failed = b.failed + cond ok 0 1; turned_back = b.turned_back }

none_failed : (b : Boot) → b ≡ counted_failure b true
none_failed b =
    let same : b.failed ≡ b.failed + 0 = omega arith in
    ap (λ n. record { max = b.max; failed = n; turned_back = b.turned_back }) same

none_turned : (b : Boot) (answer : Answer) → is_fault answer ≡ false → counted_failure b (is_ok answer) ≡ boot_after b answer
none_turned b answer h =
    let same : b.turned_back ≡ b.turned_back + 0 = omega arith in
    rw h (ap (λ n. record { max = b.max; failed = b.failed + cond (is_ok answer) 0 1; turned_back = n }) same)

pub returns-then-is_fault : goal.returns-then-is_fault
returns-then-is_fault c =
    let e : is_fault c.args.answer ≡ true = sym c.is_fault.ensures ∙ c.if-is_fault.true in
    let k : c.if-not-is_ok.self ≡ counted_failure c.args.self.now (is_ok c.args.answer) =
    elim c.if-not-is_ok.branch [
      | then-not-is_ok w ↦ rw (w.self-is, sym c.is_ok.ensures ∙ w.if-not-is_ok.true) refl
      | else-not-is_ok w ↦ rw (w.self-is, sym c.is_ok.ensures ∙ w.if-not-is_ok.false) (none_failed c.args.self.now)
    ]
    in
    let is : _ ≡ boot_after c.args.self.now c.args.answer = rw (e, k) refl in
    record { booting = booting_took c.args.self.now _ c.args.answer is; counted = is }

pub returns-else-is_fault : goal.returns-else-is_fault
returns-else-is_fault c =
    let e : is_fault c.args.answer ≡ false = sym c.is_fault.ensures ∙ c.if-is_fault.false in
    let k : c.if-not-is_ok.self ≡ counted_failure c.args.self.now (is_ok c.args.answer) =
    elim c.if-not-is_ok.branch [
      | then-not-is_ok w ↦ rw (w.self-is, sym c.is_ok.ensures ∙ w.if-not-is_ok.true) refl
      | else-not-is_ok w ↦ rw (w.self-is, sym c.is_ok.ensures ∙ w.if-not-is_ok.false) (none_failed c.args.self.now)
    ]
    in
    let is : c.if-not-is_ok.self ≡ boot_after c.args.self.now c.args.answer = k ∙ none_turned c.args.self.now c.args.answer e in
    record { booting = booting_took c.args.self.now _ c.args.answer is; counted = is }
