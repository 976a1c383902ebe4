use Rattle.std.proofs.Common.{ℕ, get_or, refl}
use Rattle.hp_print.specs.Report.{whole}
use Rattle.hp_print.proofs.Loops.{one_more_value}
use Rattle.hp_print.proofs.report.numbers_value.Goals as goal

pub loop-number-preserved : goal.loop-number-preserved
loop-number-preserved c =
    let i = c.loop-number.number-index in
    one_more_value {X = ℕ} whole c.loop-number.values.items c.push.new.self.items c.from.result c.args.numbers.now i 0
    (get_or c.args.numbers.now i 0) refl c.loop-number-test.true c.loop-number.invariant c.in_ok-push.ensures.items c.from.ensures
