use Rattle.std.proofs.Common.{false, get_or, sym}
use Rattle.std.specs.Prelude.{length}
use Rattle.hp_suspend.proofs.Places.{first_place}
use Rattle.hp_suspend.proofs.freeze.lowest.Goals as goal

pub returns-then-online-cpu : goal.returns-then-online-cpu
returns-then-online-cpu c =
    sym (first_place (λ d. get_or c.args.online.now d false) (length c.args.online.now) c.loop-cpu.cpu c.loop-cpu-test.true
    c.if-online-cpu.true c.loop-cpu.invariant)
