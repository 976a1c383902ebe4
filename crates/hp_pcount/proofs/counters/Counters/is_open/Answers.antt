use Rattle.std.proofs.Common.{sym, ◌∙◌}
use Rattle.hp_pcount.proofs.Sets.{place_is}
use Rattle.hp_pcount.proofs.counters.Counters.is_open.Goals as goal

pub returns-then-cpu-lt-MAX_CPU_SET : goal.returns-then-cpu-lt-MAX_CPU_SET
returns-then-cpu-lt-MAX_CPU_SET c =
    let view = c.self.view_is in
    rw (← view) (c.has.ensures ∙ sym (place_is c.self.inside.opened c.args.cpu c.if-cpu-lt-MAX_CPU_SET.true))
