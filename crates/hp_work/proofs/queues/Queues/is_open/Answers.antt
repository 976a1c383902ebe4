use Rattle.std.proofs.Common.{◌≡◌, ◌≤◌, ltb, false, ap, sym, ◌∙◌, arith}
use Rattle.std.proofs.lemmas.Bool.Decides.{nat_tests}
use Rattle.hp_states.specs.declared.limits.TheConstants.{MAX_CPU_SET}
use Rattle.hp_work.specs.Work.{Work}
use Rattle.hp_work.proofs.Sets.{place_past}
use Rattle.hp_work.proofs.Sound.{open_is}
use Rattle.hp_work.proofs.queues.Queues.is_open.Goals as goal

pub returns-then-cpu-lt-MAX_CPU_SET : goal.returns-then-cpu-lt-MAX_CPU_SET
returns-then-cpu-lt-MAX_CPU_SET c =
    sym (open_is c.self.inside.opened c.args.self.now c.args.cpu c.has.result (ap (λ (w : Work). w.opened) c.self.view_is) c.if-cpu-lt-MAX_CPU_SET.true c.has.ensures)

pub returns-else-cpu-lt-MAX_CPU_SET : goal.returns-else-cpu-lt-MAX_CPU_SET
returns-else-cpu-lt-MAX_CPU_SET c =
    let view = c.self.view_is in
    let past : MAX_CPU_SET ≤ c.args.cpu = c.if-cpu-lt-MAX_CPU_SET.false in
    let closed : ltb c.args.cpu MAX_CPU_SET ≡ false = grind (arith, nat_tests) in
    rw (← view) (closed ∙ sym (place_past c.self.inside.opened c.args.cpu past))
