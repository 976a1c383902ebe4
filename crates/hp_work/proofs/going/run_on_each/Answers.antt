use Rattle.std.proofs.Common.{refl, sym, ap, ◌∙◌, arith}
use Rattle.hp_work.specs.Work.{Work}
use Rattle.hp_work.specs.Changes.{ran_on}
use Rattle.hp_work.proofs.Through.{done_none, done_one, run_all}
use Rattle.hp_work.proofs.going.run_on_each.Goals as goal

pub loop-cpu-init : goal.loop-cpu-init
loop-cpu-init c = record {
  so_far = sym (done_none (λ w cpu. ran_on cpu w) c.args.queues.now);
  opened_same = refl;
  within = omega arith;
}

pub loop-cpu-preserved : goal.loop-cpu-preserved
loop-cpu-preserved c =
    let t = c.args.queues.now in
    let u = c.loop-cpu.queues in
    let first = c.in-Some.ensures.some in
    let cpu = c.in-Some.cpu in
    let inv = c.loop-cpu.invariant in
    let near = first.within in
    record {
      so_far = c.run.ensures.exactly ∙ done_one (λ w k. ran_on k w) t u c.loop-cpu.from cpu inv.so_far inv.opened_same first;
      opened_same = ap (λ (w : Work). w.opened) c.run.ensures.exactly ∙ inv.opened_same;
      within = omega (arith, near);
    }

pub returns : goal.returns
returns c =
    let inv = c.loop-cpu.invariant in
    run_all c.args.queues.now c.loop-cpu.queues c.loop-cpu.from inv.within inv.so_far inv.opened_same c.in_default.ensures.none
