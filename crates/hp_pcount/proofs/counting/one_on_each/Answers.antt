use Rattle.std.proofs.Common.{◌≤◌, ◌+◌, ap, sym, ◌∙◌, refl, arith}
use Rattle.std.specs.Prelude.{pos}
use Rattle.hp_pcount.specs.Tally.{Tally}
use Rattle.hp_pcount.proofs.Additions.{ones_none, ones_one, ones_all, opened_added, adds_added}
use Rattle.hp_pcount.proofs.counting.one_on_each.Goals as goal

pub loop-cpu-init : goal.loop-cpu-init
loop-cpu-init c = record {
  so_far = sym (ones_none c.args.counters.now);
  opened_same = refl;
  few = omega arith;
  within = omega arith;
}

pub loop-cpu-preserved : goal.loop-cpu-preserved
loop-cpu-preserved c =
    let t = c.args.counters.now in
    let u = c.loop-cpu.counters in
    let first = c.in-Some.ensures.some in
    let cpu = c.in-Some.cpu in
    let inv = c.loop-cpu.invariant in
    let e = c.add.ensures.exactly in
    let a = adds_added u cpu (pos 1) in
    let more : c.add.new.self.adds ≤ u.adds + 1 = rw e a in
    let near = first.at_least in
    let low = first.within in
    record {
      so_far = e ∙ ones_one t u c.loop-cpu.from cpu inv.so_far inv.opened_same first;
      opened_same = ap (λ (z : Tally). z.opened) e ∙ (opened_added u cpu (pos 1) ∙ inv.opened_same);
      few = let f = inv.few in omega arith;
      within = omega arith;
    }

pub returns-clause-exactly : goal.returns-clause-exactly
returns-clause-exactly c =
    let inv = c.loop-cpu.invariant in
    ones_all c.args.counters.now c.loop-cpu.counters c.loop-cpu.from inv.within inv.so_far inv.opened_same c.in_default.ensures.none
