use Rattle.std.proofs.Common.{◌≤◌, ◌<◌, subst, ap, sym, ◌∙◌, arith}
use Rattle.hp_pcount.specs.Tally.{IsTally, total}
use Rattle.hp_pcount.specs.Stands.{Rises}
use Rattle.hp_pcount.specs.Inside.{tally}
use Rattle.hp_pcount.proofs.Sums.{size_32}
use Rattle.hp_pcount.proofs.Tallies.{wide, tally_batched, total_batched}
use Rattle.hp_pcount.proofs.Standing.{rises_batched}
use Rattle.hp_pcount.proofs.Raising.{sum_of, base_of, full_by_code, rest_by_code}
use Rattle.hp_pcount.proofs.counters.Counters.raise.Goals as goal

pub invariant_of-self : goal.invariant_of-self
unfolding sum_of base_of
invariant_of-self c =
    let t = tally c.self.inside in
    let view = c.self.view_is in
    let o = rw (← view) at c.requires.opened in
    let full : t.batch ≤ c.unsigned_abs.result = let f = c.if-unsigned_abs-from.true in let b = c.from-2.ensures in omega arith in
    let made = full_by_code t c.args.cpu c.args.by c.from.result c.self.invariant c.requires.cpu c.ranges.by c.from.ensures
    c.from-then-unsigned_abs-from.result c.unsigned_abs.result c.unsigned_abs.ensures.value full c.from-then-unsigned_abs-from.ensures in
    subst IsTally (sym made)
    (tally_batched t c.args.cpu c.args.by c.self.invariant c.requires.cpu o (size_32 c.args.by c.ranges.by) (rw (← view) at c.requires.few))

pub returns-then-unsigned_abs-from : goal.returns-then-unsigned_abs-from
unfolding sum_of base_of
returns-then-unsigned_abs-from c =
    let t = tally c.self.inside in
    let view = c.self.view_is in
    let o = rw (← view) at c.requires.opened in
    let full : t.batch ≤ c.unsigned_abs.result = let f = c.if-unsigned_abs-from.true in let b = c.from-2.ensures in omega arith in
    let made = full_by_code t c.args.cpu c.args.by c.from.result c.self.invariant c.requires.cpu c.ranges.by c.from.ensures
    c.from-then-unsigned_abs-from.result c.unsigned_abs.result c.unsigned_abs.ensures.value full c.from-then-unsigned_abs-from.ensures in
    rw (← view)
    record {
      exactly = made;
      total = ap total made ∙ total_batched t c.args.cpu c.args.by c.self.invariant.parts_are c.requires.cpu;
      rises =
          subst (Rises t c.args.by) (sym made) (rises_batched t c.args.cpu c.args.by (wide t c.self.invariant) c.requires.cpu o);
    }

pub invariant_of-self-else-unsigned_abs-from : goal.invariant_of-self-else-unsigned_abs-from
unfolding sum_of
invariant_of-self-else-unsigned_abs-from c =
    let t = tally c.self.inside in
    let view = c.self.view_is in
    let o = rw (← view) at c.requires.opened in
    let rest : c.unsigned_abs.result < t.batch = let f = c.if-unsigned_abs-from.false in let b = c.from-2.ensures in omega arith in
    let made = rest_by_code t c.args.cpu c.args.by c.from.result c.self.invariant c.requires.cpu c.ranges.by c.from.ensures
    c.unsigned_abs.result c.unsigned_abs.ensures.value rest in
    subst IsTally (sym made)
    (tally_batched t c.args.cpu c.args.by c.self.invariant c.requires.cpu o (size_32 c.args.by c.ranges.by) (rw (← view) at c.requires.few))

pub returns-else-unsigned_abs-from : goal.returns-else-unsigned_abs-from
unfolding sum_of
returns-else-unsigned_abs-from c =
    let t = tally c.self.inside in
    let view = c.self.view_is in
    let o = rw (← view) at c.requires.opened in
    let rest : c.unsigned_abs.result < t.batch = let f = c.if-unsigned_abs-from.false in let b = c.from-2.ensures in omega arith in
    let made = rest_by_code t c.args.cpu c.args.by c.from.result c.self.invariant c.requires.cpu c.ranges.by c.from.ensures
    c.unsigned_abs.result c.unsigned_abs.ensures.value rest in
    rw (← view)
    record {
      exactly = made;
      total = ap total made ∙ total_batched t c.args.cpu c.args.by c.self.invariant.parts_are c.requires.cpu;
      rises =
          subst (Rises t c.args.by) (sym made) (rises_batched t c.args.cpu c.args.by (wide t c.self.invariant) c.requires.cpu o);
    }
