use Rattle.std.proofs.Common.{sym, ◌∙◌}
use Rattle.hp_states.specs.declared.limits.TheConstants.{MAX_CPU_SET}
use Rattle.hp_smt.proofs.Sets.{sibling_found, sibling_lacking, sibling_past}
use Rattle.hp_smt.proofs.siblings.sibling_in.Goals as goal

pub returns-then-is_sibling : goal.returns-then-is_sibling
returns-then-is_sibling c =
    let n = c.args.threads in
    let set = c.args.set.now in
    let least = c.in-Some.ensures.some in
    sibling_found n set c.in-Some.cpu (rw (least.is_in) (sym c.is_sibling.ensures ∙ c.if-is_sibling.true)) least.within
    (sibling_past n set c.loop-cpu.from c.in-Some.cpu c.loop-cpu.invariant least.none_below)

pub returns : goal.returns
returns c =
    let n = c.args.threads in
    let set = c.args.set.now in
    sibling_lacking n set
    (sibling_past n set c.loop-cpu.from MAX_CPU_SET c.loop-cpu.invariant (λ d at below. c.in_default.ensures.none d at))
