use Rattle.std.proofs.Common.{◌≡◌, ◌++◌, ◌∷◌, [], ℕ, Vec, Global, not, ap, sym, ◌∙◌, arith}
use Rattle.hp_states.specs.declared.limits.TheConstants.{MAX_CPU_SET}
use Rattle.hp_work.proofs.Draining.{items_below, below_none, below_with, below_without, below_all}
use Rattle.hp_work.proofs.drain.with_items.Goals.{then-not-is_empty+in_ok-push, else-not-is_empty}
use Rattle.hp_work.proofs.drain.with_items.Goals as goal

pub loop-cpu-init : goal.loop-cpu-init
loop-cpu-init c = c.new-cpus.ensures.items ∙ sym (below_none c.args.lists.now)

pub loop-cpu-preserved : goal.loop-cpu-preserved
loop-cpu-preserved c =
    let ls = c.args.lists.now in
    let n = c.loop-cpu.cpu in
    elim c.if-not-is_empty.branch [
      | then-not-is_empty+in_ok-push w ↦
          ap (λ (v : Vec ℕ Global). v.items) w.cpus-is
          ∙ (w.in_ok-push.ensures.items
          ∙ (ap (λ xs. xs ++ n ∷ []) c.loop-cpu.invariant
          ∙ sym (below_with n ls (ap not (sym c.is_empty.ensures ∙ w.if-not-is_empty.true)))))
      | else-not-is_empty w ↦
          ap (λ (v : Vec ℕ Global). v.items) w.cpus-is
          ∙ (c.loop-cpu.invariant ∙ sym (below_without n ls (ap not (sym c.is_empty.ensures ∙ w.if-not-is_empty.false))))
    ]

pub returns : goal.returns
returns c =
    let all : c.loop-cpu.cpu ≡ MAX_CPU_SET = omega arith in
    c.loop-cpu.invariant ∙ (ap (λ n. items_below n c.args.lists.now) all ∙ below_all c.args.lists.now)
