-- Every count begins at 0.
use Rattle.std.proofs.Common.{ap, List, ℕ}
use Rattle.hp_states.specs.declared.limits.TheConstants.{MAX_RULES}
use Rattle.hp_hook.specs.Counted.{PlanCounts}
use Rattle.hp_hook.proofs.Bounds.{zeros}
use Rattle.hp_hook.proofs.script_hook.CountedPlan.new.Goals as goal

pub returns : goal.returns
returns c =
    let with_counts : List ℕ → PlanCounts = λ (seen : List ℕ). record { plan = c.args.plan; seen = seen } in
    ap with_counts (zeros c.args.plan MAX_RULES c.rules.ensures.few)
