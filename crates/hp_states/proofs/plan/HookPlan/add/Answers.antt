-- One rule more keeps the places of the plan in order.
use Rattle.std.proofs.Common.{◌<◌, arith}
use Rattle.hp_states.specs.declared.limits.TheConstants.{MAX_RULES}
use Rattle.hp_states.proofs.Padded.{padded_more}
use Rattle.hp_states.proofs.plan.HookPlan.add.Goals as goal

pub invariant_of-self : goal.invariant_of-self
invariant_of-self c =
    let less : c.self.inside.len < MAX_RULES = omega arith in
    padded_more c.self.inside c.args.rule c.self.invariant less
