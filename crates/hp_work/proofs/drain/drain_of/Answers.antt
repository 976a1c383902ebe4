use Rattle.std.proofs.Common.{◌<◌, All, sym, ◌∙◌, subst}
use Rattle.hp_states.specs.declared.limits.TheConstants.{MAX_CPU_SET}
use Rattle.hp_work.proofs.Draining.{all_queues}
use Rattle.hp_work.proofs.drain.drain_of.Goals as goal

pub collected-requires-after_bounds : goal.collected-requires-after_bounds
collected-requires-after_bounds g c κs within =
    subst (All (λ c. c < MAX_CPU_SET)) (sym (c.as_slice.ensures.value ∙ c.in_ok-cpus.ensures)) (all_queues c.args.lists.now)
