use Rattle.std.proofs.Common.{rules, not, ◌==◌}
use Rattle.std.proofs.lemmas.Fn.{filter_same}
use Rattle.hp_print.proofs.instance_list.InstanceList.remove.Goals as goal

pub returns : goal.returns
returns c =
    rw (← c.self.view_is)
    (filter_same _ (λ x. not (x == c.args.inst)) _ (λ x b f' k. search rules) _ _ c.retain.ensures.filtered)
