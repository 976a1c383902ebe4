use Rattle.std.proofs.Common.{ap, ◌∙◌, sym}
use Rattle.hp_model.specs.Subsystems.{names_sub}
use Rattle.hp_machine.proofs.SetsSaid.{names_some}
use Rattle.hp_machine.proofs.heads.names_sub.Goals as goal

pub returns-in-UpMany : goal.returns-in-UpMany
returns-in-UpMany c =
    names_some c.in-UpMany.set c.is_empty.result c.is_empty.ensures.empty c.is_empty.ensures.some
    ∙ sym (ap (names_sub c.args.head.now) c.in-UpMany.is)
