use Rattle.std.proofs.Common.{ap, sym, ◌∙◌}
use Rattle.hp_model.specs.HasLine.{lists_one}
use Rattle.hp_model.proofs.SetLemmas.{lists_some}
use Rattle.hp_print.proofs.event.lists_one.Goals as goal

pub returns-in-UpMany : goal.returns-in-UpMany
returns-in-UpMany c =
    lists_some c.in-UpMany.set c.is_empty.result c.is_empty.ensures.empty c.is_empty.ensures.some
    ∙ ap lists_one (sym c.in-UpMany.is)
