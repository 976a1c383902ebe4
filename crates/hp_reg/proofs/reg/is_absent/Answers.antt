use Rattle.std.proofs.Common.{◌∙◌}
use Rattle.hp_event.proofs.Among.{among_any}
use Rattle.hp_reg.proofs.reg.is_absent.Goals as goal

pub returns : goal.returns
returns c = c.contains.ensures.value ∙ among_any c.args.cpu c.args.absent.now
