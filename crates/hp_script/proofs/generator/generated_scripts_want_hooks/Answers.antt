use Rattle.hp_script.proofs.GeneratedShort.{wants_hooks}
use Rattle.hp_script.proofs.generator.generated_scripts_want_hooks.Goals as goal

pub returns : goal.returns
returns c = wants_hooks
