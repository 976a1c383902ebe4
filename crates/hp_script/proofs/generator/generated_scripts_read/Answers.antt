use Rattle.hp_script.proofs.GeneratedScripts.{is_read}
use Rattle.hp_script.proofs.generator.generated_scripts_read.Goals as goal

pub returns : goal.returns
returns c = is_read
