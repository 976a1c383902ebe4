use Rattle.hp_script.proofs.PlayableScripts.{read_scripts_play}
use Rattle.hp_script.proofs.reader.read_scripts_play.Goals as goal

pub returns : goal.returns
returns c = read_scripts_play
