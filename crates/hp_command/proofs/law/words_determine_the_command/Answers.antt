use Rattle.std.proofs.Common.{map, string_bytes}
use Rattle.hp_command.proofs.CommandLaws.{same_command}
use Rattle.hp_command.proofs.law.words_determine_the_command.Goals as goal

pub returns : goal.returns
returns c = same_command (map string_bytes c.args.words.now)
