use Rattle.std.proofs.Common.{map, string_bytes}
use Rattle.hp_view.proofs.OptionLaws.{same_asked}
use Rattle.hp_view.proofs.law.words_ask_once.Goals as goal

pub returns : goal.returns
returns c = same_asked (map string_bytes c.args.words.now)
