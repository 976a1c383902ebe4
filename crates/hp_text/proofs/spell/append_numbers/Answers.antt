use Rattle.std.proofs.Common.{arith, ◌≡◌, ◌==◌, false, length, decimal}
use Rattle.std.proofs.lemmas.Grind.{common_steps}
use Rattle.hp_text.proofs.SpacedWords.{spaced-list_words}
use Rattle.hp_text.proofs.spell.append_numbers.Goals as goal

pub returns : goal.returns
returns c =
    let some : (length c.args.numbers.now == 0) ≡ false = cc in
    rw (spaced-list_words decimal c.args.numbers.now some) (grind (arith, common_steps))
