use Rattle.hp_text.proofs.NumberLaws.{integer_read}
use Rattle.hp_text.proofs.numbers.integer.Goals as goal

pub returns-clause-read : goal.returns-clause-read
returns-clause-read c = integer_read c.args.word.now c.signed.result c.signed.ensures
