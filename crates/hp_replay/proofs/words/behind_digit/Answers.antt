use Rattle.std.proofs.Common.{rules}
use Rattle.hp_replay.proofs.ShortNumbers.{digit_said}
use Rattle.hp_replay.proofs.words.behind_digit.Goals as goal

pub returns-in-32-clause-said : goal.returns-in-32-clause-said
returns-in-32-clause-said c =
    digit_said c.args.text.now c.in-32.len_at_least (search rules) (search rules) (search rules)
