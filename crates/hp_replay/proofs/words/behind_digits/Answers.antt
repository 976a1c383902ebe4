use Rattle.std.proofs.Common.{rules}
use Rattle.hp_replay.proofs.ShortNumbers.{two_said, three_said}
use Rattle.hp_replay.proofs.words.behind_digits.Goals as goal

pub returns-in-49-to-57-clause-said : goal.returns-in-49-to-57-clause-said
returns-in-49-to-57-clause-said c =
    two_said c.args.text.now (search rules) (search rules) (search rules) (search rules) (search rules) (search rules)

pub returns-in-49-to-57-2-clause-said : goal.returns-in-49-to-57-2-clause-said
returns-in-49-to-57-2-clause-said c =
    three_said c.args.text.now c.in-49-to-57-2.len_at_least (search rules) (search rules) (search rules) (search rules) (search rules) (search rules) (search rules)
