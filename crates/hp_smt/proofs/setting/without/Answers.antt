use Rattle.hp_smt.proofs.Sets.{taken}
use Rattle.hp_smt.proofs.setting.without.Goals as goal

pub returns : goal.returns
returns c =
    taken c.args.set c.take.new.self c.args.cpu c.set_is_of_its_numbers.ensures.words c.set_is_of_its_numbers-2.ensures.words c.take.ensures
