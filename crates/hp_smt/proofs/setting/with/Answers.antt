use Rattle.hp_smt.proofs.Sets.{put}
use Rattle.hp_smt.proofs.setting.with.Goals as goal

pub returns : goal.returns
returns c =
    put c.args.set c.put.new.self c.args.cpu c.set_is_of_its_numbers.ensures.words c.set_is_of_its_numbers-2.ensures.words c.put.ensures
