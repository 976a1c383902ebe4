use Rattle.std.proofs.Common.{◌∙◌, ap, eqb, ◌||◌}
use Rattle.hp_states.specs.CpuSets.{has}
use Rattle.hp_model.proofs.SetLemmas.{put_one}
use Rattle.hp_model.proofs.sets.put_number.Goals as goal

pub returns : goal.returns
returns c = λ ns is.
    put_one ns c.args.cpu c.put.new.self c.set_is_of_its_numbers.ensures.words
    (λ d. c.put.ensures d ∙ ap (λ s. eqb d c.args.cpu || has s d) is)
