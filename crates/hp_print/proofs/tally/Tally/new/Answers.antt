use Rattle.hp_print.proofs.SuspendTallyStep.{none_suspended}
use Rattle.hp_print.proofs.AnswerCountsStep.{no_answers}
use Rattle.hp_print.proofs.tally.Tally.new.Goals as goal

pub returns : goal.returns
returns c = record {
  suspended_is = none_suspended c.new.result c.new.ensures.op c.new.ensures.disabled c.new.ensures.frozen;
  processors_is = c.in_ok-new.ensures;
  states_is = c.in_ok-new-2.ensures c.args.head.now;
  answers_is = rw c.new-4.ensures no_answers;
}
