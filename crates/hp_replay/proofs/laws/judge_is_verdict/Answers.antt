use Rattle.hp_replay.specs.InputLines.{lines_of}
use Rattle.hp_replay.specs.Stages.{begins}
use Rattle.hp_replay.specs.Judge.{judge}
use Rattle.hp_replay.proofs.VerdictLaws.{judged_is_verdict}
use Rattle.hp_replay.proofs.JudgeLaws.{judge_is_judged}
use Rattle.hp_replay.proofs.laws.judge_is_verdict.Goals as goal

pub returns : goal.returns
returns c = λ v can is. judged_is_verdict v c.args.input.now (judge v can begins 1 (lines_of c.args.input.now)) (judge_is_judged v can is (lines_of c.args.input.now))
