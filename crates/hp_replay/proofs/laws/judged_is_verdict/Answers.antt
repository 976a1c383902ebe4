use Rattle.hp_replay.proofs.VerdictLaws.{judged_is_verdict, verdict_is_judged, verdict_one}
use Rattle.hp_replay.proofs.laws.judged_is_verdict.Goals as goal

pub returns-clause-verdict : goal.returns-clause-verdict
returns-clause-verdict c = λ v o h. judged_is_verdict v c.args.input.now o h

pub returns-clause-judged : goal.returns-clause-judged
returns-clause-judged c = λ v o h. verdict_is_judged v c.args.input.now o h

pub returns-clause-one : goal.returns-clause-one
returns-clause-one c = λ v a b p q. verdict_one v c.args.input.now a b p q
