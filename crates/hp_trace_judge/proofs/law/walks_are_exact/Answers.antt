use Rattle.hp_trace_judge.proofs.Exactly.{exact}
use Rattle.hp_trace_judge.proofs.law.walks_are_exact.Goals as goal

pub returns : goal.returns
returns c = λ b lines. exact c.tables_are_exact.ensures b lines
