use Rattle.hp_text.proofs.OpLaws.{op_read}
use Rattle.hp_text.proofs.op.read_op.Goals as goal

pub returns-clause-read : goal.returns-clause-read
returns-clause-read g c = op_read _ c.any_op.result c.any_op.ensures
