use Rattle.hp_trace_walk.proofs.TableHolds.{none_is_shut}
use Rattle.hp_trace_walk.proofs.TableFound.{table_is_there}
use Rattle.hp_trace_walk.proofs.law.tables_are_exact.Goals as goal

pub returns : goal.returns
returns c = λ b asking. (λ has. none_is_shut b asking has.table has.can_be has.answers, table_is_there b asking)
