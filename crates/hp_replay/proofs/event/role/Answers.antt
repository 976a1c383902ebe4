use Rattle.std.proofs.Common.{rules, arith}
use Rattle.std.specs.Prelude.{codes}
use Rattle.hp_replay.specs.EventAt.{role_rows, role}
use Rattle.hp_replay.proofs.Rows.{at_row}
use Rattle.hp_replay.proofs.event.role.Goals as goal

pub returns-in-client : goal.returns-in-client
unfolding role
returns-in-client c = at_row role_rows c.args.words.now _ c.in_ok-next.field-0.now (codes "client") c.done.result c.in_ok-next.ensures.word c.in_ok-next.ensures.rest (omega (arith, c.in-client.len_at_least, c.in-client.len_below)) (search rules) c.done.ensures
