use Rattle.hp_machine.proofs.machine.Machine.next.Goals as goal

pub returns-then-is_busy : goal.returns-then-is_busy
returns-then-is_busy g c = c.goes_on.ensures c.args.op.now
