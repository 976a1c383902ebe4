use Rattle.std.proofs.Common.{sym, rules}
use Rattle.hp_machine.proofs.RefusalsSaid.{way_up, way_none, way_down}
use Rattle.hp_machine.proofs.machine.Machine.refused_way.Goals as goal
use Rattle.hp_machine.proofs.machine.Machine.refused_way.Goals.{then-disabled, else-disabled}

pub returns-in-Less : goal.returns-in-Less
returns-in-Less g c =
    let m = c.args.self.now in
    rw (way_up m.head m.events c.args.cpu c.args.to (search rules)) (search rules)

pub returns-in-Equal : goal.returns-in-Equal
returns-in-Equal g c =
    let m = c.args.self.now in sym (way_none m.head m.events c.args.cpu c.args.to (search rules))

pub returns-after-disabled : goal.returns-after-disabled
returns-after-disabled g c =
    let m = c.args.self.now in
    rw (way_down m.head m.events c.args.cpu c.args.to (search rules))
    (elim c.if-disabled.branch [ then-disabled w ↦ search rules | else-disabled w ↦ search rules ])
