use Rattle.hp_reg.proofs.Lowest.{none_left, lowest_left, none_undone, lowest_undone}
use Rattle.hp_reg.proofs.reg.Reg.next_cpu.Goals as goal

pub returns-in-Making-clause-none : goal.returns-in-Making-clause-none
returns-in-Making-clause-none c =
    rw (← c.self.view_is)
    (none_left c.self.inside.phase c.in-Making.from c.self.inside.state c.args.settled.now c.args.absent.now c.lowest.result
    c.in-Making.is c.lowest.ensures.none)

pub returns-in-Making-clause-lowest : goal.returns-in-Making-clause-lowest
returns-in-Making-clause-lowest c =
    rw (← c.self.view_is)
    (lowest_left c.self.inside.phase c.in-Making.from c.self.inside.state c.args.settled.now c.args.absent.now c.lowest.result
    c.in-Making.is c.lowest.ensures.found c.lowest.ensures.first)

pub returns-in-Undoing-clause-none : goal.returns-in-Undoing-clause-none
returns-in-Undoing-clause-none c =
    rw (← c.self.view_is)
    (none_undone c.self.inside.phase c.in-Undoing.from c.in-Undoing.failed c.in-Undoing.code c.min.result c.self.inside.state
    c.args.settled.now c.args.absent.now c.lowest-in-Undoing.result c.in-Undoing.is c.min.ensures c.lowest-in-Undoing.ensures.none)

pub returns-in-Undoing-clause-lowest : goal.returns-in-Undoing-clause-lowest
returns-in-Undoing-clause-lowest c =
    rw (← c.self.view_is)
    (lowest_undone c.self.inside.phase c.in-Undoing.from c.in-Undoing.failed c.in-Undoing.code c.min.result c.self.inside.state
    c.args.settled.now c.args.absent.now c.lowest-in-Undoing.result c.in-Undoing.is c.min.ensures c.lowest-in-Undoing.ensures.found
    c.lowest-in-Undoing.ensures.first)
