use Rattle.std.proofs.Common.{rules}
use Rattle.hp_reg.proofs.Steps.{goes_on_by}
use Rattle.hp_reg.specs.declared.step.RegStep.TheVariants.{Call, Ended}
use Rattle.hp_reg.proofs.reg.Reg.next.Goals as goal

pub returns-in_default-clause-goes_on : goal.returns-in_default-clause-goes_on
returns-in_default-clause-goes_on g c entries h =
    goes_on_by _ _ entries c.args.self.now (Ended c.answer.result) (search rules) h

pub returns-in-Some-next_cpu-clause-goes_on : goal.returns-in-Some-next_cpu-clause-goes_on
returns-in-Some-next_cpu-clause-goes_on g c entries h =
    goes_on_by _ _ entries c.args.self.now
    (Call c.in-Some-next_cpu.cpu (record { state = c.self.inside.state; inst = c.in-Some.inst }) c.dir.result c.place.result)
    (search rules) h

pub returns-in-None-clause-goes_on : goal.returns-in-None-clause-goes_on
returns-in-None-clause-goes_on g c entries h =
    goes_on_by _ _ entries c.args.self.now (Ended c.answer-in-None.result) (search rules) h
