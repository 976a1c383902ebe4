use Rattle.hp_trace.proofs.NestLaws.{fault_gives, fault_takes}
use Rattle.hp_trace.proofs.law.faults_are_exact.Goals as goal

pub returns : goal.returns
returns c = λ s e. (fault_gives s e.on e.payload, fault_takes s e.on e.payload)
