use Rattle.hp_model.specs.Processors.{is_present}
use Rattle.hp_account.specs.Flags.{AreFlags}
use Rattle.hp_account.proofs.processors.Processors.new.Given as goal

abbrev pub invariant-loop-cpu : goal.invariant-loop-cpu
invariant-loop-cpu l = AreFlags (is_present l.head) l.cpu l.present.items
