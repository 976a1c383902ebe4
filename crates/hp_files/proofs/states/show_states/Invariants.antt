use Rattle.std.proofs.Common.{◌≡◌}
use Rattle.hp_files.specs.StatesFile.{name_in}
use Rattle.hp_files.proofs.Lines.{lines_below}
use Rattle.hp_files.proofs.states.show_states.Given as goal

abbrev pub invariant-loop-state : goal.invariant-loop-state
invariant-loop-state g l = l.out.items ≡ lines_below (name_in l.head l.table) l.state
