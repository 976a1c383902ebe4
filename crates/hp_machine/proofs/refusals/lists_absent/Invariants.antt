use Rattle.std.proofs.Common.{◌≡◌, false}
use Rattle.std.specs.Prelude.{take}
use Rattle.std.specs.List.{list_any}
use Rattle.hp_machine.proofs.SetsSaid.{is_absent_of}
use Rattle.hp_machine.proofs.refusals.lists_absent.Given as goal

-- none of those so far is absent and in the set
abbrev pub invariant-loop-at : goal.invariant-loop-at
invariant-loop-at l = list_any (is_absent_of l.head l.set) (take l.at l.absent) ≡ false
