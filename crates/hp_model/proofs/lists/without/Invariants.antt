use Rattle.std.proofs.Common.{◌≡◌, take}
use Rattle.hp_model.specs.Lists.{without}
use Rattle.hp_model.proofs.lists.without.Given as goal

abbrev pub invariant-loop-other : goal.invariant-loop-other
invariant-loop-other l = l.left.items ≡ without l.number (take l.other-index l.list)
