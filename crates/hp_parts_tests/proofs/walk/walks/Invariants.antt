use Rattle.hp_walk.specs.Keys.{keys_by}
use Rattle.hp_walk.specs.After.{IsWithin}
use Rattle.hp_parts_tests.proofs.walk.walks.Given as goal

-- the walk stands among the states and keys
abbrev pub invariant-loop-i : goal.invariant-loop-i
invariant-loop-i g l = IsWithin (keys_by l.table) l.walk
