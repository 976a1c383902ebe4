use Rattle.std.proofs.Common.{◌≡◌, take}
use Rattle.hp_called.specs.Listed.{keys_on}
use Rattle.hp_called.proofs.rows.Rows.keys_on.Given as goal

abbrev pub invariant-loop-place : goal.invariant-loop-place
invariant-loop-place l = l.keys.items ≡ keys_on l.cpu (take l.place l.self.sets.entries)
