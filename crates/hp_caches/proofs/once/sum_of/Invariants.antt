use Rattle.std.specs.Prelude.{◌≡◌, ◌-◌, ◌^◌, min, sum, take}
use Rattle.hp_caches.proofs.once.sum_of.Given as goal

abbrev pub invariant-loop-place : goal.invariant-loop-place
invariant-loop-place l = l.sum ≡ min (sum (take l.place l.items)) (2 ^ 64 - 1)
