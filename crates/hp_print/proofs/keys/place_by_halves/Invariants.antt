use Rattle.std.proofs.Common.{ℕ, ◌≤◌, ◌-◌, length}
use Rattle.hp_print.specs.Counts.{place}
use Rattle.hp_print.proofs.keys.place_by_halves.Given as goal

pub record Between (low high at len : ℕ) : Type 0 where
  pub above : low ≤ at
  pub below : at ≤ high
  pub within : high ≤ len

abbrev pub invariant-loop-low : goal.invariant-loop-low
invariant-loop-low l = Between l.low l.high (place l.key l.counts) (length l.counts)

abbrev pub decreases-loop-low : goal.decreases-loop-low
decreases-loop-low l = l.high - l.low
