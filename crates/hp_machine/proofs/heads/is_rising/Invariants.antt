use Rattle.std.proofs.Common.{◌+◌, ◌<◌, ◌≤◌, ℕ, slice_index}
use Rattle.hp_machine.proofs.heads.is_rising.Given as goal

-- those so far rise
abbrev pub invariant-loop-at : goal.invariant-loop-at
invariant-loop-at l =
    (1 ≤ l.at) × ((k : ℕ) → k + 1 < l.at → slice_index l.numbers k < slice_index l.numbers (k + 1))
