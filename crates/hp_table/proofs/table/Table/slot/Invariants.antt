use Rattle.std.proofs.Common.{◌≡◌, ℕ, ◌<◌, ◌≤◌, true}
use Rattle.hp_table.specs.Named.{is_named}
use Rattle.hp_table.specs.Slots.{first_slot}
use Rattle.hp_table.proofs.table.Table.slot.Given as goal

abbrev pub invariant-loop-state : goal.invariant-loop-state
invariant-loop-state g l = (s : ℕ) → first_slot l.fn.range ≤ s → s < l.state → is_named l.self s ≡ true
