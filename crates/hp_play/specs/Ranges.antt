-- Which numbers of a command are in their ranges. This project's own.
use Rattle.std.specs.Prelude.{ℕ, ◌^◌, ◌<◌, ◌≤◌}
use Rattle.hp_states.specs.declared.limits.TheConstants.{MAX_GENERATED_SIZE}
use Rattle.hp_pcount.specs.declared.limits.TheConstants.{LAST_FOLLOWED, MAX_BATCH}
use Rattle.hp_command.specs.declared.counting.Counting.{Counting}
use Rattle.hp_command.specs.Counting.{IsUpTo}
use Rattle.hp_play.specs.declared.output.Output.{Output}
use Rattle.hp_play.specs.declared.output.Output.TheVariants.{Count}

-- the options of a generated script
abbrev pub AreInRange : (seed size : ℕ) → Type 0
AreInRange seed size = (seed < 2 ^ 64) × (1 ≤ size) × (size ≤ MAX_GENERATED_SIZE)

-- the numbers of a count
abbrev pub CanBeCounted : Counting → Type 0
CanBeCounted counting = IsUpTo LAST_FOLLOWED counting.state × IsUpTo MAX_BATCH counting.batch

-- what is written of a run
abbrev pub CanBeWritten : Output → Type 0
CanBeWritten (Count counting) = CanBeCounted counting
CanBeWritten _ = Unit {0}
