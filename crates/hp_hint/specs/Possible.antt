-- How many processors are possible, from line to line. This project's own.
use Rattle.std.specs.Prelude.{ℕ, List, Option, Some}
use Rattle.hp_script.specs.declared.statement.Statement.{Statement}
use Rattle.hp_script.specs.declared.statement.Statement.TheVariants as says
use Rattle.hp_script.specs.Before.{statement_of}

-- after a statement
abbrev pub possible_by : (possible : ℕ) → Option Statement → ℕ
possible_by possible (Some (says.Cpus n)) = n
possible_by possible _ = possible

-- after a line
abbrev pub possible_after : (possible : ℕ) → (line : List ℕ) → ℕ
possible_after possible line = possible_by possible (statement_of line)
