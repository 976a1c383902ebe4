-- The line that says why an input is refused. This project's own.
use Rattle.std.specs.Prelude.{ℕ, List, [], ◌∷◌, ◌++◌, codes}
use Rattle.hp_script.specs.declared.error.ParseError.{ParseError}
use Rattle.hp_script.specs.Texts as script
use Rattle.hp_replay.specs.declared.error.ReplayError.{ReplayError}
use Rattle.hp_replay.specs.Texts as journal

abbrev pub error_line : (text : List ℕ) → List ℕ
error_line text = codes "error: " ++ text ++ 10 ∷ []

-- of a script
abbrev pub script_error_line : ParseError → List ℕ
script_error_line error = error_line (script.error_text error)

-- of a journal
abbrev pub journal_error_line : ReplayError → List ℕ
journal_error_line error = error_line (journal.error_text error)
