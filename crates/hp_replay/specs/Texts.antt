-- The words of an error. This project's own.
use Rattle.std.specs.Prelude.{ℕ, List, ◌++◌, codes, decimal}
use Rattle.hp_replay.specs.declared.error.ReplayError.{ReplayError}
use Rattle.hp_replay.specs.declared.error.ReplayError.TheVariants.{Bad, NoMemory}
use Rattle.hp_replay.specs.declared.error.ReplayKind.{ReplayKind}
use Rattle.hp_replay.specs.declared.error.ReplayKind.TheVariants.{TooLong, Header, Syntax, Unlawful, Count, Trailing, Missing}

abbrev pub kind_text : ReplayKind → List ℕ
kind_text TooLong = codes "too long"
kind_text Header = codes "header"
kind_text Syntax = codes "syntax"
kind_text Unlawful = codes "unlawful"
kind_text Count = codes "count"
kind_text Trailing = codes "trailing"
kind_text Missing = codes "missing"

-- what an error of the reader is written as
abbrev pub error_text : ReplayError → List ℕ
error_text (Bad line kind) = codes "line " ++ decimal line ++ codes ": " ++ kind_text kind
error_text NoMemory = codes "out of memory"
