-- The words of an error. This project's own.
use Rattle.std.specs.Prelude.{ℕ, List, ◌++◌, codes, decimal}
use Rattle.hp_script.specs.declared.error.ParseError.{ParseError}
use Rattle.hp_script.specs.declared.error.ParseError.TheVariants.{Bad, NoMemory}
use Rattle.hp_script.specs.declared.error.ScriptKind.{ScriptKind}
use Rattle.hp_script.specs.declared.error.ScriptKind.TheVariants.{TooLong, BadByte, NoCpus, BadWord, BadOrder, StillLocked, BadForm, BadNumber, NoSub, TooMany, NoActor}

abbrev pub kind_text : ScriptKind → List ℕ
kind_text TooLong = codes "too long"
kind_text BadByte = codes "bad byte"
kind_text NoCpus = codes "no cpus"
kind_text BadWord = codes "bad word"
kind_text BadOrder = codes "bad order"
kind_text StillLocked = codes "still locked"
kind_text BadForm = codes "bad form"
kind_text BadNumber = codes "bad number"
kind_text NoSub = codes "no sub"
kind_text TooMany = codes "too many"
kind_text NoActor = codes "no actor"

-- what an error of the reader is written as
abbrev pub error_text : ParseError → List ℕ
error_text (Bad line kind) = codes "line " ++ decimal line ++ codes ": " ++ kind_text kind
error_text NoMemory = codes "out of memory"
