-- What holds of every report. This project's own.
use Rattle.std.specs.Prelude.{◌≡◌, ℕ, Some, List, [], ◌∷◌, ◌++◌}
use Rattle.json.specs.Print.{escape}
use Rattle.serde_json.specs.Data.{Data}
use Rattle.serde_json.specs.Read.{read}
use Rattle.hp_event.specs.declared.head.Head.{Head}
use Rattle.hp_model.specs.Summary.{name_of}

-- the bytes are a line that says this value in JSON
pub record IsLineOf (value : Data) (bytes : List ℕ) : Type 0 where
  pub line : List ℕ
  pub ended : bytes ≡ line ++ 10 ∷ []
  pub says : read line ≡ Some value

-- no byte of a subsystem's name is escaped in JSON: it stands between its quotes as it is
abbrev pub NamesAreUnescaped : Head → Type 0
NamesAreUnescaped head = (number : ℕ) → escape (name_of head number) ≡ name_of head number
