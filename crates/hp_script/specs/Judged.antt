-- What the reader answers: the script that the lines say, or the first line that is refused, and why. This project's
-- own.
use Rattle.std.specs.Prelude.{◌≡◌, ℕ, ◌+◌, ◌<◌, ◌≤◌, List, [], ◌∷◌, ◌++◌, length, Some, None}
use Rattle.hp_states.specs.declared.limits.TheConstants.{MAX_SCRIPT_BYTES}
use Rattle.hp_script.specs.declared.error.ScriptKind.{ScriptKind}
use Rattle.hp_script.specs.declared.error.ScriptKind.TheVariants.{TooLong}
use Rattle.hp_script.specs.declared.error.ParseError.{ParseError}
use Rattle.hp_script.specs.declared.error.ParseError.TheVariants.{Bad, NoMemory}
use Rattle.hp_script.specs.declared.before.Before.{Before}
use Rattle.hp_script.specs.Pieces.{lines}
use Rattle.hp_script.specs.Before.{start, before, after_line}
use Rattle.hp_script.specs.Refusals.{refusal, refusal_at_end}
use Rattle.hp_script.specs.Script.{Contents, statements, script_in}

-- none of the lines is refused, each after those before it
abbrev pub AreFine : (hooks : ℕ) → Before → (lines : List (List ℕ)) → Type 0
AreFine hooks b [] = Unit {0}
AreFine hooks b (line ∷ lines) = (refusal hooks b line ≡ None) × AreFine hooks (after_line b line) lines

-- the first line on which a refusal holds, counted from 1, and the first kind that holds on it
pub record IsBadLine (hooks : ℕ) (all : List (List ℕ)) (number : ℕ) (kind : ScriptKind) : Type 0 where
  pub front : List (List ℕ)
  pub line : List ℕ
  pub back : List (List ℕ)
  pub parts : all ≡ front ++ line ∷ back
  pub count : number ≡ length front + 1
  pub fine : AreFine hooks start front
  pub refused : refusal hooks (before front) line ≡ Some kind

-- no line is refused, and the input can't end so; the line is the one behind the last
pub record IsBadEnd (hooks : ℕ) (all : List (List ℕ)) (number : ℕ) (kind : ScriptKind) : Type 0 where
  pub count : number ≡ length all + 1
  pub fine : AreFine hooks start all
  pub refused : refusal_at_end (before all) ≡ Some kind

-- The bytes are refused: they are too many, and then nothing else is looked at; or a line is refused; or the end.
pub data IsRefused : (hooks : ℕ) (bytes : List ℕ) (number : ℕ) (kind : ScriptKind) → Type 0 where
  too_long : (hooks : ℕ) (bytes : List ℕ) → MAX_SCRIPT_BYTES < length bytes → IsRefused hooks bytes 0 TooLong
  at_line : (hooks : ℕ) (bytes : List ℕ) (number : ℕ) (kind : ScriptKind)
      → length bytes ≤ MAX_SCRIPT_BYTES → IsBadLine hooks (lines bytes) number kind → IsRefused hooks bytes number kind
  at_end : (hooks : ℕ) (bytes : List ℕ) (number : ℕ) (kind : ScriptKind)
      → length bytes ≤ MAX_SCRIPT_BYTES → IsBadEnd hooks (lines bytes) number kind → IsRefused hooks bytes number kind

-- at most one line of the bytes is refused, and for one kind
abbrev pub IsRefusedOnce : (hooks : ℕ) (bytes : List ℕ) → Type 0
IsRefusedOnce hooks bytes =
    (n m : ℕ) (k j : ScriptKind) → IsRefused hooks bytes n k → IsRefused hooks bytes m j → (n ≡ m) × (k ≡ j)

-- no line of the bytes is refused, nor their end
abbrev pub IsUnrefused : (hooks : ℕ) (bytes : List ℕ) → Type 0
IsUnrefused hooks bytes = (number : ℕ) (kind : ScriptKind) → IsRefused hooks bytes number kind → ⊥

-- no refusal holds of the bytes, and the script is the one that their lines say
pub record IsRead (hooks : ℕ) (bytes : List ℕ) (script : Contents) : Type 0 where
  pub unrefused : IsUnrefused hooks bytes
  pub says : script ≡ script_in (statements (lines bytes))

-- want of memory says nothing of the bytes
abbrev pub RefusesOrWants : (hooks : ℕ) (bytes : List ℕ) → ParseError → Type 0
RefusesOrWants hooks bytes (Bad number kind) = IsRefused hooks bytes number kind
RefusesOrWants hooks bytes NoMemory = Unit {0}
