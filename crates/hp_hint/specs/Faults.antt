-- Where a refused script is at fault. This project's own.
use Rattle.std.specs.Prelude.{◌≡◌, ℕ, ◌+◌, ◌-◌, ◌<◌, ◌≤◌, ◌⊎◌, Bool, List, length, take, Option, Some, None, IfSome, IfNone, slice_get}
use Rattle.hp_script.specs.declared.error.ScriptKind.{ScriptKind}
use Rattle.hp_script.specs.declared.error.ScriptKind.TheVariants as kind
use Rattle.hp_script.specs.Pieces.{lines}
use Rattle.hp_script.specs.Words.{words}
use Rattle.hp_script.specs.Statements.{statement_in}
use Rattle.hp_script.specs.Ranges.{is_in_range}
use Rattle.hp_script.specs.Before.{before}
use Rattle.hp_script.specs.Judged.{IsRefused}
use Rattle.hp_hint.specs.declared.place.Mark.{Mark}
use Rattle.hp_hint.specs.declared.fault.Fault.{Fault}
use Rattle.hp_hint.specs.Places.{IsAt, IsBadByteAt}
use Rattle.hp_hint.specs.Forms.{CanGoOn, IsLost, IsGood, is_formed, says}

-- the words of a line, by which it is of a form
abbrev pub is_line : List (List ℕ) → Bool
is_line words = is_formed (statement_in words)

-- they are, and each number is in its range, where so many processors are possible
abbrev pub is_in_ranges : (possible : ℕ) → List (List ℕ) → Bool
is_in_ranges possible words = says (is_in_range possible) (statement_in words)

-- The word of this number, counted from 0, is the first that is a number out of its range: nothing that stands behind it makes
-- the line one whose numbers are in their ranges, and with those before it something does. The first word of a line is no
-- number; with the word behind it nothing may stand before that does, as behind `absent` where one processor is possible.
pub record IsFirstOutOfRange (possible : ℕ) (words : List (List ℕ)) (number : ℕ) : Type 0 where
  pub is_number : 1 ≤ number
  pub is_there : number < length words
  pub goes_on : 1 < number → CanGoOn (is_in_ranges possible) (take number words)
  pub lost : IsLost (is_in_ranges possible) (take (number + 1) words)

-- Which word of a line is at fault that is refused so where so many processors are possible, counted from 0: where it isn't of
-- its form, the first one with which nothing that stands behind makes it a line of one; where a number is out of its range, the
-- first such number; the number of the subsystem that isn't there; else the first word.
abbrev pub IsWordAtFault : ScriptKind → (possible : ℕ) → (line : List ℕ) → (number : ℕ) → Type 0
IsWordAtFault kind.BadForm possible line number = IsGood is_line (words line) number
IsWordAtFault kind.NoSub possible line number = number ≡ 2
IsWordAtFault kind.BadNumber possible line number = IsFirstOutOfRange possible (words line) number
IsWordAtFault _ possible line number = number ≡ 0

-- such a word of a line is marked
abbrev pub MarksWord : ScriptKind → (possible : ℕ) → (line : List ℕ) → Mark → Type 0
MarksWord kind possible line mark = (number : ℕ) × IsWordAtFault kind possible line number × IsAt line number mark

-- what is marked of a line that is refused so: the first byte that no line may have, or a word
abbrev pub IsMarked : ScriptKind → (possible : ℕ) → (line : List ℕ) → Mark → Type 0
IsMarked kind.BadByte possible line mark = IsBadByteAt line mark
IsMarked kind possible line mark = MarksWord kind possible line mark

-- the line of this number, counted from 1
abbrev pub line_of : (bytes : List ℕ) (number : ℕ) → Option (List ℕ)
line_of bytes number = slice_get (lines bytes) (number - 1)

-- how many processors are possible by the lines before this one
abbrev pub possible_before : (bytes : List ℕ) (number : ℕ) → ℕ
possible_before bytes number = (before (take (number - 1) (lines bytes))).possible

-- The refusal is that of the reader; the mark stands in the line that it names. There is none where the script is refused
-- as a whole, or at its end.
pub record IsFault (hooks : ℕ) (bytes : List ℕ) (fault : Fault) : Type 0 where
  pub refused : IsRefused hooks bytes fault.line fault.kind
  pub marked : IfSome fault.mark (λ mark. (line : List ℕ) × (line_of bytes fault.line ≡ Some line) × IsMarked fault.kind (possible_before bytes fault.line) line mark)
  pub unmarked : IfNone fault.mark ((fault.line ≡ 0) ⊎ (line_of bytes fault.line ≡ None))
