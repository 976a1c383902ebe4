-- Where a word stands in its line. This project's own.
use Rattle.std.specs.Prelude.{◌≡◌, ℕ, ◌+◌, ◌<◌, ◌≤◌, true, false, List, ◌∷◌, ◌++◌, length, take, drop}
use Rattle.hp_script.specs.Words.{words, has_bad_byte}
use Rattle.hp_hint.specs.declared.place.Mark.{Mark}

-- So many words stand before the mark; then come the bytes that are marked, which are the next word; and then the
-- others.
pub record IsWordAt (line : List ℕ) (number : ℕ) (mark : Mark) : Type 0 where
  pub before : length (words (take mark.start line)) ≡ number
  pub all : words line ≡ words (take mark.start line) ++ take mark.length (drop mark.start line) ∷ words (drop (mark.start + mark.length) line)

-- nothing is marked but the end of the line
pub record IsEnd (line : List ℕ) (mark : Mark) : Type 0 where
  pub start : mark.start ≡ length line
  pub length : mark.length ≡ 0

-- the word of this number, counted from 0, is marked, or the end where the line has no such word
pub record IsAt (line : List ℕ) (number : ℕ) (mark : Mark) : Type 0 where
  pub word : number < length (words line) → IsWordAt line number mark
  pub end : length (words line) ≤ number → IsEnd line mark

-- the first byte is marked that no line may have
pub record IsFirstBadByte (line : List ℕ) (mark : Mark) : Type 0 where
  pub before : has_bad_byte (take mark.start line) ≡ false
  pub is_bad : has_bad_byte (take mark.length (drop mark.start line)) ≡ true
  pub one : mark.length ≡ 1

-- the first byte is marked that no line may have, or the end where the line has none
pub record IsBadByteAt (line : List ℕ) (mark : Mark) : Type 0 where
  pub byte : has_bad_byte line ≡ true → IsFirstBadByte line mark
  pub end : has_bad_byte line ≡ false → IsEnd line mark
