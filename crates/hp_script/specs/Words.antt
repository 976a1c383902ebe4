-- The words of a line: they are parted by one or more spaces, and spaces at its ends are skipped. This project's own.
use Rattle.std.specs.Prelude.{ℕ, Bool, true, false, not, ◌&&◌, ◌==◌, nat_le, List, [], ◌∷◌, filter}
use Rattle.std.specs.List.{list_any}
use Rattle.hp_model.specs.Lists.{is_empty}
use Rattle.hp_script.specs.Pieces.{pieces}

-- the pieces between spaces that aren't empty
abbrev pub words : (line : List ℕ) → List (List ℕ)
words line = filter (λ piece. not (is_empty piece)) (pieces 32 line)

-- bytes other than 32 to 126
abbrev pub is_bad_byte : ℕ → Bool
is_bad_byte byte = not (nat_le 32 byte && nat_le byte 126)

abbrev pub has_bad_byte : (line : List ℕ) → Bool
has_bad_byte line = list_any is_bad_byte line

-- a word that begins with `#`
abbrev pub is_comment : (word : List ℕ) → Bool
is_comment [] = false
is_comment (byte ∷ bytes) = byte == 35

-- a line without words, and one whose first word begins with `#`, are skipped
abbrev pub is_skipped : (words : List (List ℕ)) → Bool
is_skipped [] = true
is_skipped (first ∷ rest) = is_comment first
