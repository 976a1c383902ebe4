-- Lines of words, as the texts of a journal and its summary have them: one space between two words, and a
-- newline at the end. This project's own.
use Rattle.std.specs.Prelude.{ℕ, Option, Some, None, Bool, if◌then◌else◌, List, [], ◌∷◌, ◌++◌, codes, decimal}
use Rattle.hp_states.specs.declared.dir.Dir.{Dir}
use Rattle.hp_states.specs.declared.dir.Dir.TheVariants.{Up, Down}

-- words that follow another: each behind one space
abbrev pub spaced : List (List ℕ) → List ℕ
spaced [] = []
spaced (w ∷ ws) = 32 ∷ (w ++ spaced ws)

-- words with one space between two
abbrev pub joined : List (List ℕ) → List ℕ
joined [] = []
joined (w ∷ ws) = w ++ spaced ws

-- the bytes of a line
abbrev pub line : List (List ℕ) → List ℕ
line words = joined words ++ 10 ∷ []

abbrev pub dir_word : Dir → List ℕ
dir_word Up = codes "up"
dir_word Down = codes "down"

-- a missing name is a dash
abbrev pub name_word : (name : List ℕ) → List ℕ
name_word [] = codes "-"
name_word (b ∷ bs) = b ∷ bs

-- a list of words, or a dash where there is none
abbrev pub list_words : List (List ℕ) → List (List ℕ)
list_words [] = codes "-" ∷ []
list_words (w ∷ ws) = w ∷ ws

-- a number, or a star where it is absent
abbrev pub any_word : Option ℕ → List ℕ
any_word None = codes "*"
any_word (Some n) = decimal n

-- what callbacks a subsystem has
abbrev pub calls_word : (up down : Bool) → List ℕ
calls_word up down =
    if up then (if down then codes "both" else codes "up") else (if down then codes "down" else codes "none")

abbrev pub kind_word : (multi : Bool) → List ℕ
kind_word multi = if multi then codes "multi" else codes "single"
