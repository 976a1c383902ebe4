-- The words of a line: the pieces between its spaces, where it ends with a newline and has no other. Two spaces have
-- an empty word between them, which no grammar takes. This project's own.
use Rattle.std.specs.Prelude.{ℕ, ◌==◌, if◌then◌else◌, List, [], ◌∷◌, Option, Some, None}
use Rattle.std.specs.Option.{option_map}
use Rattle.std.specs.List.{onto_first}

-- a newline ends the line where nothing stands behind it
abbrev pub ended : (behind : List ℕ) → Option (List (List ℕ))
ended [] = Some ([] ∷ [])
ended (b ∷ bs) = None

unfoldable pub words_at : (line : List ℕ) → Option (List (List ℕ))
words_at [] = None
words_at (b ∷ bs) =
    if b == 10 then ended bs
    else (if b == 32 then option_map (λ ws. [] ∷ ws) (words_at bs) else option_map (onto_first b) (words_at bs))
