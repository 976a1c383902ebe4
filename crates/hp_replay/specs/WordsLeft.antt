-- The words that a reader has before it: the pieces between the spaces of the bytes that are left, where any are. This
-- project's own.
use Rattle.std.specs.Prelude.{ℕ, ◌==◌, ◌≢◌, List, [], ◌∷◌, Option, Some, None, codes}
use Rattle.std.specs.Borrow.{Bor}
use Rattle.std.specs.List.{slice_split}
pub use Rattle.hp_text.specs.Words.{first_of, others_of}

-- the pieces between the spaces of a text
abbrev pub pieces : (text : List ℕ) → List (List ℕ)
pieces text = slice_split (λ b. b == 32) text

abbrev pub words_left : Option (Bor (List ℕ)) → List (List ℕ)
words_left None = []
words_left (Some b) = pieces b.now

-- what the first word says
abbrev pub first_says : {A : Type 0} → (List ℕ → Option A) → List (List ℕ) → Option A
first_says field [] = None
first_says field (w ∷ ws) = field w

-- the first word isn't `call`, or no word follows it
abbrev pub BeginNoCall : List (List ℕ) → Type 0
BeginNoCall words = (second : List ℕ) (others : List (List ℕ)) → words ≢ codes "call" ∷ second ∷ others
