-- A table's row in the form that code has it: the first word has the bytes of the row's word.
use Rattle.std.proofs.Common.{◌≡◌, ℕ, List, [], ◌∷◌, length, Option, Some, sym, ap, ◌∙◌}
use Rattle.std.proofs.lemmas.Slice.Eq.{HasBytesAt, text_from_reads}
use Rattle.hp_replay.specs.Readers.{Row, row_of, one_of}
use Rattle.hp_replay.specs.WordsLeft.{first_of, others_of}

pub by_row : {X : Type 0} (rows : List (Row X)) (words : List (List ℕ)) (word : List ℕ) → Some word ≡ first_of words → row_of rows word (others_of words) ≡ one_of rows words
by_row rows [] word e = absurd cc
by_row rows (w ∷ ws) word e = let same : word ≡ w = cc in ap (λ (v : List ℕ). row_of rows v ws) same

-- what the row of this word says of the words behind it is what the table says
pub at_row : {X : Type 0} (rows : List (Row X)) (words rest : List (List ℕ)) (word text : List ℕ) (said : Option X) →
    Some word ≡ first_of words → rest ≡ others_of words → length word ≡ length text → HasBytesAt word 0 text →
    said ≡ row_of rows text rest → said ≡ one_of rows words
at_row rows words rest word text said first behind count bytes is =
    is
    ∙ ap (λ (v : List ℕ). row_of rows v rest) (sym (text_from_reads word text count bytes))
    ∙ ap (λ (ws : List (List ℕ)). row_of rows word ws) behind
    ∙ by_row rows words word first
