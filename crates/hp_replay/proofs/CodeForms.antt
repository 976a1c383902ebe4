-- The lines and words of the definitions in the forms that code has them: the next line up to a newline, and the pieces
-- of a split at spaces.
use Rattle.std.proofs.Common.{◌≡◌, ◌≢◌, ℕ, zero, suc, ◌<◌, length, get_or, take, drop, arith, Bool, true, false, cond, not, eqb, List, [], ◌∷◌, ◌++◌, Some, None, refl, ap}
use Rattle.std.specs.List.{onto_first, slice_split}
use Rattle.std.specs.Option.{option_map}
use Rattle.std.proofs.lemmas.Bool.{and_parts, not-true, eq-eqb, ne_eqb}
use Rattle.hp_replay.specs.InputLines.{lines_of}
use Rattle.hp_replay.specs.LineWords.{words_at}
use Rattle.hp_replay.proofs.InputLaws.{no_newline}

abbrev pub is_space : ℕ → Bool
is_space b = eqb b 32

split_at : (b : ℕ) (bs : List ℕ) (t : Bool) → words_at (bs ++ 10 ∷ []) ≡ Some (slice_split is_space bs) →
    cond t (option_map (λ ws. [] ∷ ws) (words_at (bs ++ 10 ∷ []))) (option_map (onto_first b) (words_at (bs ++ 10 ∷ []))) ≡ Some (cond t ([] ∷ slice_split is_space bs) (onto_first b (slice_split is_space bs)))
split_at b bs true h = ap (option_map (λ (ws : List (List ℕ)). [] ∷ ws)) h
split_at b bs false h = ap (option_map (onto_first b)) h

-- the words of a line are the pieces between the spaces of what stands before its newline
pub words_are_split : (body : List ℕ) → no_newline body ≡ true → words_at (body ++ 10 ∷ []) ≡ Some (slice_split is_space body)
unfolding words_at
words_are_split [] h = refl
words_are_split (b ∷ bs) h =
    let p = and_parts (not (eqb b 10)) (no_newline bs) h in
    let other : eqb b 10 ≡ false = not-true (eqb b 10) p.0 in
    rw other (split_at b bs (eqb b 32) (words_are_split bs p.1))

none_at : (b : ℕ) (bs : List ℕ) (t : Bool) → words_at bs ≡ None → cond t (option_map (λ ws. [] ∷ ws) (words_at bs)) (option_map (onto_first b) (words_at bs)) ≡ None
none_at b bs true h = ap (option_map (λ (ws : List (List ℕ)). [] ∷ ws)) h
none_at b bs false h = ap (option_map (onto_first b)) h

-- what has no newline has no words
pub no_newline_no_words : (l : List ℕ) → no_newline l ≡ true → words_at l ≡ None
unfolding words_at
no_newline_no_words [] h = refl
no_newline_no_words (b ∷ bs) h =
    let p = and_parts (not (eqb b 10)) (no_newline bs) h in
    let other : eqb b 10 ≡ false = not-true (eqb b 10) p.0 in
    rw other (none_at b bs (eqb b 32) (no_newline_no_words bs p.1))

-- a last line that has no newline
pub last_line : (b : ℕ) (bs : List ℕ) → no_newline (b ∷ bs) ≡ true → lines_of (b ∷ bs) ≡ (b ∷ bs) ∷ []
unfolding lines_of
last_line b [] h =
    let p = and_parts (not (eqb b 10)) true h in
    let other : eqb b 10 ≡ false = not-true (eqb b 10) p.0 in
    rw other refl
last_line b (c ∷ cs) h =
    let p = and_parts (not (eqb b 10)) (no_newline (c ∷ cs)) h in
    let other : eqb b 10 ≡ false = not-true (eqb b 10) p.0 in
    rw (other, last_line c cs p.1) refl

-- nothing has no lines
pub no_lines : lines_of [] ≡ []
unfolding lines_of
no_lines = refl

-- the line up to the first newline, and the lines of what stands behind it
pub next_line : (bs : List ℕ) (i : ℕ) → i < length bs → get_or bs i 0 ≡ 10 → ((j : ℕ) → j < i → get_or bs j 0 ≢ 10) → lines_of bs ≡ take (suc i) bs ∷ lines_of (drop (suc i) bs)
unfolding lines_of
next_line [] i lt e first = absurd (omega (arith, lt))
next_line (b ∷ bs) zero lt e first = let same : eqb b 10 ≡ true = eq-eqb b 10 e in rw same refl
next_line (b ∷ bs) (suc i) lt e first =
    let other : eqb b 10 ≡ false = ne_eqb b 10 (first 0 (omega arith)) in
    let more : lines_of bs ≡ take (suc i) bs ∷ lines_of (drop (suc i) bs) = next_line bs i (omega (arith, lt)) e (λ j h. first (suc j) (omega (arith, h))) in
    rw (other, more) refl

-- bytes none of which is a newline
pub none_is_newline : (bs : List ℕ) → ((j : ℕ) → j < length bs → get_or bs j 0 ≢ 10) → no_newline bs ≡ true
none_is_newline [] h = refl
none_is_newline (b ∷ bs) h =
    let other : eqb b 10 ≡ false = ne_eqb b 10 (h 0 (omega arith)) in
    rw other (none_is_newline bs (λ j lt. h (suc j) (omega (arith, lt))))
