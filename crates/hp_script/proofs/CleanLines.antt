-- A line of words without spaces and other bytes that aren't graphic: its words are these, and it is one line.
use Rattle.std.proofs.Common.{◌≡◌, ℕ, ◌^◌, ◌<◌, Bool, true, false, not, ◌&&◌, leb, List, [], ◌∷◌, ◌++◌, refl, ap, ◌∙◌, append_assoc, arith}
use Rattle.std.specs.Prelude.{nat_le, filter}
use Rattle.std.specs.Fmt.{decimal}
use Rattle.std.specs.List.{list_all, list_any}
use Rattle.std.proofs.lemmas.Bool.{and_parts, and_from, leb-true, le-leb, or_from}
use Rattle.std.proofs.lemmas.List.{append-nil}
use Rattle.std.proofs.lemmas.List.Folds.{list_any-append}
use Rattle.hp_model.specs.Lists.{is_empty}
use Rattle.hp_model.specs.Words.{spaced, joined, line}
use Rattle.hp_text.specs.Numbers.{is_digit, is_number}
use Rattle.hp_text.proofs.NumberLaws.{decimal_written}
use Rattle.hp_script.specs.Pieces.{onto_first, pieces}
use Rattle.hp_script.specs.Words.{words, is_bad_byte, has_bad_byte}
use Rattle.hp_script.proofs.PieceLoops.{at_end, in_piece}

abbrev pub is_graphic : ℕ → Bool
is_graphic byte = nat_le 33 byte && nat_le byte 126

abbrev pub is_clean : (word : List ℕ) → Bool
is_clean word = not (is_empty word) && list_all is_graphic word

abbrev pub are_clean : (words : List (List ℕ)) → Bool
are_clean words = list_all is_clean words

pub digits_graphic : (w : List ℕ) → list_all is_digit w ≡ true → list_all is_graphic w ≡ true
digits_graphic [] h = refl
digits_graphic (b ∷ bs) h =
    let p = and_parts (is_digit b) (list_all is_digit bs) h in
    let q = and_parts (leb 48 b) (leb b 57) p.0 in
    let low = leb-true 48 b q.0 in
    let high = leb-true b 57 q.1 in
    and_from (is_graphic b) (list_all is_graphic bs)
    (and_from (leb 33 b) (leb b 126) (le-leb 33 b (omega (arith, low))) (le-leb b 126 (omega (arith, high))))
    (digits_graphic bs p.1)

some_byte : (w : List ℕ) → is_number w ≡ true → is_empty w ≡ false
some_byte [] h = absurd cc
some_byte (b ∷ bs) h = refl

pub decimal_clean : (n : ℕ) → n < 2 ^ 64 → is_clean (decimal n) ≡ true
decimal_clean n lt =
    let w = decimal_written n lt in
    and_from (not (is_empty (decimal n))) (list_all is_graphic (decimal n)) (ap not (some_byte (decimal n) w.form)) (digits_graphic (decimal n) w.digits)

-- ---- bytes that a text doesn't have

abbrev IsFree : (end : ℕ) (bytes : List ℕ) → Type 0
IsFree end [] = Unit {0}
IsFree end (b ∷ bs) = (b ≡ end → ⊥) × IsFree end bs

free_append : (end : ℕ) (xs ys : List ℕ) → IsFree end xs → IsFree end ys → IsFree end (xs ++ ys)
free_append end [] ys f g = g
free_append end (x ∷ xs) ys f g = (f.0, free_append end xs ys f.1 g)

graphic_free : (end : ℕ) (w : List ℕ) → end < 33 → list_all is_graphic w ≡ true → IsFree end w
graphic_free end [] low h = tt
graphic_free end (b ∷ bs) low h =
    let p = and_parts (is_graphic b) (list_all is_graphic bs) h in
    let q = and_parts (leb 33 b) (leb b 126) p.0 in
    let above = leb-true 33 b q.0 in
    ((λ same. omega (arith, low, above, same)), graphic_free end bs low p.1)

graphic_good : (w : List ℕ) → list_all is_graphic w ≡ true → list_any is_bad_byte w ≡ false
graphic_good [] h = refl
graphic_good (b ∷ bs) h =
    let p = and_parts (is_graphic b) (list_all is_graphic bs) h in
    let q = and_parts (leb 33 b) (leb b 126) p.0 in
    let above = leb-true 33 b q.0 in
    let low : leb 32 b ≡ true = le-leb 32 b (omega (arith, above)) in
    let high : leb b 126 ≡ true = q.1 in
    rw (low, high) (graphic_good bs p.1)

-- ---- pieces

piece_ends : (end : ℕ) (w rest : List ℕ) → IsFree end w → pieces end (w ++ end ∷ rest) ≡ w ∷ pieces end rest
piece_ends end [] rest f = at_end end end rest refl
piece_ends end (b ∷ bs) rest f = in_piece end b (bs ++ end ∷ rest) f.0 ∙ ap (onto_first b) (piece_ends end bs rest f.1)

piece_last : (end b : ℕ) (bs : List ℕ) → IsFree end (b ∷ bs) → pieces end (b ∷ bs) ≡ (b ∷ bs) ∷ []
piece_last end b [] f = in_piece end b [] f.0
piece_last end b (c ∷ cs) f = in_piece end b (c ∷ cs) f.0 ∙ ap (onto_first b) (piece_last end c cs f.1)

-- ---- the words of a line

first_word : (w : List ℕ) (more : List (List ℕ)) → is_clean w ≡ true → filter (λ piece. not (is_empty piece)) (w ∷ more) ≡ w ∷ filter (λ piece. not (is_empty piece)) more
first_word [] more h = absurd cc
first_word (b ∷ bs) more h = refl

pub words_again : (w : List ℕ) (ws : List (List ℕ)) → is_clean w ≡ true → are_clean ws ≡ true → words (joined (w ∷ ws)) ≡ w ∷ ws
words_again [] ws h hs = absurd cc
words_again (b ∷ bs) [] h hs =
    let p = and_parts (not (is_empty (b ∷ bs))) (list_all is_graphic (b ∷ bs)) h in
    ap words (append-nil (b ∷ bs)) ∙ ap (λ (ps : List (List ℕ)). filter (λ piece. not (is_empty piece)) ps) (piece_last 32 b bs (graphic_free 32 (b ∷ bs) (omega arith) p.1))
words_again (b ∷ bs) (v ∷ vs) h hs =
    let p = and_parts (not (is_empty (b ∷ bs))) (list_all is_graphic (b ∷ bs)) h in
    let q = and_parts (is_clean v) (are_clean vs) hs in
    let split : pieces 32 (joined ((b ∷ bs) ∷ v ∷ vs)) ≡ (b ∷ bs) ∷ pieces 32 (joined (v ∷ vs)) = piece_ends 32 (b ∷ bs) (joined (v ∷ vs)) (graphic_free 32 (b ∷ bs) (omega arith) p.1) in
    ap (λ (ps : List (List ℕ)). filter (λ piece. not (is_empty piece)) ps) split
    ∙ ap (λ (ws : List (List ℕ)). (b ∷ bs) ∷ ws) (words_again v vs q.0 q.1)

spaced_good : (ws : List (List ℕ)) → are_clean ws ≡ true → list_any is_bad_byte (spaced ws) ≡ false
spaced_good [] h = refl
spaced_good (w ∷ ws) h =
    let p = and_parts (is_clean w) (are_clean ws) h in
    let q = and_parts (not (is_empty w)) (list_all is_graphic w) p.0 in
    list_any-append is_bad_byte w (spaced ws) ∙ or_from (list_any is_bad_byte w) (list_any is_bad_byte (spaced ws)) (graphic_good w q.1) (spaced_good ws p.1)

pub line_good : (w : List ℕ) (ws : List (List ℕ)) → is_clean w ≡ true → are_clean ws ≡ true → has_bad_byte (joined (w ∷ ws)) ≡ false
line_good w ws h hs =
    let q = and_parts (not (is_empty w)) (list_all is_graphic w) h in
    list_any-append is_bad_byte w (spaced ws) ∙ or_from (list_any is_bad_byte w) (list_any is_bad_byte (spaced ws)) (graphic_good w q.1) (spaced_good ws hs)

spaced_free : (ws : List (List ℕ)) → are_clean ws ≡ true → IsFree 10 (spaced ws)
spaced_free [] h = tt
spaced_free (w ∷ ws) h =
    let p = and_parts (is_clean w) (are_clean ws) h in
    let q = and_parts (not (is_empty w)) (list_all is_graphic w) p.0 in
    ((λ e. absurd cc), free_append 10 w (spaced ws) (graphic_free 10 w (omega arith) q.1) (spaced_free ws p.1))

-- the line is the first piece of a text that begins with it
pub line_parts : (w : List ℕ) (ws : List (List ℕ)) (rest : List ℕ) → is_clean w ≡ true → are_clean ws ≡ true
    → pieces 10 (line (w ∷ ws) ++ rest) ≡ joined (w ∷ ws) ∷ pieces 10 rest
line_parts w ws rest h hs =
    let q = and_parts (not (is_empty w)) (list_all is_graphic w) h in
    ap (pieces 10) (append_assoc (joined (w ∷ ws)) (10 ∷ []) rest)
    ∙ piece_ends 10 (joined (w ∷ ws)) rest (free_append 10 w (spaced ws) (graphic_free 10 w (omega arith) q.1) (spaced_free ws hs))
