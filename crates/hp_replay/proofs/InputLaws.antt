-- The lines of a text: a line behind another, and the text had back from its lines.
use Rattle.std.proofs.Common.{◌≡◌, ℕ, Bool, true, false, cond, not, ◌&&◌, eqb, List, [], ◌∷◌, ◌++◌, refl, sym, ap, ◌∙◌, append_assoc}
use Rattle.std.specs.List.{onto_first}
use Rattle.std.proofs.lemmas.Bool.{and_parts, not-true}
use Rattle.hp_model.specs.Words.{line, spaced, joined}
use Rattle.hp_replay.specs.InputLines.{lines_of}
use Rattle.hp_replay.proofs.LineLaws.{is_free, all_free}

abbrev pub flat : List (List ℕ) → List ℕ
flat [] = []
flat (l ∷ ls) = l ++ flat ls

flat_onto : (b : ℕ) (ls : List (List ℕ)) → flat (onto_first b ls) ≡ b ∷ flat ls
flat_onto b [] = refl
flat_onto b (l ∷ ls) = refl

flat_first : (b : ℕ) (bs : List ℕ) (t : Bool) → flat (lines_of bs) ≡ bs → flat (cond t ((b ∷ []) ∷ lines_of bs) (onto_first b (lines_of bs))) ≡ b ∷ bs
flat_first b bs true h = ap (λ (x : List ℕ). b ∷ x) h
flat_first b bs false h = flat_onto b (lines_of bs) ∙ ap (λ (x : List ℕ). b ∷ x) h

-- the text had back
pub flat_lines : (bs : List ℕ) → flat (lines_of bs) ≡ bs
unfolding lines_of
flat_lines [] = refl
flat_lines (b ∷ bs) = flat_first b bs (eqb b 10) (flat_lines bs)

pub same_lines : (a b : List ℕ) → lines_of a ≡ lines_of b → a ≡ b
same_lines a b h = sym (flat_lines a) ∙ ap flat h ∙ flat_lines b

abbrev pub no_newline : List ℕ → Bool
no_newline [] = true
no_newline (b ∷ bs) = not (eqb b 10) && no_newline bs

-- a line that ends stands before the lines of what follows it
pub ended_line : (x rest : List ℕ) → no_newline x ≡ true → lines_of (x ++ 10 ∷ rest) ≡ (x ++ 10 ∷ []) ∷ lines_of rest
unfolding lines_of
ended_line [] rest h = refl
ended_line (b ∷ bs) rest h =
    let p = and_parts (not (eqb b 10)) (no_newline bs) h in
    let other : eqb b 10 ≡ false = not-true (eqb b 10) p.0 in
    rw (other, ended_line bs rest p.1) refl

no_newline-append : (x y : List ℕ) → no_newline x ≡ true → no_newline y ≡ true → no_newline (x ++ y) ≡ true
no_newline-append [] y h g = g
no_newline-append (b ∷ bs) y h g =
    let p = and_parts (not (eqb b 10)) (no_newline bs) h in
    let other : eqb b 10 ≡ false = not-true (eqb b 10) p.0 in
    rw other (no_newline-append bs y p.1 g)

free_word : (w : List ℕ) → is_free w ≡ true → no_newline w ≡ true
free_word [] h = refl
free_word (b ∷ bs) h =
    let p = and_parts (not (eqb b 10)) (not (eqb b 32) && is_free bs) h in
    let q = and_parts (not (eqb b 32)) (is_free bs) p.1 in
    let other : eqb b 10 ≡ false = not-true (eqb b 10) p.0 in
    rw other (free_word bs q.1)

free_spaced : (ws : List (List ℕ)) → all_free ws ≡ true → no_newline (spaced ws) ≡ true
free_spaced [] h = refl
free_spaced (w ∷ ws) h =
    let p = and_parts (is_free w) (all_free ws) h in
    no_newline-append w (spaced ws) (free_word w p.0) (free_spaced ws p.1)

free_joined : (ws : List (List ℕ)) → all_free ws ≡ true → no_newline (joined ws) ≡ true
free_joined [] h = refl
free_joined (w ∷ ws) h =
    let p = and_parts (is_free w) (all_free ws) h in
    no_newline-append w (spaced ws) (free_word w p.0) (free_spaced ws p.1)

-- a line of words stands before the lines of what follows it
pub line_first : (ws : List (List ℕ)) (rest : List ℕ) → all_free ws ≡ true → lines_of (line ws ++ rest) ≡ line ws ∷ lines_of rest
line_first ws rest h = ap lines_of (append_assoc (joined ws) (10 ∷ []) rest) ∙ ended_line (joined ws) rest (free_joined ws h)
