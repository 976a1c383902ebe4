-- Lines in the forms that code has them: where the first line ends, and what a line's words are.
use Rattle.std.proofs.Common.{◌≡◌, ◌≢◌, ℕ, suc, ◌+◌, ◌<◌, length, get_or, take, drop, true, List, [], ◌∷◌, ◌++◌, Some, None, refl, sym, ap, subst, ◌∙◌, length-append, length-take, arith, inl, inr, ◌⊎◌, Bool, false, ltb, cond, eqb}
use Rattle.std.proofs.lemmas.Bool.{ltb-true, ltb-false, eq-eqb}
use Rattle.memchr.specs.Find.{Nowhere, Passes, is_byte}
use Rattle.std.specs.List.{slice_split, onto_first}
use Rattle.std.proofs.Math.ListN.{get_or-append}
use Rattle.std.proofs.Math.Seq.{get_or-append_seam}
use Rattle.std.proofs.lemmas.List.{get_or-take, take_all, drop_all}
use Rattle.hp_replay.specs.InputLines.{lines_of}
use Rattle.hp_replay.specs.LineWords.{words_at}
use Rattle.hp_replay.specs.LinesLeft.{IsLine}
use Rattle.hp_replay.proofs.InputLaws.{no_newline}
use Rattle.hp_replay.proofs.CodeForms.{is_space, words_are_split, no_newline_no_words, next_line, last_line, no_lines, none_is_newline}

-- up to a place there is no newline
abbrev pub NoNewlineBefore : (i : ℕ) → List ℕ → Type 0
NoNewlineBefore i bs = (k : ℕ) → k < i → get_or bs k 0 ≢ 10

-- none is where a search for the first has passed
pub newline_first : (bs : List ℕ) (i : ℕ) → Nowhere (Passes (is_byte 10) bs) 0 i → NoNewlineBefore i bs
newline_first bs i none = λ k lt e. none k (omega arith) lt (eq-eqb (get_or bs k 0) 10 e)

pub front_is_line : (bs : List ℕ) (i : ℕ) → NoNewlineBefore i bs → IsLine (take (i + 1) bs)
front_is_line bs i none = λ k lt e.
    let short : k < i = omega (arith, lt, length-take (i + 1) bs) in
    none k short (sym (get_or-take (i + 1) bs k 0 (omega (arith, short))) ∙ e)

pub front_line : (bs : List ℕ) (i : ℕ) → i < length bs → get_or bs i 0 ≡ 10 → NoNewlineBefore i bs → lines_of bs ≡ take (i + 1) bs ∷ lines_of (drop (i + 1) bs)
front_line bs i lt e none =
    let one : suc i ≡ i + 1 = omega arith in
    subst (λ (n : ℕ). lines_of bs ≡ take n bs ∷ lines_of (drop n bs)) one (next_line bs i lt e none)

pub all_is_line : (bs : List ℕ) → NoNewlineBefore (length bs) bs → IsLine (take (length bs) bs)
all_is_line bs none = subst IsLine (sym (take_all (length bs) bs (omega arith))) (λ k lt. none k (omega (arith, lt)))

only_line : (bs : List ℕ) → 0 < length bs → NoNewlineBefore (length bs) bs → lines_of bs ≡ bs ∷ []
only_line [] some none = absurd (omega arith)
only_line (b ∷ bs) some none = last_line b bs (none_is_newline (b ∷ bs) none)

pub all_line : (bs : List ℕ) → 0 < length bs → NoNewlineBefore (length bs) bs → lines_of bs ≡ take (length bs) bs ∷ lines_of (drop (length bs) bs)
all_line bs some none =
    only_line bs some none
    ∙ ap (λ (l : List ℕ). l ∷ []) (sym (take_all (length bs) bs (omega arith)))
    ∙ ap (λ (ls : List (List ℕ)). take (length bs) bs ∷ ls) (sym (ap lines_of (drop_all (length bs) bs (omega arith)) ∙ no_lines))

-- ---- the words of a line

pub nothing_said : (l : List ℕ) → length l ≡ 0 → None ≡ words_at l
unfolding words_at
nothing_said [] e = refl
nothing_said (b ∷ bs) e = absurd (omega (arith, e))

free_text : (text : List ℕ) (last : ℕ) → IsLine (text ++ last ∷ []) → no_newline text ≡ true
free_text text last is = none_is_newline text (λ k lt e. is k (omega (arith, lt, length-append text (last ∷ []))) (get_or-append text (last ∷ []) 0 k lt ∙ e))

pub ended_words : (l text : List ℕ) (last : ℕ) → l ≡ text ++ last ∷ [] → last ≡ 10 → IsLine l → Some (slice_split is_space text) ≡ words_at l
ended_words l text last whole newline is =
    sym (ap words_at (whole ∙ ap (λ (b : ℕ). text ++ b ∷ []) newline) ∙ words_are_split text (free_text text last (subst IsLine whole is)))

before_or_at : (k n : ℕ) → k < n + 1 → (k < n) ⊎ (k ≡ n)
before_or_at k n lt = by_test (ltb k n) refl
  where
    by_test : (t : Bool) → ltb k n ≡ t → (k < n) ⊎ (k ≡ n)
    by_test true e = inl (ltb-true k n e)
    by_test false e = inr (omega (arith, ltb-false k n e, lt))

free_line : (text : List ℕ) (last : ℕ) → IsLine (text ++ last ∷ []) → last ≢ 10 → no_newline (text ++ last ∷ []) ≡ true
free_line text last is other = none_is_newline (text ++ last ∷ []) (λ k lt e.
    let count = length-append text (last ∷ []) in
    elim (before_or_at k (length text) (omega (arith, lt, count))) [
      | inl before ↦ is k (omega (arith, before, count)) e
      | inr at ↦ other (sym (get_or-append_seam text last [] 0) ∙ ap (λ (n : ℕ). get_or (text ++ last ∷ []) n 0) (sym at) ∙ e)
    ])

pub unended_words : (l text : List ℕ) (last : ℕ) → l ≡ text ++ last ∷ [] → last ≢ 10 → IsLine l → None ≡ words_at l
unended_words l text last whole other is =
    sym (ap words_at whole ∙ no_newline_no_words (text ++ last ∷ []) (free_line text last (subst IsLine whole is) other))

-- ---- no line is left

pub nothing_left : (bs : List ℕ) → length bs ≡ 0 → lines_of bs ≡ []
nothing_left [] e = no_lines
nothing_left (b ∷ bs) e = absurd (omega (arith, e))

not_onto : (b : ℕ) (ls : List (List ℕ)) (t : Bool) → cond t ((b ∷ []) ∷ ls) (onto_first b ls) ≡ [] → ⊥
not_onto b ls true e = cc
not_onto b [] false e = cc
not_onto b (l ∷ ls) false e = cc

pub left_nothing : (bs : List ℕ) → lines_of bs ≡ [] → length bs ≡ 0
unfolding lines_of
left_nothing [] e = refl
left_nothing (b ∷ bs) e = absurd (not_onto b (lines_of bs) (eqb b 10) e)
