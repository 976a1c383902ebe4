-- The words that are left, in the forms that code has them: the first word ends at the first space, and without a space
-- there is one word.
use Rattle.std.proofs.Common.{◌≡◌, ◌≢◌, ℕ, zero, suc, ◌+◌, ◌-◌, ◌<◌, length, get_or, take, drop, arith, Bool, true, false, cond, eqb, List, [], ◌∷◌, None, refl, sym, ap, ◌∙◌, length-drop}
use Rattle.std.specs.List.{join_with_byte, onto_first, slice_split}
use Rattle.hp_model.specs.Lists.{is_empty}
use Rattle.std.proofs.lemmas.Bool.{eq-eqb, ne_eqb}
use Rattle.std.proofs.lemmas.List.{take_all}
use Rattle.std.proofs.lemmas.List.Splits.{join_with_byte-slice_split}
use Rattle.hp_replay.specs.Readers.{done}
use Rattle.hp_replay.proofs.CodeForms.{is_space}

-- up to a place there is no space
abbrev pub NoSpaceBefore : (i : ℕ) → List ℕ → Type 0
NoSpaceBefore i bs = (k : ℕ) → k < i → get_or bs k 0 ≢ 32

first_space : (bs : List ℕ) (i : ℕ) → i < length bs → get_or bs i 0 ≡ 32 → NoSpaceBefore i bs → slice_split is_space bs ≡ take i bs ∷ slice_split is_space (drop (suc i) bs)
first_space [] i lt e none = absurd (omega (arith, lt))
first_space (b ∷ bs) zero lt e none = let same : eqb b 32 ≡ true = eq-eqb b 32 e in rw same refl
first_space (b ∷ bs) (suc i) lt e none =
    let other : eqb b 32 ≡ false = ne_eqb b 32 (none 0 (omega arith)) in
    let more : slice_split is_space bs ≡ take i bs ∷ slice_split is_space (drop (suc i) bs) = first_space bs i (omega (arith, lt)) e (λ k h. none (suc k) (omega (arith, h))) in
    rw (other, more) refl

pub at_space : (bs : List ℕ) (i : ℕ) → i < length bs → get_or bs i 0 ≡ 32 → NoSpaceBefore i bs → slice_split is_space bs ≡ take i bs ∷ slice_split is_space (take (length bs - (i + 1)) (drop (i + 1) bs))
at_space bs i lt e none =
    let one : i + 1 ≡ suc i = omega arith in
    let rest : take (length bs - (i + 1)) (drop (i + 1) bs) ≡ drop (suc i) bs = take_all _ _ (omega (arith, length-drop (i + 1) bs)) ∙ ap (λ n. drop n bs) one in
    first_space bs i lt e none ∙ ap (λ (w : List ℕ). take i bs ∷ slice_split is_space w) (sym rest)

pub no_space : (bs : List ℕ) → NoSpaceBefore (length bs) bs → slice_split is_space bs ≡ bs ∷ []
no_space [] none = refl
no_space (b ∷ bs) none =
    let other : eqb b 32 ≡ false = ne_eqb b 32 (none 0 (omega arith)) in
    let more : slice_split is_space bs ≡ bs ∷ [] = no_space bs (λ k h. none (suc k) (omega (arith, h))) in
    rw (other, more) refl

-- where bytes are left, a word is
onto_some : {X : Type 0} (x : X) (b : ℕ) (ws : List (List ℕ)) → None ≡ done x (onto_first b ws)
onto_some x b [] = refl
onto_some x b (w ∷ ws) = refl

pub some_word : {X : Type 0} (x : X) (bs : List ℕ) → None ≡ done x (slice_split is_space bs)
some_word x [] = refl
some_word x (b ∷ bs) = by_test (eqb b 32)
  where
    by_test : (t : _) → None ≡ done x (cond t ([] ∷ slice_split is_space bs) (onto_first b (slice_split is_space bs)))
    by_test true = refl
    by_test false = onto_some x b (slice_split is_space bs)

onto_more : (b : ℕ) (ws : List (List ℕ)) → false ≡ is_empty (onto_first b ws)
onto_more b [] = refl
onto_more b (w ∷ ws) = refl

pub more_words : (bs : List ℕ) → false ≡ is_empty (slice_split is_space bs)
more_words [] = refl
more_words (b ∷ bs) = by_test (eqb b 32)
  where
    by_test : (t : Bool) → false ≡ is_empty (cond t ([] ∷ slice_split is_space bs) (onto_first b (slice_split is_space bs)))
    by_test true = refl
    by_test false = onto_more b (slice_split is_space bs)

-- where a text is one word, the text is that word
pub lone_word : (bs w : List ℕ) → slice_split is_space bs ≡ w ∷ [] → length bs ≡ length w
lone_word bs w e = ap length (sym (join_with_byte-slice_split 32 bs) ∙ ap (λ (ws : List (List ℕ)). join_with_byte 32 ws) e)
