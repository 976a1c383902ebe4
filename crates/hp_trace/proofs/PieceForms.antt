-- The pieces that are left, in the forms that code has them: the first ends at the first separator, and without one there
-- is one piece.
use Rattle.std.proofs.Common.{◌≡◌, ◌≢◌, ℕ, zero, suc, ◌+◌, ◌-◌, ◌<◌, length, get_or, take, drop, arith, Bool, true, false, cond, eqb, List, [], ◌∷◌, refl, sym, ap, ◌∙◌, length-drop}
use Rattle.std.specs.List.{onto_first, slice_split}
use Rattle.std.proofs.lemmas.Bool.{eq-eqb, ne_eqb}
use Rattle.std.proofs.lemmas.List.{take_all}
use Rattle.memchr.specs.Find.{Nowhere, Passes, is_byte}
use Rattle.hp_trace.specs.Pieces.{is_none_left}

-- up to a place there is no separator
abbrev pub NoneBefore : (by i : ℕ) → List ℕ → Type 0
NoneBefore by i bs = (k : ℕ) → k < i → get_or bs k 0 ≢ by

abbrev pub is_by : (by : ℕ) → ℕ → Bool
is_by by b = eqb b by

-- none is where a search for the first has passed
pub none_before : (by : ℕ) (bs : List ℕ) (i : ℕ) → Nowhere (Passes (is_byte by) bs) 0 i → NoneBefore by i bs
none_before by bs i none = λ k lt e. none k (omega arith) lt (eq-eqb (get_or bs k 0) by e)

first_one : (by : ℕ) (bs : List ℕ) (i : ℕ) → i < length bs → get_or bs i 0 ≡ by → NoneBefore by i bs → slice_split (is_by by) bs ≡ take i bs ∷ slice_split (is_by by) (drop (suc i) bs)
first_one by [] i lt e none = absurd (omega (arith, lt))
first_one by (b ∷ bs) zero lt e none = let same : eqb b by ≡ true = eq-eqb b by e in rw same refl
first_one by (b ∷ bs) (suc i) lt e none =
    let other : eqb b by ≡ false = ne_eqb b by (none 0 (omega arith)) in
    let more : slice_split (is_by by) bs ≡ take i bs ∷ slice_split (is_by by) (drop (suc i) bs) = first_one by bs i (omega (arith, lt)) e (λ k h. none (suc k) (omega (arith, h))) in
    rw (other, more) refl

pub at_one : (by : ℕ) (bs : List ℕ) (i : ℕ) → i < length bs → get_or bs i 0 ≡ by → NoneBefore by i bs → slice_split (is_by by) bs ≡ take i bs ∷ slice_split (is_by by) (take (length bs - (i + 1)) (drop (i + 1) bs))
at_one by bs i lt e none =
    let one : i + 1 ≡ suc i = omega arith in
    let rest : take (length bs - (i + 1)) (drop (i + 1) bs) ≡ drop (suc i) bs = take_all _ _ (omega (arith, length-drop (i + 1) bs)) ∙ ap (λ n. drop n bs) one in
    first_one by bs i lt e none ∙ ap (λ (w : List ℕ). take i bs ∷ slice_split (is_by by) w) (sym rest)

pub without : (by : ℕ) (bs : List ℕ) → NoneBefore by (length bs) bs → slice_split (is_by by) bs ≡ bs ∷ []
without by [] none = refl
without by (b ∷ bs) none =
    let other : eqb b by ≡ false = ne_eqb b by (none 0 (omega arith)) in
    let more : slice_split (is_by by) bs ≡ bs ∷ [] = without by bs (λ k h. none (suc k) (omega (arith, h))) in
    rw (other, more) refl

-- where bytes are left, a piece is
onto_more : (b : ℕ) (ws : List (List ℕ)) → false ≡ is_none_left (onto_first b ws)
onto_more b [] = refl
onto_more b (w ∷ ws) = refl

pub more_left : (by : ℕ) (bs : List ℕ) → false ≡ is_none_left (slice_split (is_by by) bs)
more_left by [] = refl
more_left by (b ∷ bs) = by_test (eqb b by)
  where
    by_test : (t : Bool) → false ≡ is_none_left (cond t ([] ∷ slice_split (is_by by) bs) (onto_first b (slice_split (is_by by) bs)))
    by_test true = refl
    by_test false = onto_more b (slice_split (is_by by) bs)
