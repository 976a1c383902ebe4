-- Words of one, two and three digits are numbers, where no 0 stands before another digit.
use Rattle.std.proofs.Common.{◌≡◌, ℕ, ◌+◌, ◌-◌, ◌*◌, ◌≤◌, ◌^◌, true, false, eqb, leb, ltb, List, [], ◌∷◌, length, get_or, drop, Some, refl, sym, ap, ◌∙◌, arith}
use Rattle.std.specs.List.{slice_split}
use Rattle.std.proofs.lemmas.Bool.{ne_eqb, eq-eqb, le-leb, lt-ltb}
use Rattle.hp_text.specs.Numbers.{number_below}
use Rattle.hp_replay.specs.Numbers.{number}
use Rattle.hp_replay.specs.WordsLeft.{first_says}
use Rattle.hp_replay.proofs.CodeForms.{is_space}

-- ---- one digit

one_digit : (d : ℕ) → 48 ≤ d → d ≤ 57 → number (d ∷ []) ≡ Some (d - 48)
unfolding number_below
one_digit d low high =
    let from : leb 48 d ≡ true = le-leb 48 d low in
    let to : leb d 57 ≡ true = le-leb d 57 high in
    let small : ltb (0 + (d - 48)) (2 ^ 32) ≡ true = lt-ltb _ _ (omega (arith, high)) in
    let same : 0 + (d - 48) ≡ d - 48 = omega arith in
    rw (from, to, small) (ap (λ (n : ℕ). Some n) same)

digit_split : (bs : List ℕ) → 2 ≤ length bs → 48 ≤ get_or bs 0 0 → get_or bs 0 0 ≤ 57 → get_or bs 1 0 ≡ 32 →
    slice_split is_space bs ≡ (get_or bs 0 0 ∷ []) ∷ slice_split is_space (drop 2 bs)
digit_split [] long low high space = absurd (omega (arith, long))
digit_split (d ∷ []) long low high space = absurd (omega (arith, long))
digit_split (d ∷ e ∷ bs) long low high space =
    let other : eqb d 32 ≡ false = ne_eqb d 32 (λ s. omega (arith, low, s)) in
    let same : eqb e 32 ≡ true = eq-eqb e 32 space in
    rw (other, same) refl

pub digit_said : (bs : List ℕ) → 2 ≤ length bs → 48 ≤ get_or bs 0 0 → get_or bs 0 0 ≤ 57 → get_or bs 1 0 ≡ 32 →
    Some (get_or bs 0 0 - 48) ≡ first_says number (slice_split is_space bs)
digit_said bs long low high space =
    sym (ap (first_says number) (digit_split bs long low high space) ∙ one_digit (get_or bs 0 0) low high)

-- ---- two digits

two_digits : (t o : ℕ) → 49 ≤ t → t ≤ 57 → 48 ≤ o → o ≤ 57 → number (t ∷ o ∷ []) ≡ Some ((t - 48) * 10 + (o - 48))
unfolding number_below
two_digits t o first high low below =
    let plain : eqb t 48 ≡ false = ne_eqb t 48 (λ s. omega (arith, first, s)) in
    let from : leb 48 t ≡ true = le-leb 48 t (omega (arith, first)) in
    let to : leb t 57 ≡ true = le-leb t 57 high in
    let one_from : leb 48 o ≡ true = le-leb 48 o low in
    let one_to : leb o 57 ≡ true = le-leb o 57 below in
    let small : ltb ((0 + (t - 48)) * 10 + (o - 48)) (2 ^ 32) ≡ true = lt-ltb _ _ (omega (arith, high, below)) in
    let same : (0 + (t - 48)) * 10 + (o - 48) ≡ (t - 48) * 10 + (o - 48) = omega arith in
    rw (plain, from, to, one_from, one_to, small) (ap (λ (n : ℕ). Some n) same)

two_split : (bs : List ℕ) → 3 ≤ length bs → 49 ≤ get_or bs 0 0 → 48 ≤ get_or bs 1 0 → get_or bs 2 0 ≡ 32 →
    slice_split is_space bs ≡ (get_or bs 0 0 ∷ get_or bs 1 0 ∷ []) ∷ slice_split is_space (drop 3 bs)
two_split [] long first low space = absurd (omega (arith, long))
two_split (t ∷ []) long first low space = absurd (omega (arith, long))
two_split (t ∷ o ∷ []) long first low space = absurd (omega (arith, long))
two_split (t ∷ o ∷ e ∷ bs) long first low space =
    let ten : eqb t 32 ≡ false = ne_eqb t 32 (λ s. omega (arith, first, s)) in
    let one : eqb o 32 ≡ false = ne_eqb o 32 (λ s. omega (arith, low, s)) in
    let same : eqb e 32 ≡ true = eq-eqb e 32 space in
    rw (ten, one, same) refl

pub two_said : (bs : List ℕ) → 3 ≤ length bs → 49 ≤ get_or bs 0 0 → get_or bs 0 0 ≤ 57 →
    48 ≤ get_or bs 1 0 → get_or bs 1 0 ≤ 57 → get_or bs 2 0 ≡ 32 →
    Some ((get_or bs 0 0 - 48) * 10 + (get_or bs 1 0 - 48)) ≡ first_says number (slice_split is_space bs)
two_said bs long first high low below space =
    sym (ap (first_says number) (two_split bs long first low space) ∙ two_digits (get_or bs 0 0) (get_or bs 1 0) first high low below)

-- ---- three digits

three_digits : (h t o : ℕ) → 49 ≤ h → h ≤ 57 → 48 ≤ t → t ≤ 57 → 48 ≤ o → o ≤ 57 →
    number (h ∷ t ∷ o ∷ []) ≡ Some ((h - 48) * 100 + (t - 48) * 10 + (o - 48))
unfolding number_below
three_digits h t o first high ten_low ten_high low below =
    let plain : eqb h 48 ≡ false = ne_eqb h 48 (λ s. omega (arith, first, s)) in
    let from : leb 48 h ≡ true = le-leb 48 h (omega (arith, first)) in
    let to : leb h 57 ≡ true = le-leb h 57 high in
    let ten_from : leb 48 t ≡ true = le-leb 48 t ten_low in
    let ten_to : leb t 57 ≡ true = le-leb t 57 ten_high in
    let one_from : leb 48 o ≡ true = le-leb 48 o low in
    let one_to : leb o 57 ≡ true = le-leb o 57 below in
    let small : ltb (((0 + (h - 48)) * 10 + (t - 48)) * 10 + (o - 48)) (2 ^ 32) ≡ true = lt-ltb _ _ (omega (arith, high, ten_high, below)) in
    let same : ((0 + (h - 48)) * 10 + (t - 48)) * 10 + (o - 48) ≡ (h - 48) * 100 + (t - 48) * 10 + (o - 48) = omega arith in
    rw (plain, from, to, ten_from, ten_to, one_from, one_to, small) (ap (λ (n : ℕ). Some n) same)

three_split : (bs : List ℕ) → 4 ≤ length bs → 49 ≤ get_or bs 0 0 → 48 ≤ get_or bs 1 0 → 48 ≤ get_or bs 2 0 → get_or bs 3 0 ≡ 32 →
    slice_split is_space bs ≡ (get_or bs 0 0 ∷ get_or bs 1 0 ∷ get_or bs 2 0 ∷ []) ∷ slice_split is_space (drop 4 bs)
three_split [] long first ten_low low space = absurd (omega (arith, long))
three_split (h ∷ []) long first ten_low low space = absurd (omega (arith, long))
three_split (h ∷ t ∷ []) long first ten_low low space = absurd (omega (arith, long))
three_split (h ∷ t ∷ o ∷ []) long first ten_low low space = absurd (omega (arith, long))
three_split (h ∷ t ∷ o ∷ e ∷ bs) long first ten_low low space =
    let hundred : eqb h 32 ≡ false = ne_eqb h 32 (λ s. omega (arith, first, s)) in
    let ten : eqb t 32 ≡ false = ne_eqb t 32 (λ s. omega (arith, ten_low, s)) in
    let one : eqb o 32 ≡ false = ne_eqb o 32 (λ s. omega (arith, low, s)) in
    let same : eqb e 32 ≡ true = eq-eqb e 32 space in
    rw (hundred, ten, one, same) refl

pub three_said : (bs : List ℕ) → 4 ≤ length bs → 49 ≤ get_or bs 0 0 → get_or bs 0 0 ≤ 57 →
    48 ≤ get_or bs 1 0 → get_or bs 1 0 ≤ 57 → 48 ≤ get_or bs 2 0 → get_or bs 2 0 ≤ 57 → get_or bs 3 0 ≡ 32 →
    Some ((get_or bs 0 0 - 48) * 100 + (get_or bs 1 0 - 48) * 10 + (get_or bs 2 0 - 48)) ≡ first_says number (slice_split is_space bs)
three_said bs long first high ten_low ten_high low below space =
    sym (ap (first_says number) (three_split bs long first ten_low low space)
    ∙ three_digits (get_or bs 0 0) (get_or bs 1 0) (get_or bs 2 0) first high ten_low ten_high low below)
