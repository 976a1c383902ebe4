-- The words of the line of counters, one behind the other.
use Rattle.std.proofs.Common.{◌≡◌, ℕ, ◌+◌, ◌^◌, ◌≤◌, add-one, FitsSigned, w64, to_z, of_z, arith, List, [], ◌∷◌, ◌++◌, append_assoc, codes, ap, sym, ◌∙◌}
use Rattle.std.specs.Prelude.{ℤ, unsigned_abs}
use Rattle.std.specs.Fmt.{signed_decimal}
use Rattle.std.specs.Int.{w128}
use Rattle.std.proofs.lemmas.Int.{ints, to_z-of_z}
use Rattle.std.proofs.lemmas.List.{append-nil, map-append}
use Rattle.hp_model.specs.Lists.{numbers}
use Rattle.hp_model.specs.Words.{spaced, line}
use Rattle.hp_pcount.specs.Tally.{Tally, part}
use Rattle.hp_pcount.proofs.Sums.{fits_128}
use Rattle.hp_play.specs.CountLine.{part_words}

spaced_push : (ws : List (List ℕ)) (w : List ℕ) → spaced (ws ++ w ∷ []) ≡ spaced ws ++ 32 ∷ w
spaced_push [] w = append-nil (32 ∷ w)
spaced_push (x ∷ ws) w =
    ap (λ ys. 32 ∷ (x ++ ys)) (spaced_push ws w) ∙ ap (λ ys. 32 ∷ ys) (sym (append_assoc x (spaced ws) (32 ∷ w)))

pub part_more : (t : Tally) (n : ℕ) → spaced (part_words t (n + 1)) ≡ spaced (part_words t n) ++ 32 ∷ signed_decimal (part t n)
part_more t n =
    ap (λ m. spaced (part_words t m)) (add-one n)
    ∙ (ap spaced (map-append (λ cpu. signed_decimal (part t cpu)) (numbers n) (n ∷ []))
    ∙ spaced_push (part_words t n) (signed_decimal (part t n)))

pub count_line_is : (total base : List ℕ) (parts : List (List ℕ)) →
    ((((((codes "count total" ++ 32 ∷ total) ++ codes " base") ++ 32 ∷ base) ++ codes " parts") ++ spaced parts) ++ 10 ∷ [])
    ≡ line (codes "count" ∷ codes "total" ∷ total ∷ codes "base" ∷ base ∷ codes "parts" ∷ parts)
count_line_is total base parts = simp append_assoc

-- a number of 64 bits in 128
small_64 : (p : ℤ) → FitsSigned w64 p → unsigned_abs p ≤ 2 ^ 63
small_64 p f = omega (arith, ints)

pub long_of_part : (p r : ℤ) → FitsSigned w64 p → r ≡ to_z w64 (of_z w64 p) → to_z w128 (of_z w128 r) ≡ p
long_of_part p r f e =
    let s = small_64 p f in
    rw (e, to_z-of_z w64 p f) (to_z-of_z w128 p (fits_128 p (omega arith)))

-- one word more
pub one_more : (new old first ws more w said : List ℕ) → new ≡ old ++ 32 ∷ w → w ≡ said → old ≡ first ++ ws → more ≡ ws ++ 32 ∷ said →
    new ≡ first ++ more
one_more new old first ws more w said e s o m = rw (e, o, m, s) (append_assoc first ws (32 ∷ said))

-- the line, piece by piece
pub line_by_pieces : (o₀ o₁ o₂ o₃ o₄ o₅ o₆ o₇ total base total' base' : List ℕ) (parts parts' : List (List ℕ)) → o₀ ≡ [] →
    o₁ ≡ o₀ ++ codes "count total" → o₂ ≡ o₁ ++ 32 ∷ total → o₃ ≡ o₂ ++ codes " base" → o₄ ≡ o₃ ++ 32 ∷ base →
    o₅ ≡ o₄ ++ codes " parts" → o₆ ≡ o₅ ++ spaced parts → o₇ ≡ o₆ ++ 10 ∷ [] → total ≡ total' → base ≡ base' → parts ≡ parts' →
    o₇ ≡ line (codes "count" ∷ codes "total" ∷ total' ∷ codes "base" ∷ base' ∷ codes "parts" ∷ parts')
line_by_pieces o₀ o₁ o₂ o₃ o₄ o₅ o₆ o₇ total base total' base' parts parts' e₀ e₁ e₂ e₃ e₄ e₅ e₆ e₇ t b p =
    rw (e₇, e₆, e₅, e₄, e₃, e₂, e₁, e₀, t, b, p) (count_line_is total' base' parts')
