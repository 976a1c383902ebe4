-- One word, and two words, as their bytes.
use Rattle.std.proofs.Common.{◌≡◌, ℕ, List, [], ◌∷◌, length, get_or, map, string_bytes, refl, sym, ap, ◌∙◌, arith}
use Rattle.std.specs.Prelude.{String}

pub one_word : {Z : Type 0} (ws : List (String Z)) (w : String Z) (a : List ℕ) → length ws ≡ 1 → w ≡ get_or ws 0 w → string_bytes w ≡ a →
    map string_bytes ws ≡ a ∷ []
one_word [] w a l e s = absurd (omega (arith, l))
one_word (x ∷ []) w a l e s = ap (λ z. string_bytes z ∷ []) (sym e) ∙ ap (λ z. z ∷ []) s
one_word (x ∷ y ∷ ws) w a l e s = absurd (omega (arith, l))

pub two_words : {Z : Type 0} (ws : List (String Z)) (w v : String Z) (a b : List ℕ) → length ws ≡ 2 → w ≡ get_or ws 0 w → v ≡ get_or ws 1 v →
    string_bytes w ≡ a → string_bytes v ≡ b → map string_bytes ws ≡ a ∷ b ∷ []
two_words [] w v a b l e f s t = absurd (omega (arith, l))
two_words (x ∷ []) w v a b l e f s t = absurd (omega (arith, l))
two_words (x ∷ y ∷ []) w v a b l e f s t =
    ap (λ z. string_bytes z ∷ string_bytes y ∷ []) (sym e)
    ∙ (ap (λ z. string_bytes w ∷ string_bytes z ∷ []) (sym f)
    ∙ (ap (λ z. z ∷ string_bytes v ∷ []) s ∙ ap (λ z. a ∷ z ∷ []) t))
two_words (x ∷ y ∷ z ∷ ws) w v a b l e f s t = absurd (omega (arith, l))
