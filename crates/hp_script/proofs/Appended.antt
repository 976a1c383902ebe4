-- A text that pieces were appended to one after another, as one text behind the first.
use Rattle.std.proofs.Common.{◌≡◌, ℕ, List, [], ◌∷◌, ◌++◌, refl, sym, ap, ◌∙◌, append_assoc}
use Rattle.std.proofs.lemmas.List.{append-nil}

-- one piece more in front of those behind it
pub push : (p q a rest all : List ℕ) → q ≡ p ++ a → all ≡ q ++ rest → all ≡ p ++ (a ++ rest)
push p q a rest all e more = more ∙ ap (λ (w : List ℕ). w ++ rest) e ∙ append_assoc p a rest

pub last : (p q a : List ℕ) → q ≡ p ++ a → q ≡ p ++ (a ++ [])
last p q a e = e ∙ ap (λ (w : List ℕ). p ++ w) (sym (append-nil a))

-- two words at the end of a line
pub line_end : (s t : List ℕ) → s ++ 32 ∷ (t ++ 10 ∷ []) ≡ (s ++ 32 ∷ (t ++ [])) ++ 10 ∷ []
line_end [] t = ap (λ (w : List ℕ). 32 ∷ (w ++ 10 ∷ [])) (sym (append-nil t))
line_end (b ∷ bs) t = ap (λ (w : List ℕ). b ∷ w) (line_end bs t)
