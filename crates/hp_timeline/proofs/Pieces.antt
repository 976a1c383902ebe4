-- Pieces that are appended one behind another.
use Rattle.std.proofs.Common.{◌≡◌, ℕ, Result, Ok, Err, OnOk, List, ◌++◌, ◌∙◌, ap, append_assoc}

-- what is appended behind a piece stands behind it
pub behind : {A E : Type 0} (r : Result A E) (old mid new piece rest : List ℕ) → mid ≡ old ++ piece → OnOk r (new ≡ mid ++ rest) →
    OnOk r (new ≡ old ++ (piece ++ rest))
behind (Ok x) old mid new piece rest e h = h ∙ ap (λ xs. xs ++ rest) e ∙ append_assoc old piece rest
behind (Err x) old mid new piece rest e h = h
