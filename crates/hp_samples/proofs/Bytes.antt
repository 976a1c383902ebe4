-- Two texts, of which one ends.
use Rattle.std.proofs.Common.{◌≡◌, ℕ, suc, ◌<◌, List, [], ◌∷◌, length, Option, Some, get_or, sym, ap, ◌∙◌, subst}
use Rattle.std.specs.Prelude.{drop}
use Rattle.std.proofs.Math.Seq.{drop-cons, drop-length}
use Rattle.hp_samples.specs.Lines.{first_difference}

-- where the text that is wanted ends first
pub is_longer : (found wanted : List ℕ) (at line : ℕ) (said : Option ℕ) → at < length found → at ≡ length wanted →
    first_difference (drop at found) (drop at wanted) line ≡ said → Some line ≡ said
is_longer found wanted at line said f end was =
    let none : drop at wanted ≡ [] = subst (λ j. drop j wanted ≡ []) (sym end) (drop-length wanted) in
    sym (ap (λ t. first_difference t (drop at wanted) line) (drop-cons found at 0 f)
    ∙ ap (λ t. first_difference (get_or found at 0 ∷ drop (suc at) found) t line) none)
    ∙ was

-- where the text that is found ends first
pub is_shorter : (found wanted : List ℕ) (at line : ℕ) (said : Option ℕ) → at ≡ length found → at < length wanted →
    first_difference (drop at found) (drop at wanted) line ≡ said → Some line ≡ said
is_shorter found wanted at line said end w was =
    let none : drop at found ≡ [] = subst (λ j. drop j found ≡ []) (sym end) (drop-length found) in
    sym (ap (λ t. first_difference t (drop at wanted) line) none
    ∙ ap (λ t. first_difference [] t line) (drop-cons wanted at 0 w))
    ∙ was
