-- The lines of the states so far.
use Rattle.std.proofs.Common.{◌≡◌, ℕ, suc, ◌+◌, Option, List, [], ◌∷◌, ◌++◌, ap, ◌∙◌, arith}
use Rattle.std.specs.List.{flat_map}
use Rattle.std.proofs.lemmas.List.{append-nil}
use Rattle.std.proofs.lemmas.List.Concat.{flat_map-append}
use Rattle.hp_model.specs.Lists.{numbers}
use Rattle.hp_files.specs.StatesFile.{line_of}

-- the lines of the states below a number
abbrev pub lines_below : (name_of : (state : ℕ) → Option (List ℕ)) → (n : ℕ) → List ℕ
lines_below name_of n = flat_map (λ s. line_of s (name_of s)) (numbers n)

-- one state more
pub lines_more : (name_of : (state : ℕ) → Option (List ℕ)) (n : ℕ) →
    lines_below name_of (n + 1) ≡ lines_below name_of n ++ line_of n (name_of n)
lines_more name_of n =
    let next : n + 1 ≡ suc n = omega arith in
    rw next
    (flat_map-append (λ (s : ℕ). line_of s (name_of s)) (numbers n) (n ∷ [])
    ∙ ap (λ (ys : List ℕ). lines_below name_of n ++ ys) (append-nil (line_of n (name_of n))))
