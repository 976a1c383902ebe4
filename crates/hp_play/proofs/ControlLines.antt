-- What is written of a run under SMT control, piece by piece.
use Rattle.std.proofs.Common.{◌≡◌, ℕ, List, [], ◌∷◌, ◌++◌, map, append_assoc, codes, decimal, refl, ap, sym, ◌∙◌}
use Rattle.std.specs.List.{flat_map}
use Rattle.hp_model.specs.Words.{spaced, line}
use Rattle.hp_smt_run.specs.Playing.{written_as}
use Rattle.hp_smt_run.specs.declared.written.Written.{Written}
use Rattle.hp_play.specs.ControlText.{write_line, denied_line, control_text}

spaced-append : (xs ys : List (List ℕ)) → spaced (xs ++ ys) ≡ spaced xs ++ spaced ys
spaced-append [] ys = refl
spaced-append (x ∷ xs) ys =
    ap (λ z. 32 ∷ (x ++ z)) (spaced-append xs ys) ∙ ap (λ z. 32 ∷ z) (sym (append_assoc x (spaced xs) (spaced ys)))

write_line_is : (old word : List ℕ) (answer online : List (List ℕ)) →
    ((((((old ++ codes "smt") ++ 32 ∷ word) ++ spaced answer) ++ codes " online") ++ spaced online) ++ 10 ∷ [])
    ≡ old ++ line (codes "smt" ∷ word ∷ (answer ++ codes "online" ∷ online))
write_line_is old word answer online = rw (spaced-append answer (codes "online" ∷ online)) (simp append_assoc)

pub write_by_pieces : (o₀ o₁ o₂ o₃ o₄ o₅ o₆ word : List ℕ) (answer online : List (List ℕ)) → o₁ ≡ o₀ ++ codes "smt" → o₂ ≡ o₁ ++ 32 ∷ word →
    o₃ ≡ o₂ ++ spaced answer → o₄ ≡ o₃ ++ codes " online" → o₅ ≡ o₄ ++ spaced online → o₆ ≡ o₅ ++ 10 ∷ [] →
    o₆ ≡ o₀ ++ line (codes "smt" ∷ word ∷ (answer ++ codes "online" ∷ online))
write_by_pieces o₀ o₁ o₂ o₃ o₄ o₅ o₆ word answer online e₁ e₂ e₃ e₄ e₅ e₆ =
    rw (e₆, e₅, e₄, e₃, e₂, e₁) (write_line_is o₀ word answer online)

-- the lines of the writes, and then the line of those that were denied
lines_of : (writes : List Written) → flat_map (λ w. write_line (written_as w)) writes ≡ flat_map write_line (map written_as writes)
lines_of [] = refl
lines_of (w ∷ ws) = ap (λ z. write_line (written_as w) ++ z) (lines_of ws)

denied_line_is : (old lines : List ℕ) (denied : ℕ) →
    (((old ++ lines) ++ codes "denied") ++ 32 ∷ decimal denied) ++ 10 ∷ [] ≡ old ++ (lines ++ denied_line denied)
denied_line_is old lines denied = simp append_assoc

pub control_by_pieces : (o₀ o₁ o₂ o₃ o₄ : List ℕ) (writes : List Written) (denied : ℕ) →
    o₁ ≡ o₀ ++ flat_map (λ w. write_line (written_as w)) writes → o₂ ≡ o₁ ++ codes "denied" → o₃ ≡ o₂ ++ 32 ∷ decimal denied →
    o₄ ≡ o₃ ++ 10 ∷ [] → o₄ ≡ o₀ ++ control_text (map written_as writes) denied
control_by_pieces o₀ o₁ o₂ o₃ o₄ writes denied e₁ e₂ e₃ e₄ =
    rw (e₄, e₃, e₂, e₁, lines_of writes) (denied_line_is o₀ (flat_map write_line (map written_as writes)) denied)
