use Rattle.std.proofs.Common.{◌≡◌, ℕ, ℤ, to_z, of_z, w32, List, [], ◌∷◌, ◌++◌, append_assoc, codes, decimal, ap, sym, ◌∙◌, rules}
use Rattle.std.specs.Fmt.{signed_decimal}
use Rattle.std.proofs.lemmas.List.{append-nil}
use Rattle.std.proofs.lemmas.Result.{on_ok_weaker}
use Rattle.hp_model.specs.EventLine.{file_words}
use Rattle.hp_model.specs.Words.{spaced, joined}
use Rattle.hp_print.proofs.event.append_shown.Goals as goal

-- words, and one word more
spaced-push : (ws : List (List ℕ)) (w : List ℕ) → spaced (ws ++ w ∷ []) ≡ spaced ws ++ 32 ∷ w
spaced-push [] w = ap (λ z. 32 ∷ z) (append-nil w)
spaced-push (x ∷ xs) w =
    ap (λ z. 32 ∷ (x ++ z)) (spaced-push xs w) ∙ ap (λ z. 32 ∷ z) (sym (append_assoc x (spaced xs) (32 ∷ w)))

shown_by_pieces : (o₀ o₁ o₂ o₃ o₄ seat number : List ℕ) (file : List (List ℕ)) (value passed : ℤ) → passed ≡ value →
    o₁ ≡ o₀ ++ (codes "shown" ++ 32 ∷ seat) → o₂ ≡ o₁ ++ 32 ∷ number → o₃ ≡ o₂ ++ spaced file →
    o₄ ≡ o₃ ++ 32 ∷ signed_decimal passed → o₄ ≡ o₀ ++ joined (codes "shown" ∷ seat ∷ number ∷ (file ++ signed_decimal value ∷ []))
shown_by_pieces o₀ o₁ o₂ o₃ o₄ seat number file value passed same e₁ e₂ e₃ e₄ =
    rw (e₄, e₃, e₂, e₁, same, spaced-push file (signed_decimal value)) (simp append_assoc)

pub returns : goal.returns
returns c =
    let value : ℤ = c.args.value in
    let same : to_z w32 (of_z w32 value) ≡ value = search rules in
    on_ok_weaker c.append_signed.result (λ ended.
    shown_by_pieces c.args.out.now.items c.append_of.new.out.items c.append_number.new.out.items c.append_file.new.out.items
    c.append_signed.new.out.items (decimal c.args.seat) (decimal c.args.number) (file_words c.args.file c.args.cpu) value
    (to_z w32 (of_z w32 value)) same c.in_ok-append_of.ensures c.in_ok-append_number.ensures c.in_ok-append_file.ensures
    ended) c.append_signed.ensures
