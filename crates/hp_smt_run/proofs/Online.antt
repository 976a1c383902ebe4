-- The processors below a number that are online.
use Rattle.std.proofs.Common.{◌≡◌, ℕ, ◌+◌, Bool, true, false, cond, List, [], ◌∷◌, ◌++◌, append-nil, add-one, ap, ◌∙◌}
use Rattle.std.specs.Prelude.{filter}
use Rattle.std.proofs.lemmas.List.Elements.{filter-append}
use Rattle.hp_event.specs.declared.event.Event.{Event}
use Rattle.hp_model.specs.Lists.{numbers}
use Rattle.hp_model.specs.Settled.{is_online}

abbrev pub online_below : List Event → (n : ℕ) → List ℕ
online_below events n = filter (λ c. is_online c events) (numbers n)

one_more : (events : List Event) (n : ℕ) (b : Bool) → is_online n events ≡ b →
    online_below events (n + 1) ≡ online_below events n ++ (cond b (n ∷ []) [])
one_more events n b e =
    ap (online_below events) (add-one n)
    ∙ (filter-append (λ c. is_online c events) (numbers n) (n ∷ [])
    ∙ ap (λ z. online_below events n ++ (cond z (n ∷ []) [])) e)

pub with_one : (events : List Event) (n : ℕ) → is_online n events ≡ true → online_below events (n + 1) ≡ online_below events n ++ n ∷ []
with_one events n e = one_more events n true e

pub without_one : (events : List Event) (n : ℕ) → is_online n events ≡ false → online_below events (n + 1) ≡ online_below events n
without_one events n e = one_more events n false e ∙ append-nil (online_below events n)
