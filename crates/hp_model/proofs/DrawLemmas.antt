-- Draws are as many as were asked for, and each is below its bound.
use Rattle.std.proofs.Common.{◌≡◌, ℕ, zero, suc, ◌<◌, [], ◌∷◌, length, refl, ap}
use Rattle.std.specs.Prelude.{◌/◌, ◌^◌, All}
use Rattle.std.proofs.Math.Nat.{mod-lt}
use Rattle.std.proofs.lemmas.List.Elements.{All-nil, All-cons}
use Rattle.hp_model.specs.Draws.{state_after, draw_of, draws}

pub draws_long : (m x n : ℕ) → length (draws m x n) ≡ n
draws_long m x zero = refl
draws_long m x (suc n) = ap suc (draws_long m (state_after x) n)

pub draws_below : (m x n : ℕ) → 0 < m → All (λ k. k < m) (draws m x n)
draws_below m x zero h = All-nil (λ k. k < m)
draws_below m x (suc n) h =
    All-cons (λ k. k < m) (draw_of m (state_after x)) (draws m (state_after x) n) (mod-lt (state_after x / 2 ^ 33) h)
    (draws_below m (state_after x) n h)

-- the first draw from 0, and draws below 4 from 42, worked out by hand of the rule
first_state : state_after 0 ≡ 1442695040888963407
first_state = refl

first_quotient : 1442695040888963407 / 2 ^ 33 ≡ 167951807
first_quotient = refl

twelve_draws : draws 4 42 12 ≡ 2 ∷ 2 ∷ 2 ∷ 3 ∷ 2 ∷ 0 ∷ 1 ∷ 2 ∷ 2 ∷ 1 ∷ 0 ∷ 2 ∷ []
twelve_draws = refl
