-- Draws from a number: the state of the draws steps by a linear congruence modulo 2^64, and a draw below m is taken from the upper
-- bits of the state that was stepped to. This project's own, with the constants of Knuth's MMIX.
use Rattle.std.specs.Prelude.{ℕ, zero, suc, ◌+◌, ◌*◌, ◌/◌, ◌%◌, ◌^◌, List, [], ◌∷◌}

abbrev pub state_after : (state : ℕ) → ℕ
state_after x = (x * 6364136223846793005 + 1442695040888963407) % 2 ^ 64

-- the draw below m that a state gives
abbrev pub draw_of : (m state : ℕ) → ℕ
draw_of m x = x / 2 ^ 33 % m

-- so many draws, each below m, from a state on
abbrev pub draws : (m state count : ℕ) → List ℕ
draws m x zero = []
draws m x (suc n) = draw_of m (state_after x) ∷ draws m (state_after x) n
