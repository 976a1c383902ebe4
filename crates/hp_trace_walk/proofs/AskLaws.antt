-- What asking the next state does.
use Rattle.std.proofs.Common.{◌≡◌, ℕ, suc, ◌+◌, ◌-◌, ◌<◌, refl, arith}
use Rattle.hp_trace_walk.specs.declared.ask.Ask.{Ask}
use Rattle.hp_trace_walk.specs.declared.walk.Borders.{Borders}
use Rattle.hp_trace_walk.specs.Tables.{Kept, asked_if, asked_from}

pub more_asked : (b : Borders) (a : Ask) (below state : ℕ) (t next : Kept) → state < below → next ≡ asked_if b a state t →
    asked_from b a (below - (state + 1)) (state + 1) next ≡ asked_from b a (below - state) state t
more_asked b a below state t next less n =
    let many : below - state ≡ suc (below - (state + 1)) = omega (arith, less) in
    rw (many, n) refl

pub none_asked : (b : Borders) (a : Ask) (below state : ℕ) (t : Kept) → below - state ≡ 0 → asked_from b a (below - state) state t ≡ t
none_asked b a below state t z = rw z refl
