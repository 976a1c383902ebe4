-- The calls of a source or a sink in memory, and which of them are to fail: this project's own.
use Rattle.std.specs.Prelude.{ℕ, ◌+◌, ◌<◌, ◌^◌, ◌-◌, min, List, Contains, vec_len, vec_capacity}
use Rattle.std.specs.Global.{Vec}

-- the number of calls after one more: it stands at the largest `u64`
abbrev pub calls_after : ℕ → ℕ
calls_after calls = min (calls + 1) (2 ^ 64 - 1)

-- the call that comes after so many is one of those that are to fail
abbrev pub IsToFail : ℕ → List ℕ → Type 0
IsToFail calls fails = Contains fails (calls + 1)

-- a vector hasn't room for so many bytes more
abbrev pub LacksRoom : Vec ℕ → (more : ℕ) → Type 0
LacksRoom bytes more = vec_capacity bytes < vec_len bytes + more
