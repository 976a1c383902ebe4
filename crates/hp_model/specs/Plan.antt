-- The plan of a walk: the registered states with a key that it crosses, in its order. The order is that
-- of `core-api/cpu_hotplug.rst`.
use Rattle.std.specs.Prelude.{ℕ, ◌-◌, not, nat_lt, if◌then◌else◌, List, length, reverse, filter, sum_by}
pub use Rattle.hp_states.specs.Crossings.{direction}
use Rattle.hp_model.specs.Lists.{is_empty, rising}

-- the states that have a key
abbrev pub keyed : (keys : ℕ → List ℕ) → List ℕ → List ℕ
keyed keys states = filter (λ s. not (is_empty (keys s))) states

-- up: those above `from` and up to `to`, rising; down: those above `to` and up to `from`, falling
abbrev pub plan : (keys : ℕ → List ℕ) → (from to : ℕ) → List ℕ
plan keys from to =
    if nat_lt from to then keyed keys (rising from (to - from)) else reverse (keyed keys (rising to (from - to)))

-- how many keys a walk crosses
abbrev pub keys_on : (keys : ℕ → List ℕ) → (from to : ℕ) → ℕ
keys_on keys from to = sum_by (λ s. length (keys s)) (plan keys from to)
