-- The set of some numbers, as the words of an upmany name them: the other way round from what a set lists. This project's own.
use Rattle.std.specs.Prelude.{◌≡◌, ℕ, zero, suc, ◌+◌, ◌*◌, ◌^◌, ◌<◌, if◌then◌else◌, List, [], ◌∷◌, length, All}
use Rattle.hp_states.specs.declared.limits.TheConstants.{MAX_CPU_SET}
use Rattle.hp_states.specs.declared.cpu_set.CpuSet.{CpuSet}
use Rattle.hp_model.specs.Lists.{among}

-- the number of so many bits in which bit b says whether `from + b` is among some numbers
unfoldable pub bits_of : (ns : List ℕ) (from count : ℕ) → ℕ
bits_of ns from zero = 0
bits_of ns from (suc count) = (if among from ns then 1 else 0) + 2 * bits_of ns (from + 1) count

-- the set that has those of the numbers that are below 256
unfoldable pub set_of : (ns : List ℕ) → CpuSet
set_of ns = record { words = bits_of ns 0 64 ∷ bits_of ns 64 64 ∷ bits_of ns 128 64 ∷ bits_of ns 192 64 ∷ [] }

-- numbers that a set has room for
abbrev pub FitSet : (ns : List ℕ) → Type 0
FitSet ns = All (λ n. n < MAX_CPU_SET) ns

-- a set as the code holds it: four words of 64 bits
pub record IsSet (set : CpuSet) : Type 0 where
  pub four : length set.words ≡ 4
  pub words_fit : All (λ word. word < 2 ^ 64) set.words
