-- Sets of processors: the numbers from 0 to 255 that a set has. After `cpumask_test_cpu` of `linux/cpumask.h`.
use Rattle.std.specs.Prelude.{◌≡◌, ℕ, ◌/◌, ◌%◌, ◌^◌, ◌<◌, ◌≤◌, Bool, true, false, ◌==◌, get_or}
use Rattle.hp_states.specs.declared.limits.TheConstants.{MAX_CPU_SET}
use Rattle.hp_states.specs.declared.cpu_set.CpuSet.{CpuSet}

-- whether bit n of a word is set
abbrev pub bit : (word n : ℕ) → Bool
bit word n = (word / 2 ^ n) % 2 == 1

-- whether a set has a number: bit c modulo 64 of word c / 64
unfoldable pub has : CpuSet → (cpu : ℕ) → Bool
has set c = bit (get_or set.words (c / 64) 0) (c % 64)

-- the lowest of the bits that are set in a word from one on
pub record IsLowestBit (word from n : ℕ) : Type 0 where
  pub within : n < 64
  pub at_least : from ≤ n
  pub is_set : bit word n ≡ true
  pub none_below : (other : ℕ) → from ≤ other → other < n → bit word other ≡ false

-- the lowest of the numbers in a set from one on
pub record IsLowestFrom (set : CpuSet) (from cpu : ℕ) : Type 0 where
  pub within : cpu < MAX_CPU_SET
  pub at_least : from ≤ cpu
  pub is_in : has set cpu ≡ true
  pub none_below : (other : ℕ) → from ≤ other → other < cpu → has set other ≡ false

-- no number is in a set from one on
abbrev pub HasNoneFrom : CpuSet → (from : ℕ) → Type 0
HasNoneFrom set from = (cpu : ℕ) → from ≤ cpu → has set cpu ≡ false
