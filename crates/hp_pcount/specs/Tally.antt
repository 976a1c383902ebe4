-- What contracts see of counters: the state that they follow, the batch, the base, of each processor its part and whether it is open, and
-- how many additions were accepted. After `struct percpu_counter` of `linux/percpu_counter.h`.
use Rattle.std.specs.Prelude.{◌≡◌, ℕ, ◌+◌, ◌*◌, ◌^◌, ◌<◌, ◌≤◌, ℤ, pos, ◌+ℤ◌, unsigned_abs, Bool, false, List, length, fold, sum_by, slice_index_or, replicate}
use Rattle.hp_states.specs.declared.limits.TheConstants.{MAX_CPU_SET}
use Rattle.hp_pcount.specs.declared.limits.TheConstants.{LAST_FOLLOWED, MAX_BATCH}

pub record Tally : Type 0 where
  pub state : ℕ
  pub batch : ℕ
  pub base : ℤ
  pub parts : List ℤ
  pub opened : List Bool
  pub adds : ℕ

abbrev pub part : Tally → (cpu : ℕ) → ℤ
part t c = slice_index_or t.parts c (pos 0)

abbrev pub is_open : Tally → (cpu : ℕ) → Bool
is_open t c = slice_index_or t.opened c false

-- the base and all parts
abbrev pub total : Tally → ℤ
total t = fold ◌+ℤ◌ t.base t.parts

-- nothing was added, and no processor is open
unfoldable pub none_added : (state batch : ℕ) → Tally
none_added s b = record {
  state = s;
  batch = b;
  base = pos 0;
  parts = replicate MAX_CPU_SET (pos 0);
  opened = replicate MAX_CPU_SET false;
  adds = 0;
}

-- what is so of all counters; that no number is too large comes of it
pub record IsTally (t : Tally) : Type 0 where
  pub state_is : (1 ≤ t.state) × (t.state ≤ LAST_FOLLOWED)
  pub batch_is : (1 ≤ t.batch) × (t.batch ≤ MAX_BATCH)
  pub parts_are : length t.parts ≡ MAX_CPU_SET
  pub opened_are : length t.opened ≡ MAX_CPU_SET
  pub closed : (cpu : ℕ) → is_open t cpu ≡ false → part t cpu ≡ pos 0
  pub within : (cpu : ℕ) → unsigned_abs (part t cpu) < t.batch
  pub adds_fit : t.adds ≤ 2 ^ 62
  pub sizes : unsigned_abs t.base + sum_by unsigned_abs t.parts ≤ 2 ^ 31 * t.adds
