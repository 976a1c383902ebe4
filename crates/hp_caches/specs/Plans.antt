-- Plans of a run. This project's own.
use Rattle.std.specs.Prelude.{◌≡◌, ◌⊎◌, ◌<◌, ◌≤◌, ◌+◌, ◌*◌, ℕ}
use Rattle.hp_caches.specs.declared.plan.PlanError.{PlanError}
use Rattle.hp_caches.specs.declared.plan.PlanError.TheVariants.{Workers, Items, Rounds}
use Rattle.hp_caches.specs.declared.plan.TheConstants.{CPUS, MAX_WORKERS, MAX_ITEMS, MAX_ROUNDS}

-- there are as many workers as a plan may have
abbrev pub AreWorkers : (workers : ℕ) → Type 0
AreWorkers w = (0 < w) × (w ≤ MAX_WORKERS)

-- all three are in their ranges
abbrev pub IsPlan : (workers items rounds : ℕ) → Type 0
IsPlan w i r = AreWorkers w × ((i ≤ MAX_ITEMS) × (r ≤ MAX_ROUNDS))

-- the first of them that is out of its range: of each three numbers either this or IsPlan holds, and of one cause alone
abbrev pub IsOutside : (workers items rounds : ℕ) → PlanError → Type 0
IsOutside w i r Workers = (w ≡ 0) ⊎ (MAX_WORKERS < w)
IsOutside w i r Items = AreWorkers w × (MAX_ITEMS < i)
IsOutside w i r Rounds = AreWorkers w × ((i ≤ MAX_ITEMS) × (MAX_ROUNDS < r))

-- how many events the journal has: of seats, read sections, the setup and the boot, the rounds, the freeze and the thaw
abbrev pub events_of : (workers items rounds : ℕ) → ℕ
events_of w i r = 2 * (CPUS + 1 + w) + 2 * (w * i) + 14 + 30 * r + 22
