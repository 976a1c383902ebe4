-- What a seat makes of the locks where nothing keeps it out. This project's own, after the locks of `kernel/cpu.c`.
use Rattle.std.specs.Prelude.{◌≡◌, ℕ, true, Some, None}
use Rattle.hp_locks.specs.Holders.{Holders, with_map, with_writer, with_registrar, with_reader}
use Rattle.hp_locks.specs.Waits.{wait_for_map, wait_for_writer, wait_to_write, wait_to_register}

-- it takes the map lock
abbrev pub TakesMap : (seat : ℕ) → Holders → (new : Holders) → Type 0
TakesMap k h new = (wait_for_map h ≡ None) × (new ≡ with_map (Some k) h)

-- the write side
abbrev pub TakesWrite : (seat : ℕ) → Holders → (new : Holders) → Type 0
TakesWrite k h new = (wait_to_write h ≡ None) × (new ≡ with_writer (Some k) h)

-- the registration
abbrev pub TakesRegistration : (seat : ℕ) → Holders → (new : Holders) → Type 0
TakesRegistration k h new = (wait_to_register h ≡ None) × (new ≡ with_registrar (Some k) h)

-- and it begins to read
abbrev pub BeginsToRead : (seat : ℕ) → Holders → (new : Holders) → Type 0
BeginsToRead k h new = (wait_for_writer h ≡ None) × (new ≡ with_reader k true h)
