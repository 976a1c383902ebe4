-- What contracts see of the locks: who holds each, and of each seat whether it reads. This project's own, after
-- `cpu_add_remove_lock`, `cpu_hotplug_lock` and `cpuhp_state_mutex` of `kernel/cpu.c`.
use Rattle.std.specs.Prelude.{◌≡◌, ◌≤◌, ℕ, Bool, Option, List, [], ◌∷◌, ◌++◌, length, get_or, set, false, count_by}
use Rattle.hp_locks.specs.declared.locks.TheConstants.{MAX_LOCKED}

pub record Holders : Type 0 where
  pub map : Option ℕ
  pub writer : Option ℕ
  pub registrar : Option ℕ
  pub reading : List Bool

-- whether a seat is in its read section
abbrev pub reads : Holders → (seat : ℕ) → Bool
reads h k = get_or h.reading k false

abbrev pub readers_in : List Bool → ℕ
readers_in reading = count_by (λ b. b) reading

-- the number beside the flags counts the seats that read, and each seat has a number
pub record IsCounted (reading : List Bool) (readers : ℕ) : Type 0 where
  pub counts : readers ≡ readers_in reading
  pub few : length reading ≤ MAX_LOCKED

-- how many seats are
abbrev pub readers : Holders → ℕ
readers h = readers_in h.reading

-- the same with another holder of one lock
abbrev pub with_map : Option ℕ → Holders → Holders
with_map k h = record { map = k; writer = h.writer; registrar = h.registrar; reading = h.reading }

abbrev pub with_writer : Option ℕ → Holders → Holders
with_writer k h = record { map = h.map; writer = k; registrar = h.registrar; reading = h.reading }

abbrev pub with_registrar : Option ℕ → Holders → Holders
with_registrar k h = record { map = h.map; writer = h.writer; registrar = k; reading = h.reading }

-- and with a seat that reads or doesn't
abbrev pub with_reader : (seat : ℕ) → Bool → Holders → Holders
with_reader k reads h =
    record { map = h.map; writer = h.writer; registrar = h.registrar; reading = set h.reading k reads }

-- and with one seat more, which holds nothing
abbrev pub with_seat : Holders → Holders
with_seat h =
    record { map = h.map; writer = h.writer; registrar = h.registrar; reading = h.reading ++ false ∷ [] }
