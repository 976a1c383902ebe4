-- That the locks are held as a journal says, and that the waits for them are those of its definitions. This project's own.
use Rattle.std.specs.Prelude.{◌≡◌, ℕ, if◌then◌else◌, Option, None, option_map, List, [], ◌∷◌, length}
use Rattle.hp_event.specs.declared.event.Event.{Event}
use Rattle.hp_model.specs.Batch.{is_batch_begun}
use Rattle.hp_model.specs.MapLock.{operation}
use Rattle.hp_model.specs.Walks.{walk, walking}
use Rattle.hp_model.specs.Registrations.{registration}
use Rattle.hp_model.specs.Readers.{readers, is_reading}
use Rattle.hp_model.specs.Seats.{admits}
use Rattle.hp_model.specs.Waits.{Wait, maps_held, readers_in, reg_in, writer_in}
use Rattle.hp_locks.specs.Holders.{Holders, reads}
use Rattle.hp_locks.specs.Holders.{readers as count_of_readers}
use Rattle.hp_locks.specs.declared.why.Why.{Why}
use Rattle.hp_locks.specs.declared.why.Why.TheVariants.{MapsHeld, WriterIn, ReadersIn, RegIn}

-- the seat that holds the write side: that of the walk of the first of some processors, or of an upmany that has begun a walk
abbrev pub writer_of : (cpus : List ℕ) → List Event → Option ℕ
writer_of [] events = if is_batch_begun events then option_map (λ o. o.seat) (operation events) else None
writer_of (c ∷ cs) events = option_map (λ w. w.seat) (walk c events)

pub record IsLocks (events : List Event) (h : Holders) : Type 0 where
  pub map_is : h.map ≡ option_map (λ o. o.seat) (operation events)
  pub writer_is : h.writer ≡ writer_of (walking events) events
  pub registrar_is : h.registrar ≡ option_map (λ r. r.seat) (registration events)
  pub seats : length h.reading ≡ admits events
  pub reads_are : (k : ℕ) → reads h k ≡ is_reading k events
  pub readers_are : count_of_readers h ≡ length (readers events)

-- a wait, as the locks answer it
abbrev pub why_of : Wait → Why
why_of (maps_held k) = MapsHeld k
why_of (readers_in n) = ReadersIn n
why_of (reg_in k) = RegIn k
why_of (writer_in k) = WriterIn k
