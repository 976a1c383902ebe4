-- What keeps a seat from a lock: the first of the waits in their order, if there is one. The write side waits for readers
-- and then for a registration, a registration for the writer and then for another registration. After `cpus_read_lock` and
-- `cpus_write_lock` of `kernel/cpu.c`, where a registration reads, and so keeps a walk out; the order is this project's
-- own, and so it is that a walk which waits keeps no reader and no registration out: there it does.
use Rattle.std.specs.Prelude.{ℕ, zero, suc, Option, Some, None, option_map}
use Rattle.hp_locks.specs.declared.why.Why.{Why}
use Rattle.hp_locks.specs.declared.why.Why.TheVariants.{MapsHeld, WriterIn, ReadersIn, RegIn}
use Rattle.hp_locks.specs.Holders.{Holders, readers}

abbrev pub first_of : Option Why → Option Why → Option Why
first_of None second = second
first_of (Some why) second = Some why

abbrev pub wait_for_readers : (readers : ℕ) → Option Why
wait_for_readers zero = None
wait_for_readers (suc n) = Some (ReadersIn (suc n))

abbrev pub wait_for_map : Holders → Option Why
wait_for_map h = option_map (λ k. MapsHeld k) h.map

abbrev pub wait_for_writer : Holders → Option Why
wait_for_writer h = option_map (λ k. WriterIn k) h.writer

abbrev pub wait_for_registration : Holders → Option Why
wait_for_registration h = option_map (λ k. RegIn k) h.registrar

abbrev pub wait_to_write : Holders → Option Why
wait_to_write h = first_of (wait_for_readers (readers h)) (wait_for_registration h)

abbrev pub wait_to_register : Holders → Option Why
wait_to_register h = first_of (wait_for_writer h) (wait_for_registration h)
