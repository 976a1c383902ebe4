-- What an event and an addition change of counters. After `percpu_counter_add_batch` and `percpu_counter_cpu_dead` of
-- `lib/percpu_counter.c`; that a processor has to be open, and which entries open and close it, is this project's own.
use Rattle.std.specs.Prelude.{ℕ, ◌+◌, ℤ, pos, ◌+ℤ◌, unsigned_abs, Bool, true, false, ◌&&◌, ◌==◌, nat_le, if◌then◌else◌, slice_set}
use Rattle.hp_states.specs.declared.dir.Dir.{Dir}
use Rattle.hp_states.specs.declared.dir.Dir.TheVariants.{Up, Down}
use Rattle.hp_event.specs.declared.how.How.{How}
use Rattle.hp_event.specs.declared.event.Event.{Event}
use Rattle.hp_event.specs.declared.event.Event.TheVariants.{Call}
use Rattle.hp_model.specs.Entries.{is_done}
use Rattle.hp_pcount.specs.Tally.{Tally, part, is_open}

-- a processor's part is in the base
abbrev pub folded : (cpu : ℕ) → Tally → Tally
folded c t = record t { base = t.base +ℤ part t c; parts = slice_set t.parts c (pos 0) }

-- a processor comes up, or goes down: its part isn't lost
abbrev pub moved : Dir → (cpu : ℕ) → Tally → Tally
moved Up c t = record t { opened = slice_set t.opened c true }
moved Down c t = record (folded c t) { opened = slice_set t.opened c false }

-- whether an entry is a done one of the state, without an instance
abbrev pub is_followed : Tally → (state inst : ℕ) → How → Bool
is_followed t s i how = (s == t.state && i == 0) && is_done how

-- A done upward entry of the state opens its processor; a done downward entry folds its part and closes it. Other events
-- change nothing.
abbrev pub followed : Event → Tally → Tally
followed (Call seat cpu state inst dir how) t = if is_followed t state inst how then moved dir cpu t else t
followed _ t = t

-- a processor's part has risen
abbrev pub raised : (cpu : ℕ) → (by : ℤ) → Tally → Tally
raised c by t = record t { parts = slice_set t.parts c (part t c +ℤ by); adds = t.adds + 1 }

-- a part is at least the batch, or at most minus the batch
abbrev pub is_full : Tally → (cpu : ℕ) → Bool
is_full t c = nat_le t.batch (unsigned_abs (part t c))

-- a processor's part is in the base where it is full
abbrev pub batched : (cpu : ℕ) → Tally → Tally
batched c t = if is_full t c then folded c t else t

-- Something was added on a processor, which is accepted where that is open, and else changes nothing.
abbrev pub added : (cpu : ℕ) → (by : ℤ) → Tally → Tally
added c by t = if is_open t c then batched c (raised c by t) else t
