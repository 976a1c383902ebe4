-- Read sections: what contracts see of a pass in one, and what it stands for. After `cpus_read_lock` and `cpus_read_unlock` of
-- `kernel/cpu.c`.
use Rattle.std.specs.Prelude.{◌≡◌, ◌<◌, ℕ, true, false, Option, Some, None, Result, Ok, Err, List, [], ◌∷◌, ◌++◌, length}
use mathlib.Core.List.{IsPrefix}
use Rattle.hp_states.specs.CpuSets.{has}
use Rattle.hp_states.specs.declared.cpu_set.CpuSet.{CpuSet}
use Rattle.hp_event.specs.declared.event.Event.{Event}
use Rattle.hp_event.specs.declared.event.Event.TheVariants.{ReadLock}
use Rattle.hp_event.specs.declared.head.Head.{Head}
use Rattle.hp_event.specs.declared.op.Op.{Op}
use Rattle.hp_event.specs.declared.op.Op.TheVariants.{Lock}
use Rattle.hp_model.specs.Front.{StandsFor}
use Rattle.hp_model.specs.Lawful.{IsLawful}
use Rattle.hp_model.specs.NextEvent.{next_event, is_full}
use Rattle.hp_model.specs.Readers.{reading_since}
use Rattle.hp_model.specs.Seats.{is_busy}
use Rattle.hp_model.specs.Settled.{is_online}
use Rattle.hp_board.specs.Contents.{Contents, with_event}
use Rattle.hp_live.specs.declared.reading.ReadRefusal.{ReadRefusal}
use Rattle.hp_live.specs.declared.reading.ReadRefusal.TheVariants.{LogFull, NoMemory}
use Rattle.hp_live.specs.Known.{IsIn, Seated}

-- of a pass in a read section: what they see of any seat's, and the processors that are online throughout the section
pub record Reader : Type 0 where
  pub pass : Seated
  pub online : CpuSet

-- just these processors are online
abbrev pub AreOnline : CpuSet → List Event → Type 0
AreOnline set events = (cpu : ℕ) → has set cpu ≡ is_online cpu events

-- what holds of a pass in a read section between any two calls: it has been in it since these events, and just these processors
-- were online then; nothing is in flight, and nothing is lent to it
pub record IsReader (pass : Seated) (online : CpuSet) : Type 0 where
  pub before : List Event
  pub inside : IsIn pass.seat before pass.front
  pub idle : is_busy pass.seat pass.front ≡ false
  pub nothing : pass.lent ≡ None
  pub online_is : AreOnline online before

-- from the ReadLock of the reader's section on each front of these events has just the reader's processors online
pub record IsOnlineThroughout (reader : Reader) (events : List Event) : Type 0 where
  pub before : List Event
  pub reading : reading_since reader.pass.seat reader.pass.front ≡ Some before
  pub throughout : (front : List Event) → IsPrefix front events → length before < length front → AreOnline reader.online front

-- why a seat got no read section at the end of these events
abbrev pub IsReadRefusal : Head → (seat : ℕ) → List Event → ReadRefusal → Type 0
IsReadRefusal head k events LogFull = is_full head events k Lock ≡ true
IsReadRefusal head k events NoMemory = next_event head events k Lock ≡ Some (ReadLock k)

-- ---- one section

-- in which an operation that is one event was answered by it, the last of the new front
pub record MakesIn (head : Head) (seat : ℕ) (op : Op) (event : Event) (old new : List Event) : Type 0 where
  pub found : List Event
  pub seen : StandsFor (Some seat) old found
  pub lawful : IsLawful head found
  pub next_is : next_event head found seat op ≡ Some event
  pub new_is : new ≡ found ++ event ∷ []

-- in which nothing was made
pub record MakesNone (head : Head) (seat : ℕ) (old new : List Event) : Type 0 where
  pub seen : StandsFor (Some seat) old new
  pub lawful : IsLawful head new

-- in which a seat asked for a read section: it got it, with just these processors online; or it didn't; or it waits
abbrev pub AsksIn : Head → (seat : ℕ) → (old new : List Event) → Option (Result CpuSet ReadRefusal) → Type 0
AsksIn head k old new None = MakesNone head k old new
AsksIn head k old new (Some (Err why)) = MakesNone head k old new × IsReadRefusal head k new why
AsksIn head k old new (Some (Ok online)) = MakesIn head k Lock (ReadLock k) old new × AreOnline online new

-- what it makes of the board under the lock
abbrev pub AsksOn : (seat : ℕ) → (old new : Contents) → Option (Result CpuSet ReadRefusal) → Type 0
AsksOn k old new None = new ≡ old
AsksOn k old new (Some (Err why)) = (new ≡ old) × IsReadRefusal old.head k old.events why
AsksOn k old new (Some (Ok online)) =
    (next_event old.head old.events k Lock ≡ Some (ReadLock k)) × (new ≡ with_event old (ReadLock k))
    × AreOnline online new.events
