-- What is so of the journal of a script whose actors ran on threads of their own. This project's own.
use Rattle.std.specs.Prelude.{◌≡◌, ◌⊎◌, ℕ, ◌+◌, ◌<◌, ◌≤◌, Some, None, List, ◌∷◌, ◌++◌, All, length, slice_get}
use Rattle.hp_event.specs.declared.event.Event.{Event}
use Rattle.hp_event.specs.declared.event.Event.TheVariants.{Leave}
use Rattle.hp_event.specs.declared.op.Op.{Op}
use Rattle.hp_model.specs.Admissions.{admissions}
use Rattle.hp_model.specs.Completes.{Completes}
use Rattle.hp_model.specs.Headline.{Headline}
use Rattle.hp_model.specs.Keys.{AreKeysAtRest}
use Rattle.hp_model.specs.Lawful.{IsLawful}
use Rattle.hp_model.specs.MapLock.{operation}
use Rattle.hp_model.specs.Net.{keys_in_force}
use Rattle.hp_model.specs.OneWalk.{WalksAlone}
use Rattle.hp_model.specs.Processors.{present}
use Rattle.hp_model.specs.Registrations.{registration}
use Rattle.hp_model.specs.Seats.{role_of}
use Rattle.hp_script.specs.Script.{Contents}
use Rattle.hp_turn.specs.Story.{IsNoAdmit}
use Rattle.hp_threads.specs.Acting.{HasActed, HasServed}

-- a journal begins with these events, and has no Admit past them
pub record BeginsWith (first journal : List Event) : Type 0 where
  pub rest : List Event
  pub whole : first ++ rest ≡ journal
  pub no_admit : All IsNoAdmit rest

-- where a thread's seat leaves, of so many, every client has left, and every thread with a lower number
abbrev pub ThreadsLeaveLast : (threads : ℕ) → List Event → Type 0
ThreadsLeaveLast threads journal =
    (k : ℕ) (before rest : List Event) → k < threads → (before ++ Leave k ∷ rest) ≡ journal →
    (other : ℕ) → (other < k) ⊎ (threads ≤ other) → role_of other before ≡ None

-- how many threads a script's run has: one for each present processor
abbrev pub threads_of : Contents → ℕ
threads_of script = length (present script.head)

-- what a script's run begins with: the admission of each thread, in rising number of the processors, and then of a client for each actor
abbrev pub first_of : Contents → List Event
first_of script = admissions script.head script.actors

-- It is lawful, and begins with the admissions; nobody else comes in. Of each actor's seat it has the operations of the script, in their
-- order and each once, and then the leave; one has no event only where, between the events of its neighbours, a front of the journal had
-- no room for its first. Of each thread's seat it has entries and then the leave. The threads leave last, in rising number, and all
-- have left at its end. What holds of the journal of a script that is played holds of it too: each front has the headline, and completes, and
-- but in an upmany at most one processor walks after it; nothing is in flight at its end, and the keys that its summary shows of a processor are
-- those registered at or below its state.
pub record IsJournalOf (script : Contents) (events : List Event) : Type 0 where
  pub lawful : IsLawful script.head events
  pub begins : BeginsWith (first_of script) events
  pub actors : (i : ℕ) (ops : List Op) → slice_get script.actors i ≡ Some ops →
      HasActed script.head (threads_of script + i) ops (first_of script) events
  pub threads : (k : ℕ) → k < threads_of script → HasServed script.head k (first_of script) events
  pub threads_last : ThreadsLeaveLast (threads_of script) events
  pub all_left : (k : ℕ) → role_of k events ≡ None
  pub headline : (front rest : List Event) → front ++ rest ≡ events → Headline script.head front
  pub one_walk : (front rest : List Event) → front ++ rest ≡ events → WalksAlone front
  pub completes : (front rest : List Event) → front ++ rest ≡ events → Completes script.head front
  pub no_operation : operation events ≡ None
  pub no_registration : registration events ≡ None
  pub keys : (cpu : ℕ) → AreKeysAtRest script.head cpu events (keys_in_force cpu events)
