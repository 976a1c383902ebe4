-- The account of a journal with no events.
use Rattle.std.proofs.Common.{◌≡◌, ◌≤◌, ℕ, false, not, ◌&&◌, Option, None, [], refl, ap, sym, ◌∙◌, arith}
use Rattle.std.specs.Prelude.{replicate}
use Rattle.std.proofs.lemmas.List.{length-replicate, get_or-replicate}
use Rattle.hp_states.proofs.Basics.{none_some}
use Rattle.hp_states.specs.CpuSets.{has}
use Rattle.hp_event.specs.declared.head.Head.{Head}
use Rattle.hp_model.specs.Lists.{among}
use Rattle.hp_model.specs.MapLock.{operation}
use Rattle.hp_model.specs.Walks.{walk, walking}
use Rattle.hp_model.specs.Registrations.{registration}
use Rattle.hp_model.specs.Readers.{readers, reading_since}
use Rattle.hp_model.specs.Seats.{admits, role_of, ap_seat}
use Rattle.hp_model.specs.Suspend.{disabled, frozen, wakeup_pending}
use Rattle.hp_suspend.specs.Turns.{Queue}
use Rattle.hp_account.specs.declared.account.Account.{Account}
use Rattle.hp_account.specs.Account.{IsAccount}
use Rattle.hp_account.specs.declared.operation.MapOperation.{MapOperation}
use Rattle.hp_account.specs.BatchTurns.{IsTurns, is_batch}
use Rattle.hp_account.specs.FlightChanges.{IsStill}
use Rattle.hp_account.specs.Locks.{IsLocks}
use Rattle.hp_account.specs.Processors.{IsStanding}
use Rattle.hp_account.specs.Seats.{IsRoll}
use Rattle.hp_account.specs.Suspended.{IsSuspended}
use Rattle.hp_account.proofs.FlightSteps.{flights_none}
use Rattle.hp_account.proofs.PlaceLemmas.{at_place-none}

roll_none : (head : Head) → IsRoll head [] (record { roles = []; threads = replicate head.possible None })
unfolding admits role_of ap_seat
roll_none head = record {
  admitted = refl;
  roles_are = λ k. refl;
  cpus = length-replicate head.possible None;
  threads_are = λ c. sym (at_place-none head.possible c);
  sits = λ k c h. absurd (cc);
}

locks_none : IsLocks [] (record { map = None; writer = None; registrar = None; reading = [] })
unfolding operation walk walking registration readers reading_since admits
locks_none = record {
  map_is = refl;
  writer_is = refl;
  registrar_is = refl;
  seats = refl;
  reads_are = λ k. refl;
  readers_are = refl;
}

suspended_none : (head : Head) → IsSuspended head [] (record { disabled = 0; frozen = replicate head.possible false; wakeup = false })
unfolding disabled frozen wakeup_pending
suspended_none head = record {
  disabled_is = refl;
  few = omega arith;
  frozen_is = record { places = length-replicate head.possible false; each = λ c below. get_or-replicate head.possible c false false below };
  wakeup_is = refl;
}

turns_none : (head : Head) (queue : Queue) → (queue.cpus ≡ []) × (head.possible ≤ queue.room) → IsTurns head [] queue
unfolding operation
turns_none head queue t = record {
  room = t.1;
  queue_is = λ o at u. absurd (none_some o at);
  empty = λ m. t.0;
}

none_operates : operation [] ≡ None
unfolding operation
none_operates = refl

none_registers : registration [] ≡ None
unfolding registration
none_registers = refl

pub account_none : (head : Head) (p : Account) → p.seats ≡ record { roles = []; threads = replicate head.possible None } →
    p.locks ≡ record { map = None; writer = None; registrar = None; reading = [] } → IsStanding head [] p.processors → p.operation ≡ None →
    IsStill head.possible p.flights → p.registration ≡ None →
    p.suspended ≡ record { disabled = 0; frozen = replicate head.possible false; wakeup = false } →
    (p.turns.cpus ≡ []) × (head.possible ≤ p.turns.room) → ((c : ℕ) → has p.awaited c ≡ false) → IsAccount head [] p
account_none head p seats locks standing idle still unregistered suspended turns awaited = record {
  seats = rw seats (roll_none head);
  locks = rw locks locks_none;
  processors = standing;
  operation = rw idle none_operates;
  flights = flights_none head p.flights still;
  registration = rw unregistered none_registers;
  suspended = rw suspended (suspended_none head);
  turns = turns_none head p.turns turns;
  awaited = λ c. awaited c ∙ sym (ap (λ (h : Option MapOperation). is_batch h && (has p.flights.walking c && not (among c p.turns.cpus))) idle);
}
