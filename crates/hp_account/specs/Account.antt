-- The account of a journal: each part is what the journal's events make of it. This project's own.
use Rattle.std.specs.Prelude.{◌≡◌, ◌⊎◌, ℕ, true, false, List, []}
use Rattle.hp_states.specs.CpuSets.{has}
use Rattle.hp_event.specs.declared.head.Head.{Head}
use Rattle.hp_event.specs.declared.event.Event.{Event}
use Rattle.hp_model.specs.Walks.{walking}
use Rattle.hp_account.specs.declared.account.Account.{Account}
use Rattle.hp_account.specs.Seats.{IsRoll}
use Rattle.hp_account.specs.Locks.{IsLocks}
use Rattle.hp_account.specs.Processors.{IsStanding}
use Rattle.hp_account.specs.Operations.{IsHeldBy}
use Rattle.hp_account.specs.BatchTurns.{IsTurns, AreAwaited, is_batch}
use Rattle.hp_account.specs.Flights.{IsFlights}
use Rattle.hp_account.specs.Registering.{IsRegisteringOf}
use Rattle.hp_account.specs.Suspended.{IsSuspended}

pub record IsAccount (head : Head) (events : List Event) (p : Account) : Type 0 where
  pub seats : IsRoll head events p.seats
  pub locks : IsLocks events p.locks
  pub processors : IsStanding head events p.processors
  pub operation : IsHeldBy head events p.operation
  pub flights : IsFlights head events p.flights
  pub registration : IsRegisteringOf head events p.registration
  pub suspended : IsSuspended head events p.suspended
  pub turns : IsTurns head events p.turns
  pub awaited : AreAwaited (is_batch p.operation) p.flights p.turns p.awaited

-- the processor walks, and no upmany is in flight
abbrev pub IsLoneWalker : Account → (cpu : ℕ) → Type 0
IsLoneWalker p cpu = (has p.flights.walking cpu ≡ true) × (is_batch p.operation ≡ false)

-- none does so, in the journal that the account is of
abbrev pub NoLoneWalker : Account → Type 0
NoLoneWalker p =
    (head : Head) (events : List Event) → IsAccount head events p → (walking events ≡ []) ⊎ (is_batch p.operation ≡ true)
