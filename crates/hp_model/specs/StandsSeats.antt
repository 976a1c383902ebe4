-- Where a seat comes in, ends, begins to read and ends to read. This project's own.
use Rattle.std.specs.Prelude.{◌≡◌, ℕ, ◌<◌, true, false, Some, None, List}
use Rattle.hp_states.specs.declared.limits.TheConstants.{MAX_SEATS}
use Rattle.hp_event.specs.declared.op.Op.TheVariants.{Lock, Unlock}
use Rattle.hp_event.specs.declared.event.Role.{Role}
use Rattle.hp_event.specs.declared.event.Role.TheVariants.{Client, Ap}
use Rattle.hp_event.specs.declared.head.Head.{Head}
use Rattle.hp_event.specs.declared.event.Event.{Event}
use Rattle.hp_model.specs.Processors.{is_present}
use Rattle.hp_model.specs.Seats.{admits, role_of, ap_seat, is_busy, IsFree}
use Rattle.hp_model.specs.Readers.{is_reading}
use Rattle.hp_model.specs.Refusals.{Passes}
use Rattle.hp_model.specs.StandsCalls.{IsIdle}

-- the thread of a processor sits once, and where its processor is present
abbrev pub CanSit : Head → List Event → Role → Type 0
CanSit head before Client = Unit {0}
CanSit head before (Ap cpu) = (is_present head cpu ≡ true) × (ap_seat cpu before ≡ None)

-- seats are numbered in the order in which they come, and no number comes again
pub record Admits (head : Head) (before : List Event) (seat : ℕ) (role : Role) : Type 0 where
  pub seat_is : seat ≡ admits before
  pub below : seat < MAX_SEATS
  pub can_sit : CanSit head before role

pub record Leaves (head : Head) (before : List Event) (seat : ℕ) : Type 0 where
  pub is_in : (role : Role) × (role_of seat before ≡ Some role)
  pub not_reading : is_reading seat before ≡ false
  pub idle : is_busy seat before ≡ false
  pub no_entry_due : IsIdle head before seat

pub record ReadLocks (head : Head) (before : List Event) (seat : ℕ) : Type 0 where
  pub free : IsFree before seat
  pub passes : Passes head before seat Lock

pub record ReadUnlocks (head : Head) (before : List Event) (seat : ℕ) : Type 0 where
  pub free : IsFree before seat
  pub passes : Passes head before seat Unlock
