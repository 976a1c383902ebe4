-- That the registration in flight stands where a journal's entries lead. This project's own.
use Rattle.std.specs.Prelude.{◌≡◌, ℕ, true, Option, Some, None, List, []}
use Rattle.hp_event.specs.declared.head.Head.{Head}
use Rattle.hp_event.specs.declared.event.Event.{Event}
use Rattle.hp_model.specs.Events.{is_registration_op}
use Rattle.hp_model.specs.Registrations.{Registration, registration, registration_entries}
use Rattle.hp_model.specs.RegistrationShape.{key_of}
use Rattle.hp_model.specs.Processors.{processors}
use Rattle.hp_model.specs.Promised.{promised_to_registration}
use Rattle.hp_model.specs.Settled.{settled}
use Rattle.hp_model.specs.Walks.{walking}
use Rattle.hp_reg.specs.After.{IsAfter}
use Rattle.hp_account.specs.declared.registering.Registering.{Registering}

-- it stands after the entries so far, on the processors that it concerns, which stand where they stood when it began
pub record IsRegistering (head : Head) (events : List Event) (g : Registering) : Type 0 where
  pub of : Registration
  pub in_flight : registration events ≡ Some of
  pub seat_is : g.seat ≡ of.seat
  pub op_is : g.reg.op ≡ of.op
  pub state_is : g.reg.state ≡ of.state
  pub registers : is_registration_op of.op ≡ true
  pub still : (c : ℕ) → settled c of.before ≡ settled c events
  pub no_walk : walking events ≡ []
  pub after : IsAfter (key_of head of) (processors head of.state of.before) (registration_entries events) g.reg
  pub left_is : g.left ≡ promised_to_registration head (Some of) (registration_entries events)

abbrev pub IsRegisteringOf : Head → List Event → Option Registering → Type 0
IsRegisteringOf head events None = registration events ≡ None
IsRegisteringOf head events (Some g) = IsRegistering head events g
