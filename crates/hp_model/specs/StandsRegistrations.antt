-- Where a registration begins and ends. After `__cpuhp_setup_state_cpuslocked`, `__cpuhp_remove_state_cpuslocked`
-- and `__cpuhp_state_add_instance_cpuslocked` of `kernel/cpu.c`; that a removal can be refused is this project's own.
use Rattle.std.specs.Prelude.{◌≡◌, ℕ, true, Some, List}
use Rattle.hp_event.specs.declared.op.Op.{Op}
use Rattle.hp_event.specs.declared.answer.Answer.{Answer}
use Rattle.hp_event.specs.declared.head.Head.{Head}
use Rattle.hp_event.specs.declared.event.Event.{Event}
use Rattle.hp_model.specs.Registrations.{Registration, registration, registration_entries}
use Rattle.hp_model.specs.Seats.{IsFree}
use Rattle.hp_model.specs.Subsystems.{names_sub}
use Rattle.hp_model.specs.Resolved.{resolved}
use Rattle.hp_model.specs.Refusals.{Passes}
use Rattle.hp_model.specs.RegistrationShape.{IsWholeRegistration}

-- only a setup, a remove, an add and a del resolve to a state
pub record RegBegins (head : Head) (before : List Event) (seat state : ℕ) (op : Op) : Type 0 where
  pub free : IsFree before seat
  pub has_sub : names_sub head op ≡ true
  pub passes : Passes head before seat op
  pub state_is : resolved head before op ≡ Some state

pub record RegEnds (head : Head) (before : List Event) (seat : ℕ) (answer : Answer) : Type 0 where
  pub of : Registration
  pub in_flight : registration before ≡ Some of
  pub seat_is : of.seat ≡ seat
  pub whole : IsWholeRegistration head of (registration_entries before) answer
