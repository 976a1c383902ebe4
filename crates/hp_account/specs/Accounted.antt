-- A lawful journal with its account: the parts are what its events amount to, and it has promised what the journal's definitions
-- promise, and the room that is reserved for the event that comes. This project's own.
use Rattle.std.specs.Prelude.{◌≡◌, ◌+◌, ℕ}
use Rattle.hp_event.specs.Story.{Story}
use Rattle.hp_event.specs.declared.event.Event.{Event}
use Rattle.hp_event.specs.declared.event.Event.TheVariants.{Admit}
use Rattle.hp_event.specs.declared.event.Role.{Role}
use Rattle.hp_model.specs.Lawful.{IsLawful}
use Rattle.hp_model.specs.Promised.{promised}
use Rattle.hp_model.specs.Seats.{admits}
use Rattle.hp_account.specs.declared.account.Account.{Account}
use Rattle.hp_account.specs.Account.{IsAccount}

pub record IsAccounted (journal : Story) (reserved : ℕ) (parts : Account) : Type 0 where
  pub lawful : IsLawful journal.head journal.events
  pub account : IsAccount journal.head journal.events parts
  pub promises : journal.promised ≡ promised journal.head journal.events + reserved

-- no seat comes in by it
abbrev pub NoAdmission : Event → Type 0
NoAdmission e = (seat : ℕ) (role : Role) → e ≡ Admit seat role → ⊥

-- the event by which the next seat comes in with this role
abbrev pub admission_to : Story → Role → Event
admission_to journal role = Admit (admits journal.events) role
