-- Where `fail` is written, a file is shown and a wakeup comes. After `fail_store`, `state_show` and its kin of
-- `kernel/cpu.c`, and `pm_wakeup_pending`, which it asks; that each is one event is this project's own.
use Rattle.std.specs.Prelude.{◌≡◌, ℕ, ℤ, List}
use Rattle.hp_event.specs.declared.op.Op.TheVariants.{Arm}
use Rattle.hp_event.specs.declared.op.Op.{Op}
use Rattle.hp_event.specs.declared.event.File.{File}
use Rattle.hp_event.specs.declared.head.Head.{Head}
use Rattle.hp_event.specs.declared.event.Event.{Event}
use Rattle.hp_model.specs.Events.{showing}
use Rattle.hp_model.specs.Seats.{IsFree}
use Rattle.hp_model.specs.Files.{file_value, HasFile}
use Rattle.hp_model.specs.Refusals.{Passes}

-- the value is the one that is written
pub record Arms (head : Head) (before : List Event) (seat cpu : ℕ) (value : ℤ) : Type 0 where
  pub free : IsFree before seat
  pub passes : Passes head before seat (Arm cpu value)

pub record Shows (head : Head) (before : List Event) (seat : ℕ) (file : File) (cpu : ℕ) (value : ℤ) : Type 0 where
  pub free : IsFree before seat
  pub passes : Passes head before seat (showing file cpu)
  pub has_file : HasFile file cpu
  pub value_is : value ≡ file_value head before file cpu

pub record Wakes (head : Head) (before : List Event) (seat : ℕ) : Type 0 where
  pub free : IsFree before seat
  pub passes : Passes head before seat Op.Wakeup
