-- Entries: the calls of a journal, each done or a fault with a code. This project's own.
use Rattle.std.specs.Prelude.{ℕ, Option, None, List, filter_map}
use Rattle.hp_event.specs.declared.event.Event.{Event}
use Rattle.hp_event.specs.declared.event.Event.TheVariants.{Call}
pub use Rattle.hp_event.specs.Hows.{is_done, fault_of}

abbrev pub code_of : Event → Option ℕ
code_of (Call seat cpu state inst dir how) = fault_of how
code_of _ = None

-- the codes of the faults among some entries, in order
abbrev pub codes_of_faults : List Event → List ℕ
codes_of_faults entries = filter_map code_of entries
