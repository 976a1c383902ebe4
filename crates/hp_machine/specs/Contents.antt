-- What contracts see of a machine: its head, its events, oldest first, what stands at each state, and the processors for whose entries
-- hooks are lent; and what one event more makes of it. This project's own.
use Rattle.std.specs.Prelude.{◌+◌, Option, None, List, [], ◌∷◌, ◌++◌, replicate}
use Rattle.hp_states.specs.declared.cpu_set.CpuSet.{CpuSet}
use Rattle.hp_states.specs.declared.limits.TheConstants.{ONLINE}
use Rattle.hp_event.specs.declared.head.Head.{Head}
use Rattle.hp_event.specs.declared.event.Event.{Event}
use Rattle.hp_table.specs.Step.{Step}
use Rattle.hp_account.specs.TableChanges.{table_after}

pub record Contents : Type 0 where
  pub head : Head
  pub events : List Event
  pub places : List (Option Step)
  pub lent : CpuSet

abbrev pub with_event : Contents → Event → Contents
with_event m e =
    record {
      head = m.head;
      events = m.events ++ e ∷ [];
      places = table_after m.head m.events e m.places;
      lent = m.lent;
    }

-- a machine with this head at its start: it has no events, and nothing is registered
abbrev pub started : Head → (lent : CpuSet) → Contents
started head lent = record { head = head; events = []; places = replicate (ONLINE + 1) None; lent = lent }
