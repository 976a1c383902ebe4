-- The entry that a call makes, where it can stand next. This project's own.
use Rattle.std.specs.Prelude.{◌≡◌, Option, Some, None, List}
use Rattle.hp_event.specs.declared.head.Head.{Head}
use Rattle.hp_event.specs.declared.event.Event.{Event}
use Rattle.hp_model.specs.Lawful.{Stands}
use Rattle.hp_account.specs.declared.under_way.Entry.{Entry}
use Rattle.hp_account.specs.Entries.{entry_event}

-- an entry where the event stands, and the event is that entry's
abbrev pub IsEntryOf : Head → List Event → Event → Option Entry → Type 0
IsEntryOf head events e None = Stands head events e → ⊥
IsEntryOf head events e (Some x) = Stands head events e × (entry_event head events x ≡ e)
