use Rattle.std.proofs.Common.{◌≡◌, [], ◌++◌, take}
use Rattle.hp_event.specs.declared.version.Version.TheVariants.{Two}
use Rattle.hp_model.specs.JournalText.{event_lines}
use Rattle.hp_print.specs.OperationNumbers.{IsNumbered}
use Rattle.hp_print.proofs.journal.append_events.Given as goal

abbrev pub invariant-loop-event : goal.invariant-loop-event
invariant-loop-event l =
    (l.out.items ≡ l.initial.out.items ++ event_lines Two [] (take l.event-index l.events))
    × IsNumbered (take l.event-index l.events) l.numbers
