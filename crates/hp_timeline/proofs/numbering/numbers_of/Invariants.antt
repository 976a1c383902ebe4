use Rattle.std.proofs.Common.{◌≡◌, [], take}
use Rattle.hp_print.specs.OperationNumbers.{IsNumbered}
use Rattle.hp_timeline.specs.Numbers.{numbers_behind}
use Rattle.hp_timeline.proofs.numbering.numbers_of.Given as goal

abbrev pub invariant-loop-event : goal.invariant-loop-event
invariant-loop-event l = record {
  numbers : l.numbers.items ≡ numbers_behind [] (take l.event-index l.events);
  begun : IsNumbered (take l.event-index l.events) l.begun;
}
