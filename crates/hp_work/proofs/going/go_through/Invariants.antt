use Rattle.std.proofs.Common.{◌≡◌, take}
use Rattle.hp_work.specs.Worked.{worked}
use Rattle.hp_work.proofs.going.go_through.Given as goal

abbrev pub invariant-loop-event : goal.invariant-loop-event
invariant-loop-event l = record {
  so_far : l.queues ≡ worked l.fn.state (take l.event-index l.event-items);
  number_is : l.number ≡ l.event-index;
}
