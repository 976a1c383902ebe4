use Rattle.std.proofs.Common.{take}
use Rattle.hp_print.specs.Tallies.{IsTally}
use Rattle.hp_print.proofs.tally.tally_of.Given as goal

abbrev pub invariant-loop-event : goal.invariant-loop-event
invariant-loop-event l = IsTally l.head (take l.event-index l.events) l.tally
