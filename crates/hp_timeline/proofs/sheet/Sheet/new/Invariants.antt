use Rattle.std.proofs.Common.{◌≡◌, take}
use Rattle.std.specs.List.{flat_map}
use Rattle.hp_timeline.specs.Sheet.{client_in}
use Rattle.hp_timeline.proofs.sheet.Sheet.new.Given as goal

abbrev pub invariant-loop-event : goal.invariant-loop-event
invariant-loop-event l = l.clients ≡ flat_map client_in (take l.event-index l.shown)
