use Rattle.std.proofs.Common.{◌≡◌}
use Rattle.hp_timeline.specs.Scenes.{first_lanes}
use Rattle.hp_timeline.proofs.scene.first_lanes.Given as goal

abbrev pub invariant-loop-cpu : goal.invariant-loop-cpu
invariant-loop-cpu l = l.lanes.items ≡ first_lanes l.cpu
