use Rattle.std.proofs.Common.{take}
use Rattle.hp_timeline.specs.Scenes.{IsScene}
use Rattle.hp_timeline.proofs.drawing.scene_before.Given as goal

abbrev pub invariant-loop-at : goal.invariant-loop-at
invariant-loop-at l = IsScene l.head (take l.at l.events) l.scene
