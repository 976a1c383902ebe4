use Rattle.std.proofs.Common.{◌≡◌, arith}
use Rattle.hp_timeline.proofs.drawing.scene_before.Goals as goal

pub returns : goal.returns
returns c = let all : c.loop-at.at ≡ c.args.place = omega arith in rw all at c.loop-at.invariant
