use Rattle.std.proofs.Common.{refl}
use Rattle.hp_timeline.proofs.FirstScene.{first_scene}
use Rattle.hp_timeline.proofs.scene.Scene.new.Goals as goal

pub returns : goal.returns
returns c =
    first_scene c.args.head.now _ c.in_ok-first_lanes.ensures (c.in_ok-new.ensures c.args.head.now) refl refl
    c.new-2.ensures.items
