use Rattle.std.proofs.Common.{◌≡◌, map}
use Rattle.hp_model.specs.Lists.{numbers}
use Rattle.hp_timeline.specs.Scenes.{lane_at}
use Rattle.hp_timeline.specs.Tracks.{start_text}
use Rattle.hp_timeline.proofs.drawing.first_tracks.Given as goal

abbrev pub invariant-loop-cpu : goal.invariant-loop-cpu
invariant-loop-cpu l = l.tracks.items ≡ map (λ c. start_text c (lane_at l.scene.lanes.items c).shown) (numbers l.cpu)
