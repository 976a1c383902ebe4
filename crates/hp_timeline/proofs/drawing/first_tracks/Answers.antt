use Rattle.std.proofs.Common.{◌≡◌, arith}
use Rattle.hp_timeline.proofs.FirstTracks.{first_tracks}
use Rattle.hp_timeline.proofs.drawing.first_tracks.Goals as goal

pub returns : goal.returns
returns c =
    let all : c.loop-cpu.cpu ≡ c.args.head.now.possible = omega arith in
    first_tracks c.args.head.now c.args.events.now c.args.window c.args.scene.now c.loop-cpu.tracks.items c.requires
    (rw all at c.loop-cpu.invariant)
