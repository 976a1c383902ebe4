use Rattle.std.proofs.Common.{◌≡◌, ◌++◌, take}
use Rattle.std.specs.List.{flat_map}
use Rattle.hp_timeline.specs.Tracks.{stop_text}
use Rattle.hp_timeline.proofs.drawing.append_tracks.Given as goal

abbrev pub invariant-loop-track : goal.invariant-loop-track
invariant-loop-track l =
    l.out.items ≡ l.initial.out.items ++ flat_map (λ t. t ++ stop_text l.window) (take l.track-index l.tracks)
