use Rattle.std.proofs.Common.{◌≡◌, ◌++◌, ◌≤◌, take}
use Rattle.std.specs.List.{flat_map}
use Rattle.hp_timeline.specs.Windows.{places_between}
use Rattle.hp_timeline.specs.Spans.{ended_at, span_text}
use Rattle.hp_timeline.specs.Scenes.{IsScene, AreTracks}
use Rattle.hp_timeline.proofs.drawing.append_lasting.Given as goal

abbrev pub invariant-loop-place : goal.invariant-loop-place
invariant-loop-place l = record {
  scene : IsScene l.head (take l.place l.events) l.scene;
  tracks : AreTracks l.head l.events l.window l.place l.tracks.items;
  drawn :
      l.out.items
      ≡ l.initial.out.items
      ++ flat_map (span_text l.sheet l.events) (flat_map (ended_at l.events) (places_between l.window.before l.place));
}
