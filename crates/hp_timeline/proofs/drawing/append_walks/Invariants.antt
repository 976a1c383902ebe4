use Rattle.std.proofs.Common.{◌≡◌, ◌++◌}
use Rattle.std.specs.List.{flat_map}
use Rattle.hp_timeline.specs.Spans.{span_text}
use Rattle.hp_timeline.specs.Scenes.{walks_in}
use Rattle.hp_timeline.proofs.drawing.append_walks.Given as goal

abbrev pub invariant-loop-cpu : goal.invariant-loop-cpu
invariant-loop-cpu l =
    l.out.items ≡ l.initial.out.items ++ flat_map (span_text l.sheet l.events) (walks_in l.scene l.last l.cpu)
