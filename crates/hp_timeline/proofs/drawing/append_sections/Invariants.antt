use Rattle.std.proofs.Common.{◌≡◌, ◌++◌, take}
use Rattle.std.specs.List.{flat_map}
use Rattle.hp_timeline.specs.Spans.{span_text}
use Rattle.hp_timeline.specs.Scenes.{sections_in}
use Rattle.hp_timeline.proofs.drawing.append_sections.Given as goal

abbrev pub invariant-loop-seat : goal.invariant-loop-seat
invariant-loop-seat l =
    l.out.items
    ≡ l.initial.out.items ++ flat_map (span_text l.sheet l.events) (sections_in l.scene l.last (take l.seat-index l.seats))
