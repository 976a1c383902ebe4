-- The picture of a window of a journal: an SVG file. What comes later in it is drawn above what comes before: the
-- frame, what lasts, the lines of the processors, and the marks of the entries. This project's own.
use Rattle.std.specs.Prelude.{ℕ, List, ◌++◌, length, take, codes}
use Rattle.std.specs.List.{flat_map}
use Rattle.hp_event.specs.declared.head.Head.{Head}
use Rattle.hp_event.specs.declared.event.Event.{Event}
use Rattle.hp_model.specs.Lists.{numbers}
use Rattle.hp_timeline.specs.declared.window.Window.{Window}
use Rattle.hp_timeline.specs.Sheet.{sheet_of}
use Rattle.hp_timeline.specs.Frame.{frame_text}
use Rattle.hp_timeline.specs.Spans.{spans, span_text}
use Rattle.hp_timeline.specs.Tracks.{track_text}
use Rattle.hp_timeline.specs.Marks.{marks, mark_text}

unfoldable pub spans_text : Head → List Event → Window → List ℕ
spans_text head events w = flat_map (span_text (sheet_of head events w) events) (spans head events w)

unfoldable pub tracks_text : Head → List Event → Window → List ℕ
tracks_text head events w = flat_map (track_text head events w) (numbers head.possible)

unfoldable pub marks_text : List Event → Window → List ℕ
marks_text events w = flat_map (mark_text w events) (marks events w)

unfoldable pub picture : Head → List Event → Window → List ℕ
picture head events w =
    frame_text head (sheet_of head events w) (length events)
    ++ (spans_text head events w ++ (tracks_text head events w ++ (marks_text events w ++ codes "</svg>\n")))
