-- What lasts: a walk, an operation of the map lock, a registration, a read section, each from its first event to its
-- last, or to the end of the window where it is in flight there; and an operation that one event answers, at that
-- event. This project's own.
use Rattle.std.specs.Prelude.{ℕ, suc, ◌+◌, ◌-◌, ◌*◌, max, Bool, true, false, not, ◌&&◌, ◌==◌, if◌then◌else◌, Option, Some, None, List, [], ◌∷◌, ◌++◌, length, take, slice_get, codes, decimal}
use Rattle.std.specs.List.{flat_map}
use Rattle.hp_event.specs.declared.op.Op.{Op}
use Rattle.hp_event.specs.declared.answer.Answer.{Answer}
use Rattle.hp_event.specs.declared.answer.Answer.TheVariants.{Ok, Refused as WasRefused, Fault, Stuck, LogFull}
use Rattle.hp_event.specs.declared.head.Head.{Head}
use Rattle.hp_event.specs.declared.event.Event.{Event}
use Rattle.hp_event.specs.declared.event.Event.TheVariants.{Enter, Refused, WalkEnd, OpEnd, RegBegin, RegEnd, ReadUnlock, Armed, Shown, Wakeup}
use Rattle.hp_model.specs.Lists.{numbers}
use Rattle.hp_model.specs.Walks.{Walk, walk}
use Rattle.hp_model.specs.MapLock.{Operation, operation}
use Rattle.hp_model.specs.Registrations.{Registration, registration}
use Rattle.hp_model.specs.Readers.{reading_since}
use Rattle.hp_model.specs.Words.{spaced}
use Rattle.hp_model.specs.EventLine.{op_words, event_line}
use Rattle.hp_model.specs.OperationNumber.{operation_number}
use Rattle.hp_event.specs.declared.version.Version.TheVariants.{Two}
use Rattle.hp_timeline.specs.declared.window.Window.{Window}
use Rattle.hp_timeline.specs.declared.sheet.Sheet.{Sheet}
use Rattle.hp_timeline.specs.declared.span.Row.{Row}
use Rattle.hp_timeline.specs.declared.span.Row.TheVariants.{Processor, Operations, Section}
use Rattle.hp_timeline.specs.declared.span.Class.{Class}
use Rattle.hp_timeline.specs.declared.span.Class.TheVariants as class
use Rattle.hp_timeline.specs.declared.span.Span.{Span}
use Rattle.hp_timeline.specs.Windows.{places}
use Rattle.hp_timeline.specs.Sheet.{sheet_of, clients, lane_top, seat_top}

-- ---- which there are

abbrev pub class_of : Answer → Class
class_of (Ok value) = class.Done
class_of (WasRefused errno) = class.Refused
class_of (Fault code) = class.Faulted
class_of (Stuck first second at) = class.Stuck
class_of LogFull = class.Full

abbrev pub walk_span : Class → (is_over : Bool) → (last cpu : ℕ) → Option Walk → List Span
walk_span c over last cpu None = []
walk_span c over last cpu (Some w) =
    record { row = Processor cpu; class = c; first = length w.before; last = last; is_over = over } ∷ []

abbrev pub operation_span : Class → (is_over : Bool) → (last : ℕ) → Option Operation → List Span
operation_span c over last None = []
operation_span c over last (Some o) =
    record { row = Operations o.seat; class = c; first = length o.before; last = last; is_over = over } ∷ []

abbrev pub registration_span : Class → (is_over : Bool) → (last : ℕ) → Option Registration → List Span
registration_span c over last None = []
registration_span c over last (Some r) =
    record { row = Operations r.seat; class = c; first = length r.before; last = last; is_over = over } ∷ []

abbrev pub section_span : Class → (is_over : Bool) → (last seat : ℕ) → Option (List Event) → List Span
section_span c over last seat None = []
section_span c over last seat (Some before) =
    record { row = Section seat; class = c; first = length before; last = last; is_over = over } ∷ []

abbrev pub at_once : Class → (place seat : ℕ) → List Span
at_once c k seat = record { row = Operations seat; class = c; first = k; last = k; is_over = true } ∷ []

-- what an event ends
abbrev pub ended_by : (before : List Event) → Event → List Span
ended_by before (WalkEnd seat cpu answer) = walk_span (class_of answer) true (length before) cpu (walk cpu before)
ended_by before (OpEnd seat answer) = operation_span (class_of answer) true (length before) (operation before)
ended_by before (RegEnd seat answer) = registration_span (class_of answer) true (length before) (registration before)
ended_by before (ReadUnlock seat) = section_span class.Done true (length before) seat (reading_since seat before)
ended_by before (Refused seat errno op) = at_once class.Refused (length before) seat
ended_by before (Armed seat cpu value) = at_once class.Done (length before) seat
ended_by before (Shown seat file cpu value) = at_once class.Done (length before) seat
ended_by before (Wakeup seat) = at_once class.Done (length before) seat
ended_by before _ = []

abbrev pub ended : (before : List Event) → Option Event → List Span
ended before None = []
ended before (Some e) = ended_by before e

abbrev pub ended_at : List Event → (place : ℕ) → List Span
ended_at events k = ended (take k events) (slice_get events k)

-- what is in flight after some events, the last of which is at this place
abbrev pub walks_going : Head → List Event → (last : ℕ) → List Span
walks_going head events last = flat_map (λ c. walk_span class.Going false last c (walk c events)) (numbers head.possible)

abbrev pub sections_going : List Event → (last : ℕ) → List Span
sections_going events last =
    flat_map (λ s. section_span class.Going false last s (reading_since s events)) (clients events)

abbrev pub going : Head → List Event → (last : ℕ) → List Span
going head events last =
    walks_going head events last
    ++ (operation_span class.Going false last (operation events)
    ++ (registration_span class.Going false last (registration events) ++ sections_going events last))

-- what a window shows: what its events end, and what is in flight at its end
abbrev pub spans : Head → List Event → Window → List Span
spans head events w = flat_map (ended_at events) (places w) ++ going head (take w.until events) (w.until - 1)

-- ---- how they are drawn

unfoldable pub row_top : Sheet → Row → ℕ
row_top sheet (Processor cpu) = lane_top cpu
row_top sheet (Operations seat) = seat_top sheet seat + 12
row_top sheet (Section seat) = seat_top sheet seat + 93

unfoldable pub row_height : Row → ℕ
row_height (Processor cpu) = 220
row_height (Operations seat) = 78
row_height (Section seat) = 18

abbrev pub row_word : Row → List ℕ
row_word (Processor cpu) = codes "walk"
row_word (Operations seat) = codes "bar"
row_word (Section seat) = codes "section"

abbrev pub class_word : Class → List ℕ
class_word class.Done = codes "ok"
class_word class.Refused = codes "refused"
class_word class.Faulted = codes "fault"
class_word class.Stuck = codes "stuck"
class_word class.Full = codes "full"
class_word class.Going = codes "going"

-- a line of the journal, with its number
abbrev pub numbered : (before : List Event) → (place : ℕ) → Option Event → List ℕ
numbered before k None = []
numbered before k (Some e) = decimal (k + 1) ++ (codes ": " ++ event_line Two (operation_number before e) e)

-- that of the event of a place
abbrev pub numbered_at : List Event → (place : ℕ) → List ℕ
numbered_at events k = numbered (take k events) k (slice_get events k)

-- the lines of the first event and of the last, where it is over
unfoldable pub title_text : List Event → Span → List ℕ
title_text events s =
    numbered_at events s.first ++ (if s.is_over && not (s.first == s.last) then numbered_at events s.last else [])

abbrev pub words_text : Op → List ℕ
words_text op = codes "<text x='9' y='51'>" ++ (spaced (op_words op) ++ codes "</text>")

-- the words of an operation that an event begins
abbrev pub label_by : Option Event → List ℕ
label_by (Some (Enter seat op)) = words_text op
label_by (Some (RegBegin seat state op)) = words_text op
label_by _ = []

-- from the first event within the window to the last, three units within the columns
unfoldable pub span_from : Window → Span → ℕ
span_from w s = 453 + 36 * (max s.first w.before - w.before)

unfoldable pub span_width : Window → Span → ℕ
span_width w s = 36 * (s.last + 1 - max s.first w.before) - 6

unfoldable pub box_text : Sheet → Span → List ℕ
box_text sheet s =
    codes "<svg x='"
    ++ (decimal (span_from sheet.window s)
    ++ (codes "' y='"
    ++ (decimal (row_top sheet s.row)
    ++ (codes "' width='"
    ++ (decimal (span_width sheet.window s) ++ (codes "' height='" ++ (decimal (row_height s.row) ++ codes "'><title>")))))))

unfoldable pub fill_text : Span → List ℕ
fill_text s =
    codes "</title><rect class='"
    ++ (row_word s.row ++ (codes " " ++ (class_word s.class ++ codes "' width='100%' height='100%'/>")))

unfoldable pub span_text : Sheet → List Event → Span → List ℕ
span_text sheet events s =
    box_text sheet s
    ++ (title_text events s ++ (fill_text s ++ (label_by (slice_get events s.first) ++ codes "</svg>\n")))
