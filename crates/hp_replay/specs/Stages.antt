-- How the lines of a journal's text are gone over: what has come so far, and what one line more makes of it. Whether
-- an event stands is asked, and all else is computed. This project's own.
use Rattle.std.specs.Prelude.{ℕ, ◌==◌, nat_lt, if◌then◌else◌, List, [], ◌∷◌, ◌++◌, length, Option, Some, None}
use Rattle.std.specs.Str.{bytes_eq}
use Rattle.hp_states.specs.declared.limits.TheConstants.{MAX_SUBS, MAX_RULES}
use Rattle.hp_states.specs.declared.plan.Rule.{Rule}
use Rattle.hp_event.specs.declared.head.Sub.{Sub}
use Rattle.hp_event.specs.declared.head.Head.{Head}
use Rattle.hp_event.specs.declared.event.Event.{Event}
use Rattle.hp_event.specs.declared.version.Version.{Version}
use Rattle.hp_model.specs.JournalText.{title_line}
use Rattle.hp_model.specs.Summary.{summary}
use Rattle.hp_replay.specs.declared.error.ReplayKind.{ReplayKind}
use Rattle.hp_replay.specs.declared.error.ReplayKind.TheVariants as bad
use Rattle.hp_replay.specs.InputLines.{lines_of}
use Rattle.hp_replay.specs.HeadLines.{HeadLine, a_sub, a_rule, the_events, cpus_at, absent_at, head_line_at}
use Rattle.hp_replay.specs.declared.event.NumberedEvent.{NumberedEvent}
use Rattle.hp_replay.specs.Versions.{is_numbered}
use Rattle.hp_replay.specs.EventAt.{event_at}
use Rattle.hp_replay.specs.EndAt.{end_at}

pub data Stage : Type 0 where
  -- nothing has come
  begins : Stage
  -- the title
  titled : Stage
  -- so many processors
  counted : (possible : ℕ) → Stage
  -- a head without subsystems
  headed : Head → Stage
  -- a head, and a subsystem with the rules so far
  ruled : Head → Sub → Stage
  -- the head, and the events so far
  among_events : Head → List Event → Stage
  -- the text
  whole : Head → List Event → Stage
  -- the text and lines of the summary; these are left
  among_summary : Head → List Event → (left : List (List ℕ)) → Stage

-- what a line does
pub data Step : Type 0 where
  goes : Stage → Step
  asks : Head → List Event → Event → Step
  stops : ReplayKind → Step

abbrev pub with_sub : Head → Sub → Head
with_sub head sub = record head { subs = head.subs ++ sub ∷ [] }

abbrev pub cpus_step : Option ℕ → Step
cpus_step None = stops bad.Header
cpus_step (Some possible) = goes (counted possible)

abbrev pub absent_step : (possible : ℕ) → Option (List ℕ) → Step
absent_step possible None = stops bad.Header
absent_step possible (Some absent) = goes (headed (record { possible = possible; absent = absent; subs = [] }))

abbrev pub next_sub : Head → Sub → Step
next_sub head sub = if nat_lt (length head.subs) MAX_SUBS then goes (ruled head sub) else stops bad.Header

abbrev pub next_rule : Head → Sub → List Rule → Step
next_rule head sub rules = if nat_lt (length sub.plan) MAX_RULES then goes (ruled head (record sub { plan = rules })) else stops bad.Header

abbrev pub headed_step : Head → Option HeadLine → Step
headed_step head None = stops bad.Header
headed_step head (Some (a_sub sub)) = next_sub head sub
headed_step head (Some (a_rule rule)) = stops bad.Header
headed_step head (Some the_events) = goes (among_events head [])

abbrev pub ruled_step : Head → Sub → Option HeadLine → Step
ruled_step head sub None = stops bad.Header
ruled_step head sub (Some (a_sub other)) = next_sub (with_sub head sub) other
ruled_step head sub (Some (a_rule rule)) = next_rule head sub (sub.plan ++ rule ∷ [])
ruled_step head sub (Some the_events) = goes (among_events (with_sub head sub) [])

abbrev pub end_step : Head → List Event → Option ℕ → Step
end_step head events None = stops bad.Syntax
end_step head events (Some count) = if count == length events then goes (whole head events) else stops bad.Count

abbrev pub said_step : Version → Head → List Event → NumberedEvent → Step
said_step v head events said = if is_numbered v events said then asks head events said.event else stops bad.Unlawful

abbrev pub event_step : Version → Head → List Event → Option NumberedEvent → Step → Step
event_step v head events None other = other
event_step v head events (Some said) other = said_step v head events said

abbrev pub summary_step : Head → List Event → (left : List (List ℕ)) → (line : List ℕ) → Step
summary_step head events [] l = stops bad.Trailing
summary_step head events (m ∷ ms) l = if bytes_eq l m then goes (among_summary head events ms) else stops bad.Trailing

unfoldable pub step : Version → Stage → (line : List ℕ) → Step
step v begins l = if bytes_eq l (title_line v) then goes titled else stops bad.Header
step v titled l = cpus_step (cpus_at v l)
step v (counted possible) l = absent_step possible (absent_at possible l)
step v (headed head) l = headed_step head (head_line_at l)
step v (ruled head sub) l = ruled_step head sub (head_line_at l)
step v (among_events head events) l = event_step v head events (event_at v l) (end_step head events (end_at l))
step v (whole head events) l = summary_step head events (lines_of (summary head events)) l
step v (among_summary head events left) l = summary_step head events left l
