-- The stages of a reader whose law has taken the events so far. This project's own.
use Rattle.std.specs.Prelude.{ℕ, List, [], ◌∷◌, ◌++◌}
use Rattle.hp_event.specs.declared.event.Event.{Event}
use Rattle.hp_law.specs.Law.{Taken}
use Rattle.hp_replay.specs.EndAt.{end_at}
use Rattle.hp_event.specs.declared.version.Version.{Version}
use Rattle.hp_replay.specs.declared.event.NumberedEvent.{NumberedEvent}
use Rattle.hp_replay.specs.Stages.{Stage, among_events, whole, Step, said_step, end_step}

-- an event more
abbrev pub with_event : Taken → Event → Taken
with_event taken e = record taken { events = taken.events ++ e ∷ [] }

-- among the events
abbrev pub stage_of : Taken → Stage
stage_of taken = among_events taken.head taken.events

-- behind the `end` line
abbrev pub whole_of : Taken → Stage
whole_of taken = whole taken.head taken.events

-- what the line of an event does
abbrev pub event_told : Version → Taken → NumberedEvent → Step
event_told v taken said = said_step v taken.head taken.events said

-- what another line does, which may be the `end` line
abbrev pub end_told : Taken → (line : List ℕ) → Step
end_told taken line = end_step taken.head taken.events (end_at line)
