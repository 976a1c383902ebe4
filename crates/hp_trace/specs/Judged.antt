-- What is said of a trace by its lines alone: the lines are taken one by one, until one can't stand, or says that events
-- were lost, or has an event's name and no form of its payload.
use Rattle.std.specs.Prelude.{ℕ, ◌+◌, if◌then◌else◌, List, [], ◌∷◌, Option, Some, None, Result, Ok, Err}
use Rattle.hp_trace.specs.declared.event.Event.{Event}
use Rattle.hp_trace.specs.declared.event.Said.{Said}
use Rattle.hp_trace.specs.declared.event.Said.TheVariants as said
use Rattle.hp_trace.specs.declared.nest.Fault.{Fault}
use Rattle.hp_trace.specs.declared.verdict.Place.{Place}
use Rattle.hp_trace.specs.declared.verdict.End.{End}
use Rattle.hp_trace.specs.declared.verdict.End.TheVariants as end
use Rattle.hp_trace.specs.declared.verdict.Judged.{Judged}
use Rattle.hp_trace.specs.Pieces.{is_none_left}
use Rattle.hp_trace.specs.Said.{said_of}
use Rattle.hp_trace.specs.Nest.{nothing, fault_of, after}

abbrev pub first : Place
first = record { line = 1; events = 0; nest = nothing }

abbrev pub event_step : Place → Event → Option Fault → Result Place End
event_step p e (Some fault) = Err (end.Broken fault)
event_step p e None = Ok (record { line = p.line + 1; events = p.events + 1; nest = after p.nest p.line e })

-- behind the next line, where it can stand
abbrev pub step : Place → Said → Result Place End
step p (said.Event e) = event_step p e (fault_of p.nest e)
step p said.NoForm = Err end.NoForm
step p said.Lost = Err end.Lost
step p said.Other = Ok (record { line = p.line + 1; events = p.events; nest = p.nest })

abbrev pub whole : Place → Judged
whole p = record { place = p; end = end.Whole }

abbrev pub by_step : Place → Result Place End → (more : Place → Judged) → Judged
by_step p (Ok next) more = more next
by_step p (Err e) more = record { place = p; end = e }

-- the pieces between the newlines of a trace; the last isn't a line
abbrev pub judged : Place → (pieces : List (List ℕ)) → Judged
judged p [] = whole p
judged p (l ∷ ls) = if is_none_left ls then whole p else by_step p (step p (said_of l)) (λ next. judged next ls)
