-- What the reader of a journal in a version answers: a head and events, or the first line that can't stand, counted from 1, and its
-- kind. It goes over the lines one by one; what an event's line makes of it is a matter of whether the event stands.
-- This project's own.
use Rattle.std.specs.Prelude.{◌≡◌, ◌⊎◌, ℕ, ◌+◌, List, [], ◌∷◌, ◌++◌}
use Rattle.hp_event.specs.declared.head.Head.{Head}
use Rattle.hp_event.specs.declared.event.Event.{Event}
use Rattle.hp_model.specs.Lawful.{Stands}
use Rattle.hp_event.specs.declared.version.Version.{Version}
use Rattle.hp_replay.specs.declared.error.ReplayKind.{ReplayKind}
use Rattle.hp_replay.specs.declared.error.ReplayKind.TheVariants.{Unlawful, Missing}
use Rattle.hp_replay.specs.Stages.{Stage, among_events, whole, among_summary, Step, goes, asks, stops, step}

pub data Outcome : Type 0 where
  accepted : Head → List Event → Outcome
  refused : (line : ℕ) → ReplayKind → Outcome

-- what is answered where the input ends, if the next line would be this one
abbrev pub at_end : Stage → (line : ℕ) → Outcome
at_end (whole head events) n = accepted head events
at_end (among_summary head events []) n = accepted head events
at_end _ n = refused n Missing

-- to which stage a line leads that can stand
abbrev pub Leads : Step → Stage → Type 0
Leads (goes next) m = next ≡ m
Leads (asks head events e) m = Stands head events e × (among_events head (events ++ e ∷ []) ≡ m)
Leads (stops kind) m = ⊥

-- of which kind a line is that can't stand
abbrev pub Refuses : Step → ReplayKind → Type 0
Refuses (goes next) k = ⊥
Refuses (asks head events e) k = (Stands head events e → ⊥) × (k ≡ Unlawful)
Refuses (stops kind) k = k ≡ kind

-- from a stage, with the number of the next line: the line leads to a stage from which the others are judged so, or it
-- is refused
abbrev pub Judged : Version → Stage → (line : ℕ) → List (List ℕ) → Outcome → Type 0
Judged v stage n [] o = o ≡ at_end stage n
Judged v stage n (l ∷ ls) o =
    ((next : Stage) × Leads (step v stage l) next × Judged v next (n + 1) ls o)
    ⊎ ((kind : ReplayKind) × Refuses (step v stage l) kind × (o ≡ refused n kind))
