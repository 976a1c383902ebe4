-- The answer of the reader of a journal in a version as a function, by a test of whether an event stands. This project's own.
use Rattle.std.specs.Prelude.{ℕ, ◌+◌, Bool, if◌then◌else◌, List, [], ◌∷◌, ◌++◌}
use Rattle.std.specs.Bool.{Decides}
use Rattle.hp_event.specs.declared.head.Head.{Head}
use Rattle.hp_event.specs.declared.event.Event.{Event}
use Rattle.hp_model.specs.Lawful.{IsLawful, Stands}
use Rattle.hp_event.specs.declared.version.Version.{Version}
use Rattle.hp_replay.specs.declared.error.ReplayKind.TheVariants.{Unlawful}
use Rattle.hp_replay.specs.Stages.{Stage, among_events, Step, goes, asks, stops, step}
use Rattle.hp_replay.specs.Judged.{Outcome, refused, at_end}

abbrev pub Test : Type 0
Test = Head → List Event → Event → Bool

-- after each lawful journal the test says whether the event stands
abbrev pub IsTest : Test → Type 0
IsTest can = (head : Head) (before : List Event) (e : Event) → IsLawful head before → Decides (can head before e) (Stands head before e)

abbrev pub after_step : Test → Step → (line : ℕ) → (more : Stage → Outcome) → Outcome
after_step can (goes stage) n more = more stage
after_step can (stops kind) n more = refused n kind
after_step can (asks head events e) n more =
    if can head events e then more (among_events head (events ++ e ∷ [])) else refused n Unlawful

abbrev pub judge : Version → Test → Stage → (line : ℕ) → List (List ℕ) → Outcome
judge v can stage n [] = at_end stage n
judge v can stage n (l ∷ ls) = after_step can (step v stage l) n (λ next. judge v can next (n + 1) ls)
