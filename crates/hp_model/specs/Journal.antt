-- What a journal's events make of a value, oldest first: each notion of this crate is such a fold, by a step
-- for one event, which sees the events before it. This project's own.
use Rattle.std.specs.Prelude.{List, [], ◌∷◌, ◌++◌}
use Rattle.hp_event.specs.declared.event.Event.{Event}

abbrev pub over_from : {S : Type 0} → (S → List Event → Event → S) → S → List Event → List Event → S
over_from step value before [] = value
over_from step value before (e ∷ es) = over_from step (step value before e) (before ++ e ∷ []) es

abbrev pub over : {S : Type 0} → (S → List Event → Event → S) → S → List Event → S
over step value events = over_from step value [] events

-- each event keeps a rule that speaks of it and of the events before it
abbrev pub EachAfter : (List Event → Event → Type 0) → List Event → List Event → Type 0
EachAfter Rule before [] = Unit {0}
EachAfter Rule before (e ∷ es) = Rule before e × EachAfter Rule (before ++ e ∷ []) es
