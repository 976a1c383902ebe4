-- Counters among the events of a journal: any number of additions stand between its events. This project's own.
use Rattle.std.specs.Prelude.{ℕ, ◌<◌, ℤ, pos, ◌+ℤ◌, Bool, nat_lt, if◌then◌else◌, List, [], ◌∷◌, ◌++◌, fold, All}
use Rattle.hp_states.specs.declared.limits.TheConstants.{MAX_CPU_SET}
use Rattle.hp_event.specs.declared.head.Head.{Head}
use Rattle.hp_event.specs.declared.event.Event.{Event}
use Rattle.hp_model.specs.InForce.{ups, downs}
use Rattle.hp_model.specs.Lawful.{IsLawful}
use Rattle.hp_pcount.specs.declared.law.Step.{Step}
use Rattle.hp_pcount.specs.declared.law.Step.TheVariants.{Follow, Add}
use Rattle.hp_pcount.specs.Tally.{Tally, none_added}
use Rattle.hp_pcount.specs.Places.{HasPart}
use Rattle.hp_pcount.specs.Changes.{followed, added}
use Rattle.hp_pcount.specs.Stands.{StandsAt}

-- what a step makes of counters
abbrev pub after_step : Tally → Step → Tally
after_step t (Follow event) = followed event t
after_step t (Add cpu by) = added cpu by t

-- and what some steps do, in order
abbrev pub after : (steps : List Step) → Tally → Tally
after steps t = fold after_step t steps

-- the events among some steps
abbrev pub events_of : List Step → List Event
events_of [] = []
events_of (Follow event ∷ steps) = event ∷ events_of steps
events_of (Add cpu by ∷ steps) = events_of steps

-- whether a state without an instance is in force on a processor after some events
abbrev pub is_in_force : (cpu state : ℕ) → List Event → Bool
is_in_force c s events = nat_lt (downs c s 0 events) (ups c s 0 events)

-- the sum of the additions among some steps that are accepted: those on processors where the state is in force then
abbrev pub accepted_after : (state : ℕ) → (before : List Event) → List Step → ℤ
accepted_after s before [] = pos 0
accepted_after s before (Follow event ∷ steps) = accepted_after s (before ++ event ∷ []) steps
accepted_after s before (Add cpu by ∷ steps) =
    (if is_in_force cpu s before then by else pos 0) +ℤ accepted_after s before steps

abbrev pub accepted : (state : ℕ) → List Step → ℤ
accepted s steps = accepted_after s [] steps

-- the processor of a step is one that counters have a part for, if it has one
abbrev pub HasPartOf : Step → Type 0
HasPartOf (Follow event) = HasPart event
HasPartOf (Add cpu by) = cpu < MAX_CPU_SET

-- Counters that went through these steps stand at the sum of the accepted additions, if the events among them are a lawful
-- journal. So each of them is open where the state is in force, and no addition is lost or counted twice.
abbrev pub SumsAccepted : Head → (state batch : ℕ) → List Step → Type 0
SumsAccepted head s b steps =
    IsLawful head (events_of steps) → All HasPartOf steps →
    StandsAt (events_of steps) (accepted s steps) (after steps (none_added s b))
