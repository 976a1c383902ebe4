-- The states file depends on nothing but the names, and a journal and a table that have the same subsystem at each
-- state give the same names.
use Rattle.std.proofs.Common.{◌≡◌, ℕ, Option, List, [], ◌∷◌, ◌++◌, refl, ap, ◌+◌}
use Rattle.std.specs.Prelude.{option_map}
use Rattle.std.specs.List.{flat_map}
use Rattle.hp_states.specs.declared.limits.TheConstants.{ONLINE}
use Rattle.hp_event.specs.declared.head.Head.{Head}
use Rattle.hp_event.specs.declared.event.Event.{Event}
use Rattle.hp_model.specs.Lists.{numbers}
use Rattle.hp_model.specs.Registered.{registered}
use Rattle.hp_table.specs.Step.{Step, step_at}
use Rattle.hp_files.specs.StatesFile.{line_of, states_file, states, name_with, name_at, name_in}

lines_alike : (f g : ℕ → Option (List ℕ)) → ((s : ℕ) → f s ≡ g s) → (ss : List ℕ) →
    flat_map (λ s. line_of s (f s)) ss ≡ flat_map (λ s. line_of s (g s)) ss
lines_alike f g same [] = refl
lines_alike f g same (s ∷ ss) = rw (same s) (ap (λ (ys : List ℕ). line_of s (g s) ++ ys) (lines_alike f g same ss))

-- where two give each state the same name, their files are the same
pub files_alike : (f g : ℕ → Option (List ℕ)) → ((s : ℕ) → f s ≡ g s) → states_file f ≡ states_file g
unfolding states_file
files_alike f g same = lines_alike f g same (numbers (ONLINE + 1))

-- the subsystem alone decides the name
pub names_alike : (head : Head) (events : List Event) (table : List (Option Step)) (s : ℕ) →
    option_map (λ r. r.sub) (registered head s events) ≡ option_map (λ step. step.kept.sub) (step_at table s) →
    name_at head events s ≡ name_in head table s
names_alike head events table s same = ap (λ (sub : Option ℕ). name_with head sub s) same

-- the file of a table is that of the journal with the same subsystem at each state
pub states_of_table : (head : Head) (events : List Event) (table : List (Option Step)) →
    ((s : ℕ) → option_map (λ r. r.sub) (registered head s events) ≡ option_map (λ step. step.kept.sub) (step_at table s)) →
    states head events ≡ states_file (name_in head table)
states_of_table head events table same =
    files_alike (name_at head events) (name_in head table) (λ s. names_alike head events table s (same s))
