-- The script that lines say: the head, the operations of each actor, and the schedule. This project's own.
use Rattle.std.specs.Prelude.{ℕ, Option, Some, None, List, [], ◌∷◌, ◌++◌, map, filter_map}
use Rattle.hp_states.specs.declared.plan.Rule.{Rule}
use Rattle.hp_event.specs.declared.op.Op.{Op}
use Rattle.hp_event.specs.declared.head.Sub.{Sub}
use Rattle.hp_event.specs.declared.head.Head.{Head}
use Rattle.hp_script.specs.declared.schedule.Schedule.{Schedule}
use Rattle.hp_script.specs.declared.schedule.Schedule.TheVariants.{Rounds}
use Rattle.hp_script.specs.declared.statement.Statement.{Statement}
use Rattle.hp_script.specs.declared.statement.Statement.TheVariants as says
use Rattle.hp_script.specs.Before.{statement_of}

-- what a script says
pub record Contents : Type 0 where
  pub head : Head
  pub actors : List (List Op)
  pub schedule : Schedule

-- what the lines say, one after the other
abbrev pub statements : (lines : List (List ℕ)) → List Statement
statements lines = filter_map statement_of lines

-- the number of the `cpus` line, or this
abbrev pub cpus_or : (n : ℕ) → Statement → ℕ
cpus_or n (says.Cpus m) = m
cpus_or n other = n

-- the processors of the `absent` line, or these
abbrev pub absent_or : (ns : List ℕ) → Statement → List ℕ
absent_or ns (says.Absent ms) = ms
absent_or ns other = ns

-- what the `schedule` line says, or this
abbrev pub schedule_or : Schedule → Statement → Schedule
schedule_or s (says.Schedule t) = t
schedule_or s other = s

-- a value that the statements say, or this one
abbrev pub value_in : {A : Type 0} (or : A → Statement → A) → A → List Statement → A
value_in or a [] = a
value_in or a (statement ∷ rest) = value_in or (or a statement) rest

-- ---- groups: a statement that opens one, and what is added to it up to the next that does

abbrev pub up_to : {A B : Type 0} → Option A → List B → List B
up_to None added = added
up_to (Some opened) added = []

-- what is added before the next group
abbrev pub added_to : {A B : Type 0} (opens : Statement → Option A) (adds : Statement → List B) → List Statement → List B
added_to opens adds [] = []
added_to opens adds (statement ∷ rest) = up_to (opens statement) (adds statement ++ added_to opens adds rest)

abbrev pub onto_groups : {A B : Type 0} → Option A → (added : List B) → List (A × List B) → List (A × List B)
onto_groups None added groups = groups
onto_groups (Some opened) added groups = (opened, added) ∷ groups

-- each with what is added to it
abbrev pub groups_in : {A B : Type 0} (opens : Statement → Option A) (adds : Statement → List B) → List Statement → List (A × List B)
groups_in opens adds [] = []
groups_in opens adds (statement ∷ rest) = onto_groups (opens statement) (added_to opens adds rest) (groups_in opens adds rest)

abbrev pub opened_sub : Statement → Option Sub
opened_sub (says.Sub sub) = Some sub
opened_sub other = None

abbrev pub rules_of : Statement → List Rule
rules_of (says.Rule rule) = rule ∷ []
rules_of other = []

abbrev pub with_rules : Sub × List Rule → Sub
with_rules group = record group.0 { plan = group.1 }

-- each subsystem with the rules that follow it
abbrev pub subs_in : List Statement → List Sub
subs_in statements = map with_rules (groups_in opened_sub rules_of statements)

abbrev pub opened_actor : Statement → Option (Unit {0})
opened_actor says.Actor = Some tt
opened_actor other = None

abbrev pub ops_of : Statement → List Op
ops_of (says.Operation op) = op ∷ []
ops_of other = []

-- for each actor the operations that follow it
abbrev pub actors_in : List Statement → List (List Op)
actors_in statements = map (λ group. group.1) (groups_in opened_actor ops_of statements)

abbrev pub script_in : List Statement → Contents
script_in statements = record {
  head = record { possible = value_in cpus_or 0 statements; absent = value_in absent_or [] statements; subs = subs_in statements };
  actors = actors_in statements;
  schedule = value_in schedule_or Rounds statements;
}
