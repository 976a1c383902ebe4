-- A script as it grows, one statement at a time. This project's own.
use Rattle.std.specs.Prelude.{ℕ, ◌<◌, ◌≤◌, Option, Some, None, List, [], ◌∷◌, ◌++◌, length, map, Vec, vec_items}
use Rattle.hp_states.specs.declared.limits.TheConstants.{MAX_RULES, MAX_ACTORS}
use Rattle.hp_states.specs.declared.plan.Rule.{Rule}
use Rattle.hp_event.specs.declared.op.Op.{Op}
use Rattle.hp_event.specs.declared.head.Sub.{Sub}
use Rattle.hp_script.specs.declared.before.Before.{Before}
use Rattle.hp_script.specs.declared.draft.Draft.{Draft}
use Rattle.hp_script.specs.declared.statement.Statement.{Statement}
use Rattle.hp_script.specs.declared.statement.Statement.TheVariants as says
use Rattle.hp_script.specs.Script.{Contents, cpus_or, absent_or, schedule_or}

-- the operations of each actor
abbrev pub ops_of : {A B : Type 0} → Vec (Vec Op A) B → List (List Op)
ops_of actors = map vec_items actors.items

abbrev pub contents_of : Draft → Contents
contents_of d = record {
  head = record { possible = d.possible; absent = d.absent; subs = d.subs.items };
  actors = ops_of d.actors;
  schedule = d.schedule;
}

-- the last of a list changed, if there is one
abbrev pub with_last : {A : Type 0} (f : A → A) → List A → List A
with_last f [] = []
with_last f (x ∷ []) = f x ∷ []
with_last f (x ∷ y ∷ ys) = x ∷ with_last f (y ∷ ys)

abbrev pub one_rule_more : Rule → Sub → Sub
one_rule_more rule sub = record sub { plan = sub.plan ++ rule ∷ [] }

abbrev pub one_op_more : Op → List Op → List Op
one_op_more op ops = ops ++ op ∷ []

abbrev pub subs_and : List Sub → Statement → List Sub
subs_and subs (says.Sub sub) = subs ++ record sub { plan = [] } ∷ []
subs_and subs (says.Rule rule) = with_last (one_rule_more rule) subs
subs_and subs other = subs

abbrev pub actors_and : List (List Op) → Statement → List (List Op)
actors_and actors says.Actor = actors ++ [] ∷ []
actors_and actors (says.Operation op) = with_last (one_op_more op) actors
actors_and actors other = actors

-- a script with one statement more
abbrev pub contents_and : Contents → Statement → Contents
contents_and s statement = record {
  head = record {
    possible = cpus_or s.head.possible statement;
    absent = absent_or s.head.absent statement;
    subs = subs_and s.head.subs statement;
  };
  actors = actors_and s.actors statement;
  schedule = schedule_or s.schedule statement;
}

-- or with none more
abbrev pub contents_maybe : Contents → Option Statement → Contents
contents_maybe s None = s
contents_maybe s (Some statement) = contents_and s statement

-- how many rules the last subsystem has
abbrev pub last_rules : List Sub → ℕ
last_rules [] = 0
last_rules (sub ∷ []) = length sub.plan
last_rules (sub ∷ s ∷ subs) = last_rules (s ∷ subs)

-- the counts of what stood before are no lower than what the script has, and there are few enough actors
pub record Fits (s : Contents) (b : Before) : Type 0 where
  pub rules : last_rules s.head.subs ≤ b.rules
  pub actors : length s.actors ≤ b.actors
  pub few : b.actors ≤ MAX_ACTORS

-- a plan has a place for the rule
abbrev pub HasPlace : List Sub → Statement → Type 0
HasPlace subs (says.Rule rule) = last_rules subs < MAX_RULES
HasPlace subs other = Unit {0}
