-- How a plan is kept: its rules in the first of its places, and one blank rule in the others, so that the
-- list determines the places. This project's own.
use Rattle.std.specs.Prelude.{◌≡◌, ◌-◌, ◌≤◌, None, List, ◌++◌, length, take, replicate}
use Rattle.hp_states.specs.declared.limits.TheConstants.{MAX_RULES}
use Rattle.hp_states.specs.declared.dir.Dir.TheVariants.{Up}
use Rattle.hp_states.specs.declared.plan.Rule.{Rule}
use Rattle.hp_states.specs.declared.plan.HookPlan.TheInside.{Inside}

-- the rule that stands in the places past a plan's end
abbrev pub blank : Rule
blank = record { dir = Up; cpu = None; inst = None; nth = None; code = 0 }

-- the places of a plan with these rules
abbrev pub padded : List Rule → List Rule
padded rules = rules ++ replicate (MAX_RULES - length rules) blank

-- the fields of a plan with these rules
abbrev pub fields_of : List Rule → Inside
fields_of rules = record { rules = padded rules; len = length rules }

-- a plan's rules are at most as many as its places, and its fields are those of its rules
pub record IsPadded (p : Inside) : Type 0 where
  pub fits : p.len ≤ MAX_RULES
  pub same : fields_of (take p.len p.rules) ≡ p
