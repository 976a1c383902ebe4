-- The subsystems of a head: their numbers from 1, their callbacks and their plans. This project's own.
use Rattle.std.specs.Prelude.{ℕ, Bool, true, false, not, is_some, Option, Some, None, List, []}
use Rattle.hp_states.specs.declared.dir.Dir.{Dir}
use Rattle.hp_states.specs.declared.dir.Dir.TheVariants.{Up, Down}
use Rattle.hp_states.specs.declared.plan.Rule.{Rule}
use Rattle.hp_event.specs.declared.op.Op.{Op}
use Rattle.hp_event.specs.declared.op.Op.TheVariants.{Setup, UpMany}
use Rattle.hp_event.specs.declared.head.Sub.{Sub}
use Rattle.hp_event.specs.declared.head.Head.{Head}
pub use Rattle.hp_event.specs.Heads.{sub_numbered}
use Rattle.hp_model.specs.Lists.{is_empty}
use Rattle.hp_model.specs.Listed.{listed}

-- an operation speaks of subsystems of the head alone, and an upmany of a processor
abbrev pub names_sub : Head → Op → Bool
names_sub head (Setup state sub form) = is_some (sub_numbered head sub)
names_sub head (UpMany set) = not (is_empty (listed set))
names_sub head _ = true

abbrev pub has_no_name : Option Sub → Bool
has_no_name None = true
has_no_name (Some sub) = is_empty sub.name

-- whether its states have instance lists
abbrev pub has_instances : Option Sub → Bool
has_instances None = false
has_instances (Some sub) = sub.multi

abbrev pub is_multi : Head → (number : ℕ) → Bool
is_multi head n = has_instances (sub_numbered head n)

-- whether it has a callback of that direction
abbrev pub has_callback : Option Sub → Dir → Bool
has_callback None d = false
has_callback (Some sub) Up = sub.up
has_callback (Some sub) Down = sub.down

abbrev pub plan_of : Option Sub → List Rule
plan_of None = []
plan_of (Some sub) = sub.plan
