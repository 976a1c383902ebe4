-- What is registered at each state, and its keys. After the registration calls of
-- `core-api/cpu_hotplug.rst`; that an Ok at the end decides is this project's own.
use Rattle.std.specs.Prelude.{ℕ, ◌+◌, Bool, ◌==◌, ◌||◌, if◌then◌else◌, is_some, Option, Some, None, List, [], ◌∷◌, length, sum_by}
use Rattle.hp_states.specs.declared.limits.TheConstants.{ONLINE}
use Rattle.hp_states.specs.Sections.{name_of_builtin}
use Rattle.hp_event.specs.declared.op.Op.{Op}
use Rattle.hp_event.specs.declared.op.Op.TheVariants.{Setup, Remove, Add, Del}
use Rattle.hp_event.specs.declared.answer.Answer.{Answer}
use Rattle.hp_event.specs.declared.answer.Answer.TheVariants.{Ok, Refused, Fault, Stuck, LogFull}
use Rattle.hp_event.specs.declared.head.Head.{Head}
use Rattle.hp_event.specs.declared.event.Event.{Event}
use Rattle.hp_event.specs.declared.event.Event.TheVariants.{RegEnd}
use Rattle.hp_model.specs.Journal.{over}
use Rattle.hp_model.specs.Lists.{without, numbers}
use Rattle.hp_model.specs.Registrations.{Registration, registration}
use Rattle.hp_model.specs.Subsystems.{is_multi}

-- what is registered at a state: its subsystem, whether it has an instance list, and that list, newest first
pub record Registered : Type 0 where
  pub sub : ℕ
  pub multi : Bool
  pub insts : List ℕ

abbrev pub with_inst : ℕ → Option Registered → Option Registered
with_inst i None = None
with_inst i (Some r) = Some (record { sub = r.sub; multi = r.multi; insts = i ∷ r.insts })

abbrev pub without_inst : ℕ → Option Registered → Option Registered
without_inst i None = None
without_inst i (Some r) = Some (record { sub = r.sub; multi = r.multi; insts = without i r.insts })

-- what an operation that answers Ok makes of what is registered at its state
abbrev pub applied : Head → Op → Option Registered → Option Registered
applied head (Setup state sub form) found = Some (record { sub = sub; multi = is_multi head sub; insts = [] })
applied head (Remove state form) found = None
applied head (Add state inst form) found = with_inst inst found
applied head (Del state inst form) found = without_inst inst found
applied head _ found = found

abbrev pub after_ok : Head → (state : ℕ) → Option Registration → Option Registered → Option Registered
after_ok head s None found = found
after_ok head s (Some r) found = if r.state == s then applied head r.op found else found

abbrev pub after_answer : Head → (state : ℕ) → Answer → Option Registration → Option Registered → Option Registered
after_answer head s (Ok value) r found = after_ok head s r found
after_answer head s (Refused errno) r found = found
after_answer head s (Fault code) r found = found
after_answer head s (Stuck first second at) r found = found
after_answer head s LogFull r found = found

abbrev pub registered_step : Head → (state : ℕ) → Option Registered → List Event → Event → Option Registered
registered_step head s found before (RegEnd seat answer) = after_answer head s answer (registration before) found
registered_step head s found before _ = found

unfoldable pub registered : Head → (state : ℕ) → List Event → Option Registered
registered head s events = over (registered_step head s) None events

-- the instances of a state's keys, in list order; a single state has one key, with instance 0
abbrev pub insts_of : Option Registered → List ℕ
insts_of None = []
insts_of (Some r) = if r.multi then r.insts else 0 ∷ []

abbrev pub keys : Head → List Event → (state : ℕ) → List ℕ
keys head events s = insts_of (registered head s events)

-- a state is named where it is built in or registered
abbrev pub is_named : Head → (state : ℕ) → List Event → Bool
is_named head s events = is_some (name_of_builtin s) || is_some (registered head s events)

-- the instances of a state, newest first
abbrev pub instances : Option Registered → List ℕ
instances None = []
instances (Some r) = r.insts

-- how many instances all states have together
unfoldable pub instance_count : Head → List Event → ℕ
instance_count head events = sum_by (λ s. length (instances (registered head s events))) (numbers (ONLINE + 1))
