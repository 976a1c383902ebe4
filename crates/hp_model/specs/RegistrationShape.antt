-- Registrations: whole, or turned back at a fault. After `__cpuhp_setup_state_cpuslocked` of
-- `kernel/cpu.c`; that a removal, and an adding in STARTING, never fails is this project's own: there the first is a
-- BUG_ON in `cpuhp_issue_call`, and the second turns back.
use Rattle.std.specs.Prelude.{◌≡◌, ℕ, Bool, true, false, if◌then◌else◌, pos, Option, Some, None, List, [], ◌∷◌, ◌++◌}
use Rattle.hp_states.specs.declared.dir.Dir.{Dir}
use Rattle.hp_states.specs.declared.dir.Dir.TheVariants.{Up, Down}
use Rattle.hp_states.specs.Sections.{is_dynamic}
use Rattle.hp_states.specs.declared.place.Place.{Place}
use Rattle.hp_states.specs.declared.place.Place.TheVariants.{Undo}
use Rattle.hp_event.specs.declared.op.Op.{Op}
use Rattle.hp_event.specs.declared.op.Op.TheVariants.{Setup, Remove, Add, Del}
pub use Rattle.hp_event.specs.Ops.{is_adding}
use Rattle.hp_event.specs.declared.answer.Answer.{Answer}
use Rattle.hp_event.specs.declared.answer.Answer.TheVariants.{Ok, Fault}
use Rattle.hp_event.specs.declared.head.Head.{Head}
use Rattle.hp_event.specs.declared.event.Event.{Event}
use Rattle.hp_model.specs.Entries.{codes_of_faults}
use Rattle.hp_model.specs.Crossing.{Slot, Fill, Begin}
use Rattle.hp_model.specs.Registrations.{Registration}
use Rattle.hp_model.specs.Subsystems.{is_multi}
use Rattle.hp_model.specs.Registered.{Registered, registered}
use Rattle.hp_model.specs.Processors.{processors}

-- the instance of the key of a registration: none for a setup or a remove of a state with an instance list
abbrev pub single : Bool → Option ℕ
single multi = if multi then None else Some 0

abbrev pub single_at : Option Registered → Option ℕ
single_at None = None
single_at (Some r) = single r.multi

abbrev pub key_of_op : Head → Op → Option Registered → Option ℕ
key_of_op head (Setup state sub form) found = single (is_multi head sub)
key_of_op head (Remove state form) found = single_at found
key_of_op head (Add state inst form) found = Some inst
key_of_op head (Del state inst form) found = Some inst
key_of_op head _ found = None

abbrev pub key_of : Head → Registration → Option ℕ
key_of head r = key_of_op head r.op (registered head r.state r.before)

-- done entries of a key on some processors
abbrev pub each : Place → Dir → (state inst : ℕ) → (cpus : List ℕ) → List Slot
each p d s i [] = []
each p d s i (c ∷ cs) =
    record { cpu = c; state = s; inst = i; dir = d; place = p; first = false; fails = false } ∷ each p d s i cs

pub data Registering : Type 0 where
  made : Registering
  undone : Registering

-- One processor failed, and those before it get the teardown, in rising number.
pub record IsUndone (state inst : ℕ) (cpus : List ℕ) (xs : List Slot) : Type 0 where
  pub before : List ℕ
  pub cpu : ℕ
  pub after : List ℕ
  pub cpus_are : cpus ≡ before ++ cpu ∷ after
  pub slots_are :
      xs ≡ each Place.Add Up state inst before
      ++ (record { cpu = cpu; state = state; inst = inst; dir = Up; place = Place.Add; first = false; fails = true }
      ∷ each Undo Down state inst before)

-- the slots of a registration of that key that ends so
abbrev pub IsRegistrationShape : (adding : Bool) → (state : ℕ) → Option ℕ → (cpus : List ℕ) → List Slot → Registering → Type 0
IsRegistrationShape adding s None cpus xs made = xs ≡ []
IsRegistrationShape adding s None cpus xs undone = ⊥
IsRegistrationShape true s (Some i) cpus xs made = xs ≡ each Place.Add Up s i cpus
IsRegistrationShape true s (Some i) cpus xs undone = IsUndone s i cpus xs
IsRegistrationShape false s (Some i) cpus xs made = xs ≡ each Place.Remove Down s i cpus
IsRegistrationShape false s (Some i) cpus xs undone = ⊥

-- what an Ok answers: the state for a dynamic setup, else 0
abbrev pub ok_value : Op → (state : ℕ) → ℕ
ok_value (Setup asked sub form) s = if is_dynamic asked then s else 0
ok_value _ s = 0

-- the answer of a registration that ends so, with these entries
abbrev pub IsRegistrationAnswer : Registering → (value : ℕ) → List Event → Answer → Type 0
IsRegistrationAnswer made value entries answer = answer ≡ Ok (pos value)
IsRegistrationAnswer undone value entries answer = (e : ℕ) × (codes_of_faults entries ≡ e ∷ []) × (answer ≡ Fault e)

pub record IsWholeRegistration (head : Head) (r : Registration) (entries : List Event) (answer : Answer) : Type 0 where
  pub outcome : Registering
  pub slots : List Slot
  pub shape :
      IsRegistrationShape (is_adding r.op) r.state (key_of head r) (processors head r.state r.before) slots outcome
  pub filled : Fill slots entries
  pub answered : IsRegistrationAnswer outcome (ok_value r.op r.state) entries answer

pub record IsRegistrationSoFar (head : Head) (r : Registration) (entries : List Event) : Type 0 where
  pub outcome : Registering
  pub slots : List Slot
  pub shape :
      IsRegistrationShape (is_adding r.op) r.state (key_of head r) (processors head r.state r.before) slots outcome
  pub begun : Begin slots entries
