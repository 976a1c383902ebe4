-- What a registration changes in the table: at its begin a setup gives its state a subsystem and an add its instance, and at its
-- end what it added goes where it answers a fault, and what it takes away where it answers Ok. After `cpuhp_store_callbacks` and
-- the instance lists of `kernel/cpu.c`.
use Rattle.std.specs.Prelude.{◌≡◌, ◌<◌, ℕ, Bool, true, false, not, ◌&&◌, if◌then◌else◌, Option, Some, None, IsSome, IfSome, is_some, List, [], ◌∷◌, ◌++◌, slice_set}
use Rattle.hp_states.specs.declared.limits.TheConstants.{OFFLINE, ONLINE}
use Rattle.hp_states.specs.Rules.{site_at}
use Rattle.hp_event.specs.Ops.{is_adding}
pub use Rattle.hp_event.specs.Ops.{is_setup}
use Rattle.hp_event.specs.declared.op.Op.{Op}
use Rattle.hp_event.specs.declared.op.Op.TheVariants.{Setup, Remove, Add, Del}
use Rattle.hp_event.specs.declared.answer.Answer.{Answer}
use Rattle.hp_event.specs.declared.event.Event.{Event}
use Rattle.hp_event.specs.declared.event.Event.TheVariants.{RegBegin, RegEnd, Call}
use Rattle.hp_event.specs.Hows.{is_called}
use Rattle.hp_event.specs.declared.head.Sub.{Sub}
use Rattle.hp_event.specs.declared.head.Head.{Head}
use Rattle.hp_event.specs.Heads.{sub_numbered}
use Rattle.hp_event.specs.Story.{Story}
use Rattle.hp_model.specs.Registrations.{Registration, registration}
use Rattle.hp_model.specs.Suspend.{is_ok}
use Rattle.hp_hook.specs.Counted.{Counts, loaded}
use Rattle.hp_table.specs.Kept.{Kept}
use Rattle.hp_table.specs.Instances.{with_instance, without_instance, instances_of, instances_at, is_multi, is_multi_at, is_among, has_instance, CanAdd}
use Rattle.hp_table.specs.Named.{is_named}
use Rattle.hp_table.specs.Step.{Step, step_at, changed_at, called_step, bare, HasCounted}
use Rattle.hp_account.specs.Table.{IsTableOf}

-- the record of a subsystem that was just registered, its hook loaded with its plan
abbrev pub new_record : (number : ℕ) → Sub → Kept
new_record number sub =
    record {
      sub = number;
      multi = sub.multi;
      up = sub.up;
      down = sub.down;
      home = true;
      counts = loaded sub.plan;
    }

-- whether what an operation has in the table leaves it at its end
abbrev pub takes_out : Op → Answer → Bool
takes_out op answer = if is_adding op then not (is_ok answer) else is_ok answer

-- what the state of the registration has at its end, where it is taken out
abbrev pub place_without : Op → Step → Option Step
place_without (Add s inst form) step = Some (without_instance inst step)
place_without (Del s inst form) step = Some (without_instance inst step)
place_without _ step = None

abbrev pub place_left : Op → Answer → Step → Option Step
place_left op answer step = if takes_out op answer then place_without op step else Some step

abbrev pub with_record : List (Option Step) → (state number : ℕ) → Option Sub → List (Option Step)
with_record places s n None = places
with_record places s n (Some sub) = slice_set places s (Some (bare (new_record n sub)))

-- the table with what an operation adds as it begins
abbrev pub with_added : Head → Op → (state : ℕ) → List (Option Step) → List (Option Step)
with_added head (Setup asked sub form) s places = with_record places s sub (sub_numbered head sub)
with_added head (Add state inst form) s places = changed_at places s (with_instance inst)
with_added head _ s places = places

-- what the operation needs of the table: its state is free, or is registered and can be changed so
abbrev pub CanChange : Head → Op → (state : ℕ) → List (Option Step) → Type 0
CanChange head (Setup asked sub form) s places =
    IsSome (sub_numbered head sub) × (OFFLINE < s) × (s < ONLINE) × (is_named places s ≡ false)
CanChange head (Remove state form) s places = IsSome (step_at places s) × (instances_at places s ≡ [])
CanChange head (Add state inst form) s places = CanAdd places s inst
CanChange head (Del state inst form) s places = (is_multi_at places s && has_instance places s inst) ≡ true
CanChange head _ s places = ⊥

-- the table without what an operation has there
abbrev pub taken_out : Op → (state : ℕ) → List (Option Step) → List (Option Step)
taken_out (Add s inst form) state places = changed_at places state (without_instance inst)
taken_out (Del s inst form) state places = changed_at places state (without_instance inst)
taken_out _ state places = slice_set places state None

-- the table at the end of an operation
abbrev pub without_left : Op → Answer → (state : ℕ) → List (Option Step) → List (Option Step)
without_left op answer state places = if takes_out op answer then taken_out op state places else places

-- what the operation has there can be taken out
abbrev pub CanTakeOut : Op → Option Step → Type 0
CanTakeOut (Setup asked sub form) place = IsSome place × (instances_of place ≡ [])
CanTakeOut (Remove state form) place = IsSome place × (instances_of place ≡ [])
CanTakeOut (Add state inst form) place = (is_multi place && is_among inst (instances_of place)) ≡ true
CanTakeOut (Del state inst form) place = (is_multi place && is_among inst (instances_of place)) ≡ true
CanTakeOut _ place = ⊥

-- whether the end of an operation hands a hook out: a setup's that answers a fault, and that of a state that was removed
abbrev pub hands_out : Op → Answer → Bool
hands_out (Setup asked sub form) answer = not (is_ok answer)
hands_out (Remove state form) answer = is_ok answer
hands_out _ answer = false

-- the table at the end of a registration
abbrev pub left_at_end : Option Registration → Answer → List (Option Step) → List (Option Step)
left_at_end None answer places = places
left_at_end (Some r) answer places = without_left r.op answer r.state places

-- the table once an event is made: a registration begins or ends, or the hook of an entry was called
abbrev pub table_after : Head → List Event → Event → List (Option Step) → List (Option Step)
table_after head events (RegBegin seat state op) places = with_added head op state places
table_after head events (RegEnd seat answer) places = left_at_end (registration events) answer places
table_after head events (Call seat cpu state inst dir how) places =
    if is_called how then changed_at places state (called_step (site_at cpu inst dir)) else places
table_after head events _ places = places

-- whether a registration begins or ends by an event
abbrev pub is_registering : Event → Bool
is_registering (RegBegin seat state op) = true
is_registering (RegEnd seat answer) = true
is_registering _ = false

-- whether an event brings a hook, and whether it hands one out: that of a setup that answers a fault, or of a state that was removed
abbrev pub brings_hook : Event → Bool
brings_hook (RegBegin seat state op) = is_setup op
brings_hook _ = false

abbrev pub hands_at_end : Option Registration → Answer → Bool
hands_at_end None answer = false
hands_at_end (Some r) answer = hands_out r.op answer

abbrev pub hands_hook : List Event → Event → Bool
hands_hook events (RegEnd seat answer) = hands_at_end (registration events) answer
hands_hook events _ = false

-- what stands at the state of the registration in flight
abbrev pub registering_step : Option Registration → List (Option Step) → Option Step
registering_step None places = None
registering_step (Some r) places = step_at places r.state

-- ---- what an event makes of the table of a journal, and the hook that comes of it

abbrev pub ChangesTable : Story → Event → (old new : List (Option Step)) → Type 0
ChangesTable journal e old new = new ≡ table_after journal.head journal.events e old

-- the table is the journal's, with the event
abbrev pub IsTableWith : Story → Event → List (Option Step) → Type 0
IsTableWith journal e places = IsTableOf journal.head (journal.events ++ e ∷ []) places

-- where a registration begins or ends, a hook is there exactly if the event hands one out
abbrev pub HandsHook : {H : Type 0} → List Event → Event → (hook : Option H) → Type 0
HandsHook events e hook = is_registering e ≡ true → is_some hook ≡ hands_hook events e

-- a hook is as it stood at the state of the registration in flight
abbrev pub AsItStood : {H : Type 0} → (seen : H → Counts) → List Event → List (Option Step) → (hook : Option H) → Type 0
AsItStood seen events places hook = IfSome hook (λ h. HasCounted (seen h) (registering_step (registration events) places))

-- and so is one that is handed out
abbrev pub HandsAsItStood : {H : Type 0} → (seen : H → Counts) → List Event → Event → List (Option Step) → Option H → Type 0
HandsAsItStood seen events e places hook = is_registering e ≡ true → AsItStood seen events places hook
