-- What one event more makes of each part of a tally. This project's own.
use Rattle.std.specs.Prelude.{ℕ, ◌-◌, Bool, false, ◌&&◌, if◌then◌else◌, unwrap_or, Option, Some, None, List, [], ◌∷◌, ◌++◌, slice_set, slice_index_or}
use Rattle.hp_event.specs.declared.op.Op.{Op}
use Rattle.hp_event.specs.declared.op.Op.TheVariants.{Setup, Remove, Add, Del}
use Rattle.hp_event.specs.declared.how.How.{How}
use Rattle.hp_event.specs.declared.answer.Answer.{Answer}
use Rattle.hp_event.specs.Leaves.{leaves_at}
use Rattle.hp_event.specs.declared.event.Event.{Event}
use Rattle.hp_event.specs.declared.event.Event.TheVariants.{Enter, WalkBegin, Call, WalkEnd, OpEnd, RegBegin, RegEnd}
use Rattle.hp_model.specs.Lists.{without}
use Rattle.hp_model.specs.Entries.{is_done}
use Rattle.hp_model.specs.Suspend.{is_ok, is_freeze, is_thaw, is_disabling, is_enabling}
use Rattle.hp_model.specs.Events.{answer_by}
use Rattle.hp_model.specs.Summary.{Kind, is_some_kind}
use Rattle.hp_print.specs.declared.keys.KeyCount.{KeyCount}
use Rattle.hp_print.specs.declared.state_tally.Asked.{Asked}
use Rattle.hp_print.specs.Counts.{one_more, one_more_if, one_more_at, counted_at}

-- the operation that holds the map lock
abbrev pub op_after : Option Op → Event → Option Op
op_after held (Enter seat op) = Some op
op_after held (OpEnd seat given) = None
op_after held _ = held

abbrev pub is_held : (Op → Bool) → Option Op → Bool
is_held test None = false
is_held test (Some op) = test op

abbrev pub disabled_after : Option Op → ℕ → Event → ℕ
disabled_after held n (Enter seat op) = if is_thaw op then n - 1 else n
disabled_after held n (OpEnd seat given) =
    if is_held is_disabling held then one_more n else (if is_held is_enabling held then n - 1 else n)
disabled_after held n _ = n

abbrev pub frozen_after : Option Op → List ℕ → Event → List ℕ
frozen_after held found (Enter seat op) = if is_freeze op then [] else found
frozen_after held found (WalkEnd seat cpu given) =
    if is_held is_freeze held && is_ok given then found ++ cpu ∷ [] else found
frozen_after held found (OpEnd seat given) = if is_held is_thaw held then [] else found
frozen_after held found _ = found

-- the targets of the walks in flight, processor by processor
abbrev pub targets_after : List (Option ℕ) → Event → List (Option ℕ)
targets_after targets (WalkBegin seat cpu from to) = slice_set targets cpu (Some to)
targets_after targets (WalkEnd seat cpu given) = slice_set targets cpu None
targets_after targets _ = targets

-- where a walk leaves its processor
abbrev pub stands_after : Answer → Option ℕ → (at : ℕ) → ℕ
stands_after given target at = leaves_at given (unwrap_or target at) at

abbrev pub settled_after : List (Option ℕ) → List ℕ → Event → List ℕ
settled_after targets settled (WalkEnd seat cpu given) =
    slice_set settled cpu (stands_after given (slice_index_or targets cpu None) (slice_index_or settled cpu 0))
settled_after targets settled _ = settled

abbrev pub keys_after : List (List KeyCount) → Event → List (List KeyCount)
keys_after keys (Call seat cpu state inst dir how) =
    counted_at cpu (record { state = state; inst = inst }) dir (is_done how) keys
keys_after keys _ = keys

-- the registration in flight
abbrev pub asked_after : Option Asked → Event → Option Asked
asked_after asked (RegBegin seat state op) = Some (record { state = state; op = op })
asked_after asked (RegEnd seat given) = None
asked_after asked _ = asked

-- the subsystem of a state and its instances after an operation that is done
abbrev pub sub_after : Op → Option ℕ → Option ℕ
sub_after (Setup state sub form) found = Some sub
sub_after (Remove state form) found = None
sub_after _ found = found

abbrev pub insts_after : Op → Option ℕ → List ℕ → List ℕ
insts_after (Setup state sub form) found insts = []
insts_after (Remove state form) found insts = []
insts_after (Add state inst form) None insts = insts
insts_after (Add state inst form) (Some sub) insts = inst ∷ insts
insts_after (Del state inst form) found insts = without inst insts
insts_after _ found insts = insts

abbrev pub subs_applied : Option Asked → List (Option ℕ) → List (Option ℕ)
subs_applied None subs = subs
subs_applied (Some asked) subs = slice_set subs asked.state (sub_after asked.op (slice_index_or subs asked.state None))

abbrev pub all_insts_applied : Option Asked → List (Option ℕ) → List (List ℕ) → List (List ℕ)
all_insts_applied None subs insts = insts
all_insts_applied (Some asked) subs insts =
    slice_set insts asked.state
    (insts_after asked.op (slice_index_or subs asked.state None) (slice_index_or insts asked.state []))

abbrev pub subs_after : Option Asked → List (Option ℕ) → Event → List (Option ℕ)
subs_after asked subs (RegEnd seat given) = if is_ok given then subs_applied asked subs else subs
subs_after asked subs _ = subs

abbrev pub all_insts_after : Option Asked → List (Option ℕ) → List (List ℕ) → Event → List (List ℕ)
all_insts_after asked subs insts (RegEnd seat given) =
    if is_ok given then all_insts_applied asked subs insts else insts
all_insts_after asked subs insts _ = insts

-- counts of what a state's hook did, which a setup begins anew
abbrev pub begun_anew : Op → (state : ℕ) → List ℕ → List ℕ
begun_anew (Setup asked sub form) state counts = slice_set counts state 0
begun_anew _ state counts = counts

-- the counts with a call of a state, where it is of those that are counted
abbrev pub with_call : (How → Bool) → How → (state : ℕ) → List ℕ → List ℕ
with_call test how state counts = if test how then one_more_at state counts else counts

abbrev pub calls_after : (How → Bool) → List ℕ → Event → List ℕ
calls_after test counts (RegBegin seat state op) = begun_anew op state counts
calls_after test counts (Call seat cpu state inst dir how) = with_call test how state counts
calls_after test counts _ = counts

abbrev pub answers_after : Kind → ℕ → Event → ℕ
answers_after k n e = one_more_if (is_some_kind k (answer_by e)) n
