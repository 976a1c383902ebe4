-- What each field of a tally is after one event more, by the tally before it. This project's own.
use Rattle.std.specs.Prelude.{ℕ, ◌-◌, ◌&&◌, if◌then◌else◌, Option, Some, None, List, [], ◌∷◌, ◌++◌, slice_set, slice_index_or}
use Rattle.hp_event.specs.declared.answer.Answer.{Answer}
use Rattle.hp_event.specs.declared.event.Event.{Event}
use Rattle.hp_event.specs.declared.op.Op.{Op}
use Rattle.hp_model.specs.Calls.{is_called}
use Rattle.hp_model.specs.Suspend.{is_ok, is_freeze, is_thaw, is_disabling, is_enabling}
use Rattle.hp_model.specs.Summary.{Kind, is_hook_fault, ok, refused, fault, stuck, full}
use Rattle.hp_print.specs.declared.keys.KeyCount.{KeyCount}
use Rattle.hp_print.specs.declared.answer_counts.AnswerCounts.{AnswerCounts}
use Rattle.hp_print.specs.declared.processor_tally.ProcessorTally.{ProcessorTally}
use Rattle.hp_print.specs.declared.state_tally.Asked.{Asked}
use Rattle.hp_print.specs.declared.state_tally.StateTally.{StateTally}
use Rattle.hp_print.specs.declared.suspend_tally.SuspendTally.{SuspendTally}
use Rattle.hp_print.specs.declared.tally.Tally.{Tally}
use Rattle.hp_print.specs.Counts.{one_more}
use Rattle.hp_print.specs.Steps.{is_held, disabled_after, frozen_after, targets_after, settled_after, stands_after, keys_after, subs_applied, all_insts_applied, subs_after, all_insts_after, calls_after, answers_after}

-- ---- what operations of the map lock left behind

-- how often hotplug is disabled, once an operation takes the map lock, and once it gives it back
abbrev pub disabled_entered : SuspendTally → Op → ℕ
disabled_entered s op = if is_thaw op then s.disabled - 1 else s.disabled

abbrev pub disabled_ended : SuspendTally → ℕ
disabled_ended s =
    if is_held is_disabling s.op then one_more s.disabled else (if is_held is_enabling s.op then s.disabled - 1 else s.disabled)

-- the frozen processors, once a walk ends, and once its operation gives the map lock back
abbrev pub frozen_walked : SuspendTally → (cpu : ℕ) → Answer → List ℕ
frozen_walked s cpu given =
    if is_held is_freeze s.op && is_ok given then s.frozen.items ++ cpu ∷ [] else s.frozen.items

abbrev pub frozen_ended : SuspendTally → List ℕ
frozen_ended s = if is_held is_thaw s.op then [] else s.frozen.items

-- ---- processors

-- the settled states, once a walk ends
abbrev pub settled_walked : ProcessorTally → (cpu : ℕ) → Answer → List ℕ
settled_walked w cpu given =
    slice_set w.settled.items cpu
    (stands_after given (slice_index_or w.targets.items cpu None) (slice_index_or w.settled.items cpu 0))

-- ---- states

-- the instances of each state, once this registration is done
abbrev pub insts_with : StateTally → Asked → List (List ℕ)
insts_with t asked = all_insts_applied (Some asked) t.subs.items t.insts.items

-- the subsystems of the states and their instances, once the registration in flight ends
abbrev pub subs_ended : StateTally → Answer → List (Option ℕ)
subs_ended t given = if is_ok given then subs_applied t.asked t.subs.items else t.subs.items

abbrev pub insts_ended : StateTally → Answer → List (List ℕ)
insts_ended t given = if is_ok given then all_insts_applied t.asked t.subs.items t.insts.items else t.insts.items

-- ---- a whole tally, field by field

abbrev pub disabled_and : Tally → Event → ℕ
disabled_and t e = disabled_after t.suspended.op t.suspended.disabled e

abbrev pub frozen_and : Tally → Event → List ℕ
frozen_and t e = frozen_after t.suspended.op t.suspended.frozen.items e

abbrev pub targets_and : Tally → Event → List (Option ℕ)
targets_and t e = targets_after t.processors.targets.items e

abbrev pub settled_and : Tally → Event → List ℕ
settled_and t e = settled_after t.processors.targets.items t.processors.settled.items e

abbrev pub keys_and : Tally → Event → List (List KeyCount)
keys_and t e = keys_after t.processors.keys.items e

abbrev pub subs_and : Tally → Event → List (Option ℕ)
subs_and t e = subs_after t.states.asked t.states.subs.items e

abbrev pub insts_and : Tally → Event → List (List ℕ)
insts_and t e = all_insts_after t.states.asked t.states.subs.items t.states.insts.items e

abbrev pub made_and : Tally → Event → List ℕ
made_and t e = calls_after is_called t.states.made.items e

abbrev pub faults_and : Tally → Event → List ℕ
faults_and t e = calls_after is_hook_fault t.states.faults.items e

-- how many operations were answered in this way
abbrev pub how_many : Kind → AnswerCounts → ℕ
how_many ok a = a.ok
how_many refused a = a.refused
how_many fault a = a.fault
how_many stuck a = a.stuck
how_many full a = a.full

abbrev pub answered_and : Kind → Tally → Event → ℕ
answered_and k t e = answers_after k (how_many k t.answers) e
