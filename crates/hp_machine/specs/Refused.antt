-- By which number a machine refuses an operation that hasn't begun, if it does: at once, or after the waits. This project's own.
use Rattle.std.specs.Prelude.{◌&&◌, not, ℕ, Bool, Option, filter}
use Rattle.hp_states.specs.CpuSets.{has}
use Rattle.hp_states.specs.declared.cpu_set.CpuSet.{CpuSet}
use Rattle.hp_event.specs.declared.head.Head.{Head}
use Rattle.hp_event.specs.declared.op.Op.{Op}
use Rattle.hp_model.specs.Lists.{is_empty, numbers}
use Rattle.hp_model.specs.Processors.{is_present}
use Rattle.hp_model.specs.Refusals.{refusals_after_waits, refusals_of_target, refusals_of_way}
use Rattle.hp_model.specs.RefusalsAtOnce.{first_that_holds, refusals_at_once}
use Rattle.hp_model.specs.Settled.{settled}
use Rattle.hp_machine.specs.Contents.{Contents}

abbrev pub refusal_at_once : Contents → (seat : ℕ) → Op → Option ℕ
refusal_at_once m k op = first_that_holds (refusals_at_once m.head m.events k op)

abbrev pub refusal_after_waits : Contents → Op → Option ℕ
refusal_after_waits m op = first_that_holds (refusals_after_waits m.head m.events op)

-- of a target, which is this state, from where the processor stands
abbrev pub refusal_of_target : Contents → (cpu to : ℕ) → Option ℕ
refusal_of_target m c to = first_that_holds (refusals_of_target m.head m.events c to (settled c m.events))

-- of the way there, where a walk can be aimed at the state
abbrev pub refusal_of_way : Contents → (cpu to : ℕ) → Option ℕ
refusal_of_way m c to = first_that_holds (refusals_of_way m.head m.events c to (settled c m.events))

-- whether a set has a possible processor that isn't present
abbrev pub lists_absent : Head → CpuSet → Bool
lists_absent head set = not (is_empty (filter (λ c. has set c && not (is_present head c)) (numbers head.possible)))
