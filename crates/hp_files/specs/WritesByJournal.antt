-- What a value written to `target` or `fail` comes to by the journal: of whatever events of which the table says what
-- they say, the value is refused for what refuses it there. This project's own; the refusals are hp_model's.
use Rattle.std.specs.Prelude.{◌≡◌, ℕ, ℤ, true, false, Option, Some, IfErr, Result, Ok, Err, List}
use Rattle.hp_event.specs.declared.op.Op.{Op}
use Rattle.hp_event.specs.declared.op.Op.TheVariants.{Target, Arm}
use Rattle.hp_event.specs.declared.head.Head.{Head}
use Rattle.hp_event.specs.declared.event.Event.{Event}
use Rattle.hp_model.specs.Processors.{is_possible}
use Rattle.hp_model.specs.Seats.{is_busy}
use Rattle.hp_model.specs.Waits.{is_waiting}
use Rattle.hp_model.specs.Refusals.{refusal, refusals_of_arm, refusals_of_target, refusals_of_way}
use Rattle.hp_model.specs.RefusalsAtOnce.{first_that_holds, is_state}
use Rattle.hp_model.specs.Readers.{is_reading}
use Rattle.hp_model.specs.Settled.{settled}
use Rattle.hp_model.specs.Sequence.{target_of}
use Rattle.hp_model.specs.Shown.{shown as shown_of}
use Rattle.hp_table.specs.Step.{Step}
use Rattle.hp_files.specs.Writes.{unless_refused, HasNamesOf, HasCallbacksOf}

-- a write that nothing refuses but the value and the way to it: nothing of the seat is in flight, the processor is
-- possible, and the write waits for nothing
pub record CanBeWritten (head : Head) (events : List Event) (seat cpu : ℕ) (op : Op) : Type 0 where
  pub is_idle : is_busy seat events ≡ false
  pub possible : is_possible head cpu ≡ true
  pub waits_not : is_waiting events op ≡ false

-- the number of a value that is refused, and else the one by which what it says is refused
abbrev pub refused_or : Result ℕ ℕ → (of_state : ℕ → Option ℕ) → Option ℕ
refused_or (Ok state) of_state = of_state state
refused_or (Err errno) of_state = Some errno

-- what refuses this value for `target` refuses a walk to its state from wherever the processor stands
abbrev pub IsTargetByEvents : List (Option Step) → (value : ℤ) → Result ℕ ℕ → Type 0
IsTargetByEvents table value result =
    (head : Head) (events : List Event) (cpu now : ℕ) → HasNamesOf head events table → is_state value ≡ true →
    IfErr result (λ errno. first_that_holds (refusals_of_target head events cpu (target_of value) now) ≡ Some errno)

-- a write of it to `target` that can be made is refused for the value, or else for the way to its state
abbrev pub IsTargetByRefusal : List (Option Step) → (value : ℤ) → Result ℕ ℕ → Type 0
IsTargetByRefusal table value result =
    (head : Head) (events : List Event) (seat cpu : ℕ) → HasNamesOf head events table →
    CanBeWritten head events seat cpu (Target cpu value) → is_reading seat events ≡ false →
    refusal head events seat (Target cpu value)
    ≡ refused_or result (λ state. first_that_holds (refusals_of_way head events cpu state (settled cpu events)))

-- this value for `fail`, at a processor that shows this state, is refused for what refuses an arming with it
abbrev pub IsFailByEvents : List (Option Step) → (value : ℤ) → (shown : ℕ) → Result ℤ ℕ → Type 0
IsFailByEvents table value shown result =
    (head : Head) (events : List Event) (cpu : ℕ) → HasCallbacksOf head events table → shown ≡ shown_of head cpu events →
    result ≡ unless_refused (first_that_holds (refusals_of_arm head events cpu value)) value

-- and a write of it to `fail` that can be made, for that alone
abbrev pub IsFailByRefusal : List (Option Step) → (value : ℤ) → (shown : ℕ) → Result ℤ ℕ → Type 0
IsFailByRefusal table value shown result =
    (head : Head) (events : List Event) (seat cpu : ℕ) → HasCallbacksOf head events table →
    shown ≡ shown_of head cpu events → CanBeWritten head events seat cpu (Arm cpu value) →
    result ≡ unless_refused (refusal head events seat (Arm cpu value)) value
