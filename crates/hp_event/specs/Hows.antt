-- How entries are made: which are done and which are faults, which called a callback, and what a callback's answer
-- makes of its entry. After `cpuhp_invoke_callback` of `kernel/cpu.c`; which faults are overruled is this project's own.
use Rattle.std.specs.Prelude.{ℕ, zero, suc, Bool, true, false, if◌then◌else◌, Option, Some, None}
use Rattle.hp_states.specs.declared.limits.TheConstants.{EAGAIN}
use Rattle.hp_event.specs.declared.how.How.{How}
use Rattle.hp_event.specs.declared.how.How.TheVariants.{RanOk, RanFault, Injected, Empty, Presumed, Overruled}

abbrev pub is_done : How → Bool
is_done RanOk = true
is_done (RanFault code) = false
is_done Injected = false
is_done Empty = true
is_done Presumed = true
is_done (Overruled code) = true

-- an injected fault has the code of `cpuhp_invoke_callback`
abbrev pub fault_of : How → Option ℕ
fault_of RanOk = None
fault_of (RanFault code) = Some code
fault_of Injected = Some EAGAIN
fault_of Empty = None
fault_of Presumed = None
fault_of (Overruled code) = None

-- whether a callback was called
abbrev pub is_called : How → Bool
is_called RanOk = true
is_called (RanFault code) = true
is_called Injected = false
is_called Empty = false
is_called Presumed = false
is_called (Overruled code) = true

-- whether a callback was called and answered a code
abbrev pub is_hook_fault : How → Bool
is_hook_fault RanOk = false
is_hook_fault (RanFault code) = true
is_hook_fault Injected = false
is_hook_fault Empty = false
is_hook_fault Presumed = false
is_hook_fault (Overruled code) = true

-- a callback that answers 0 ran; a code is a fault where the entry may fail, and else overruled
abbrev pub how_answered : (may_fail : Bool) → (code : ℕ) → How
how_answered may_fail zero = RanOk
how_answered may_fail (suc n) = if may_fail then RanFault (suc n) else Overruled (suc n)
