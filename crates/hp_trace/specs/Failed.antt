-- What failed: the exits of a trace whose code isn't 0, in the order of their lines. This project's own.
use Rattle.std.specs.Prelude.{◌≡◌, ℕ, zero, suc, ◌+◌, ◌-◌, ℤ, pos, negsuc, List, [], ◌∷◌, Option, Some, None, length, take}
use Rattle.hp_trace.specs.declared.event.Payload.{Payload}
use Rattle.hp_trace.specs.declared.event.Payload.TheVariants.{Entered, Left}
use Rattle.hp_trace.specs.declared.event.Said.{Said}
use Rattle.hp_trace.specs.declared.event.Said.TheVariants as said
use Rattle.hp_trace.specs.declared.failed.Failure.{Failure}
use Rattle.hp_trace.specs.declared.failed.Failures.{Failures}
use Rattle.hp_trace.specs.declared.failed.TheConstants.{MOST_KEPT}
use Rattle.hp_trace.specs.Pieces.{pieces}
use Rattle.hp_trace.specs.Said.{said_of}

-- every code but 0
abbrev pub unless_0 : (code : ℤ) → Failure → Option Failure
unless_0 (pos zero) f = None
unless_0 (pos (suc n)) f = Some f
unless_0 (negsuc n) f = Some f

abbrev pub failure_in : (line : ℕ) → Payload → Option Failure
failure_in line (Entered multi cpu target step function) = None
failure_in line (Left cpu state step code) = unless_0 code (record { line = line; cpu = cpu; step = step; code = code })

-- what a line says
abbrev pub failure_of : (line : ℕ) → Said → Option Failure
failure_of line (said.Event e) = failure_in line e.payload
failure_of line said.NoForm = None
failure_of line said.Lost = None
failure_of line said.Other = None

abbrev pub with_failure : Option Failure → List Failure → List Failure
with_failure None fs = fs
with_failure (Some f) fs = f ∷ fs

-- of lines of which the first has this number
abbrev pub failures_from : (line : ℕ) → (lines : List (List ℕ)) → List Failure
failures_from line [] = []
failures_from line (l ∷ ls) = with_failure (failure_of line (said_of l)) (failures_from (line + 1) ls)

-- of the lines of a trace before this one
abbrev pub failures_before : (until : ℕ) → (bytes : List ℕ) → List Failure
failures_before until bytes = failures_from 1 (take (until - 1) (pieces 10 bytes))

-- the first of them are kept, and all are counted
pub record AreFailures (all : List Failure) (kept : Failures) : Type 0 where
  pub first : kept.first.items ≡ take MOST_KEPT all
  pub count : kept.count ≡ length all
