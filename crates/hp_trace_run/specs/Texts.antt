-- The lines that are written of a trace, each with the newline that ends it. This project's own.
use Rattle.std.specs.Prelude.{ℕ, ◌-◌, ◌==◌, nat_le, if◌then◌else◌, List, [], ◌∷◌, ◌++◌, Option, Some, None, codes, decimal, length, take}
use Rattle.std.specs.Fmt.{signed_decimal}
use Rattle.std.specs.List.{flat_map}
use Rattle.hp_trace.specs.declared.failed.Failure.{Failure}
use Rattle.hp_trace.specs.declared.failed.TheConstants.{MOST_KEPT}
use Rattle.hp_trace.specs.declared.nest.Open.{Open}
use Rattle.hp_trace.specs.declared.nest.Fault.{Fault}
use Rattle.hp_trace.specs.declared.nest.Fault.TheVariants.{WithinCall, OfAnother, WithinMark, NotLast, NoEnter, NotOwn}
use Rattle.hp_trace.specs.declared.verdict.TheConstants.{MAX_TRACE_BYTES}
use Rattle.hp_trace_judge.specs.declared.walks.Walks.{Walks}
use Rattle.hp_trace_run.specs.WalkTexts.{heading, unjudged_line}

abbrev pub usage_line : List ℕ
usage_line = codes "usage: hptrace < TEXT" ++ 10 ∷ []

abbrev pub too_long_line : List ℕ
too_long_line = codes "error: more than " ++ (decimal MAX_TRACE_BYTES ++ (codes " bytes" ++ 10 ∷ []))

-- what was entered and not left; where there is nothing such, there is no line
abbrev pub open_line : Option Open → List ℕ
open_line None = []
open_line (Some o) =
    codes "line "
    ++ (decimal o.line ++ (codes ": entered and not left: cpu " ++ (decimal o.cpu ++ (codes " at step " ++ (decimal o.step ++ 10 ∷ [])))))

-- why a line can't stand, to the end of the line
abbrev pub why : Fault → List ℕ
why (WithinCall o) = codes "entered within the callback of line " ++ (decimal o.line ++ 10 ∷ [])
why (OfAnother o) =
    codes "entered within the function of line " ++ (decimal o.line ++ (codes ", which is of cpu " ++ (decimal o.cpu ++ 10 ∷ [])))
why (WithinMark o) = codes "no callback, and entered within the function of line " ++ (decimal o.line ++ 10 ∷ [])
why (NotLast o) = codes "no exit of what was entered last, in line " ++ (decimal o.line ++ 10 ∷ [])
why NoEnter = codes "an exit without its enter" ++ 10 ∷ []
why (NotOwn n) = codes "made on cpu " ++ (decimal n ++ (codes ", and not on its own" ++ 10 ∷ []))

abbrev pub fault_line : (line : ℕ) → Fault → List ℕ
fault_line line fault = codes "error: line " ++ (decimal line ++ (codes ": " ++ why fault))

-- an exit whose code isn't 0
abbrev pub failure_line : Failure → List ℕ
failure_line f =
    codes "line "
    ++ (decimal f.line
    ++ (codes ": cpu " ++ (decimal f.cpu ++ (codes " at step " ++ (decimal f.step ++ (codes " answered " ++ (signed_decimal f.code ++ 10 ∷ [])))))))

-- how many there are of so many beside those that are named; where there are none, there is no line
abbrev pub more_line : (count : ℕ) → List ℕ
more_line count =
    if nat_le count MOST_KEPT then [] else decimal (count - MOST_KEPT) ++ (codes " more answered another code than 0" ++ 10 ∷ [])

-- the first of them are named
abbrev pub failed_lines : List Failure → Walks → List ℕ
failed_lines fs w = flat_map failure_line (take MOST_KEPT fs) ++ (more_line (length fs) ++ unjudged_line w)

-- how far the lines were judged
abbrev pub lawful_lines : (events others : ℕ) → List Failure → Walks → List ℕ
lawful_lines events others fs w =
    heading w
    ++ (codes ": " ++ (decimal events ++ (codes " events, " ++ (decimal others ++ (codes " other lines" ++ 10 ∷ failed_lines fs w)))))

abbrev pub reached_lines : (events others : ℕ) → List Failure → Walks → List ℕ
reached_lines events others fs w =
    if events == 0 then codes "no event of CPU hotplug" ++ 10 ∷ [] else lawful_lines events others fs w

-- by this line events were lost
abbrev pub lost_lines : (line : ℕ) → (behind : List ℕ) → List ℕ
lost_lines line behind =
    codes "line "
    ++ (decimal line ++ (codes ": events were lost, or may be (perf script): no line behind is judged" ++ 10 ∷ behind))

-- this line has an event's name and no form
abbrev pub no_form_lines : (line : ℕ) → (behind : List ℕ) → List ℕ
no_form_lines line behind =
    codes "line "
    ++ (decimal line ++ (codes ": an event in no form that is known: no line behind is judged" ++ 10 ∷ behind))
