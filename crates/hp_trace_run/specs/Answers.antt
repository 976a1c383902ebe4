-- What is answered to the bytes of a trace: a text and a status, each by what `judged` of hp_trace says of their lines.
-- This project's own.
use Rattle.std.specs.Prelude.{◌≡◌, ℕ, ◌-◌, ◌==◌, nat_le, if◌then◌else◌, List, ◌++◌, length}
use Rattle.hp_trace.specs.declared.verdict.Place.{Place}
use Rattle.hp_trace.specs.declared.verdict.End.{End}
use Rattle.hp_trace.specs.declared.verdict.End.TheVariants.{Whole, Lost, NoForm, Broken}
use Rattle.hp_trace.specs.declared.verdict.Judged.{Judged}
use Rattle.hp_trace.specs.declared.verdict.TheConstants.{MAX_TRACE_BYTES}
use Rattle.hp_trace.specs.Pieces.{pieces}
use Rattle.hp_trace.specs.Judged.{first, judged}
use Rattle.hp_trace.specs.Failed.{failures_before}
use Rattle.hp_trace_judge.specs.declared.walks.Walks.{Walks}
use Rattle.hp_trace_judge.specs.declared.walks.Walks.TheVariants as walks
use Rattle.hp_trace_judge.specs.Walks.{walks_before}
use Rattle.hp_trace_run.specs.declared.status.TheConstants.{LAWFUL, NO_TRACE, UNLAWFUL}
use Rattle.hp_trace_run.specs.WalkTexts.{misfit_line}
use Rattle.hp_trace_run.specs.Texts.{too_long_line, open_line, fault_line, reached_lines, lost_lines, no_form_lines}

-- ---- of a judgement of some bytes, and of their walks

-- how many events were judged and how many other lines, and which exits of them have another code than 0
abbrev pub reached_text : (bytes : List ℕ) → Place → Walks → List ℕ
reached_text bytes p w = reached_lines p.events (p.line - 1 - p.events) (failures_before p.line bytes) w

abbrev pub end_text : (bytes : List ℕ) → Place → Walks → End → List ℕ
end_text bytes p w Whole = reached_text bytes p w
end_text bytes p w Lost = lost_lines p.line (reached_text bytes p w)
end_text bytes p w NoForm = no_form_lines p.line (reached_text bytes p w)
end_text bytes p w (Broken fault) = fault_line p.line fault

-- a line that can't be one of lawful walks stands before the end
abbrev pub walked_text : (bytes : List ℕ) → Judged → Walks → List ℕ
walked_text bytes j (walks.Misfit m) = misfit_line m
walked_text bytes j walks.Lawful = end_text bytes j.place walks.Lawful j.end
walked_text bytes j (walks.Far line) = end_text bytes j.place (walks.Far line) j.end
walked_text bytes j walks.NoBorders = end_text bytes j.place walks.NoBorders j.end

-- first what is open, the outer one first
abbrev pub judged_text : (bytes : List ℕ) → Judged → Walks → List ℕ
judged_text bytes j w = open_line j.place.nest.mark ++ (open_line j.place.nest.call ++ walked_text bytes j w)

abbrev pub reached_status : Place → ℕ
reached_status p = if p.events == 0 then NO_TRACE else LAWFUL

abbrev pub end_status : Place → End → ℕ
end_status p Whole = reached_status p
end_status p Lost = reached_status p
end_status p NoForm = reached_status p
end_status p (Broken fault) = UNLAWFUL

abbrev pub judged_status : Judged → Walks → ℕ
judged_status j (walks.Misfit m) = UNLAWFUL
judged_status j walks.Lawful = end_status j.place j.end
judged_status j (walks.Far line) = end_status j.place j.end
judged_status j walks.NoBorders = end_status j.place j.end

-- ---- of bytes

-- the judgement of their lines
abbrev pub judgement : (bytes : List ℕ) → Judged
judgement bytes = judged first (pieces 10 bytes)

-- and of the walks of those of them that can stand
abbrev pub walks_of : (bytes : List ℕ) → Walks
walks_of bytes = walks_before (judgement bytes).place.line bytes

unfoldable pub text_of : (bytes : List ℕ) → List ℕ
text_of bytes = if nat_le (length bytes) MAX_TRACE_BYTES then judged_text bytes (judgement bytes) (walks_of bytes) else too_long_line

unfoldable pub status_of : (bytes : List ℕ) → ℕ
status_of bytes = if nat_le (length bytes) MAX_TRACE_BYTES then judged_status (judgement bytes) (walks_of bytes) else NO_TRACE

pub record IsAnswerTo (bytes text : List ℕ) (status : ℕ) : Type 0 where
  pub text_is : text ≡ text_of bytes
  pub status_is : status ≡ status_of bytes
