-- Which text and which status some bytes are answered.
use Rattle.std.proofs.Common.{◌≡◌, ℕ, ◌+◌, ◌<◌, ◌≤◌, ◌⊎◌, inl, inr, Bool, true, false, cond, eqb, leb, List, [], ◌++◌, Option, Some, None, length, refl, sym, ap, ◌∙◌, arith}
use Rattle.std.proofs.lemmas.Bool.{leb-true, le-leb}
use Rattle.std.proofs.lemmas.List.{append-nil, length-append}
use Rattle.hp_trace.specs.declared.verdict.Place.{Place}
use Rattle.hp_trace.specs.declared.verdict.End.{End}
use Rattle.hp_trace.specs.declared.verdict.End.TheVariants.{Whole, Lost, NoForm, Broken}
use Rattle.hp_trace.specs.declared.verdict.Judged.{Judged}
use Rattle.hp_trace.specs.declared.verdict.TheConstants.{MAX_TRACE_BYTES}
use Rattle.hp_trace_judge.specs.declared.walks.Walks.{Walks}
use Rattle.hp_trace_judge.specs.declared.walks.Walks.TheVariants as walks
use Rattle.hp_trace_judge.specs.Walks.{walks_before}
use Rattle.hp_trace_run.specs.declared.status.TheConstants.{LAWFUL, NO_TRACE, UNLAWFUL}
use Rattle.hp_trace_run.specs.Texts.{too_long_line}
use Rattle.hp_trace_run.specs.Answers.{end_status, judged_text, judged_status, judgement, walks_of, text_of, status_of, IsAnswerTo}
use Rattle.hp_trace_run.specs.Calls.{WasRead}

-- of bytes that aren't too many
pub short_answer : (bytes text : List ℕ) (status : ℕ) (j : Judged) (w : Walks) → length bytes ≤ MAX_TRACE_BYTES → j ≡ judgement bytes →
    w ≡ walks_before j.place.line bytes → text ≡ judged_text bytes j w → status ≡ judged_status j w → IsAnswerTo bytes text status
unfolding text_of status_of
short_answer bytes text status j w few same is t s =
    let test = le-leb (length bytes) MAX_TRACE_BYTES few in
    let walks : w ≡ walks_of bytes = is ∙ ap (λ (z : Judged). walks_before z.place.line bytes) same in
    let at_text : judged_text bytes j w ≡ judged_text bytes (judgement bytes) (walks_of bytes) =
    ap (λ (z : Judged). judged_text bytes z w) same ∙ ap (λ (z : Walks). judged_text bytes (judgement bytes) z) walks in
    let at_status : judged_status j w ≡ judged_status (judgement bytes) (walks_of bytes) =
    ap (λ (z : Judged). judged_status z w) same ∙ ap (λ (z : Walks). judged_status (judgement bytes) z) walks in
    record { text_is = rw test (t ∙ at_text); status_is = rw test (s ∙ at_status) }

is_over : (n : ℕ) (b : Bool) → leb n MAX_TRACE_BYTES ≡ b → MAX_TRACE_BYTES < n → b ≡ false
is_over n true e more = let le = leb-true n MAX_TRACE_BYTES e in absurd (omega (arith, le, more))
is_over n false e more = refl

-- of too many
pub long_answer : (bytes : List ℕ) → MAX_TRACE_BYTES < length bytes → IsAnswerTo bytes too_long_line NO_TRACE
unfolding text_of status_of
long_answer bytes more =
    let test = is_over (length bytes) (leb (length bytes) MAX_TRACE_BYTES) refl more in
    record { text_is = rw test refl; status_is = rw test refl }

-- ---- which statuses there are

reached_small : (b : Bool) → cond b NO_TRACE LAWFUL ≤ UNLAWFUL
reached_small true = omega arith
reached_small false = omega arith

end_small : (p : Place) (e : End) → end_status p e ≤ UNLAWFUL
end_small p Whole = reached_small (eqb p.events 0)
end_small p Lost = reached_small (eqb p.events 0)
end_small p NoForm = reached_small (eqb p.events 0)
end_small p (Broken fault) = omega arith

judged_small : (j : Judged) (w : Walks) → judged_status j w ≤ UNLAWFUL
judged_small j (walks.Misfit m) = omega arith
judged_small j walks.Lawful = end_small j.place j.end
judged_small j (walks.Far line) = end_small j.place j.end
judged_small j walks.NoBorders = end_small j.place j.end

pub small_status : (bytes : List ℕ) → status_of bytes ≤ UNLAWFUL
unfolding status_of
small_status bytes = go (leb (length bytes) MAX_TRACE_BYTES)
  where
    go : (b : Bool) → cond b (judged_status (judgement bytes) (walks_of bytes)) NO_TRACE ≤ UNLAWFUL
    go true = judged_small (judgement bytes) (walks_of bytes)
    go false = omega arith

-- ---- what was read of a source is answered as all that it holds

pub record SameAnswer (a b : List ℕ) : Type 0 where
  pub text : text_of a ≡ text_of b
  pub status : status_of a ≡ status_of b

same_some : (a b : List ℕ) → Some a ≡ Some b → a ≡ b
same_some a b h = cc

pub same_answer : (left now : Option (List ℕ)) (read all : List ℕ) → left ≡ Some all → WasRead left now read → SameAnswer read all
same_answer left None read all held was = let none = sym held ∙ was.first in absurd (cc)
same_answer left (Some rest) read all held was = go was.whole
  where
    parts : read ++ rest ≡ all
    parts = same_some (read ++ rest) all (sym was.first ∙ held)

    go : (rest ≡ []) ⊎ (length read ≡ MAX_TRACE_BYTES + 1) → SameAnswer read all
    go (inl none) =
        let same : read ≡ all = sym (append-nil read) ∙ (rw none at parts) in
        record { text = ap text_of same; status = ap status_of same }
    go (inr many) =
        let more = length-append read rest in
        let whole = ap length parts in
        let a = long_answer read (omega (arith, many)) in
        let b = long_answer all (omega (arith, many, more, whole)) in
        record { text = sym a.text_is ∙ b.text_is; status = sym a.status_is ∙ b.status_is }
