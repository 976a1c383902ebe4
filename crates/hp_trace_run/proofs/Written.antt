-- What is written, piece by piece, is the text of a judgement.
use Rattle.std.proofs.Common.{◌≡◌, ◌≢◌, ℕ, ◌-◌, false, eqb, List, ◌∷◌, ◌++◌, length, take, Result, Ok, Err, IfOk, String, string_bytes, codes, decimal, refl, ◌∙◌}
use Rattle.std.specs.List.{flat_map}
use Rattle.std.proofs.lemmas.Bool.{ne_eqb}
use Rattle.hp_trace.specs.declared.failed.Failure.{Failure}
use Rattle.hp_trace.specs.declared.failed.TheConstants.{MOST_KEPT}
use Rattle.hp_trace.specs.declared.verdict.Place.{Place}
use Rattle.hp_trace.specs.declared.verdict.End.{End}
use Rattle.hp_trace.specs.declared.verdict.End.TheVariants.{Lost, NoForm}
use Rattle.hp_trace.specs.Failed.{failures_before}
use Rattle.hp_trace_judge.specs.declared.walks.Walks.{Walks}
use Rattle.hp_trace_run.specs.Texts.{failure_line, more_line, lost_lines, no_form_lines}
use Rattle.hp_trace_run.specs.WalkTexts.{heading, unjudged_line}
use Rattle.hp_trace_run.specs.Answers.{reached_text, end_text}

pub written_as : {Z X : Type 0} (r : Result (String Z) X) (a b : List ℕ) → a ≡ b → IfOk r (λ t. string_bytes t ≡ a) → IfOk r (λ t. string_bytes t ≡ b)
written_as (Ok t) a b e h = h ∙ e
written_as (Err x) a b e h = tt

-- what stands behind the line of the counts
abbrev pub behind_counts : (named : List Failure) → (count : ℕ) → Walks → List ℕ
behind_counts named count w = flat_map failure_line named ++ (more_line count ++ unjudged_line w)

abbrev pub with_counts : Walks → (events others : ℕ) → (behind : List ℕ) → List ℕ
with_counts w events others behind =
    heading w ++ (codes ": " ++ (decimal events ++ (codes " events, " ++ (decimal others ++ (codes " other lines" ++ 10 ∷ behind)))))

pub reached_is : (bytes : List ℕ) (p : Place) (w : Walks) (named : List Failure) (count : ℕ) → p.events ≢ 0 →
    named ≡ take MOST_KEPT (failures_before p.line bytes) → count ≡ length (failures_before p.line bytes) →
    with_counts w p.events (p.line - 1 - p.events) (behind_counts named count w) ≡ reached_text bytes p w
reached_is bytes p w named count some n k =
    let test : eqb p.events 0 ≡ false = ne_eqb p.events 0 some in
    rw (test, n, k) refl

pub lost_is : (bytes reached : List ℕ) (p : Place) (w : Walks) (e : End) → e ≡ Lost → reached ≡ reached_text bytes p w →
    lost_lines p.line reached ≡ end_text bytes p w e
lost_is bytes reached p w e is r = rw (is, r) refl

pub no_form_is : (bytes reached : List ℕ) (p : Place) (w : Walks) (e : End) → e ≡ NoForm → reached ≡ reached_text bytes p w →
    no_form_lines p.line reached ≡ end_text bytes p w e
no_form_is bytes reached p w e is r = rw (is, r) refl
