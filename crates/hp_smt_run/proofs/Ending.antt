-- The rounds of a run under SMT control end: each one before the end gets further, and there is an end to that.
use Rattle.std.proofs.Common.{◌≡◌, ℕ, zero, suc, ◌+◌, ◌<◌, ◌≤◌, Bool, true, false, eqb, List, length, refl, sym, subst, arith}
use Rattle.std.proofs.lemmas.Bool.{eqb-true, eqb-false}
use Rattle.hp_states.proofs.Basics.{less_or}
use Rattle.hp_event.specs.declared.op.Op.{Op}
use Rattle.hp_event.specs.declared.head.Head.{Head}
use Rattle.hp_model.specs.Lists.{numbers}
use Rattle.hp_model.specs.Processors.{present}
use Rattle.hp_smt.specs.Run.{SmtState, after_smt_rounds, is_over, IsSmtRun}
use Rattle.hp_smt.specs.declared.mode.Control.{Control}
use Rattle.hp_smt_run.specs.Existence.{HasSmtRun}
use Rattle.hp_smt_run.proofs.Further.{reach}
use Rattle.hp_smt_run.proofs.Kept.{Fits, Kept, start_kept, turns_kept}
use Rattle.hp_smt_run.proofs.Moving.{round_further, no_further, furthest}

rounds_kept : (head : Head) (n : ℕ) (ops : List (List Op)) (want : Control) → Fits head ops → (r : ℕ) →
    Kept head ops want (after_smt_rounds head n ops want r)
rounds_kept head n ops want fits zero = start_kept head ops want fits
rounds_kept head n ops want fits (suc r) =
    turns_kept head n ops want (numbers (length (present head) + length ops + 1)) (after_smt_rounds head n ops want r) fits
    (rounds_kept head n ops want fits r)

-- after so many rounds the run is over, or gets further, as it can but so often
search_end : (head : Head) (n : ℕ) (ops : List (List Op)) (want : Control) (fuel r : ℕ) → Fits head ops →
    ((m : ℕ) → m < r → is_over ops (after_smt_rounds head n ops want m) ≡ false) →
    furthest ops ≤ reach (after_smt_rounds head n ops want r) + fuel → (at : SmtState) × IsSmtRun head n ops want at
search_end head n ops want zero r fits early far = go (is_over ops (after_smt_rounds head n ops want r)) refl
  where
    go : (b : Bool) → is_over ops (after_smt_rounds head n ops want r) ≡ b → (at : SmtState) × IsSmtRun head n ops want at
    go true f = (_, record { rounds = r; over = f; no_sooner = early; state_is = refl })
    go false f =
        let a = round_further head n ops want (after_smt_rounds head n ops want r) fits (rounds_kept head n ops want fits r) f in
        let b = no_further head ops want (after_smt_rounds head n ops want (suc r)) (rounds_kept head n ops want fits (suc r)) in
        absurd (omega (arith, a, b, far))
search_end head n ops want (suc fuel) r fits early far =
    go (is_over ops (after_smt_rounds head n ops want r)) refl (λ e l. search_end head n ops want fuel (suc r) fits e l)
  where
    sooner : is_over ops (after_smt_rounds head n ops want r) ≡ false → (m : ℕ) → m < suc r → (b : Bool) → eqb m r ≡ b →
        is_over ops (after_smt_rounds head n ops want m) ≡ false
    sooner f m h true e =
        subst (λ z. is_over ops (after_smt_rounds head n ops want z) ≡ false) (sym (eqb-true m r e)) f
    sooner f m h false e = early m (less_or m r h (eqb-false m r e))

    go : (b : Bool) → is_over ops (after_smt_rounds head n ops want r) ≡ b →
        (((m : ℕ) → m < suc r → is_over ops (after_smt_rounds head n ops want m) ≡ false) →
        furthest ops ≤ reach (after_smt_rounds head n ops want (suc r)) + fuel → (at : SmtState) × IsSmtRun head n ops want at) →
        (at : SmtState) × IsSmtRun head n ops want at
    go true f more = (_, record { rounds = r; over = f; no_sooner = early; state_is = refl })
    go false f more =
        let a = round_further head n ops want (after_smt_rounds head n ops want r) fits (rounds_kept head n ops want fits r) f in
        more (λ m h. sooner f m h (eqb m r) refl) (omega (arith, a, far))

pub smt_run_ends : (head : Head) (n : ℕ) (want : Control) (ops : List (List Op)) → HasSmtRun head n want ops
smt_run_ends head n want ops script seats =
    search_end head n ops want (furthest ops) 0 (record { script = script; seats = seats }) (λ m h. absurd (omega (arith, h)))
    (omega arith)
