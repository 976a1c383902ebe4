-- What a line does to where a reader of a trace stands.
use Rattle.std.proofs.Common.{◌≡◌, ℕ, suc, ◌+◌, ◌≤◌, Bool, true, false, cond, eqb, List, [], ◌∷◌, length, Option, Some, None, Result, Ok, Err, sym, ap, subst, ◌∙◌, arith}
use Rattle.std.specs.List.{onto_first, slice_split}
use Rattle.hp_trace.specs.declared.event.Event.{Event}
use Rattle.hp_trace.specs.declared.event.Said.{Said}
use Rattle.hp_trace.specs.declared.event.Said.TheVariants as said
use Rattle.hp_trace.specs.declared.nest.Fault.{Fault}
use Rattle.hp_trace.specs.declared.verdict.Place.{Place}
use Rattle.hp_trace.specs.declared.verdict.End.{End}
use Rattle.hp_trace.specs.Pieces.{first_of, others_of, is_none_left}
use Rattle.hp_trace.specs.Said.{said_of}
use Rattle.hp_trace.specs.Nest.{fault_of}
use Rattle.hp_trace.specs.Judged.{step, event_step, whole, by_step, judged}
use Rattle.hp_trace.proofs.PieceForms.{is_by}

-- ---- there are no more pieces than bytes and one

few_onto : (b n : ℕ) (ws : List (List ℕ)) → length ws ≤ n + 1 → length (onto_first b ws) ≤ n + 2
few_onto b n [] h = omega arith
few_onto b n (w ∷ ws) h = omega (arith, h)

pub few_pieces : (by : ℕ) (bs : List ℕ) → length (slice_split (is_by by) bs) ≤ length bs + 1
few_pieces by [] = omega arith
few_pieces by (b ∷ bs) = by_test (eqb b by) (few_pieces by bs)
  where
    by_test : (t : Bool) → length (slice_split (is_by by) bs) ≤ length bs + 1 →
        length (cond t ([] ∷ slice_split (is_by by) bs) (onto_first b (slice_split (is_by by) bs))) ≤ suc (length bs) + 1
    by_test true h = omega (arith, h)
    by_test false h = let k = few_onto b (length bs) (slice_split (is_by by) bs) h in omega (arith, k)

-- ---- the next line

go_on : (p q : Place) (xs : List (List ℕ)) (t : Bool) (r : Result Place End) → t ≡ false → r ≡ Ok q →
    cond t (whole p) (by_step p r (λ next. judged next xs)) ≡ judged q xs
go_on p q xs true r d e = absurd cc
go_on p q xs false (Ok n) d e = let same : n ≡ q = cc in ap (λ (m : Place). judged m xs) same
go_on p q xs false (Err x) d e = absurd cc

pub judged_more : (p q : Place) (lines : List (List ℕ)) (l : List ℕ) (ls : List (List ℕ)) → Some l ≡ first_of lines → ls ≡ others_of lines →
    is_none_left ls ≡ false → step p (said_of l) ≡ Ok q → judged q ls ≡ judged p lines
judged_more p q [] l ls f o d s = absurd cc
judged_more p q (x ∷ xs) l ls f o d s =
    let same : l ≡ x = cc in
    let left : is_none_left xs ≡ false = subst (λ (z : List (List ℕ)). is_none_left z ≡ false) o d in
    let steps : step p (said_of x) ≡ Ok q = subst (λ (z : List ℕ). step p (said_of z) ≡ Ok q) same s in
    sym (go_on p q xs (is_none_left xs) (step p (said_of x)) left steps ∙ ap (λ (z : List (List ℕ)). judged q z) (sym o))

pub one_less : (lines : List (List ℕ)) (l : List ℕ) (ls : List (List ℕ)) → Some l ≡ first_of lines → ls ≡ others_of lines → length lines ≡ length ls + 1
one_less [] l ls f o = absurd cc
one_less (x ∷ xs) l ls f o = let same = ap length o in omega (arith, same)

pub record Counts (p q : Place) : Type 0 where
  pub line : q.line ≡ p.line + 1
  pub events : q.events ≤ p.events + 1

counts_event : (p q : Place) (e : Event) (f : Option Fault) → event_step p e f ≡ Ok q → Counts p q
counts_event p q e (Some fault) h = absurd cc
counts_event p q e None h =
    let line : q.line ≡ p.line + 1 = cc in
    let events : q.events ≡ p.events + 1 = cc in
    record { line = line; events = omega (arith, events) }

pub counts : (p q : Place) (s : Said) → step p s ≡ Ok q → Counts p q
counts p q (said.Event e) h = counts_event p q e (fault_of p.nest e) h
counts p q said.NoForm h = absurd cc
counts p q said.Lost h = absurd cc
counts p q said.Other h =
    let line : q.line ≡ p.line + 1 = cc in
    let events : q.events ≡ p.events = cc in
    record { line = line; events = omega (arith, events) }
