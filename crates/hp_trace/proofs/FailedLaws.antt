-- The failures that a reader of lines has seen, and those that are still to come.
use Rattle.std.proofs.Common.{◌≡◌, ℕ, suc, ◌+◌, ◌-◌, ◌<◌, ◌≤◌, List, [], ◌∷◌, ◌++◌, length, take, Option, Some, None, append_assoc, length-append, refl, sym, ap, ◌∙◌, arith}
use Rattle.std.proofs.lemmas.List.{take_all, take-append-le}
use Rattle.hp_trace.specs.declared.failed.Failure.{Failure}
use Rattle.hp_trace.specs.declared.failed.TheConstants.{MOST_KEPT}
use Rattle.hp_trace.specs.Pieces.{first_of, others_of}
use Rattle.hp_trace.specs.Said.{said_of}
use Rattle.hp_trace.specs.Failed.{failure_of, with_failure, failures_from}

-- of all, those that are still to come stand behind those of which the first are kept, and which are counted
pub record Seen (all more kept : List Failure) (count : ℕ) : Type 0 where
  pub done : List Failure
  pub parts : all ≡ done ++ more
  pub kept_is : kept ≡ take MOST_KEPT done
  pub count_is : count ≡ length done

pub seen_none : (all : List Failure) → Seen all all [] 0
seen_none all = record { done = []; parts = refl; kept_is = refl; count_is = refl }

parts_on : (all done more : List Failure) (f : Failure) → all ≡ done ++ (f ∷ more) → all ≡ (done ++ f ∷ []) ++ more
parts_on all done more f h = h ∙ sym (append_assoc done (f ∷ []) more)

count_on : (done : List Failure) (f : Failure) (count : ℕ) → count ≡ length done → count + 1 ≡ length (done ++ f ∷ [])
count_on done f count h = let l = length-append done (f ∷ []) in omega (arith, h, l)

pub seen_kept : (all more kept : List Failure) (count : ℕ) (f : Failure) → count < MOST_KEPT → Seen all (f ∷ more) kept count →
    Seen all more (kept ++ f ∷ []) (count + 1)
seen_kept all more kept count f few s =
    let l = length-append s.done (f ∷ []) in
    let short = take_all MOST_KEPT s.done (omega (arith, few, s.count_is)) in
    let short_on = take_all MOST_KEPT (s.done ++ f ∷ []) (omega (arith, few, s.count_is, l)) in
    record {
      done = s.done ++ f ∷ [];
      parts = parts_on all s.done more f s.parts;
      kept_is = ap (λ (fs : List Failure). fs ++ f ∷ []) (s.kept_is ∙ short) ∙ sym short_on;
      count_is = count_on s.done f count s.count_is;
    }

pub seen_over : (all more kept : List Failure) (count : ℕ) (f : Failure) → MOST_KEPT ≤ count → Seen all (f ∷ more) kept count →
    Seen all more kept (count + 1)
seen_over all more kept count f many s =
    let same = take-append-le MOST_KEPT s.done (f ∷ []) (omega (arith, many, s.count_is)) in
    record {
      done = s.done ++ f ∷ [];
      parts = parts_on all s.done more f s.parts;
      kept_is = s.kept_is ∙ sym same;
      count_is = count_on s.done f count s.count_is;
    }

pub seen_on : (all more now kept : List Failure) (m count : ℕ) → now ≡ kept → m ≡ count → Seen all more kept count → Seen all more now m
seen_on all more now kept m count k n s = record {
  done = s.done;
  parts = s.parts;
  kept_is = k ∙ s.kept_is;
  count_is = n ∙ s.count_is;
}

-- ---- line by line

-- those of the lines before one, of which the next line has this number
abbrev pub left_from : (line until : ℕ) → (lines : List (List ℕ)) → List Failure
left_from line until lines = failures_from line (take (until - line) lines)

at_next : (line many less : ℕ) (lines : List (List ℕ)) (l : List ℕ) (ls : List (List ℕ)) → many ≡ suc less → Some l ≡ first_of lines →
    ls ≡ others_of lines → failures_from line (take many lines) ≡ with_failure (failure_of line (said_of l)) (failures_from (line + 1) (take less ls))
at_next line many less [] l ls m f o = absurd cc
at_next line many less (x ∷ xs) l ls m f o =
    let same : l ≡ x = cc in
    rw (m, same, o) refl

pub next_line : (line until : ℕ) (lines : List (List ℕ)) (l : List ℕ) (ls : List (List ℕ)) → line < until → Some l ≡ first_of lines →
    ls ≡ others_of lines → left_from line until lines ≡ with_failure (failure_of line (said_of l)) (left_from (line + 1) until ls)
next_line line until lines l ls lt f o = at_next line (until - line) (until - (line + 1)) lines l ls (omega (arith, lt)) f o

-- the next line says a failure, or none
pub next_failure : (r : Option Failure) (f : Failure) (now more : List Failure) → now ≡ with_failure r more → r ≡ Some f → now ≡ f ∷ more
next_failure None f now more h e = absurd cc
next_failure (Some g) f now more h e = let same : g ≡ f = cc in h ∙ ap (λ (z : Failure). z ∷ more) same

pub no_failure : (r : Option Failure) (now more : List Failure) → now ≡ with_failure r more → ((f : Failure) → r ≡ Some f → ⊥) → now ≡ more
no_failure None now more h n = h
no_failure (Some g) now more h n = absurd (n g refl)
