-- The numbers of operations, and the lines that have them, after one event more.
use Rattle.std.proofs.Common.{◌≡◌, ℕ, zero, suc, get_or, ◌+◌, ◌≤◌, Bool, true, false, if◌then◌else◌, List, [], ◌∷◌, ◌++◌, length, refl, ap, sym, ◌∙◌, append_assoc, arith}
use Rattle.std.proofs.lemmas.List.{append-nil}
use Rattle.hp_event.specs.declared.event.Event.{Event}
use Rattle.hp_model.specs.Journal.{over_from}
use Rattle.hp_model.proofs.Laws.{over_from_push}
use Rattle.hp_event.specs.declared.version.Version.{Version}
use Rattle.hp_print.specs.declared.operation_numbers.OperationNumbers.{OperationNumbers}
use Rattle.hp_model.specs.OperationNumber.{begun_by, is_seat, operations_step, operations_of, operation_number}
use Rattle.hp_print.specs.OperationNumbers.{begun, begun_with, IsNumbered}
use Rattle.hp_model.specs.EventLine.{event_line}
use Rattle.hp_model.specs.JournalText.{event_lines}

-- a zero behind a list of numbers changes none that is found
pub zero_behind : (xs : List ℕ) (k : ℕ) → get_or (xs ++ 0 ∷ []) k 0 ≡ get_or xs k 0
zero_behind [] zero = refl
zero_behind [] (suc k) = refl
zero_behind (x ∷ xs) zero = refl
zero_behind (x ∷ xs) (suc k) = zero_behind xs k

operations_push : (k : ℕ) (xs : List Event) (e : Event) →
    operations_of k (xs ++ e ∷ []) ≡ operations_step k (operations_of k xs) xs e
unfolding operations_of
operations_push k xs e = over_from_push (operations_step k) 0 [] xs e

at_most_one : (b : Bool) (n : ℕ) → (if b then n + 1 else n) ≤ n + 1
at_most_one true n = omega arith
at_most_one false n = omega arith

few_from : (k n : ℕ) (before xs : List Event) → over_from (operations_step k) n before xs ≤ n + length xs
few_from k n before [] = omega arith
few_from k n before (x ∷ xs) =
    let one = at_most_one (is_seat k (begun_by x)) n in
    let rest = few_from k (operations_step k n before x) (before ++ x ∷ []) xs in
    omega arith

-- a seat has no more operations than there are events
pub operations_few : (k : ℕ) (xs : List Event) → operations_of k xs ≤ length xs
unfolding operations_of
operations_few k xs = let h = few_from k 0 [] xs in omega (arith, h)

pub numbered_push : (xs : List Event) (e : Event) (old new : OperationNumbers) → IsNumbered xs old →
    ((k : ℕ) → begun new k ≡ begun_with old (begun_by e) k) → IsNumbered (xs ++ e ∷ []) new
numbered_push xs e old new numbered taken k =
    taken k ∙ (ap (λ n. if is_seat k (begun_by e) then n + 1 else n) (numbered k) ∙ sym (operations_push k xs e))

pub event_lines_push : (v : Version) (before xs : List Event) (e : Event) →
    event_lines v before (xs ++ e ∷ []) ≡ event_lines v before xs ++ event_line v (operation_number (before ++ xs) e) e
event_lines_push v before [] e =
    append-nil (event_line v (operation_number before e) e) ∙ ap (λ z. event_line v (operation_number z e) e) (sym (append-nil before))
event_lines_push v before (x ∷ xs) e =
    let first = event_line v (operation_number before x) x in
    let others = event_lines v (before ++ x ∷ []) xs in
    let more : event_lines v (before ++ x ∷ []) (xs ++ e ∷ []) ≡ others ++ event_line v (operation_number ((before ++ x ∷ []) ++ xs) e) e = event_lines_push v (before ++ x ∷ []) xs e in
    let same : (before ++ x ∷ []) ++ xs ≡ before ++ x ∷ xs = append_assoc before (x ∷ []) xs in
    let last = event_line v (operation_number (before ++ x ∷ xs) e) e in
    let all : event_lines v (before ++ x ∷ []) (xs ++ e ∷ []) ≡ others ++ last = more ∙ ap (λ z. others ++ event_line v (operation_number z e) e) same in
    ap (λ z. first ++ z) all ∙ sym (append_assoc first others last)
