-- The numbers of operations, place by place.
use Rattle.std.proofs.Common.{◌≡◌, ℕ, zero, suc, ◌<◌, List, [], ◌∷◌, ◌++◌, length, get_or, take, refl, sym, ap, ap₂, ◌∙◌, append_assoc, arith}
use Rattle.std.proofs.lemmas.List.{append-nil}
use Rattle.hp_event.specs.declared.event.Event.{Event}
use Rattle.hp_event.specs.Events.{seat_of}
use Rattle.hp_print.specs.declared.operation_numbers.OperationNumbers.{OperationNumbers}
use Rattle.hp_model.specs.OperationNumber.{operation_number}
use Rattle.hp_print.specs.OperationNumbers.{begun, IsNumbered}
use Rattle.hp_timeline.specs.Numbers.{numbers_behind, AreNumbers}

-- one event more
pub numbers_push : (before xs : List Event) (e : Event) →
    numbers_behind before (xs ++ e ∷ []) ≡ numbers_behind before xs ++ operation_number (before ++ xs) e ∷ []
numbers_push before [] e = ap (λ ys. operation_number ys e ∷ []) (sym (append-nil before))
numbers_push before (x ∷ xs) e =
    ap (λ ns. operation_number before x ∷ ns)
    (numbers_push (before ++ x ∷ []) xs e
    ∙ ap (λ ys. numbers_behind (before ++ x ∷ []) xs ++ operation_number ys e ∷ []) (append_assoc before (x ∷ []) xs))

-- what is pushed is its number, where its operation is counted
pub numbers_go : (xs : List Event) (e : Event) (old new : List ℕ) (n : ℕ) (after : OperationNumbers) →
    old ≡ numbers_behind [] xs → IsNumbered (xs ++ e ∷ []) after → n ≡ begun after (seat_of e) → new ≡ old ++ n ∷ [] →
    new ≡ numbers_behind [] (xs ++ e ∷ [])
numbers_go xs e old new n after h numbered is pushed =
    pushed
    ∙ (ap₂ (λ (ns : List ℕ) (m : ℕ). ns ++ m ∷ []) h (is ∙ numbered (seat_of e)) ∙ sym (numbers_push [] xs e))

many_behind : (before xs : List Event) → length (numbers_behind before xs) ≡ length xs
many_behind before [] = refl
many_behind before (x ∷ xs) = ap suc (many_behind (before ++ x ∷ []) xs)

number_behind : (before xs : List Event) (k : ℕ) (d : Event) → k < length xs →
    get_or (numbers_behind before xs) k 0 ≡ operation_number (before ++ take k xs) (get_or xs k d)
number_behind before [] k d h = absurd (omega arith)
number_behind before (x ∷ xs) zero d h = ap (λ ys. operation_number ys x) (sym (append-nil before))
number_behind before (x ∷ xs) (suc k) d h =
    number_behind (before ++ x ∷ []) xs k d (omega arith)
    ∙ ap (λ ys. operation_number ys (get_or xs k d)) (append_assoc before (x ∷ []) (take k xs))

-- there is one for each event
pub numbers_many : (events : List Event) (numbers : List ℕ) → AreNumbers events numbers → length numbers ≡ length events
numbers_many events numbers h = ap length h ∙ many_behind [] events

pub number_here : (events : List Event) (numbers : List ℕ) (k : ℕ) (d : Event) → AreNumbers events numbers → k < length events →
    get_or numbers k 0 ≡ operation_number (take k events) (get_or events k d)
number_here events numbers k d h low = ap (λ ns. get_or ns k 0) h ∙ number_behind [] events k d low
