-- While a seat reads, each processor stands where it stood when the section began.
use Rattle.std.proofs.Common.{◌≡◌, ℕ, ◌<◌, Bool, true, false, cond, eqb, Option, Some, None, List, [], ◌∷◌, ◌++◌, length, length-append, sym, ap, ◌∙◌, subst, append_assoc, arith}
use Rattle.std.proofs.lemmas.List.{append-nil}
use Rattle.hp_event.specs.declared.head.Head.{Head}
use Rattle.hp_event.specs.declared.event.Event.{Event}
use Rattle.hp_event.specs.declared.event.Event.TheVariants.{ReadLock, ReadUnlock}
use Rattle.hp_model.specs.Lawful.{IsLawful}
use Rattle.hp_model.specs.Readers.{reading_since, reading_since_step}
use Rattle.hp_model.specs.Settled.{settled}
use Rattle.hp_model.proofs.HeadlineProof.{headline_of_front}
use Rattle.hp_model.proofs.Laws.{reading_since_push}
use Rattle.hp_states.proofs.Basics.{same_some, none_some}

locked_then : (b : Bool) (q before : List Event) (found : Option (List Event)) → cond b (Some q) found ≡ Some before →
    length before < length q → found ≡ Some before
locked_then true q before found is less =
    let same = ap (λ (w : List Event). length w) (same_some q before is) in absurd (omega arith)
locked_then false q before found is less = is

unlocked_then : (b : Bool) (before : List Event) (found : Option (List Event)) → cond b None found ≡ Some before → found ≡ Some before
unlocked_then true before found is = absurd (none_some before is)
unlocked_then false before found is = is

since_before : (k : ℕ) (q before : List Event) (e : Event) → reading_since_step k (reading_since k q) q e ≡ Some before →
    length before < length q → reading_since k q ≡ Some before
since_before k q before (ReadLock seat) is less = locked_then (eqb seat k) q before (reading_since k q) is less
since_before k q before (ReadUnlock seat) is less = unlocked_then (eqb seat k) before (reading_since k q) is
since_before k q before e is less = is

-- a section that holds at the end held since it began
since_back : (k : ℕ) (before q rest : List Event) → reading_since k (q ++ rest) ≡ Some before → length before < length q →
    reading_since k q ≡ Some before
since_back k before q [] is less = subst (λ (w : List Event). reading_since k w ≡ Some before) (append-nil q) is
since_back k before q (e ∷ es) is less =
    let n = length-append q (e ∷ []) in
    let one =
    since_back k before (q ++ e ∷ []) es (subst (λ (w : List Event). reading_since k w ≡ Some before) (sym (append_assoc q (e ∷ []) es)) is)
    (omega arith) in
    since_before k q before e (sym (reading_since_push k q e) ∙ one) less

pub stands_still : (head : Head) (k : ℕ) (before q rest : List Event) → IsLawful head (q ++ rest) →
    reading_since k (q ++ rest) ≡ Some before → length before < length q → (cpu : ℕ) → settled cpu q ≡ settled cpu before
stands_still head k before q rest lawful is less cpu =
    ((headline_of_front head q rest lawful).readers k before (since_back k before q rest is less) cpu).1
