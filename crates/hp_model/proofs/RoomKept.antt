-- What is promised always fits: a lawful journal is at most as long as the limit allows, with all that is promised.
use Rattle.std.proofs.Common.{◌≡◌, ℕ, ◌+◌, ◌≤◌, true, Option, Some, None, List, [], ◌∷◌, ◌++◌, length, arith, length-append}
use Rattle.std.proofs.lemmas.Bool.{leb-true}
use Rattle.hp_states.specs.declared.limits.TheConstants.{MAX_EVENTS}
use Rattle.hp_event.specs.declared.head.Head.{Head}
use Rattle.hp_event.specs.declared.event.Event.{Event}
use Rattle.hp_model.specs.Needs.{need, taken}
use Rattle.hp_model.specs.Promised.{promised, given_back}
use Rattle.hp_model.specs.Room.{is_room}
use Rattle.hp_model.specs.Lawful.{Comes, Stands, IsLawful}
use Rattle.hp_model.proofs.Induction.{Held, held, holds}
use Rattle.hp_model.proofs.HeadlineProof.{lawful_more}
use Rattle.hp_model.proofs.Promises.{uses, promised_none}
use Rattle.hp_model.proofs.Owners.{Owners}

abbrev pub Fits : Head → List Event → Type 0
Fits head xs = length xs + promised head xs ≤ MAX_EVENTS

fits_step : (head : Head) (xs : List Event) (e : Event) → Stands head xs e → Owners xs → Held head xs →
    Fits head xs → Fits head (xs ++ e ∷ [])
fits_step head xs e h o k f = go (need head xs e) h.1 (uses head xs e h.0 o k.operations k.kept)
  where
    go : (n : Option ℕ) → is_room head xs n ≡ true → promised head (xs ++ e ∷ []) + 1 + given_back head xs e ≡ promised head xs + taken n →
        length (xs ++ e ∷ []) + promised head (xs ++ e ∷ []) ≤ MAX_EVENTS
    go None r u = let l = length-append xs (e ∷ []) in omega arith
    go (Some n) r u =
        let l = length-append xs (e ∷ []) in
        let b = leb-true (length xs + promised head xs + n) MAX_EVENTS r in
        omega arith

pub promises_fit : (head : Head) (xs : List Event) → IsLawful head xs → length xs + promised head xs ≤ MAX_EVENTS
promises_fit head xs h =
    let none = promised_none head in holds head (Fits head) (omega arith) (λ xs e s k f. fits_step head xs e s k.owners k f) xs h

pub event_fits : (head : Head) (xs : List Event) (e : Event) → IsLawful head xs → Stands head xs e → length xs + 1 ≤ MAX_EVENTS
event_fits head xs e h s =
    let f = promises_fit head (xs ++ e ∷ []) (lawful_more head xs e h s) in
    let l = length-append xs (e ∷ []) in
    omega arith

pub promises_after : (head : Head) (xs : List Event) (e : Event) → IsLawful head xs → Comes head xs e →
    promised head (xs ++ e ∷ []) + 1 + given_back head xs e ≡ promised head xs + taken (need head xs e)
promises_after head xs e h c =
    let k = held head xs h in uses head xs e c k.owners k.operations k.kept

pub event_promised : (head : Head) (xs : List Event) (e : Event) → IsLawful head xs → Comes head xs e → need head xs e ≡ None →
    1 ≤ promised head xs
event_promised head xs e h c n = let u = rw n at (promises_after head xs e h c) in omega arith
