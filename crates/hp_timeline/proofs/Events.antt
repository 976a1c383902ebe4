-- The events before a place.
use Rattle.std.proofs.Common.{◌≡◌, ℕ, zero, suc, ◌+◌, ◌<◌, ◌≤◌, Some, None, List, [], ◌∷◌, ◌++◌, length, get_or, take, drop, refl, sym, ap, subst, ◌∙◌, arith}
use Rattle.std.specs.Prelude.{slice_get}
use Rattle.std.proofs.lemmas.List.{take_more}
use Rattle.hp_states.proofs.Basics.{none_some}
use Rattle.hp_event.specs.declared.head.Head.{Head}
use Rattle.hp_event.specs.declared.event.Event.{Event}
use Rattle.hp_event.specs.declared.event.Event.TheVariants.{Admit}
use Rattle.hp_event.specs.declared.event.Role.TheVariants.{Client}
use Rattle.hp_model.specs.Journal.{EachAfter}
use Rattle.hp_model.specs.Lawful.{Stands, IsLawful}
use Rattle.hp_model.proofs.Laws.{EachAfter_front, EachAfter_push}

abbrev EachAfterStands : Head → List Event → Type 0
EachAfterStands head xs = EachAfter (Stands head) [] xs

pub take_drop : {X : Type 0} (xs : List X) (k : ℕ) → take k xs ++ drop k xs ≡ xs
take_drop xs zero = refl
take_drop [] (suc k) = refl
take_drop (x ∷ xs) (suc k) = ap (λ ys. x ∷ ys) (take_drop xs k)

pub length_take : {X : Type 0} (xs : List X) (k : ℕ) → k ≤ length xs → length (take k xs) ≡ k
length_take xs zero h = refl
length_take [] (suc k) h = absurd (omega arith)
length_take (x ∷ xs) (suc k) h = ap suc (length_take xs k (omega arith))

-- the events before a place of a lawful journal are lawful
pub lawful_take : (head : Head) (events : List Event) (k : ℕ) → IsLawful head events → IsLawful head (take k events)
lawful_take head events k h =
    (h.0, EachAfter_front (Stands head) [] (take k events) (drop k events) (subst (λ xs. EachAfterStands head xs) (sym (take_drop events k)) h.1))

-- and the event of the place stands after them
pub stands_at : (head : Head) (events : List Event) (k : ℕ) (d : Event) → k < length events → IsLawful head events →
    Stands head (take k events) (get_or events k d)
stands_at head events k d b h =
    let more = take_more events k d b in
    (EachAfter_push (Stands head) [] (take k events) (get_or events k d)
    (subst (λ xs. EachAfterStands head xs) more (lawful_take head events (k + 1) h).1)).1

-- the event of a place, and that there is none past the end
pub got : (xs : List Event) (k : ℕ) → k < length xs → slice_get xs k ≡ Some (get_or xs k (Admit 0 Client))
got [] k h = absurd (omega arith)
got (x ∷ xs) zero h = refl
got (x ∷ xs) (suc k) h = got xs k (omega arith)

-- a place that has an event is below their number
pub there : (xs : List Event) (k : ℕ) (e : Event) → slice_get xs k ≡ Some e → k < length xs
there [] k e h = absurd (none_some e h)
there (x ∷ xs) zero e h = omega arith
there (x ∷ xs) (suc k) e h = let rest = there xs k e h in omega arith

pub past : (xs : List Event) (k : ℕ) → length xs ≤ k → slice_get xs k ≡ None
past [] k h = refl
past (x ∷ xs) zero h = absurd (omega arith)
past (x ∷ xs) (suc k) h = past xs k (omega arith)
