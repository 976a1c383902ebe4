-- Fronts that a pass has from another.
use Rattle.std.proofs.Common.{◌≡◌, ℕ, Bool, true, false, cond, ltb, ltb-false, ◌||◌, List, [], ◌∷◌, ◌++◌, length, length-append, refl, sym, ap, ◌∙◌, subst, arith}
use Rattle.std.proofs.lemmas.List.{append-nil}
use mathlib.Core.List.{IsPrefix}
use Rattle.hp_event.specs.declared.head.Head.{Head}
use Rattle.hp_event.specs.declared.event.Event.{Event}
use Rattle.hp_event.specs.declared.event.Role.{Role}
use Rattle.hp_turn.specs.Pass.{Pass, without_right, given_by}
use Rattle.hp_turn.specs.Story.{longer}
use Rattle.hp_machine.specs.declared.admission.AdmitError.{AdmitError}
use Rattle.hp_live.specs.Known.{IsRoot}
use Rattle.hp_live.specs.Sections.{AdmitsIn, RefusesIn}

longer_as : (f r : List Event) (b : Bool) → ltb (length f) (length (f ++ r)) ≡ b → cond b (f ++ r) f ≡ f ++ r
longer_as f r true is = refl
longer_as f [] false is = sym (append-nil f)
longer_as f (x ∷ r) false is =
    let h = ltb-false (length f) (length (f ++ x ∷ r)) is in let n = length-append f (x ∷ r) in absurd (omega arith)

-- the longer of a front and one that it begins
pub longer_prefix : (f g : List Event) → IsPrefix f g → longer f g ≡ g
longer_prefix f g p =
    subst (λ (w : List Event). longer f w ≡ w) p.1 (longer_as f p.0 (ltb (length f) (length (f ++ p.0))) refl)

pub admitted_prefix : (head : Head) (role : Role) (old new : List Event) (seat : ℕ) → AdmitsIn head role old new seat → IsPrefix old new
admitted_prefix head role old new seat a = (a.grew.rest, a.grew.whole)

pub refused_prefix : (head : Head) (role : Role) (old new : List Event) (e : AdmitError) → RefusesIn head role old new e → IsPrefix old new
refused_prefix head role old new e r = (r.knew.seen.rest, r.knew.seen.whole)

-- the root has its right back
pub root_again : (before after : Pass) (b : Bool) → IsRoot before → after.seat ≡ before.seat → after.admits ≡ (false || b) → b ≡ true →
    IsRoot after
root_again before after b root seat right has =
    record { no_seat = seat ∙ root.no_seat; right = right ∙ ap (λ c. false || c) has }

-- a split gives a pass that has seen as much, and which comes back, or gives another that comes back
pub told_back : (root left given after other new : Pass) (front : List Event) → left ≡ without_right root → given ≡ given_by root →
    other.front ≡ after.front → IsPrefix given.front after.front → new.front ≡ longer left.front other.front →
    front ≡ after.front → new.front ≡ front
told_back root left given after other new front l g o p n f =
    n ∙ ap (λ (w : Pass). longer w.front other.front) l ∙ ap (λ (w : List Event). longer root.front w) o
    ∙ longer_prefix root.front after.front (subst (λ (w : Pass). IsPrefix w.front after.front) g p) ∙ sym f
