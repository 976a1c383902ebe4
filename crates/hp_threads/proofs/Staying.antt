-- Who is out of a journal stays out of it, where nobody comes in; and where the leave of a seat stands in it.
use Rattle.std.proofs.Common.{◌≡◌, ◌≢◌, ℕ, Bool, true, false, cond, eqb, All, Option, Some, None, List, [], ◌∷◌, ◌++◌, refl, sym, ap, ◌∙◌, subst, append_assoc}
use Rattle.std.proofs.lemmas.Bool.{eq-eqb, true≢false}
use Rattle.std.proofs.lemmas.List.{append-nil}
use Rattle.std.proofs.lemmas.List.Elements.{All-nil, All-cons, All-head, All-tail, All-append}
use mathlib.Core.List.{IsPrefix}
use Rattle.hp_states.proofs.Basics.{none_some, same_some}
use Rattle.hp_event.specs.declared.event.Event.{Event}
use Rattle.hp_event.specs.declared.event.Event.TheVariants.{Admit, Leave}
use Rattle.hp_event.specs.declared.event.Role.{Role}
use Rattle.hp_event.specs.declared.head.Head.{Head}
use Rattle.hp_model.specs.Events.{seat_of}
use Rattle.hp_model.specs.Front.{IsOther, StandsFor}
use Rattle.hp_model.specs.Lawful.{IsLawful, Stands}
use Rattle.hp_model.specs.Seats.{role_of, role_step}
use Rattle.hp_model.proofs.Laws.{EachAfter_front, role_push}
use Rattle.hp_turn.specs.Story.{IsNoAdmit, Knows}
use Rattle.hp_live.specs.Sections.{LeavesIn}
use Rattle.hp_live.proofs.Gone.{no_more}

-- ---- fronts without an Admit past them

pub none_other : (es : List Event) → All (IsOther None) es
none_other [] = All-nil (IsOther None)
none_other (e ∷ es) = All-cons (IsOther None) e es (λ k is. absurd (none_some k is)) (none_other es)

pub knows_on : (f g h : List Event) → Knows None true f g → Knows None true g h → Knows None true f h
knows_on f g h p q =
    record {
      seen =
          record {
            rest = p.seen.rest ++ q.seen.rest;
            whole =
                sym (append_assoc f p.seen.rest q.seen.rest) ∙ ap (λ (w : List Event). w ++ q.seen.rest) p.seen.whole
                ∙ q.seen.whole;
            others = none_other (p.seen.rest ++ q.seen.rest);
          };
      admitted = λ yes. All-append IsNoAdmit p.seen.rest q.seen.rest (p.admitted yes) (q.admitted yes);
    }

-- a beginning of a lawful journal is lawful
pub lawful_front : (head : Head) (front journal : List Event) → IsPrefix front journal → IsLawful head journal → IsLawful head front
lawful_front head front journal p lawful =
    (lawful.0, EachAfter_front (Stands head) [] front p.0 (subst (λ (w : List Event). IsLawful head w) (sym p.1) lawful).1)

out_cleared : (b : Bool) (o : Option Role) → o ≡ None → cond b None o ≡ None
out_cleared true o none = refl
out_cleared false o none = none

out_after : (xs : List Event) (e : Event) (k : ℕ) → IsNoAdmit e → role_of k xs ≡ None → role_step k (role_of k xs) xs e ≡ None
out_after xs (Admit seat role) k not none = absurd (true≢false not)
out_after xs (Leave seat) k not none = out_cleared (eqb seat k) (role_of k xs) none
out_after xs e k not none = none

out_past : (k : ℕ) (front rest : List Event) → All IsNoAdmit rest → role_of k front ≡ None → role_of k (front ++ rest) ≡ None
out_past k front [] not none = subst (λ (w : List Event). role_of k w ≡ None) (sym (append-nil front)) none
out_past k front (e ∷ es) not none =
    subst (λ (w : List Event). role_of k w ≡ None) (append_assoc front (e ∷ []) es)
    (out_past k (front ++ e ∷ []) es (All-tail IsNoAdmit e es not)
    (role_push k front e ∙ out_after front e k (All-head IsNoAdmit e es not) none))

pub out_stays : (k : ℕ) (front journal : List Event) → Knows None true front journal → role_of k front ≡ None → role_of k journal ≡ None
out_stays k front journal knows none =
    subst (λ (w : List Event). role_of k w ≡ None) knows.seen.whole (out_past k front knows.seen.rest (knows.admitted refl) none)

-- ---- the leave of a seat

-- the seat is out after it
pub out_left : (head : Head) (k : ℕ) (old new : List Event) → LeavesIn head k old new → role_of k new ≡ None
out_left head k old new l =
    let own = eq-eqb k k refl in
    subst (λ (w : List Event). role_of k w ≡ None) (sym l.new_is) (role_push k l.found (Leave k) ∙ rw own refl)

all_others : (k : ℕ) (es : List Event) → All (λ e. seat_of e ≢ k) es → All (IsOther (Some k)) es
all_others k [] none = All-nil (IsOther (Some k))
all_others k (e ∷ es) none =
    All-cons (IsOther (Some k)) e es
    (λ j is. subst (λ (n : ℕ). seat_of e ≢ n) (same_some k j is) (All-head (λ x. seat_of x ≢ k) e es none))
    (all_others k es (All-tail (λ x. seat_of x ≢ k) e es none))

-- past it there is no event of the seat
pub ends_by : (head : Head) (k : ℕ) (old new journal : List Event) → LeavesIn head k old new → IsPrefix new journal →
    IsLawful head journal → StandsFor (Some k) new journal
ends_by head k old new journal l p lawful =
    let none = no_more head k old new p.0 l (subst (λ (w : List Event). IsLawful head w) (sym p.1) lawful) in
    record { rest = p.0; whole = p.1; others = all_others k p.0 none }

front_then : (front rest journal : List Event) (e : Event) → (front ++ e ∷ rest) ≡ journal → ((front ++ e ∷ []) ++ rest) ≡ journal
front_then front rest journal e is = append_assoc front (e ∷ []) rest ∙ is

-- what stands past a leave has no event of the seat
rest_of : (head : Head) (k : ℕ) (front rest journal : List Event) → (front ++ Leave k ∷ rest) ≡ journal → IsLawful head journal →
    All (λ e. seat_of e ≢ k) rest
rest_of head k front rest journal is lawful =
    let there = front_then front rest journal (Leave k) is in
    no_more head k front (front ++ Leave k ∷ []) rest
    (record {
      found = front;
      seen = record { rest = []; whole = append-nil front; others = All-nil (IsOther (Some k)) };
      lawful = lawful_front head front journal (Leave k ∷ rest, is) lawful;
      new_is = refl;
    })
    (subst (λ (w : List Event). IsLawful head w) (sym there) lawful)

not_in : (k : ℕ) (xs ys : List Event) → All (λ e. seat_of e ≢ k) (xs ++ Leave k ∷ ys) → ⊥
not_in k [] ys none = All-head (λ e. seat_of e ≢ k) (Leave k) ys none refl
not_in k (x ∷ xs) ys none = not_in k xs ys (All-tail (λ e. seat_of e ≢ k) x (xs ++ Leave k ∷ ys) none)

tails : (x y : Event) (xs ys : List Event) → (x ∷ xs) ≡ (y ∷ ys) → xs ≡ ys
tails x y xs ys e = cc e

heads : (x y : Event) (xs ys : List Event) → (x ∷ xs) ≡ (y ∷ ys) → x ≡ y
heads x y xs ys e = cc e

one_place : (k : ℕ) (a b xs ys : List Event) → (a ++ Leave k ∷ xs) ≡ (b ++ Leave k ∷ ys) → All (λ e. seat_of e ≢ k) xs →
    All (λ e. seat_of e ≢ k) ys → a ≡ b
one_place k [] [] xs ys is p q = refl
one_place k [] (y ∷ b) xs ys is p q =
    absurd (not_in k b ys (subst (All (λ e. seat_of e ≢ k)) (tails (Leave k) y xs (b ++ Leave k ∷ ys) is) p))
one_place k (x ∷ a) [] xs ys is p q =
    absurd (not_in k a xs (subst (All (λ e. seat_of e ≢ k)) (sym (tails x (Leave k) (a ++ Leave k ∷ xs) ys is)) q))
one_place k (x ∷ a) (y ∷ b) xs ys is p q =
    ap (λ (w : List Event). x ∷ w) (one_place k a b xs ys (tails x y (a ++ Leave k ∷ xs) (b ++ Leave k ∷ ys) is) p q)
    ∙ ap (λ (w : Event). w ∷ b) (heads x y (a ++ Leave k ∷ xs) (b ++ Leave k ∷ ys) is)

-- a seat leaves once: two fronts of a lawful journal before its leave are one
pub leaves_once : (head : Head) (k : ℕ) (a b xs ys journal : List Event) → (a ++ Leave k ∷ xs) ≡ journal →
    (b ++ Leave k ∷ ys) ≡ journal → IsLawful head journal → a ≡ b
leaves_once head k a b xs ys journal p q lawful =
    one_place k a b xs ys (p ∙ sym q) (rest_of head k a xs journal p lawful) (rest_of head k b ys journal q lawful)
