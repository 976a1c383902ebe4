-- What stands past a front, as the front or the story grows.
use Rattle.std.proofs.Common.{◌≡◌, ◌≢◌, ◌⊎◌, ◌||◌, inl, inr, ℕ, Bool, true, false, cond, ltb, ltb-true, ltb-false, All, List, [], ◌∷◌, ◌++◌, length, drop, refl, ap, sym, ◌∙◌, subst, ⊎_elim, arith, append_assoc, Option, Some, None}
use Rattle.std.proofs.lemmas.List.{append-nil, append_cancel_left}
use Rattle.std.proofs.lemmas.List.Elements.{All-nil, All-cons, All-head, All-tail, All-append, All-weaker}
use Rattle.std.proofs.Math.Seq.{drop-append_seam}
use mathlib.Core.List.{IsPrefix}
use Rattle.hp_event.specs.declared.event.Role.{Role}
use Rattle.hp_event.specs.declared.event.Event.{Event}
use Rattle.hp_event.specs.declared.event.Event.TheVariants.{Admit}
use Rattle.hp_model.specs.Events.{seat_of}
use Rattle.hp_model.specs.Front.{IsOther}
use Rattle.hp_turn.specs.declared.view.Held.{Held}
use Rattle.hp_turn.specs.Story.{IsNoAdmit, HasAdmit, Knows, IsOwn, seat_then, new_seat, longer}
use Rattle.hp_turn.proofs.Prefixes.{prefix_self, prefix_shorter}

pub all_left : (P : Event → Type 0) (a b : List Event) → All P (a ++ b) → All P a
all_left P [] b h = All-nil P
all_left P (x ∷ a) b h = All-cons P x a (All-head P x (a ++ b) h) (all_left P a b (All-tail P x (a ++ b) h))

pub all_right : (P : Event → Type 0) (a b : List Event) → All P (a ++ b) → All P b
all_right P [] b h = h
all_right P (x ∷ a) b h = all_right P a b (All-tail P x (a ++ b) h)

-- the Admit of a seat, and where there is none

pub has_in : (k : ℕ) (a b : List Event) → HasAdmit k a → HasAdmit k (a ++ b)
has_in k [] b h = absurd h
has_in k (x ∷ a) b h = ⊎_elim (λ is. inl is) (λ later. inr (has_in k a b later)) h

pub has_before : (k : ℕ) (a t : List Event) → IsPrefix a t → HasAdmit k a → HasAdmit k t
has_before k a t p h = subst (HasAdmit k) p.1 (has_in k a p.0 h)

pub has_not : (k : ℕ) (a : List Event) → HasAdmit k a → All (λ e. seat_of e ≢ k) a → ⊥
has_not k [] h all = h
has_not k (x ∷ a) h all =
    ⊎_elim (λ (is : (role : Role) × (x ≡ Admit k role)). All-head (λ e. seat_of e ≢ k) x a all (ap seat_of is.1))
    (λ later. has_not k a later (All-tail (λ e. seat_of e ≢ k) x a all)) h

pub has_last : (k : ℕ) (role : Role) (a : List Event) → HasAdmit k (a ++ Admit k role ∷ [])
has_last k role [] = inl (role, refl)
has_last k role (x ∷ a) = inr (has_last k role a)

-- what is known by a front

pub knows_self : (s : Option ℕ) (a : Bool) (t : List Event) → Knows s a t t
knows_self s a t = record {
  seen = record { rest = []; whole = append-nil t; others = All-nil (IsOther s) };
  admitted = λ _. All-nil IsNoAdmit;
}

-- what a longer front leaves is the end of what the front left
cut : (f g t rest : List Event) → f ++ rest ≡ t → (p : IsPrefix f g) → (q : IsPrefix g t) → rest ≡ p.0 ++ q.0
cut f g t rest whole p q =
    append_cancel_left f rest (p.0 ++ q.0)
    (whole ∙ (sym q.1 ∙ (ap (λ (w : List Event). w ++ q.0) (sym p.1) ∙ append_assoc f p.0 q.0)))

-- a longer front is as good
pub knows_later : (s : Option ℕ) (a : Bool) (f g t : List Event) → Knows s a f t → IsPrefix f g → IsPrefix g t →
    Knows s a g t
knows_later s a f g t k p q =
    let same = cut f g t k.seen.rest k.seen.whole p q in record {
      seen = record {
        rest = q.0;
        whole = q.1;
        others = all_right (IsOther s) p.0 q.0 (subst (All (IsOther s)) same k.seen.others);
      };
      admitted = λ yes. all_right IsNoAdmit p.0 q.0 (subst (All IsNoAdmit) same (k.admitted yes));
    }

-- of a shorter story as much is known
pub knows_until : (s : Option ℕ) (a : Bool) (f g t : List Event) → Knows s a f t → IsPrefix f g → IsPrefix g t →
    Knows s a f g
knows_until s a f g t k p q =
    let same = cut f g t k.seen.rest k.seen.whole p q in record {
      seen = record {
        rest = p.0;
        whole = p.1;
        others = all_left (IsOther s) p.0 q.0 (subst (All (IsOther s)) same k.seen.others);
      };
      admitted = λ yes. all_left IsNoAdmit p.0 q.0 (subst (All IsNoAdmit) same (k.admitted yes));
    }

-- the story grew by events of others
pub knows_more : (s : Option ℕ) (a : Bool) (f t added u : List Event) → Knows s a f t → t ++ added ≡ u →
    All (IsOther s) added → (a ≡ true → All IsNoAdmit added) → Knows s a f u
knows_more s a f t added u k grows others admitted = record {
  seen = record {
    rest = k.seen.rest ++ added;
    whole = sym (append_assoc f k.seen.rest added) ∙ (ap (λ (w : List Event). w ++ added) k.seen.whole ∙ grows);
    others = All-append (IsOther s) k.seen.rest added k.seen.others others;
  };
  admitted = λ yes. All-append IsNoAdmit k.seen.rest added (k.admitted yes) (admitted yes);
}

-- without seat, and perhaps without the right to admit
pub knows_new : (s : Option ℕ) (a b : Bool) (f t : List Event) → Knows s a f t → (b ≡ true → a ≡ true) → Knows None b f t
knows_new s a b f t k back = record {
  seen = record {
    rest = k.seen.rest;
    whole = k.seen.whole;
    others = All-weaker (IsOther s) (IsOther None) (λ _ _ n e. absurd (cc e)) k.seen.rest k.seen.others;
  };
  admitted = λ yes. k.admitted (back yes);
}

pub knows_without : (s : Option ℕ) (a : Bool) (f t : List Event) → Knows s a f t → Knows s false f t
knows_without s a f t k = record { seen = k.seen; admitted = λ yes. absurd (cc yes) }

pub knows_prefix : (s : Option ℕ) (a : Bool) (f t : List Event) → Knows s a f t → IsPrefix f t
knows_prefix s a f t k = (k.seen.rest, k.seen.whole)

-- two fronts

longest_as : (a b told : List Event) (t : Bool) → ltb (length a) (length b) ≡ t → IsPrefix a told → IsPrefix b told →
    IsPrefix (cond t b a) told × IsPrefix a (cond t b a) × IsPrefix b (cond t b a)
longest_as a b told true is p q =
    let less = ltb-true (length a) (length b) is in (q, prefix_shorter a b told p q (omega arith), prefix_self b)
longest_as a b told false is p q =
    (p, prefix_self a, prefix_shorter b a told q p (ltb-false (length a) (length b) is))

-- of two beginnings of the story the longer begins it, and both begin the longer
pub longest : (a b told : List Event) → IsPrefix a told → IsPrefix b told →
    IsPrefix (longer a b) told × IsPrefix a (longer a b) × IsPrefix b (longer a b)
longest a b told p q = longest_as a b told (ltb (length a) (length b)) refl p q

pub or_cases : (a b : Bool) → (a || b) ≡ true → (a ≡ true) ⊎ (b ≡ true)
or_cases true b e = inl refl
or_cases false b e = inr e

pub or_left : (a b : Bool) → a ≡ true → (a || b) ≡ true
or_left true b e = refl
or_left false b e = absurd (cc e)

pub knows_both : (s z : Option ℕ) (a b : Bool) (f g t : List Event) → Knows s a f t → Knows z b g t →
    Knows s (a || b) (longer f g) t
knows_both s z a b f g t one two =
    let all = longest f g t (knows_prefix s a f t one) (knows_prefix z b g t two) in
    let x = knows_later s a f (longer f g) t one all.1 all.0 in
    let y = knows_later z b g (longer f g) t two all.2 all.0 in record {
      seen = x.seen;
      admitted = λ yes. ⊎_elim x.admitted
          (λ is. subst (All IsNoAdmit) (append_cancel_left (longer f g) y.seen.rest x.seen.rest
          (y.seen.whole ∙ sym x.seen.whole)) (y.admitted is))
          (or_cases a b yes);
    }

-- the seat of a pass after it put a story back

own_seat : (s : Option ℕ) (added : List Event) → All (IsOwn s) added → seat_then s added ≡ s
own_seat s [] own = refl
own_seat s (Admit k role ∷ es) own = let first = All-head (IsOwn s) (Admit k role) es own in absurd (cc first.1)
own_seat s (e ∷ es) own = refl

rest_is : (t added u : List Event) → t ++ added ≡ u → drop (length t) u ≡ added
rest_is t added u e = ap (drop (length t)) (sym e) ∙ drop-append_seam t added

pub keeps_seat : (s : Option ℕ) (t : Held) (added u : List Event) → t.story ++ added ≡ u → All (IsOwn s) added → new_seat s (Some t) u ≡ s
keeps_seat s t added u e own = ap (seat_then s) (rest_is t.story added u e) ∙ own_seat s added own

pub gets_seat : (s : Option ℕ) (k : ℕ) (role : Role) (t : Held) (u : List Event) → t.story ++ Admit k role ∷ [] ≡ u →
    new_seat s (Some t) u ≡ Some k
gets_seat s k role t u e = ap (seat_then s) (rest_is t.story (Admit k role ∷ []) u e)
