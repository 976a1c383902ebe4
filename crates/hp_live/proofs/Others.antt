-- What of a seat is as it was after events of others.
use Rattle.std.proofs.Common.{◌≡◌, ◌≢◌, ℕ, Bool, All, Option, Some, List, [], ◌∷◌, ◌++◌, refl, sym, ◌∙◌, subst, append_assoc}
use Rattle.std.proofs.lemmas.Bool.{ne_eqb}
use Rattle.std.proofs.lemmas.List.{append-nil}
use Rattle.std.proofs.lemmas.List.Elements.{All-head, All-tail}
use Rattle.hp_event.specs.declared.op.Op.{Op}
use Rattle.hp_event.specs.declared.event.Role.{Role}
use Rattle.hp_event.specs.declared.head.Head.{Head}
use Rattle.hp_event.specs.declared.event.Event.{Event}
use Rattle.hp_event.specs.declared.event.Event.TheVariants.{Admit, Leave, ReadLock, ReadUnlock}
use Rattle.hp_model.specs.Events.{seat_of}
use Rattle.hp_model.specs.Front.{IsOther, StandsFor}
use Rattle.hp_model.specs.Journal.{EachAfter}
use Rattle.hp_model.specs.Lawful.{IsLawful, Stands}
use Rattle.hp_model.specs.Readers.{reading_since, reading_since_step}
use Rattle.hp_model.specs.Seats.{is_busy, role_of, role_step}
use Rattle.hp_model.proofs.Laws.{role_push, reading_since_push}
use Rattle.hp_board.proofs.AskAgain.{allowed_after}
use Rattle.hp_board.proofs.Busy.{others_keep, others_hook}
use Rattle.hp_live.specs.Sections.{CanAsk}

back : (Rule : List Event → Event → Type 0) (before xs ys : List Event) → EachAfter Rule before (xs ++ ys) →
    EachAfter Rule (before ++ xs) ys
back Rule before [] ys h = subst (λ (w : List Event). EachAfter Rule w ys) (sym (append-nil before)) h
back Rule before (x ∷ xs) ys h =
    subst (λ (w : List Event). EachAfter Rule w ys) (append_assoc before (x ∷ []) xs) (back Rule (before ++ x ∷ []) xs ys h.1)

-- each event past the front stood when it came
pub lawful_rest : (head : Head) (front rest : List Event) → IsLawful head (front ++ rest) → EachAfter (Stands head) front rest
lawful_rest head front rest h = back (Stands head) [] front rest h.1

kept_by : (head : Head) (k : ℕ) (P : List Event → Type 0) →
    ((xs : List Event) (e : Event) → Stands head xs e → seat_of e ≢ k → P xs → P (xs ++ e ∷ [])) →
    (front rest : List Event) → EachAfter (Stands head) front rest → All (IsOther (Some k)) rest → P front → P (front ++ rest)
kept_by head k P step front [] h others p = subst P (sym (append-nil front)) p
kept_by head k P step front (e ∷ es) h others p =
    subst P (append_assoc front (e ∷ []) es)
    (kept_by head k P step (front ++ e ∷ []) es h.1 (All-tail (IsOther (Some k)) e es others)
    (step front e h.0 (All-head (IsOther (Some k)) e es others k refl) p))

-- what each event of another seat keeps holds of a journal that the seat's front stands for
pub after_others : (head : Head) (k : ℕ) (P : List Event → Type 0) →
    ((xs : List Event) (e : Event) → Stands head xs e → seat_of e ≢ k → P xs → P (xs ++ e ∷ [])) →
    (front found : List Event) → StandsFor (Some k) front found → IsLawful head found → P front → P found
after_others head k P step front found s lawful p =
    subst P s.whole
    (kept_by head k P step front s.rest (lawful_rest head front s.rest (subst (IsLawful head) (sym s.whole) lawful)) s.others p)

role_kept : (xs : List Event) (e : Event) (k : ℕ) → seat_of e ≢ k → role_step k (role_of k xs) xs e ≡ role_of k xs
role_kept xs (Admit seat role) k other = let apart = ne_eqb seat k other in rw apart refl
role_kept xs (Leave seat) k other = let apart = ne_eqb seat k other in rw apart refl
role_kept xs e k other = refl

-- what a seat may ask for by its front it may ask for
pub asks_later : (head : Head) (k : ℕ) (op : Op) (had : Bool) (front found : List Event) → StandsFor (Some k) front found →
    IsLawful head found → CanAsk head front k op had → CanAsk head found k op had
asks_later head k op had =
    after_others head k (λ xs. CanAsk head xs k op had)
    (λ xs e stands other m.
    record {
      allowed = allowed_after head xs e (record { seat = k; op = op }) other m.allowed;
      hook_is = m.hook_is ∙ sym (others_hook head xs e k op stands other);
    })

pub busy_later : (head : Head) (k : ℕ) (b : Bool) (front found : List Event) → StandsFor (Some k) front found →
    IsLawful head found → is_busy k front ≡ b → is_busy k found ≡ b
busy_later head k b = after_others head k (λ xs. is_busy k xs ≡ b) (λ xs e stands other is. others_keep head xs e k stands other ∙ is)

pub role_later : (head : Head) (k : ℕ) (o : Option Role) (front found : List Event) → StandsFor (Some k) front found →
    IsLawful head found → role_of k front ≡ o → role_of k found ≡ o
role_later head k o =
    after_others head k (λ xs. role_of k xs ≡ o) (λ xs e stands other is. role_push k xs e ∙ role_kept xs e k other ∙ is)

since_kept : (xs : List Event) (e : Event) (k : ℕ) → seat_of e ≢ k →
    reading_since_step k (reading_since k xs) xs e ≡ reading_since k xs
since_kept xs (ReadLock seat) k other = let apart = ne_eqb seat k other in rw apart refl
since_kept xs (ReadUnlock seat) k other = let apart = ne_eqb seat k other in rw apart refl
since_kept xs e k other = refl

pub since_later : (head : Head) (k : ℕ) (o : Option (List Event)) (front found : List Event) → StandsFor (Some k) front found →
    IsLawful head found → reading_since k front ≡ o → reading_since k found ≡ o
since_later head k o =
    after_others head k (λ xs. reading_since k xs ≡ o)
    (λ xs e stands other is. reading_since_push k xs e ∙ since_kept xs e k other ∙ is)
