-- How many clients are in is how many of the roles are a client's.
use Rattle.std.proofs.Common.{◌≡◌, ℕ, zero, suc, ◌+◌, ◌<◌, ◌≤◌, Bool, true, false, cond, Option, None, List, [], ◌∷◌, ◌++◌, length, take, get_or, refl, ap, sym, ◌∙◌, arith}
use Rattle.std.specs.Prelude.{count_by}
use Rattle.std.proofs.lemmas.List.Sums.{fold-append, count_by_more_yes, count_by_more_no}
use Rattle.std.proofs.Math.Seq.{take-length}
use Rattle.hp_event.specs.declared.event.Role.{Role}
use Rattle.hp_event.specs.declared.head.Head.{Head}
use Rattle.hp_event.specs.declared.event.Event.{Event}
use Rattle.hp_model.specs.FirstEvent.{is_client}
use Rattle.hp_model.specs.Lists.{numbers}
use Rattle.hp_model.specs.Seats.{role_of}
use Rattle.hp_account.specs.Places.{at_place}
use Rattle.hp_account.specs.Seats.{SeatsView, IsRoll, clients_of}
use Rattle.hp_machine.specs.Clients.{clients}

get_place : {X : Type 0} (xs : List (Option X)) (n : ℕ) → at_place xs n ≡ get_or xs n None
get_place [] n = refl
get_place (x ∷ xs) zero = refl
get_place (x ∷ xs) (suc n) = get_place xs n

count_last : {X : Type 0} (p : X → Bool) (xs : List X) (x : X) → count_by p (xs ++ x ∷ []) ≡ count_by p xs + cond (p x) 1 0
count_last p xs x = fold-append (λ (n : ℕ) (y : _). n + cond (p y) 1 0) 0 xs (x ∷ [])

count_next : (xs : List (Option Role)) (n : ℕ) → n < length xs → (b : Bool) → is_client (get_or xs n None) ≡ b →
    count_by is_client (take n xs) + cond b 1 0 ≡ count_by is_client (take (n + 1) xs)
count_next xs n below true is = sym (count_by_more_yes is_client xs n None below is)
count_next xs n below false is =
    let same : count_by is_client (take n xs) + 0 ≡ count_by is_client (take n xs) = omega arith in
    same ∙ sym (count_by_more_no is_client xs n None below is)

count_upto : (f : ℕ → Option Role) (xs : List (Option Role)) → ((k : ℕ) → f k ≡ at_place xs k) → (n : ℕ) → n ≤ length xs →
    count_by (λ k. is_client (f k)) (numbers n) ≡ count_by is_client (take n xs)
count_upto f xs same zero few = refl
count_upto f xs same (suc n) few =
    let below : n < length xs = omega (arith, few) in
    let next : n + 1 ≡ suc n = omega arith in
    count_last (λ k. is_client (f k)) (numbers n) n
    ∙ ap (λ m. m + cond (is_client (f n)) 1 0) (count_upto f xs same n (omega (arith, few)))
    ∙ ap (λ r. count_by is_client (take n xs) + cond (is_client r) 1 0) (same n ∙ get_place xs n)
    ∙ count_next xs n below (is_client (get_or xs n None)) refl
    ∙ ap (λ m. count_by is_client (take m xs)) next

pub clients_are : (head : Head) (events : List Event) (r : SeatsView) → IsRoll head events r → clients_of r ≡ clients events
unfolding clients
clients_are head events r is =
    ap (count_by is_client) (sym (take-length r.roles))
    ∙ sym (count_upto (λ k. role_of k events) r.roles is.roles_are (length r.roles) (omega arith))
    ∙ ap (λ n. count_by (λ k. is_client (role_of k events)) (numbers n)) is.admitted
