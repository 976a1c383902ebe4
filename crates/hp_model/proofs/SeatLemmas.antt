-- The seats that are in are those with a role, and a reader is among the readers.
use Rattle.std.proofs.Common.{◌≡◌, ℕ, ◌+◌, ◌<◌, ◌≤◌, Bool, true, false, cond, eqb, arith, is_some, Option, Some, None, List, [], ◌∷◌, ◌++◌, refl, ◌∙◌}
use Rattle.std.proofs.lemmas.Bool.{ltb-true}
use Rattle.std.proofs.lemmas.Bool.Decides.{nat_tests}
use Rattle.hp_event.specs.declared.event.Role.{Role}
use Rattle.hp_event.specs.declared.event.Event.{Event}
use Rattle.hp_event.specs.declared.event.Event.TheVariants.{Admit, Leave, ReadLock, ReadUnlock}
use Rattle.hp_model.specs.Journal.{over_from}
use Rattle.hp_model.specs.Lists.{occurs, among, without}
use Rattle.hp_model.specs.Readers.{readers, readers_step, is_reading}
use Rattle.hp_model.specs.Seats.{seats, seats_step, role_of, role_step}
use Rattle.hp_model.proofs.Counts.{occurs-append}
use Rattle.hp_model.proofs.ListLemmas.{occurs-without}
use Rattle.hp_model.proofs.InFlight.{among-in, among-out, readers_are, some_in, none_in}
use Rattle.hp_model.proofs.Passing.{none_at}

-- a number put in or taken out leaves each once at most
put_once : (k seat : ℕ) (ks : List ℕ) → occurs k ks ≤ 1 → occurs k (without seat ks ++ seat ∷ []) ≤ 1
put_once k seat ks h =
    rw (occurs-append k (without seat ks) (seat ∷ []), occurs-without seat k ks) (few (occurs k ks) k seat h)
  where
    few : (n k seat : ℕ) → n ≤ 1 → cond (eqb k seat) 0 n + (cond (eqb seat k) 1 0 + 0) ≤ 1
    few n k seat h = grind (arith, nat_tests)

out_once : (k seat : ℕ) (ks : List ℕ) → occurs k ks ≤ 1 → occurs k (without seat ks) ≤ 1
out_once k seat ks h = rw (occurs-without seat k ks) (few (eqb k seat) (occurs k ks) h)
  where
    few : (b : Bool) (n : ℕ) → n ≤ 1 → cond b 0 n ≤ 1
    few true n h = omega arith
    few false n h = h

seat_one : (k : ℕ) (before : List Event) (e : Event) (ks : List ℕ) (o : Option Role) → among k ks ≡ is_some o →
    among k (seats_step ks before e) ≡ is_some (role_step k o before e)
seat_one k before (Admit seat role) ks o h = among-in k seat ks ∙ (rw h refl ∙ some_in (eqb seat k) role o)
seat_one k before (Leave seat) ks o h = among-out k seat ks ∙ (rw h refl ∙ none_in (eqb seat k) o)
seat_one k before e ks o h = h

seat_from : (k : ℕ) (before es : List Event) (ks : List ℕ) (o : Option Role) → among k ks ≡ is_some o →
    among k (over_from seats_step ks before es) ≡ is_some (over_from (role_step k) o before es)
seat_from k before [] ks o h = h
seat_from k before (e ∷ es) ks o h =
    seat_from k (before ++ e ∷ []) es (seats_step ks before e) (role_step k o before e) (seat_one k before e ks o h)

pub seats_are : (k : ℕ) (xs : List Event) → among k (seats xs) ≡ is_some (role_of k xs)
unfolding seats role_of
seats_are k xs = seat_from k [] xs [] None refl

pub is_seat : (k : ℕ) (xs : List Event) (role : Role) → role_of k xs ≡ Some role → 0 < occurs k (seats xs)
is_seat k xs role h = ltb-true 0 (occurs k (seats xs)) (seats_are k xs ∙ rw h refl)

pub is_reader : (k : ℕ) (xs : List Event) → is_reading k xs ≡ true → 0 < occurs k (readers xs)
is_reader k xs h = ltb-true 0 (occurs k (readers xs)) (readers_are k xs ∙ h)

-- each seat is there once at most
seats_once_from : (k : ℕ) (before es : List Event) (ks : List ℕ) → occurs k ks ≤ 1 → occurs k (over_from seats_step ks before es) ≤ 1
seats_once_from k before [] ks h = h
seats_once_from k before (e ∷ es) ks h =
    seats_once_from k (before ++ e ∷ []) es (seats_step ks before e) (one before e ks h)
  where
    one : (before : List Event) (e : Event) (ks : List ℕ) → occurs k ks ≤ 1 → occurs k (seats_step ks before e) ≤ 1
    one before (Admit seat role) ks h = put_once k seat ks h
    one before (Leave seat) ks h = out_once k seat ks h
    one before e ks h = h

pub seat_once : (k : ℕ) (xs : List Event) → occurs k (seats xs) ≤ 1
unfolding seats
seat_once k xs = seats_once_from k [] xs [] (omega arith)

readers_once_from : (k : ℕ) (before es : List Event) (ks : List ℕ) → occurs k ks ≤ 1 → occurs k (over_from readers_step ks before es) ≤ 1
readers_once_from k before [] ks h = h
readers_once_from k before (e ∷ es) ks h =
    readers_once_from k (before ++ e ∷ []) es (readers_step ks before e) (one before e ks h)
  where
    one : (before : List Event) (e : Event) (ks : List ℕ) → occurs k ks ≤ 1 → occurs k (readers_step ks before e) ≤ 1
    one before (ReadLock seat) ks h = put_once k seat ks h
    one before (ReadUnlock seat) ks h = out_once k seat ks h
    one before e ks h = h

pub reader_once : (k : ℕ) (xs : List Event) → occurs k (readers xs) ≤ 1
unfolding readers
reader_once k xs = readers_once_from k [] xs [] (omega arith)

-- who isn't in isn't among the seats, and who doesn't read not among the readers
pub no_seat : (k : ℕ) (xs : List Event) → role_of k xs ≡ None → occurs k (seats xs) ≡ 0
no_seat k xs h = none_at (occurs k (seats xs)) (seats_are k xs ∙ rw h refl)

pub no_reader : (k : ℕ) (xs : List Event) → is_reading k xs ≡ false → occurs k (readers xs) ≡ 0
no_reader k xs h = none_at (occurs k (readers xs)) (readers_are k xs ∙ h)
