-- The clients' seats are no more than the events, and each that reads came in once.
use Rattle.std.proofs.Common.{◌≡◌, ◌≢◌, ℕ, ◌+◌, ◌≤◌, Bool, true, false, cond, eqb, Option, Some, None, length, length-append, List, [], ◌∷◌, ◌++◌, refl, sym, ap, subst, ◌∙◌, arith}
use Rattle.std.proofs.lemmas.Bool.{eqb-true, eq-eqb, ne_eqb}
use Rattle.std.proofs.lemmas.Grind.{flat_map-append}
use Rattle.hp_states.proofs.Basics.{none_some}
use Rattle.hp_event.specs.declared.event.Role.{Role}
use Rattle.hp_event.specs.declared.event.Role.TheVariants.{Client, Ap}
use Rattle.hp_event.specs.declared.head.Head.{Head}
use Rattle.hp_event.specs.declared.event.Event.{Event}
use Rattle.hp_event.specs.declared.event.Event.TheVariants.{Admit, Leave, ReadLock, ReadUnlock}
use Rattle.hp_model.specs.Lawful.{Comes, IsLawful}
use Rattle.hp_model.specs.Lists.{occurs}
use Rattle.hp_model.specs.Readers.{reading_since}
use Rattle.hp_model.specs.Seats.{admits, role_of}
use Rattle.hp_model.proofs.Counts.{occurs-append}
use Rattle.hp_model.proofs.Induction.{holds}
use Rattle.hp_model.proofs.Laws.{admits_push, role_push, reading_since_push}
use Rattle.hp_model.proofs.ReadersKept.{none_reads_at_first}
use Rattle.hp_timeline.specs.Sheet.{seat_in, client_in, clients}

in_role : (seat : ℕ) (role : Role) → length (seat_in seat role) ≤ 1
in_role seat Client = omega arith
in_role seat (Ap cpu) = omega arith

seats_in : (e : Event) → length (client_in e) ≤ 1
seats_in (Admit seat role) = in_role seat role
seats_in e = omega arith

pub clients_many : (es : List Event) → length (clients es) ≤ length es
clients_many [] = omega arith
clients_many (e ∷ es) = let rest = clients_many es in let one = seats_in e in let both = length-append (client_in e) (clients es) in omega arith

-- ---- each that reads came in once

-- how often a seat came in as a client's
abbrev came : (seat : ℕ) → List Event → ℕ
came k xs = occurs k (clients xs)

came_push : (k : ℕ) (xs : List Event) (e : Event) → came k (xs ++ e ∷ []) ≡ came k xs + occurs k (client_in e)
came_push k xs e =
    ap (occurs k) (flat_map-append client_in xs (e ∷ []))
    ∙ (occurs-append k (clients xs) (clients (e ∷ []))
    ∙ (let last = occurs-append k (client_in e) [] in omega (arith, last)))

-- a seat that isn't let in yet never came; a client that is in, or that reads, came once
record CameIn (xs : List Event) : Type 0 where
  later : (k : ℕ) → admits xs ≤ k → came k xs ≡ 0
  client : (k : ℕ) → role_of k xs ≡ Some Client → came k xs ≡ 1
  reader : (k : ℕ) (since : List Event) → reading_since k xs ≡ Some since → came k xs ≡ 1

came_first : CameIn []
unfolding admits role_of reading_since
came_first = record {
  later = λ k h. refl;
  client = λ k h. absurd (none_some Client h);
  reader = λ k since h. absurd (none_some since h);
}

-- the seat that comes in
came_other : (k seat : ℕ) (role : Role) → eqb seat k ≡ false → occurs k (seat_in seat role) ≡ 0
came_other k seat Client e = rw e refl
came_other k seat (Ap cpu) e = refl

came_self : (k seat : ℕ) → eqb seat k ≡ true → occurs k (seat_in seat Client) ≡ 1
came_self k seat e = rw e refl

came_step : (head : Head) (xs : List Event) (e : Event) → Comes head xs e → CameIn xs → CameIn (xs ++ e ∷ [])
came_step head xs (Admit seat role) comes h = record {
  later = λ k low.
      let more : admits (xs ++ Admit seat role ∷ []) ≡ admits xs + 1 = admits_push xs (Admit seat role) in
      let is = comes.seat_is in
      let apart = came_other k seat role (ne_eqb seat k (λ same. absurd (omega (arith, more, is, same, low)))) in
      let none = h.later k (omega (arith, more, low)) in
      came_push k xs (Admit seat role) ∙ (omega (arith, apart, none));
  client = λ k is_in. once k (eqb seat k) refl (rw (role_push k xs (Admit seat role)) at is_in);
  reader = λ k since is. reads k since (eqb seat k) refl (rw (reading_since_push k xs (Admit seat role)) at is);
}
  where
    sat : (k : ℕ) (role : Role) → eqb seat k ≡ true → Some role ≡ Some Client → came k xs + occurs k (seat_in seat role) ≡ 1
    sat k Client e is_in =
        let is = comes.seat_is in
        let same = eqb-true seat k e in
        let none = h.later k (omega (arith, is, same)) in
        let one = came_self k seat e in
        omega (arith, none, one)
    sat k (Ap cpu) e is_in = absurd (cc)

    once : (k : ℕ) (b : Bool) → eqb seat k ≡ b → cond b (Some role) (role_of k xs) ≡ Some Client → came k (xs ++ Admit seat role ∷ []) ≡ 1
    once k true e is_in = came_push k xs (Admit seat role) ∙ sat k role e is_in
    once k false e is_in =
        let apart = came_other k seat role e in
        let one = h.client k is_in in
        came_push k xs (Admit seat role) ∙ omega (arith, apart, one)

    reads : (k : ℕ) (since : List Event) (b : Bool) → eqb seat k ≡ b → reading_since k xs ≡ Some since →
        came k (xs ++ Admit seat role ∷ []) ≡ 1
    reads k since true e is =
        let seat_is = comes.seat_is in
        let same = eqb-true seat k e in
        let none = h.later k (omega (arith, seat_is, same)) in
        let one = h.reader k since is in
        absurd (omega (arith, none, one))
    reads k since false e is =
        let apart = came_other k seat role e in
        let one = h.reader k since is in
        came_push k xs (Admit seat role) ∙ omega (arith, apart, one)
came_step head xs (Leave seat) comes h = record {
  later = λ k low. let none = h.later k (rw (admits_push xs (Leave seat)) at low) in came_push k xs (Leave seat) ∙ omega (arith, none);
  client = λ k is_in. stays k (eqb seat k) (rw (role_push k xs (Leave seat)) at is_in);
  reader = λ k since is.
      let one = h.reader k since (rw (reading_since_push k xs (Leave seat)) at is) in came_push k xs (Leave seat) ∙ omega (arith, one);
}
  where
    stays : (k : ℕ) (b : Bool) → cond b None (role_of k xs) ≡ Some Client → came k (xs ++ Leave seat ∷ []) ≡ 1
    stays k true is_in = absurd (none_some Client is_in)
    stays k false is_in = let one = h.client k is_in in came_push k xs (Leave seat) ∙ omega (arith, one)
came_step head xs (ReadLock seat) comes h = record {
  later = λ k low. let none = h.later k (rw (admits_push xs (ReadLock seat)) at low) in came_push k xs (ReadLock seat) ∙ omega (arith, none);
  client = λ k is_in. let one = h.client k (rw (role_push k xs (ReadLock seat)) at is_in) in came_push k xs (ReadLock seat) ∙ omega (arith, one);
  reader = λ k since is. reads k since (eqb seat k) refl (rw (reading_since_push k xs (ReadLock seat)) at is);
}
  where
    reads : (k : ℕ) (since : List Event) (b : Bool) → eqb seat k ≡ b → cond b (Some xs) (reading_since k xs) ≡ Some since →
        came k (xs ++ ReadLock seat ∷ []) ≡ 1
    reads k since true e is =
        let one = h.client seat comes.free.client in
        let same : seat ≡ k = eqb-true seat k e in
        came_push k xs (ReadLock seat) ∙ (let there : came k xs ≡ 1 = subst (λ n. came n xs ≡ 1) same one in omega (arith, there))
    reads k since false e is = let one = h.reader k since is in came_push k xs (ReadLock seat) ∙ omega (arith, one)
came_step head xs (ReadUnlock seat) comes h = record {
  later = λ k low. let none = h.later k (rw (admits_push xs (ReadUnlock seat)) at low) in came_push k xs (ReadUnlock seat) ∙ omega (arith, none);
  client = λ k is_in. let one = h.client k (rw (role_push k xs (ReadUnlock seat)) at is_in) in came_push k xs (ReadUnlock seat) ∙ omega (arith, one);
  reader = λ k since is. reads k since (eqb seat k) (rw (reading_since_push k xs (ReadUnlock seat)) at is);
}
  where
    reads : (k : ℕ) (since : List Event) (b : Bool) → cond b None (reading_since k xs) ≡ Some since → came k (xs ++ ReadUnlock seat ∷ []) ≡ 1
    reads k since true is = absurd (none_some since is)
    reads k since false is = let one = h.reader k since is in came_push k xs (ReadUnlock seat) ∙ omega (arith, one)
came_step head xs e comes h = record {
  later = λ k low. let none = h.later k (rw (admits_push xs e) at low) in came_push k xs e ∙ omega (arith, none);
  client = λ k is_in. let one = h.client k (rw (role_push k xs e) at is_in) in came_push k xs e ∙ omega (arith, one);
  reader = λ k since is. let one = h.reader k since (rw (reading_since_push k xs e) at is) in came_push k xs e ∙ omega (arith, one);
}

pub reader_once : (head : Head) (xs : List Event) (k : ℕ) (since : List Event) → IsLawful head xs → reading_since k xs ≡ Some since →
    occurs k (clients xs) ≡ 1
reader_once head xs k since lawful is = (holds head CameIn came_first (λ xs e s held h. came_step head xs e s.0 h) xs lawful).reader k since is
