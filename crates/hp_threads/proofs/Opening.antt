-- The journal at the start of a run: just the admissions, since no seat that is in has made anything.
use Rattle.std.proofs.Common.{◌≡◌, ◌≢◌, ◌⊎◌, inl, inr, ⊎_elim, ℕ, suc, ◌+◌, ◌<◌, ◌≤◌, All, Some, List, [], ◌∷◌, ◌++◌, map, length, refl, sym, ap, ◌∙◌, subst, arith, append_assoc}
use Rattle.std.proofs.lemmas.List.{append-nil, append_cancel_left}
use Rattle.std.proofs.lemmas.List.Elements.{All-nil, All-cons, All-head, All-tail}
use mathlib.Core.List.{IsPrefix}
use Rattle.hp_event.specs.declared.event.Event.{Event}
use Rattle.hp_event.specs.declared.event.Event.TheVariants.{Admit}
use Rattle.hp_event.specs.declared.event.Role.{Role}
use Rattle.hp_event.specs.declared.event.Role.TheVariants.{Client, Ap}
use Rattle.hp_event.specs.declared.head.Head.{Head}
use Rattle.hp_event.specs.declared.op.Op.{Op}
use Rattle.hp_model.specs.Admissions.{admissions, ap_admits, client_admits}
use Rattle.hp_model.specs.Events.{seat_of}
use Rattle.hp_model.specs.Front.{IsOther, StandsFor}
use Rattle.hp_model.specs.Lawful.{IsLawful}
use Rattle.hp_model.specs.Processors.{present}
use Rattle.hp_model.specs.Seats.{admits, admits_step}
use Rattle.hp_model.proofs.Fronts.{none_above}
use Rattle.hp_model.proofs.Laws.{admits_push}
use Rattle.hp_turn.specs.Story.{IsNoAdmit}
use Rattle.hp_turn.proofs.Prefixes.{prefix_self, prefix_trans}
use Rattle.hp_turn.proofs.Stories.{all_right}
use Rattle.hp_live.specs.Known.{Seated}
use Rattle.hp_live.specs.Sections.{AdmitsIn}
use Rattle.hp_threads.specs.Admitting.{CameIn, client_of}
use Rattle.hp_threads.proofs.Numbers.{below_or, less_or}
use Rattle.hp_threads.proofs.Staying.{lawful_front}

-- these seats come in, from a number on
abbrev pub admits_from : (seat : ℕ) → List Role → List Event
admits_from k [] = []
admits_from k (role ∷ roles) = Admit k role ∷ admits_from (k + 1) roles

-- a front that begins another, which begins a journal, is as good
stands_on : (k : ℕ) (f g journal : List Event) → StandsFor (Some k) f journal → IsPrefix f g → IsPrefix g journal →
    StandsFor (Some k) g journal
stands_on k f g journal s p q =
    record {
      rest = q.0;
      whole = q.1;
      others = all_right (IsOther (Some k)) p.0 q.0 (subst (All (IsOther (Some k))) (cut_at f g journal s.rest s.whole p q) s.others);
    }
  where
    cut_at : (f g t rest : List Event) → f ++ rest ≡ t → (p : IsPrefix f g) → (q : IsPrefix g t) → rest ≡ p.0 ++ q.0
    cut_at f g t rest whole p q =
        append_cancel_left f rest (p.0 ++ q.0)
        (whole ∙ (sym q.1 ∙ (ap (λ (w : List Event). w ++ q.0) (sym p.1) ∙ append_assoc f p.0 q.0)))

-- no seat below a number has an event past a front
abbrev Quiet : (seats : ℕ) → (front journal : List Event) → Type 0
Quiet n front journal = (k : ℕ) → k < n → StandsFor (Some k) front journal

-- the first event past such a front would be of one of them
first_past : (head : Head) (front rest journal : List Event) (e : Event) → IsLawful head journal →
    IsPrefix (front ++ e ∷ rest) journal → IsNoAdmit e → Quiet (admits front) front journal → ⊥
first_past head front rest journal e lawful p not quiet = go (below_or (seat_of e) (admits front))
  where
    whole : (front ++ (e ∷ rest ++ p.0)) ≡ journal
    whole = sym (append_assoc front (e ∷ rest) p.0) ∙ p.1

    same_admits : admits (front ++ e ∷ []) ≡ admits front
    same_admits = admits_push front e ∙ stays e not
      where
        stays : (x : Event) → IsNoAdmit x → admits_step (admits front) front x ≡ admits front
        stays (Admit seat role) not = absurd (cc not)
        stays x not = refl

    own_last : (xs : List Event) (x : Event) → All (λ y. seat_of y ≢ seat_of x) (xs ++ x ∷ []) → ⊥
    own_last [] x none = All-head (λ y. seat_of y ≢ seat_of x) x [] none refl
    own_last (z ∷ xs) x none = own_last xs x (All-tail (λ y. seat_of y ≢ seat_of x) z (xs ++ x ∷ []) none)

    go : (seat_of e < admits front) ⊎ (admits front ≤ seat_of e) → ⊥
    go (inl below) =
        let s = quiet (seat_of e) below in
        let same : s.rest ≡ e ∷ (rest ++ p.0) = append_cancel_left front s.rest (e ∷ (rest ++ p.0)) (s.whole ∙ sym whole) in
        All-head (IsOther (Some (seat_of e))) e (rest ++ p.0) (subst (All (IsOther (Some (seat_of e)))) same s.others) (seat_of e) refl
        refl
    go (inr above) =
        let here = lawful_front head (front ++ e ∷ []) journal ((rest ++ p.0), append_assoc front (e ∷ []) (rest ++ p.0) ∙ whole) lawful in
        own_last front e (none_above head (front ++ e ∷ []) (seat_of e) here (omega (arith, same_admits, above)))

-- so the lock gave just that front to who came in next
none_found : (head : Head) (front rest journal : List Event) → IsLawful head journal → IsPrefix (front ++ rest) journal →
    All IsNoAdmit rest → Quiet (admits front) front journal → rest ≡ []
none_found head front [] journal lawful p not quiet = refl
none_found head front (e ∷ rest) journal lawful p not quiet =
    absurd (first_past head front rest journal e lawful p (All-head IsNoAdmit e rest not) quiet)

pub admitted_prefix : (head : Head) (role : Role) (old new : List Event) (seat : ℕ) → AdmitsIn head role old new seat → IsPrefix old new
admitted_prefix head role old new seat a = (a.grew.rest, a.grew.whole)

pub came_prefix : (head : Head) (roles : List Role) (passes : List Seated) (old new : List Event) → CameIn head roles passes old new →
    IsPrefix old new
came_prefix head [] [] old new came = subst (IsPrefix old) (sym came) (prefix_self old)
came_prefix head (role ∷ roles) (pass ∷ passes) old new came =
    prefix_trans old pass.front new (admitted_prefix head role old pass.front pass.seat came.0)
    (came_prefix head roles passes pass.front new came.1)
came_prefix head [] (pass ∷ passes) old new came = absurd came
came_prefix head (role ∷ roles) [] old new came = absurd came

-- each pass's front begins the last
pub came_each : (head : Head) (roles : List Role) (passes : List Seated) (old new : List Event) → CameIn head roles passes old new →
    All (λ pass. IsPrefix pass.front new) passes
came_each head [] [] old new came = All-nil (λ pass. IsPrefix pass.front new)
came_each head (role ∷ roles) (pass ∷ passes) old new came =
    All-cons (λ p. IsPrefix p.front new) pass passes (came_prefix head roles passes pass.front new came.1)
    (came_each head roles passes pass.front new came.1)
came_each head [] (pass ∷ passes) old new came = absurd came
came_each head (role ∷ roles) [] old new came = absurd came

pub came_append : (head : Head) (roles more : List Role) (passes others : List Seated) (old mid new : List Event) →
    CameIn head roles passes old mid → CameIn head more others mid new → CameIn head (roles ++ more) (passes ++ others) old new
came_append head [] more [] others old mid new a b = subst (λ (w : List Event). CameIn head more others w new) a b
came_append head (role ∷ roles) more (pass ∷ passes) others old mid new a b =
    (a.0, came_append head roles more passes others pass.front mid new a.1 b)
came_append head [] more (pass ∷ passes) others old mid new a b = absurd a
came_append head (role ∷ roles) more [] others old mid new a b = absurd a

-- seats from a number on
abbrev pub SeatsFrom : (seat : ℕ) → List Seated → Type 0
SeatsFrom k [] = Unit {0}
SeatsFrom k (pass ∷ passes) = (pass.seat ≡ k) × SeatsFrom (k + 1) passes

pub record IsOpening (old new : List Event) (roles : List Role) (passes : List Seated) : Type 0 where
  pub events : new ≡ old ++ admits_from (admits old) roles
  pub count : admits new ≡ admits old + length roles
  pub seats : SeatsFrom (admits old) passes

abbrev StandsAt : (journal : List Event) → Seated → Type 0
StandsAt journal pass = StandsFor (Some pass.seat) pass.front journal

pub opening : (head : Head) (roles : List Role) (passes : List Seated) (old new : List Event) → IsLawful head new →
    CameIn head roles passes old new → Quiet (admits old) old new → All (StandsAt new) passes → IsOpening old new roles passes
opening head [] [] old new lawful came quiet all =
    record {
      events = came ∙ sym (append-nil old);
      count = let same = ap admits came in omega (arith, same);
      seats = tt;
    }
opening head (role ∷ roles) (pass ∷ passes) old new lawful came quiet all =
    let a = came.0 in
    let later = came_prefix head roles passes pass.front new came.1 in
    let none = none_found head old a.knew.seen.rest new lawful (found_begins a later) (a.knew.admitted refl) quiet in
    let found : a.found ≡ old = sym a.knew.seen.whole ∙ ap (λ (w : List Event). old ++ w) none ∙ append-nil old in
    let seat : pass.seat ≡ admits old = a.seat_is ∙ ap admits found in
    let front : pass.front ≡ old ++ Admit (admits old) role ∷ [] =
    a.new_is ∙ ap (λ (w : List Event). w ++ Admit pass.seat role ∷ []) found ∙ ap (λ (k : ℕ). old ++ Admit k role ∷ []) seat in
    let one : admits pass.front ≡ admits old + 1 = ap admits front ∙ admits_push old (Admit (admits old) role) in
    let first = All-head (StandsAt new) pass passes all in
    let rest =
    opening head roles passes pass.front new lawful came.1 (quiet_more seat one first later) (All-tail (StandsAt new) pass passes all) in
    record {
      events =
          rest.events
          ∙ (ap (λ (w : List Event). w ++ admits_from (admits pass.front) roles) front
          ∙ (append_assoc old (Admit (admits old) role ∷ []) (admits_from (admits pass.front) roles)
          ∙ ap (λ (k : ℕ). old ++ Admit (admits old) role ∷ admits_from k roles) one));
      count = let c = rest.count in omega (arith, c, one);
      seats = (seat, subst (λ (k : ℕ). SeatsFrom k passes) one rest.seats);
    }
  where
    found_begins : (a : AdmitsIn head role old pass.front pass.seat) → IsPrefix pass.front new → IsPrefix (old ++ a.knew.seen.rest) new
    found_begins a later =
        prefix_trans (old ++ a.knew.seen.rest) pass.front new
        (Admit pass.seat role ∷ [], ap (λ (w : List Event). w ++ Admit pass.seat role ∷ []) a.knew.seen.whole ∙ sym a.new_is) later

    quiet_more : pass.seat ≡ admits old → admits pass.front ≡ admits old + 1 → StandsAt new pass → IsPrefix pass.front new →
        Quiet (admits pass.front) pass.front new
    quiet_more seat one first later k below =
        ⊎_elim
        (λ (less : k < admits old).
        stands_on k old pass.front new (quiet k less) (admitted_prefix head role old pass.front pass.seat came.0) later)
        (λ (same : k ≡ admits old). subst (λ (n : ℕ). StandsFor (Some n) pass.front new) (seat ∙ sym same) first)
        (less_or k (admits old) (omega (arith, below, one)))
opening head [] (pass ∷ passes) old new lawful came quiet all = absurd came
opening head (role ∷ roles) [] old new lawful came quiet all = absurd came

-- ---- the admissions of a script

froms_append : (k : ℕ) (xs ys : List Role) → admits_from k (xs ++ ys) ≡ admits_from k xs ++ admits_from (k + length xs) ys
froms_append k [] ys = let e : k ≡ k + 0 = omega arith in ap (λ n. admits_from n ys) e
froms_append k (x ∷ xs) ys =
    let e : (k + 1) + length xs ≡ k + suc (length xs) = omega arith in
    ap (λ (w : List Event). Admit k x ∷ w) (froms_append (k + 1) xs ys ∙ ap (λ n. admits_from (k + 1) xs ++ admits_from n ys) e)

froms_aps : (k : ℕ) (cpus : List ℕ) → admits_from k (map Ap cpus) ≡ ap_admits k cpus
froms_aps k [] = refl
froms_aps k (c ∷ cpus) = ap (λ (w : List Event). Admit k (Ap c) ∷ w) (froms_aps (k + 1) cpus)

froms_clients : (k : ℕ) (actors : List (List Op)) → admits_from k (map client_of actors) ≡ client_admits k actors
froms_clients k [] = refl
froms_clients k (ops ∷ actors) = ap (λ (w : List Event). Admit k Client ∷ w) (froms_clients (k + 1) actors)

length_aps : (cpus : List ℕ) → length (map Ap cpus) ≡ length cpus
length_aps [] = refl
length_aps (c ∷ cpus) = ap suc (length_aps cpus)

pub from_zero : (n : ℕ) → 0 + n ≡ n
from_zero n = omega arith

pub script_admissions : (head : Head) (actors : List (List Op)) →
    admits_from 0 (map Ap (present head) ++ map client_of actors) ≡ admissions head actors
script_admissions head actors =
    froms_append 0 (map Ap (present head)) (map client_of actors)
    ∙ ap (λ (w : List Event). w ++ admits_from (0 + length (map Ap (present head))) (map client_of actors)) (froms_aps 0 (present head))
    ∙ ap (λ (w : List Event). ap_admits 0 (present head) ++ w)
    (ap (λ (n : ℕ). admits_from n (map client_of actors)) (from_zero (length (map Ap (present head))) ∙ length_aps (present head))
    ∙ froms_clients (length (present head)) actors)
