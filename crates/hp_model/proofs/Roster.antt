-- Who sits after the admissions of a script's run: the threads of the present processors, and then a client for each actor. Nothing
-- is in flight then, and nobody reads.
use Rattle.std.proofs.Common.{◌≡◌, ℕ, zero, suc, ◌+◌, ◌<◌, Bool, true, false, cond, eqb, ltb, is_some, Option, Some, None, List, [], ◌∷◌, ◌++◌, length, refl, ap, sym, ◌∙◌, inl, inr, ◌⊎◌, arith, append_assoc}
use Rattle.std.proofs.lemmas.List.{append-nil}
use Rattle.std.proofs.lemmas.Bool.{false≢true, eqb-true, eq-eqb, and_parts}
use Rattle.std.proofs.lemmas.Bool.Decides.{nat_tests}
use Rattle.hp_states.proofs.Basics.{none_some, same_some}
use Rattle.hp_event.specs.declared.op.Op.{Op}
use Rattle.hp_event.specs.declared.event.Role.{Role}
use Rattle.hp_event.specs.declared.event.Role.TheVariants.{Client, Ap}
use Rattle.hp_event.specs.declared.head.Head.{Head}
use Rattle.hp_event.specs.declared.event.Event.{Event}
use Rattle.hp_event.specs.declared.event.Event.TheVariants.{Admit, Leave}
use Rattle.hp_model.specs.Journal.{over_from}
use Rattle.hp_model.specs.Lists.{occurs, numbers}
use Rattle.hp_model.specs.Events.{is_call, BelongsTo}
use Rattle.hp_model.specs.Processors.{is_present, present}
use Rattle.hp_model.specs.MapLock.{operation_step, operation}
use Rattle.hp_model.specs.Registrations.{registration_step, registration}
use Rattle.hp_model.specs.Readers.{reading_since_step, reading_since, is_reading}
use Rattle.hp_model.specs.Seats.{role_step, role_of, ap_step, ap_seat}
use Rattle.hp_model.specs.Admissions.{ap_admits, client_admits, admissions}
use Rattle.hp_model.proofs.Laws.{role_push, ap_push}
use Rattle.hp_model.proofs.ListLemmas.{occurs-filter, occurs-numbers}

-- who sits in a run
pub record Roster (head : Head) (actors : List (List Op)) (xs : List Event) : Type 0 where
  pub clients : (i : ℕ) → i < length actors → role_of (length (present head) + i) xs ≡ Some Client
  pub only : (k : ℕ) → role_of k xs ≡ Some Client → (i : ℕ) × (i < length actors) × (k ≡ length (present head) + i)
  pub threads : (c : ℕ) → is_present head c ≡ true → (k : ℕ) × (ap_seat c xs ≡ Some k)
  pub below : (c k : ℕ) → ap_seat c xs ≡ Some k → k < length (present head)

pub over_from_append : {S : Type 0} (step : S → List Event → Event → S) (value : S) (before xs ys : List Event) →
    over_from step value before (xs ++ ys) ≡ over_from step (over_from step value before xs) (before ++ xs) ys
over_from_append step value before [] ys = rw append-nil refl
over_from_append step value before (x ∷ xs) ys =
    over_from_append step (step value before x) (before ++ x ∷ []) xs ys
    ∙ ap (λ z. over_from step (over_from step (step value before x) (before ++ x ∷ []) xs) z ys) (append_assoc before (x ∷ []) xs)

-- the admissions of the processors' seats bring in no client
ap_from : (s k : ℕ) (cpus : List ℕ) (before : List Event) (found : Option Role) → (found ≡ Some Client → ⊥) →
    over_from (role_step s) found before (ap_admits k cpus) ≡ Some Client → ⊥
ap_from s k [] before found h = h
ap_from s k (c ∷ cs) before found h =
    ap_from s (k + 1) cs (before ++ Admit k (Ap c) ∷ []) (cond (eqb k s) (Some (Ap c)) found) (go (eqb k s))
  where
    go : (b : Bool) → cond b (Some (Ap c)) found ≡ Some Client → ⊥
    go true e = cc
    go false e = h e

no_client : (s k : ℕ) (cpus : List ℕ) → role_of s (ap_admits k cpus) ≡ Some Client → ⊥
unfolding role_of
no_client s k cpus = ap_from s k cpus [] None (λ e. cc)

-- the clients
other_seat : (s k : ℕ) → k < s → eqb s k ≡ false
other_seat s k h = grind (arith, nat_tests)

clients_past : (k s : ℕ) (actors : List (List Op)) (before : List Event) (found : Option Role) → k < s →
    over_from (role_step k) found before (client_admits s actors) ≡ found
clients_past k s [] before found h = refl
clients_past k s (ops ∷ more) before found h =
    ap (λ b. over_from (role_step k) (cond b (Some Client) found) (before ++ Admit s Client ∷ []) (client_admits (s + 1) more))
    (other_seat s k h)
    ∙ clients_past k (s + 1) more (before ++ Admit s Client ∷ []) found (omega arith)

clients_in : (k s i : ℕ) (actors : List (List Op)) (before : List Event) (found : Option Role) → i < length actors → k ≡ s + i →
    over_from (role_step k) found before (client_admits s actors) ≡ Some Client
clients_in k s i [] before found h e = absurd (omega arith)
clients_in k s zero (ops ∷ more) before found h e =
    ap (λ b. over_from (role_step k) (cond b (Some Client) found) (before ++ Admit s Client ∷ []) (client_admits (s + 1) more))
    (eq-eqb s k (omega (arith, e)))
    ∙ clients_past k (s + 1) more (before ++ Admit s Client ∷ []) (Some Client) (omega arith)
clients_in k s (suc i) (ops ∷ more) before found h e =
    clients_in k (s + 1) i more (before ++ Admit s Client ∷ []) (cond (eqb s k) (Some Client) found) (omega arith) (omega arith)

clients_only : (k s : ℕ) (actors : List (List Op)) (before : List Event) (found : Option Role) →
    over_from (role_step k) found before (client_admits s actors) ≡ Some Client →
    (found ≡ Some Client) ⊎ ((i : ℕ) × (i < length actors) × (k ≡ s + i))
clients_only k s [] before found h = inl h
clients_only k s (ops ∷ more) before found h =
    go (eqb s k) refl (clients_only k (s + 1) more (before ++ Admit s Client ∷ []) (cond (eqb s k) (Some Client) found) h)
  where
    go : (b : Bool) → eqb s k ≡ b →
        (cond b (Some Client) found ≡ Some Client) ⊎ ((i : ℕ) × (i < length more) × (k ≡ s + 1 + i)) →
        (found ≡ Some Client) ⊎ ((i : ℕ) × (i < length (ops ∷ more)) × (k ≡ s + i))
    go true e (inl q) = let r = eqb-true s k e in inr (0, omega arith, omega (arith, r))
    go false e (inl q) = inl q
    go b e (inr r) = inr (suc r.0, omega (arith, r.1), omega (arith, r.2))

-- the threads
pub threads_past : (c s : ℕ) (actors : List (List Op)) (before : List Event) (found : Option ℕ) →
    over_from (ap_step c) found before (client_admits s actors) ≡ found
threads_past c s [] before found = refl
threads_past c s (ops ∷ more) before found = threads_past c (s + 1) more (before ++ Admit s Client ∷ []) found

threads_in : (c s : ℕ) (cs : List ℕ) (before : List Event) (found : Option ℕ) →
    (is_some found ≡ true) ⊎ (0 < occurs c cs) → (k : ℕ) × (over_from (ap_step c) found before (ap_admits s cs) ≡ Some k)
threads_in c s [] before None (inl h) = absurd (false≢true h)
threads_in c s [] before (Some k) (inl h) = (k, refl)
threads_in c s [] before found (inr h) = absurd (omega arith)
threads_in c s (d ∷ cs) before found h =
    threads_in c (s + 1) cs (before ++ Admit s (Ap d) ∷ []) (cond (eqb d c) (Some s) found) (go (eqb d c) refl h)
  where
    go : (b : Bool) → eqb d c ≡ b → (is_some found ≡ true) ⊎ (0 < cond b 1 0 + occurs c cs) →
        (is_some (cond b (Some s) found) ≡ true) ⊎ (0 < occurs c cs)
    go true e h = inl refl
    go false e (inl h) = inl h
    go false e (inr h) = inr (omega (arith, h))

threads_below : (c s k : ℕ) (cs : List ℕ) (before : List Event) (found : Option ℕ) →
    over_from (ap_step c) found before (ap_admits s cs) ≡ Some k → (found ≡ Some k) ⊎ (k < s + length cs)
threads_below c s k [] before found h = inl h
threads_below c s k (d ∷ cs) before found h =
    go (eqb d c) (threads_below c (s + 1) k cs (before ++ Admit s (Ap d) ∷ []) (cond (eqb d c) (Some s) found) h)
  where
    go : (b : Bool) → (cond b (Some s) found ≡ Some k) ⊎ (k < s + 1 + length cs) → (found ≡ Some k) ⊎ (k < s + length (d ∷ cs))
    go true (inl q) = let e = same_some s k q in inr (omega (arith, e))
    go false (inl q) = inl q
    go b (inr q) = inr (omega (arith, q))

role_first : (head : Head) (actors : List (List Op)) (k : ℕ) →
    role_of k (admissions head actors)
    ≡ over_from (role_step k) (role_of k (ap_admits 0 (present head))) (ap_admits 0 (present head)) (client_admits (length (present head)) actors)
unfolding role_of
role_first head actors k =
    over_from_append (role_step k) None [] (ap_admits 0 (present head)) (client_admits (length (present head)) actors)

ap_first : (head : Head) (actors : List (List Op)) (c : ℕ) →
    ap_seat c (admissions head actors) ≡ over_from (ap_step c) None [] (ap_admits 0 (present head))
unfolding ap_seat
ap_first head actors c =
    over_from_append (ap_step c) None [] (ap_admits 0 (present head)) (client_admits (length (present head)) actors)
    ∙ threads_past c (length (present head)) actors (ap_admits 0 (present head)) (over_from (ap_step c) None [] (ap_admits 0 (present head)))

present_in : (head : Head) (c : ℕ) → is_present head c ≡ true → 0 < occurs c (present head)
present_in head c h =
    let p = and_parts (ltb c head.possible) _ h in
    let a = p.0 in
    rw (occurs-filter (λ c. is_present head c) c (numbers head.possible), h, occurs-numbers c head.possible, a) (omega arith)

pub roster_first : (head : Head) (actors : List (List Op)) → Roster head actors (admissions head actors)
roster_first head actors = record {
  clients = λ i h.
      role_first head actors (P + i)
      ∙ clients_in (P + i) P i actors aps (role_of (P + i) aps) h refl;
  only = λ k h. only k (clients_only k P actors aps (role_of k aps) (sym (role_first head actors k) ∙ h));
  threads = λ c h.
      let t = threads_in c 0 (present head) [] None (inr (present_in head c h)) in
      (t.0, ap_first head actors c ∙ t.1);
  below = λ c k h. below k (threads_below c 0 k (present head) [] None (sym (ap_first head actors c) ∙ h));
}
  where
    P : ℕ
    P = length (present head)

    aps : List Event
    aps = ap_admits 0 (present head)

    only : (k : ℕ) → (role_of k aps ≡ Some Client) ⊎ ((i : ℕ) × (i < length actors) × (k ≡ P + i)) →
        (i : ℕ) × (i < length actors) × (k ≡ P + i)
    only k (inl h) = absurd (no_client k 0 (present head) h)
    only k (inr h) = h

    below : (k : ℕ) → (None ≡ Some k) ⊎ (k < 0 + P) → k < P
    below k (inl h) = absurd (none_some k h)
    below k (inr h) = omega (arith, h)

-- no seat comes in or leaves by an entry or by an event of an operation
abbrev pub IsTurned : Event → Type 0
IsTurned e = (is_call e ≡ true) ⊎ ((op : Op) × BelongsTo op e)

role_same : (e : Event) (k : ℕ) (found : Option Role) (before : List Event) → IsTurned e → role_step k found before e ≡ found
role_same (Admit seat role) k found before (inl h) = absurd (false≢true h)
role_same (Admit seat role) k found before (inr h) = elim h.1 [ ]
role_same (Leave seat) k found before (inl h) = absurd (false≢true h)
role_same (Leave seat) k found before (inr h) = elim h.1 [ ]
role_same e k found before h = refl

ap_same : (e : Event) (c : ℕ) (found : Option ℕ) (before : List Event) → IsTurned e → ap_step c found before e ≡ found
ap_same (Admit seat role) c found before (inl h) = absurd (false≢true h)
ap_same (Admit seat role) c found before (inr h) = elim h.1 [ ]
ap_same (Leave seat) c found before (inl h) = absurd (false≢true h)
ap_same (Leave seat) c found before (inr h) = elim h.1 [ ]
ap_same e c found before h = refl

pub roster_more : (head : Head) (actors : List (List Op)) (xs : List Event) (e : Event) → IsTurned e → Roster head actors xs →
    Roster head actors (xs ++ e ∷ [])
roster_more head actors xs e t r = record {
  clients = λ i h. role (length (present head) + i) ∙ r.clients i h;
  only = λ k h. r.only k (sym (role k) ∙ h);
  threads = λ c h. let s = r.threads c h in (s.0, seat c ∙ s.1);
  below = λ c k h. r.below c k (sym (seat c) ∙ h);
}
  where
    role : (k : ℕ) → role_of k (xs ++ e ∷ []) ≡ role_of k xs
    role k = role_push k xs e ∙ role_same e k (role_of k xs) xs t

    seat : (c : ℕ) → ap_seat c (xs ++ e ∷ []) ≡ ap_seat c xs
    seat c = ap_push c xs e ∙ ap_same e c (ap_seat c xs) xs t

-- nothing is in flight after admissions, and nobody reads
abbrev pub AreAdmits : List Event → Type 0
AreAdmits [] = Unit {0}
AreAdmits (Admit seat role ∷ es) = AreAdmits es
AreAdmits (e ∷ es) = ⊥

ap_are : (k : ℕ) (cs : List ℕ) (es : List Event) → AreAdmits es → AreAdmits (ap_admits k cs ++ es)
ap_are k [] es h = h
ap_are k (c ∷ cs) es h = ap_are (k + 1) cs es h

client_are : (k : ℕ) (actors : List (List Op)) → AreAdmits (client_admits k actors)
client_are k [] = tt
client_are k (ops ∷ more) = client_are (k + 1) more

pub admissions_are : (head : Head) (actors : List (List Op)) → AreAdmits (admissions head actors)
admissions_are head actors = ap_are 0 (present head) _ (client_are (length (present head)) actors)

no_operation : (es before : List Event) → AreAdmits es → over_from operation_step None before es ≡ None
no_operation [] before h = refl
no_operation (Admit seat role ∷ es) before h = no_operation es (before ++ Admit seat role ∷ []) h
no_operation (e ∷ es) before h = elim h [ ]

no_registration : (es before : List Event) → AreAdmits es → over_from registration_step None before es ≡ None
no_registration [] before h = refl
no_registration (Admit seat role ∷ es) before h = no_registration es (before ++ Admit seat role ∷ []) h
no_registration (e ∷ es) before h = elim h [ ]

no_reader : (k : ℕ) (es before : List Event) → AreAdmits es → over_from (reading_since_step k) None before es ≡ None
no_reader k [] before h = refl
no_reader k (Admit seat role ∷ es) before h = no_reader k es (before ++ Admit seat role ∷ []) h
no_reader k (e ∷ es) before h = elim h [ ]

pub operation_first : (head : Head) (actors : List (List Op)) → operation (admissions head actors) ≡ None
unfolding operation
operation_first head actors =
    no_operation (admissions head actors) [] (admissions_are head actors)

pub registration_first : (head : Head) (actors : List (List Op)) → registration (admissions head actors) ≡ None
unfolding registration
registration_first head actors =
    no_registration (admissions head actors) [] (admissions_are head actors)

pub reading_first : (head : Head) (actors : List (List Op)) (k : ℕ) → is_reading k (admissions head actors) ≡ false
unfolding reading_since
reading_first head actors k =
    ap is_some (no_reader k (admissions head actors) [] (admissions_are head actors))
