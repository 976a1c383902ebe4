-- The admissions of a script, as they are made one after another.
use Rattle.std.proofs.Common.{◌≡◌, ℕ, zero, suc, ◌+◌, ◌<◌, ◌≤◌, Bool, true, false, cond, eqb, List, [], ◌∷◌, ◌++◌, length, append_assoc, append-nil, filter, replicate, refl, ap, sym, subst, ◌∙◌, arith}
use Rattle.std.proofs.lemmas.Bool.{eqb-true, eqb-false}
use Rattle.std.proofs.lemmas.List.{length-replicate}
use Rattle.hp_states.proofs.Basics.{less_or}
use Rattle.hp_states.specs.declared.limits.TheConstants.{MAX_SEATS}
use Rattle.hp_event.specs.declared.op.Op.{Op}
use Rattle.hp_event.specs.declared.head.Head.{Head}
use Rattle.hp_event.specs.declared.event.Event.{Event}
use Rattle.hp_event.specs.declared.event.Event.TheVariants.{Admit}
use Rattle.hp_event.specs.declared.event.Role.{Role}
use Rattle.hp_event.specs.declared.event.Role.TheVariants.{Client, Ap}
use Rattle.hp_model.specs.Heads.{IsHead}
use Rattle.hp_model.specs.Journal.{EachAfter}
use Rattle.hp_model.specs.Lawful.{Stands, IsLawful}
use Rattle.hp_model.specs.Lists.{numbers}
use Rattle.hp_model.specs.Processors.{is_present, present}
use Rattle.hp_model.specs.Admissions.{admissions, ap_admits, client_admits}
use Rattle.hp_model.specs.Seats.{admits}
use Rattle.hp_model.proofs.Laws.{EachAfter_push, EachAfter_front}
use Rattle.hp_model.proofs.RunLemmas.{admissions_lawful}

-- the present processors below a number
abbrev pub present_below : Head → ℕ → List ℕ
present_below head n = filter (λ c. is_present head c) (numbers n)

filter-append : (p : ℕ → Bool) (xs ys : List ℕ) → filter p (xs ++ ys) ≡ filter p xs ++ filter p ys
filter-append p [] ys = refl
filter-append p (x ∷ xs) ys = go (p x) (filter-append p xs ys)
  where
    go : (b : Bool) → filter p (xs ++ ys) ≡ filter p xs ++ filter p ys →
        cond b (x ∷ filter p (xs ++ ys)) (filter p (xs ++ ys)) ≡ cond b (x ∷ filter p xs) (filter p xs) ++ filter p ys
    go true e = ap (λ zs. x ∷ zs) e
    go false e = e

pub present_there : (head : Head) (n : ℕ) → is_present head n ≡ true → present_below head (n + 1) ≡ present_below head n ++ n ∷ []
present_there head n h =
    let e : n + 1 ≡ suc n = omega arith in
    ap (present_below head) e
    ∙ (filter-append (λ c. is_present head c) (numbers n) (n ∷ [])
    ∙ ap (λ b. present_below head n ++ cond b (n ∷ []) []) h)

pub present_not : (head : Head) (n : ℕ) → is_present head n ≡ false → present_below head (n + 1) ≡ present_below head n
present_not head n h =
    let e : n + 1 ≡ suc n = omega arith in
    ap (present_below head) e
    ∙ (filter-append (λ c. is_present head c) (numbers n) (n ∷ [])
    ∙ (ap (λ b. present_below head n ++ cond b (n ∷ []) []) h ∙ append-nil (present_below head n)))

-- the numbers below one are those below another, it, and others
numbers_split : (n c : ℕ) → c < n → (rest : List ℕ) × (numbers n ≡ numbers c ++ c ∷ rest)
numbers_split zero c below = absurd (omega (arith, below))
numbers_split (suc n) c below = go (eqb c n) refl (λ less. numbers_split n c less)
  where
    go : (b : Bool) → eqb c n ≡ b → (c < n → (rest : List ℕ) × (numbers n ≡ numbers c ++ c ∷ rest)) →
        (rest : List ℕ) × (numbers (suc n) ≡ numbers c ++ c ∷ rest)
    go true e before =
        let same : c ≡ n = eqb-true c n e in ([], ap (λ z. numbers z ++ z ∷ []) (sym same))
    go false e before =
        let r = before (less_or c n below (eqb-false c n e)) in
        (r.0 ++ n ∷ [], ap (λ z. z ++ n ∷ []) r.1 ∙ append_assoc (numbers c) (c ∷ r.0) (n ∷ []))

-- so are the present ones, where it is present
pub present_split : (head : Head) (c : ℕ) → c < head.possible → is_present head c ≡ true →
    (rest : List ℕ) × (present head ≡ present_below head c ++ c ∷ rest)
present_split head c below there =
    let r = numbers_split head.possible c below in (
      filter (λ c. is_present head c) r.0,
      ap (filter (λ c. is_present head c)) r.1
          ∙ (filter-append (λ c. is_present head c) (numbers c) (c ∷ r.0)
          ∙ ap (λ b. present_below head c ++ cond b (c ∷ filter (λ c. is_present head c) r.0) (filter (λ c. is_present head c) r.0)) there),
    )

pub aps_append : (k : ℕ) (xs ys : List ℕ) → ap_admits k (xs ++ ys) ≡ ap_admits k xs ++ ap_admits (k + length xs) ys
aps_append k [] ys = let e : k ≡ k + 0 = omega arith in ap (λ z. ap_admits z ys) e
aps_append k (x ∷ xs) ys =
    let e : (k + 1) + length xs ≡ k + suc (length xs) = omega arith in
    ap (λ zs. Admit k (Ap x) ∷ zs) (aps_append (k + 1) xs ys ∙ ap (λ z. ap_admits (k + 1) xs ++ ap_admits z ys) e)

-- clients alone, whatever their operations
pub clients_are : (k : ℕ) (actors : List (List Op)) → client_admits k actors ≡ client_admits k (replicate (length actors) [])
clients_are k [] = refl
clients_are k (ops ∷ more) = ap (λ zs. Admit k Client ∷ zs) (clients_are (k + 1) more)

pub client_more : (k n : ℕ) → client_admits k (replicate (n + 1) []) ≡ client_admits k (replicate n []) ++ Admit (k + n) Client ∷ []
client_more k n = let e : n + 1 ≡ suc n = omega arith in ap (λ z. client_admits k (replicate z [])) e ∙ go k n
  where
    go : (k n : ℕ) → client_admits k (replicate (suc n) []) ≡ client_admits k (replicate n []) ++ Admit (k + n) Client ∷ []
    go k zero = let e : k ≡ k + 0 = omega arith in ap (λ z. Admit z Client ∷ []) e
    go k (suc n) =
        let e : (k + 1) + n ≡ k + suc n = omega arith in
        ap (λ zs. Admit k Client ∷ zs)
        (go (k + 1) n ∙ ap (λ z. client_admits (k + 1) (replicate n []) ++ Admit z Client ∷ []) e)

-- an event among those that stand one after another
middle : (head : Head) (front rest : List Event) (e : Event) → IsLawful head (front ++ e ∷ rest) → Stands head front e
middle head front rest e lawful =
    let all = subst (λ z. EachAfter (Stands head) [] z) (sym (append_assoc front (e ∷ []) rest)) lawful.1 in
    (EachAfter_push (Stands head) [] front e (EachAfter_front (Stands head) [] (front ++ e ∷ []) rest all)).1

-- by the number of its seat
seat_said : (head : Head) (front : List Event) (k : ℕ) (role : Role) → Stands head front (Admit k role) →
    Stands head front (Admit (admits front) role)
seat_said head front k role s = subst (λ z. Stands head front (Admit z role)) s.0.seat_is s

pub ap_stands : (head : Head) (clients c : ℕ) → IsHead head → length (present head) + clients ≤ MAX_SEATS → c < head.possible →
    is_present head c ≡ true →
    Stands head (ap_admits 0 (present_below head c)) (Admit (admits (ap_admits 0 (present_below head c))) (Ap c))
ap_stands head clients c h few below there =
    let ops : List (List Op) = replicate clients [] in
    let n : length ops ≡ clients = length-replicate clients [] in
    let lawful = admissions_lawful head ops h (omega (arith, few, n)) in
    let r = present_split head c below there in
    let k : ℕ = 0 + length (present_below head c) in
    let split =
    ap (λ z. ap_admits 0 z ++ client_admits (length (present head)) ops) r.1
    ∙ (ap (λ z. z ++ client_admits (length (present head)) ops) (aps_append 0 (present_below head c) (c ∷ r.0))
    ∙ append_assoc (ap_admits 0 (present_below head c)) (Admit k (Ap c) ∷ ap_admits (k + 1) r.0) (client_admits (length (present head)) ops))
    in
    seat_said head (ap_admits 0 (present_below head c)) k (Ap c)
    (middle head (ap_admits 0 (present_below head c)) (ap_admits (k + 1) r.0 ++ client_admits (length (present head)) ops) (Admit k (Ap c))
    (subst (λ z. IsLawful head z) split lawful))

-- what stands after the threads, and some clients
abbrev pub seated : Head → (clients : ℕ) → List Event
seated head n = admissions head (replicate n [])

pub seated_none : (head : Head) → ap_admits 0 (present head) ≡ seated head 0
seated_none head = sym (append-nil (ap_admits 0 (present head)))

pub seated_more : (head : Head) (n : ℕ) → seated head (n + 1) ≡ seated head n ++ Admit (length (present head) + n) Client ∷ []
seated_more head n =
    ap (λ z. ap_admits 0 (present head) ++ z) (client_more (length (present head)) n)
    ∙ sym (append_assoc (ap_admits 0 (present head)) (client_admits (length (present head)) (replicate n []))
    (Admit (length (present head) + n) Client ∷ []))

pub client_stands : (head : Head) (clients n : ℕ) → IsHead head → length (present head) + clients ≤ MAX_SEATS → n < clients →
    Stands head (seated head n) (Admit (admits (seated head n)) Client)
client_stands head clients n h few below =
    let ops : List (List Op) = replicate (n + 1) [] in
    let l : length ops ≡ n + 1 = length-replicate (n + 1) [] in
    let lawful = admissions_lawful head ops h (omega (arith, few, l, below)) in
    seat_said head (seated head n) (length (present head) + n) Client
    (middle head (seated head n) [] (Admit (length (present head) + n) Client)
    (subst (λ z. IsLawful head z) (seated_more head n) lawful))

-- one thread more
pub ap_more : (head : Head) (c : ℕ) (k : ℕ) → is_present head c ≡ true → k ≡ length (present_below head c) →
    ap_admits 0 (present_below head (c + 1)) ≡ ap_admits 0 (present_below head c) ++ Admit k (Ap c) ∷ []
ap_more head c k there is =
    let e : 0 + length (present_below head c) ≡ k = omega (arith, is) in
    ap (ap_admits 0) (present_there head c there)
    ∙ (aps_append 0 (present_below head c) (c ∷ [])
    ∙ ap (λ z. ap_admits 0 (present_below head c) ++ Admit z (Ap c) ∷ []) e)

-- an admission that stands has the number of those before it
pub aps_admitted : (head : Head) (clients c : ℕ) → IsHead head → length (present head) + clients ≤ MAX_SEATS → c < head.possible →
    is_present head c ≡ true → admits (ap_admits 0 (present_below head c)) ≡ length (present_below head c)
aps_admitted head clients c h few below there =
    let ops : List (List Op) = replicate clients [] in
    let n : length ops ≡ clients = length-replicate clients [] in
    let lawful = admissions_lawful head ops h (omega (arith, few, n)) in
    let r = present_split head c below there in
    let k : ℕ = 0 + length (present_below head c) in
    let split =
    ap (λ z. ap_admits 0 z ++ client_admits (length (present head)) ops) r.1
    ∙ (ap (λ z. z ++ client_admits (length (present head)) ops) (aps_append 0 (present_below head c) (c ∷ r.0))
    ∙ append_assoc (ap_admits 0 (present_below head c)) (Admit k (Ap c) ∷ ap_admits (k + 1) r.0) (client_admits (length (present head)) ops))
    in
    let s =
    middle head (ap_admits 0 (present_below head c)) (ap_admits (k + 1) r.0 ++ client_admits (length (present head)) ops) (Admit k (Ap c))
    (subst (λ z. IsLawful head z) split lawful) in
    let q : k ≡ admits (ap_admits 0 (present_below head c)) = s.0.seat_is in omega (arith, q)

pub clients_admitted : (head : Head) (clients n : ℕ) → IsHead head → length (present head) + clients ≤ MAX_SEATS → n < clients →
    admits (seated head n) ≡ length (present head) + n
clients_admitted head clients n h few below =
    let ops : List (List Op) = replicate (n + 1) [] in
    let l : length ops ≡ n + 1 = length-replicate (n + 1) [] in
    let lawful = admissions_lawful head ops h (omega (arith, few, l, below)) in
    sym (middle head (seated head n) [] (Admit (length (present head) + n) Client)
    (subst (λ z. IsLawful head z) (seated_more head n) lawful)).0.seat_is

-- the threads of the processors up to one more
pub ap_next : (head : Head) (clients c : ℕ) (before after : List Event) → IsHead head → length (present head) + clients ≤ MAX_SEATS →
    c < head.possible → before ≡ ap_admits 0 (present_below head c) →
    (is_present head c ≡ true → after ≡ before ++ Admit (admits before) (Ap c) ∷ []) → (is_present head c ≡ false → after ≡ before) →
    after ≡ ap_admits 0 (present_below head (c + 1))
ap_next head clients c before after h few below is there absent = go (is_present head c) refl
  where
    go : (b : Bool) → is_present head c ≡ b → after ≡ ap_admits 0 (present_below head (c + 1))
    go true e =
        there e
        ∙ (ap (λ es. es ++ Admit (admits es) (Ap c) ∷ []) is
        ∙ sym (ap_more head c (admits (ap_admits 0 (present_below head c))) e (aps_admitted head clients c h few below e)))
    go false e = absent e ∙ (is ∙ ap (ap_admits 0) (sym (present_not head c e)))
