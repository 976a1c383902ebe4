-- Whom an event frees: from what the code asks of a board to what is said of its journal.
use Rattle.std.proofs.Common.{◌≡◌, ℕ, ◌<◌, Bool, true, false, not, ◌&&◌, ◌||◌, eqb, ltb, is_some, Option, Some, None, List, [], ◌∷◌, ◌++◌, refl, ap, sym, ◌∙◌, subst, inl, inr, ◌⊎◌, ⊎_elim, arith}
use Rattle.std.specs.Prelude.{option_map, IfSome, IfNone, IsTrue, ◌↔◌}
use Rattle.std.proofs.lemmas.Bool.{true≢false, false≢true, eq-eqb, eqb-true, ltb-true, ltb-false}
use Rattle.hp_states.proofs.Basics.{same_some}
use Rattle.hp_event.specs.declared.event.Event.{Event}
use Rattle.hp_event.specs.declared.event.Event.TheVariants.{Armed, Call}
use Rattle.hp_event.specs.declared.head.Head.{Head}
use Rattle.hp_event.specs.declared.op.Op.{Op}
use Rattle.hp_model.specs.ApTurn.{IsApTurn}
use Rattle.hp_model.specs.Events.{seat_of}
use Rattle.hp_model.specs.Lawful.{Stands, IsLawful}
use Rattle.hp_model.specs.MapLock.{Operation, operation}
use Rattle.hp_model.specs.Registrations.{Registration, registration}
use Rattle.hp_model.specs.Seats.{ap_seat, is_busy, holds_map, registers}
use Rattle.hp_model.proofs.DueGives.{due_stands}
use Rattle.hp_model.proofs.HeadlineProof.{lawful_front}
use Rattle.hp_account.specs.UnderWay.{IsThreadDue, IsNextThreadDue, NoThreadDueFrom}
use Rattle.hp_board.specs.Contents.{Contents}
use Rattle.hp_board.specs.Loans.{WaitsForThread, WaitsToArm}
use Rattle.hp_board.specs.Turns.{IsNotYet}
use Rattle.hp_board.specs.declared.turn.Turn.{Turn}
use Rattle.hp_board.specs.declared.turn.Turn.TheVariants.{NotYet}
use Rattle.hp_locks.specs.declared.why.Why.{Why}
use Rattle.hp_locks.specs.declared.why.Why.TheVariants.{ApTurn, HookOut}
use Rattle.hp_model.specs.Lent.{arms_walker}
use Rattle.hp_model.specs.Walks.{walk}
use Rattle.hp_model.proofs.NextStands.{next_stands}
use Rattle.hp_board.proofs.AskAgain.{allowed_after}
use Rattle.hp_board.proofs.Busy.{others_keep}
use Rattle.hp_machine.specs.Clients.{clients}
use Rattle.hp_live.specs.declared.freed.Freed.{Freed}
use Rattle.hp_live.specs.Freed.{BringsDue, EndsWait, Frees, IsLowestDue, MakesDue, IsHookAway, NeedsThread, Waits, WaitsForHook, WaitsForNone, gives_back, moves}
use Rattle.hp_live.proofs.Others.{lawful_rest}
use Rattle.hp_live.proofs.ThreadsDue.{IsAllDue, thread_freed, thread_on, threads_entry}
use Rattle.hp_live.proofs.Waiting.{idle_waits, thread_waits}

-- the last event of a lawful journal stood when it came
pub stood : (head : Head) (xs : List Event) (e : Event) → IsLawful head (xs ++ e ∷ []) → Stands head xs e
stood head xs e lawful = (lawful_rest head xs (e ∷ []) lawful).0

-- ---- clients

pub first_freed : (head : Head) (xs : List Event) (e : Event) (k : ℕ) (op : Op) → IsLawful head (xs ++ e ∷ []) →
    EndsWait head xs e k op → is_busy k xs ≡ false → gives_back e ≡ true
first_freed head xs e k op lawful w idle = go (gives_back e) refl
  where
    stands : Stands head xs e
    stands = stood head xs e lawful

    go : (b : Bool) → gives_back e ≡ b → b ≡ true
    go true g = refl
    go false g =
        absurd (w.ends (idle_waits head xs e k op (lawful_front head xs (e ∷ []) lawful) stands g w.other w.allowed
        (allowed_after head xs e (record { seat = k; op = op }) w.other w.allowed) idle
        (others_keep head xs e k stands w.other ∙ idle) w.waits))

busy_holds : (xs : List Event) (k : ℕ) → is_busy k xs ≡ true →
    (option_map (λ (o : Operation). o.seat) (operation xs) ≡ Some k) ⊎ (option_map (λ (r : Registration). r.seat) (registration xs) ≡ Some k)
busy_holds xs k busy = go (operation xs) (registration xs) busy
  where
    reg : (r : Option Registration) → registers k r ≡ true → option_map (λ (r : Registration). r.seat) r ≡ Some k
    reg None h = absurd (false≢true h)
    reg (Some r) h = ap Some (eqb-true r.seat k h)

    go : (o : Option Operation) (r : Option Registration) → (holds_map k o || registers k r) ≡ true →
        (option_map (λ (o : Operation). o.seat) o ≡ Some k) ⊎ (option_map (λ (r : Registration). r.seat) r ≡ Some k)
    go None r h = inr (reg r h)
    go (Some o) r h = at (eqb o.seat k) refl h
      where
        at : (b : Bool) → eqb o.seat k ≡ b → (b || registers k r) ≡ true →
            (Some o.seat ≡ Some k) ⊎ (option_map (λ (r : Registration). r.seat) r ≡ Some k)
        at true q h = inl (ap Some (eqb-true o.seat k q))
        at false q h = inr (reg r h)

-- the seat of an operation in flight whose wait ends
pub in_flight_freed : (head : Head) (xs : List Event) (e : Event) (k : ℕ) (op : Op) (holder registrar : Option ℕ) (h r : Bool) →
    IsLawful head (xs ++ e ∷ []) → EndsWait head xs e k op → is_busy k xs ≡ true →
    holder ≡ option_map (λ (o : Operation). o.seat) (operation (xs ++ e ∷ [])) →
    registrar ≡ option_map (λ (r : Registration). r.seat) (registration (xs ++ e ∷ [])) →
    ((seat : ℕ) → WaitsForNone head (xs ++ e ∷ []) (seat_of e) holder seat → h ≡ true) →
    ((seat : ℕ) → WaitsForNone head (xs ++ e ∷ []) (seat_of e) registrar seat → r ≡ true) → (h || r) ≡ true
in_flight_freed head xs e k op holder registrar h r lawful w busy a b by_holder by_registrar =
    ⊎_elim (λ q. one (by_holder k (none holder (a ∙ q)))) (λ q. other h (by_registrar k (none registrar (b ∙ q))))
    (busy_holds (xs ++ e ∷ []) k (others_keep head xs e k stands w.other ∙ busy))
  where
    stands : Stands head xs e
    stands = stood head xs e lawful

    none : (o : Option ℕ) → o ≡ Some k → WaitsForNone head (xs ++ e ∷ []) (seat_of e) o k
    none o is =
        record {
          holds = is;
          other = w.other;
          no_thread = λ cpu t.
              w.ends (thread_waits head (xs ++ e ∷ []) k cpu op lawful
              (allowed_after head xs e (record { seat = k; op = op }) w.other w.allowed) t);
        }

    one : h ≡ true → (h || r) ≡ true
    one q = rw q refl

    other : (c : Bool) → r ≡ true → (c || r) ≡ true
    other true q = refl
    other false q = q

pub waits_none : (head : Head) (ys : List Event) (by : ℕ) (holder : Option ℕ) (seat : ℕ) (waits : Bool) → holder ≡ Some seat →
    (waits ≡ true → NeedsThread head ys seat) → (k : ℕ) → WaitsForNone head ys by holder k → not waits ≡ true
waits_none head ys by holder seat false is needs k w = refl
waits_none head ys by holder seat true is needs k w =
    let n = needs refl in
    absurd (w.no_thread n.0 (subst (λ z. IsApTurn head ys z n.0) (same_some seat k (sym is ∙ w.holds)) n.1))

pub all_left : (had : Bool) (n m : ℕ) → n ≡ m → had ≡ true → m ≡ 0 → (had && eqb n 0) ≡ true
all_left true n m e h z = eq-eqb n 0 (e ∙ z)
all_left false n m e h z = absurd (false≢true h)

-- ---- threads

is_due : (head : Head) (xs : List Event) (e : Event) (c k : ℕ) (x : Event) → IsLawful head (xs ++ e ∷ []) →
    MakesDue head xs e c k x → (c < head.possible) × IsThreadDue head (xs ++ e ∷ []) c k
is_due head xs e c k x lawful m =
    let on = thread_on head xs e c k (stood head xs e lawful).0 m.other m.thread in
    let t = threads_entry head (xs ++ e ∷ []) c k x lawful on m.due in
    (t.below, record { thread_is = on; due = record { entry = x; due = m.due; cpu_is = t.on } })

freed_by : (head : Head) (xs : List Event) (e : Event) (c k : ℕ) (x : Event) → IsLawful head (xs ++ e ∷ []) → MakesDue head xs e c k x →
    ((registration (xs ++ e ∷ []) ≡ None) × (moves c e ≡ true)) ⊎ IsAllDue head (xs ++ e ∷ []) x
freed_by head xs e c k x lawful m =
    thread_freed head xs e c k x (lawful_front head xs (e ∷ []) lawful) (stood head xs e lawful) m.other m.thread m.idle m.due

-- in a registration it is the lowest of those that are due
pub due_registering : (head : Head) (ys : List Event) (e : Event) (found : Option ℕ) → IsLawful head ys →
    is_some (option_map (λ (r : Registration). r.seat) (registration ys)) ≡ true → IsLowestDue head ys found → BringsDue head ys e found
due_registering head ys e found lawful registers lowest xs c k x is m =
    whole (subst (IsLawful head) is lawful)
    (subst (λ (w : List Event). is_some (option_map (λ (r : Registration). r.seat) (registration w)) ≡ true) is registers)
    (subst (λ (w : List Event). IsLowestDue head w found) is lowest)
  where
    whole : (IsLawful head (xs ++ e ∷ [])) → is_some (option_map (λ (r : Registration). r.seat) (registration (xs ++ e ∷ []))) ≡ true →
        IsLowestDue head (xs ++ e ∷ []) found → found ≡ Some k
    whole l r low = go (freed_by head xs e c k x l m) found low
      where
        d : (c < head.possible) × IsThreadDue head (xs ++ e ∷ []) c k
        d = is_due head xs e c k x l m

        go : ((registration (xs ++ e ∷ []) ≡ None) × (moves c e ≡ true)) ⊎ IsAllDue head (xs ++ e ∷ []) x → (f : Option ℕ) →
            IsLowestDue head (xs ++ e ∷ []) f → f ≡ Some k
        go (inl p) f low = absurd (true≢false (sym r ∙ ap (λ o. is_some (option_map (λ (r : Registration). r.seat) o)) p.0))
        go (inr all) None low = absurd (low c k (omega arith) d.0 d.1)
        go (inr all) (Some j) low =
            let s = low.1.1.due in
            let same = all.alone j s.entry s.due in
            let his = (due_stands head (xs ++ e ∷ []) j s.entry s.due).2 in
            let mine = (due_stands head (xs ++ e ∷ []) k x m.due).2 in
            ap Some (sym his ∙ (ap seat_of same ∙ mine))

-- that of a processor is found from the processor on
pub thread_at : (head : Head) (ys : List Event) (on : ℕ) (found : Option (ℕ × ℕ)) → IfSome found (IsNextThreadDue head ys on) →
    IfNone found (NoThreadDueFrom head ys on) → (k : ℕ) → on < head.possible → IsThreadDue head ys on k →
    (p : ℕ × ℕ) × (found ≡ Some p) × (p.0 ≡ on) × (p.1 ≡ k)
thread_at head ys on found some none k below due = go found some none
  where
    go : (f : Option (ℕ × ℕ)) → IfSome f (IsNextThreadDue head ys on) → IfNone f (NoThreadDueFrom head ys on) →
        (p : ℕ × ℕ) × (f ≡ Some p) × (p.0 ≡ on) × (p.1 ≡ k)
    go None some none = absurd (none on k (omega arith) below due)
    go (Some p) some none = which (ltb on p.0) refl
      where
        which : (b : Bool) → ltb on p.0 ≡ b → (q : ℕ × ℕ) × (Some p ≡ Some q) × (q.0 ≡ on) × (q.1 ≡ k)
        which true q = let l = ltb-true on p.0 q in absurd (some.2 on k (omega arith) l due)
        which false q =
            let l = ltb-false on p.0 q in
            let from = some.0 in
            let same : p.0 ≡ on = omega (arith, l, from) in
            (p, refl, same, same_some p.1 k (sym some.1.thread_is ∙ (ap (λ z. ap_seat z ys) same ∙ due.thread_is)))

-- the event began its walk, or went on with it
moved : (head : Head) (xs : List Event) (e : Event) (c k : ℕ) (x : Event) → IsLawful head (xs ++ e ∷ []) → MakesDue head xs e c k x →
    is_some (option_map (λ (r : Registration). r.seat) (registration (xs ++ e ∷ []))) ≡ false → moves c e ≡ true
moved head xs e c k x lawful m no_registration = go (freed_by head xs e c k x lawful m)
  where
    go : ((registration (xs ++ e ∷ []) ≡ None) × (moves c e ≡ true)) ⊎ IsAllDue head (xs ++ e ∷ []) x → moves c e ≡ true
    go (inl p) = p.1
    go (inr all) =
        absurd (true≢false (sym (ap (λ o. is_some (option_map (λ (r : Registration). r.seat) o)) all.in_flight) ∙ no_registration))

-- and what is due from it is found there
pub due_walking : (head : Head) (ys : List Event) (e : Event) (on : Option ℕ) → IsLawful head ys →
    option_map (λ (r : Registration). r.seat) (registration ys) ≡ None → ((c : ℕ) → moves c e ≡ true → on ≡ Some c) →
    (xs : List Event) (c k : ℕ) (x : Event) → ys ≡ xs ++ e ∷ [] → MakesDue head xs e c k x →
    (on ≡ Some c) × (c < head.possible) × IsThreadDue head ys c k
due_walking head ys e on lawful none found xs c k x is m =
    let l = subst (IsLawful head) is lawful in
    let d = is_due head xs e c k x l m in (
      found c
          (moved head xs e c k x l m
          (subst (λ (w : List Event). is_some (option_map (λ (r : Registration). r.seat) (registration w)) ≡ false) is (ap is_some none))),
      d.0,
      subst (λ (w : List Event). IsThreadDue head w c k) (sym is) d.1,
    )

-- ---- all that is answered

-- what the code says by the board after the event
pub record Says (head : Head) (ys : List Event) (e : Event) (had : Bool) (freed : Freed) : Type 0 where
  pub lawful : IsLawful head ys
  pub holder : Option ℕ
  pub registrar : Option ℕ
  pub h : Bool
  pub r : Bool
  pub holder_is : holder ≡ option_map (λ (o : Operation). o.seat) (operation ys)
  pub registrar_is : registrar ≡ option_map (λ (r : Registration). r.seat) (registration ys)
  pub by_holder : (seat : ℕ) → WaitsForNone head ys (seat_of e) holder seat → h ≡ true
  pub by_registrar : (seat : ℕ) → WaitsForNone head ys (seat_of e) registrar seat → r ≡ true
  pub first_is : freed.first ≡ gives_back e
  pub in_flight_is : freed.in_flight ≡ (h || r)
  pub thread_is : BringsDue head ys e freed.thread
  pub threads_is : had ≡ true → clients ys ≡ 0 → freed.threads ≡ true

frees_at : (head : Head) (xs : List Event) (e : Event) (had : Bool) (freed : Freed) → Says head (xs ++ e ∷ []) e had freed →
    Frees head xs e had freed
frees_at head xs e had freed s =
    record {
      first = λ k op w idle. s.first_is ∙ first_freed head xs e k op s.lawful w idle;
      in_flight = λ k op w busy.
          s.in_flight_is
          ∙ in_flight_freed head xs e k op s.holder s.registrar s.h s.r s.lawful w busy s.holder_is s.registrar_is s.by_holder
          s.by_registrar;
      thread = λ c k x m. s.thread_is xs c k x refl m;
      threads = s.threads_is;
    }

pub frees : (head : Head) (ys : List Event) (e : Event) (had : Bool) (freed : Freed) → Says head ys e had freed →
    (xs : List Event) → ys ≡ xs ++ e ∷ [] → Frees head xs e had freed
frees head ys e had freed s xs is = frees_at head xs e had freed (subst (λ (w : List Event). Says head w e had freed) is s)

-- ---- who waits for a hook

-- who is told to wait waits for what the journal says, or for a hook to come home before it arms
kept_or_arms : (b : Contents) (k : ℕ) (op : Op) (why : Why) → IsNotYet k op b why →
    Waits b.head b.events k op ⊎ ((s : ℕ) × (why ≡ HookOut s) × WaitsToArm b s k op)
kept_or_arms b k op (HookOut s) h =
    ⊎_elim (λ (w : WaitsForThread b s k op). inl (record { no_event = w.kept.no_event; not_full = w.kept.not_full }))
    (λ (w : WaitsToArm b s k op). inr (s, refl, w)) h
kept_or_arms b k op (ApTurn cpu) h = inl (record { no_event = h.0.no_event; not_full = h.0.not_full })
kept_or_arms b k op why h = inl (record { no_event = h.no_event; not_full = h.not_full })

-- who would arm has nothing in flight
arms_idle : (b : Contents) (k : ℕ) (op : Op) (s : ℕ) → WaitsToArm b s k op → is_busy k b.events ≡ false
arms_idle b k op s w = go w.event w.arms (next_stands b.head b.events k op w.event w.next_is)
  where
    never : (x : Bool) → (x && false) ≡ true → ⊥
    never true h = false≢true h
    never false h = false≢true h

    go : (e : Event) → arms_walker b.events (Call w.out.seat w.out.cpu s w.out.inst w.out.dir w.out.how) e ≡ true →
        Stands b.head b.events e × (seat_of e ≡ k) → is_busy k b.events ≡ false
    go (Armed seat cpu value) h p = subst (λ z. is_busy z b.events ≡ false) p.1 p.0.0.free.idle
    go e h p = absurd (never (is_some (walk w.out.cpu b.events)) h)

pub waits_or_noted : (b : Contents) (k : ℕ) (op : Op) (why : Why) (turn : Turn) (noted : Bool) → IsNotYet k op b why →
    turn ≡ NotYet why → (WaitsForHook b.events k turn → noted ≡ true) → noted ≡ false → Waits b.head b.events k op
waits_or_noted b k op why turn noted h is notes none = go (kept_or_arms b k op why h)
  where
    go : Waits b.head b.events k op ⊎ ((s : ℕ) × (why ≡ HookOut s) × WaitsToArm b s k op) → Waits b.head b.events k op
    go (inl w) = w
    go (inr (s, q, w)) = absurd (true≢false (sym (notes ((s, is ∙ ap NotYet q), arms_idle b k op s w)) ∙ none))

pub noted_exactly : (away busy : Bool) (events : List Event) (k : ℕ) (turn : Turn) → IsTrue away ↔ IsHookAway turn →
    busy ≡ is_busy k events → IsTrue (away && not busy) ↔ WaitsForHook events k turn
noted_exactly away busy events k turn is same = (to away busy is same, from away busy is same)
  where
    to : (a b : Bool) → IsTrue a ↔ IsHookAway turn → b ≡ is_busy k events → IsTrue (a && not b) → WaitsForHook events k turn
    to true false is same h = (is.0 refl, sym same)
    to true true is same h = absurd (false≢true h)
    to false b is same h = absurd (false≢true h)

    from : (a b : Bool) → IsTrue a ↔ IsHookAway turn → b ≡ is_busy k events → WaitsForHook events k turn → IsTrue (a && not b)
    from a b is same w = rw (is.1 w.0, same ∙ w.1) refl
