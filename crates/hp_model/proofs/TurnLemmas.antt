-- Whose turn it is in an upmany: one walk of those in which its seat has an event, where it has one.
use Rattle.std.proofs.Common.{◌≡◌, ℕ, ◌+◌, ◌<◌, Bool, true, false, ◌&&◌, cond, eqb, ltb, is_some, is_none, Option, Some, None, List, [], ◌∷◌, refl, ap, sym, ◌∙◌, inl, inr, ◌⊎◌, subst, arith}
use Rattle.std.proofs.lemmas.Bool.{true≢false, false≢true, eqb-true, eq-eqb, and_parts}
use Rattle.hp_event.specs.declared.head.Head.{Head}
use Rattle.hp_event.specs.declared.event.Event.{Event}
use Rattle.hp_event.specs.declared.event.Event.TheVariants.{Call, WalkEnd}
use Rattle.std.specs.Prelude.{find}
use Rattle.hp_states.proofs.Basics.{none_some, same_some, and_false}
use Rattle.hp_model.specs.Lists.{is_empty, occurs, among, numbers}
use Rattle.hp_model.specs.Events.{seat_of}
use Rattle.hp_model.specs.Walks.{Walk, walk, walking, is_walking}
use Rattle.hp_model.specs.Seats.{ap_seat}
use Rattle.hp_model.specs.MapLock.{Operation, operation}
use Rattle.hp_model.specs.Batch.{is_upmany, batch, unbegun, to_begin}
use Rattle.hp_model.specs.NextInWalk.{next_of_walk}
use Rattle.hp_model.specs.BatchTurn.{last_event, is_by, own_walks, earlier, earliest, if_empty, turn_of, is_it, brings_up, has_turn, lowest_walking}
use Rattle.hp_model.specs.ApTurn.{is_held_up}
use Rattle.hp_model.proofs.ListLemmas.{occurs-numbers, in_filter, into_filter, occurs_among, once_in}
use Rattle.hp_model.proofs.InFlight.{walking_is, walk_none}
use Rattle.hp_model.proofs.BatchLemmas.{upmany_moves}
use Rattle.hp_model.proofs.Passing.{find_holds}
use Rattle.hp_model.proofs.Owners.{Owners, alone_at}
use Rattle.hp_model.proofs.Stages.{WalkEvent, Between, OnWalk, ap_no_client}

-- a processor's thread and an operation that isn't an upmany have every turn
pub thread_turn : (head : Head) (xs : List Event) (c d k : ℕ) → Owners xs → ap_seat c xs ≡ Some k → has_turn head xs k d ≡ true
thread_turn head xs c d k o a = ap (λ b. cond b (is_it d (turn_of head xs k)) true) (brings (operation xs) refl)
  where
    is : (p : Operation) → operation xs ≡ Some p → (b : Bool) → eqb p.seat k ≡ b → (b && is_upmany p.op) ≡ false
    is p e true s = absurd (ap_no_client xs c k o a (rw (eqb-true p.seat k s) at (o.op_client p e)))
    is p e false s = refl

    brings : (v : Option Operation) → operation xs ≡ v → brings_up k v ≡ false
    brings None e = refl
    brings (Some p) e = is p e (eqb p.seat k) refl

pub single_brings : (xs : List Event) (o : Operation) (k : ℕ) → operation xs ≡ Some o → is_upmany o.op ≡ false →
    brings_up k (operation xs) ≡ false
single_brings xs o k at u = rw (at, u) (and_false (eqb o.seat k))

pub single_held_up : (head : Head) (xs : List Event) (k c : ℕ) → brings_up k (operation xs) ≡ false → is_held_up head xs k c ≡ true
single_held_up head xs k c h =
    ap (λ b. cond b ((is_empty (to_begin head xs) && is_none (turn_of head xs k)) && is_it c (lowest_walking head xs)) true) h

pub single_turn : (head : Head) (xs : List Event) (o : Operation) (k c : ℕ) → operation xs ≡ Some o → is_upmany o.op ≡ false →
    has_turn head xs k c ≡ true
single_turn head xs o k c at u =
    ap (λ b. cond b (is_it c (turn_of head xs k)) true) (single_brings xs o k at u)

-- the seat of an upmany has the turn of one processor
pub seat_brings : (xs : List Event) (o : Operation) (k : ℕ) → operation xs ≡ Some o → o.seat ≡ k → is_upmany o.op ≡ true →
    brings_up k (operation xs) ≡ true
seat_brings xs o k at s u = let e = eq-eqb o.seat k s in rw (at, e, u) refl

is_some_it : (c : ℕ) (v : Option ℕ) → is_it c v ≡ true → v ≡ Some c
is_some_it c None h = absurd (false≢true h)
is_some_it c (Some d) h = ap Some (eqb-true d c h)

pub turn_is : (head : Head) (xs : List Event) (o : Operation) (k c : ℕ) → operation xs ≡ Some o → o.seat ≡ k → is_upmany o.op ≡ true →
    has_turn head xs k c ≡ true → turn_of head xs k ≡ Some c
turn_is head xs o k c at s u h =
    let b = seat_brings xs o k at s u in
    is_some_it c (turn_of head xs k) (sym (ap (λ z. cond z (is_it c (turn_of head xs k)) true) b) ∙ h)

pub is_turn : (head : Head) (xs : List Event) (k c : ℕ) → turn_of head xs k ≡ Some c → has_turn head xs k c ≡ true
is_turn head xs k c h = go (brings_up k (operation xs))
  where
    it : is_it c (turn_of head xs k) ≡ true
    it = ap (is_it c) h ∙ eq-eqb c c refl

    go : (b : Bool) → cond b (is_it c (turn_of head xs k)) true ≡ true
    go true = it
    go false = refl

-- the earliest of some processors is one of them
pub earliest_in : (place : ℕ → ℕ) (cs : List ℕ) (d : ℕ) → earliest place cs ≡ Some d → 0 < occurs d cs
earliest_in place [] d h = absurd (none_some d h)
earliest_in place (c ∷ cs) d h = go (earliest place cs) refl (same_some _ _ h) (λ f e. earliest_in place cs f e)
  where
    mine : c ≡ d → 0 < occurs d (c ∷ cs)
    mine s = subst (λ z. 0 < occurs z (c ∷ cs)) s (once_in c cs)

    theirs : (b : Bool) → 0 < occurs d cs → 0 < cond b 1 0 + occurs d cs
    theirs b h = omega arith

    either : (f : ℕ) (b : Bool) → cond b f c ≡ d → 0 < occurs f cs → 0 < occurs d (c ∷ cs)
    either f true s k = theirs (eqb c d) (subst (λ z. 0 < occurs z cs) s k)
    either f false s k = mine s

    go : (v : Option ℕ) → earliest place cs ≡ v → earlier place c v ≡ d → ((f : ℕ) → earliest place cs ≡ Some f → 0 < occurs f cs) →
        0 < occurs d (c ∷ cs)
    go None e s r = mine s
    go (Some f) e s r = either f (ltb (place f) (place c)) s (r f e)

earliest_is : (place : ℕ → ℕ) (cs : List ℕ) (c : ℕ) → 0 < occurs c cs → (d : ℕ) × (earliest place cs ≡ Some d)
earliest_is place [] c h = absurd (omega arith)
earliest_is place (x ∷ cs) c h = (earlier place x (earliest place cs), refl)

-- the event of the walk whose turn it is
pub record OwnEvent (head : Head) (xs : List Event) (k c : ℕ) : Type 0 where
  pub none_left : to_begin head xs ≡ []
  pub of : Walk
  pub in_flight : walk c xs ≡ Some of
  pub event : Event
  pub gives : next_of_walk head xs c (walk c xs) ≡ Some event
  pub by : seat_of event ≡ k

pub turn_own : (head : Head) (xs : List Event) (k c : ℕ) → turn_of head xs k ≡ Some c → OwnEvent head xs k c
unfolding turn_of
turn_own head xs k c h = left (to_begin head xs) refl h
  where
    made : to_begin head xs ≡ [] → (v : Option Walk) → walk c xs ≡ v → (e : Option Event) → next_of_walk head xs c (walk c xs) ≡ e →
        is_by k e ≡ true → OwnEvent head xs k c
    made n v at None g b = absurd (false≢true b)
    made n None at (Some e) g b = absurd (none_some e (sym (ap (λ z. next_of_walk head xs c z) at) ∙ g))
    made n (Some w) at (Some e) g b =
        record { none_left = n; of = w; in_flight = at; event = e; gives = g; by = eqb-true (seat_of e) k b }

    left : (cs : List ℕ) → to_begin head xs ≡ cs → if_empty cs (earliest (λ c. last_event c xs) (own_walks head xs k)) ≡ Some c → OwnEvent head xs k c
    left (d ∷ ds) n e = absurd (none_some c e)
    left [] n e =
        let i = earliest_in (λ c. last_event c xs) (own_walks head xs k) c e in
        let p = in_filter (λ d. is_by k (next_of_walk head xs d (walk d xs))) c (walking xs) i in
        made n (walk c xs) refl (next_of_walk head xs c (walk c xs)) refl p.0

-- where a walk has an event of the seat, and none is left to begin, it is the turn of one
pub some_turn : (head : Head) (xs : List Event) (k c : ℕ) (w : Walk) (e : Event) → to_begin head xs ≡ [] → walk c xs ≡ Some w →
    next_of_walk head xs c (walk c xs) ≡ Some e → seat_of e ≡ k → (d : ℕ) × (turn_of head xs k ≡ Some d)
unfolding turn_of
some_turn head xs k c w e n at g s =
    let a = occurs_among c (walking xs) (walking_is c xs ∙ ap is_some at) in
    let own : is_by k (next_of_walk head xs c (walk c xs)) ≡ true = ap (is_by k) g ∙ eq-eqb (seat_of e) k s in
    let i = into_filter (λ d. is_by k (next_of_walk head xs d (walk d xs))) c (walking xs) own a in
    let d = earliest_is (λ c. last_event c xs) (own_walks head xs k) c i in
    (d.0, ap (λ z. if_empty z (earliest (λ c. last_event c xs) (own_walks head xs k))) n ∙ d.1)

-- the seat of an upmany that its threads hold up has no walk to begin and no turn
pub held_up_parts : (head : Head) (xs : List Event) (o : Operation) (k c : ℕ) → operation xs ≡ Some o → o.seat ≡ k →
    is_upmany o.op ≡ true → is_held_up head xs k c ≡ true →
    (is_empty (to_begin head xs) ≡ true) × (is_none (turn_of head xs k) ≡ true)
held_up_parts head xs o k c at s u h =
    let b = seat_brings xs o k at s u in
    let p = and_parts (is_empty (to_begin head xs) && is_none (turn_of head xs k)) (is_it c (lowest_walking head xs))
    (sym (ap (λ z. cond z ((is_empty (to_begin head xs) && is_none (turn_of head xs k)) && is_it c (lowest_walking head xs)) true) b) ∙ h) in
    and_parts (is_empty (to_begin head xs)) (is_none (turn_of head xs k)) p.0

pub held_up_is : (head : Head) (xs : List Event) (k c : ℕ) → to_begin head xs ≡ [] → turn_of head xs k ≡ None →
    lowest_walking head xs ≡ Some c → is_held_up head xs k c ≡ true
held_up_is head xs k c n t l = go (brings_up k (operation xs))
  where
    all : ((is_empty (to_begin head xs) && is_none (turn_of head xs k)) && is_it c (lowest_walking head xs)) ≡ true
    all = let e = eq-eqb c c refl in
        ap (λ z. (is_empty z && is_none (turn_of head xs k)) && is_it c (lowest_walking head xs)) n
        ∙ (ap (λ z. is_none z && is_it c (lowest_walking head xs)) t ∙ (ap (λ z. is_it c z) l ∙ e))

    go : (b : Bool) →
        cond b ((is_empty (to_begin head xs) && is_none (turn_of head xs k)) && is_it c (lowest_walking head xs)) true ≡ true
    go true = all
    go false = refl

-- a processor that walks is the lowest or above it
find_some : (p : ℕ → Bool) (c : ℕ) (xs : List ℕ) → p c ≡ true → 0 < occurs c xs → (d : ℕ) × (find p xs ≡ Some d)
find_some p c [] h k = absurd (omega arith)
find_some p c (x ∷ xs) h k = go (p x) refl (eqb x c) refl k (λ n. find_some p c xs h n)
  where
    go : (b : Bool) → p x ≡ b → (s : Bool) → eqb x c ≡ s → 0 < cond s 1 0 + occurs c xs →
        (0 < occurs c xs → (d : ℕ) × (find p xs ≡ Some d)) → (d : ℕ) × (cond b (Some x) (find p xs) ≡ Some d)
    go true e s f k r = (x, refl)
    go false e true f k r = absurd (true≢false (sym h ∙ (ap p (sym (eqb-true x c f)) ∙ e)))
    go false e false f k r = r (omega arith)

pub record Lowest (head : Head) (xs : List Event) : Type 0 where
  pub cpu : ℕ
  pub is : lowest_walking head xs ≡ Some cpu
  pub of : Walk
  pub in_flight : walk cpu xs ≡ Some of

pub lowest_is : (head : Head) (xs : List Event) (c : ℕ) (w : Walk) → walk c xs ≡ Some w → ltb c head.possible ≡ true → Lowest head xs
unfolding lowest_walking
lowest_is head xs c w at below =
    let a : among c (walking xs) ≡ true = walking_is c xs ∙ ap is_some at in
    let there : occurs c (numbers head.possible) ≡ 1 = occurs-numbers c head.possible ∙ rw below refl in
    let d = find_some (λ c. among c (walking xs)) c (numbers head.possible) a (omega arith) in
    let b = find_holds (λ c. among c (walking xs)) d.0 (numbers head.possible) d.1 in
    go d.0 d.1 (walk d.0 xs) refl (sym (walking_is d.0 xs) ∙ b)
  where
    go : (d : ℕ) → find (λ c. among c (walking xs)) (numbers head.possible) ≡ Some d → (v : Option Walk) → walk d xs ≡ v →
        is_some v ≡ true → Lowest head xs
    go d l None e h = absurd (false≢true h)
    go d l (Some v) e h = record { cpu = d; is = l; of = v; in_flight = e }

-- an event of a walk is made in turn
pub event_turn : (head : Head) (xs : List Event) (k c : ℕ) (e : Event) → WalkEvent head xs k c e → has_turn head xs k c ≡ true
event_turn head xs k c (Call seat cpu state inst dir how) h = h.2.turn
event_turn head xs k c (WalkEnd seat cpu answer) h = h.2.turn
event_turn head xs k c e h = elim h [ ]

-- who begins a walk or ends has no event of a walk
pub between_walk : (head : Head) (xs : List Event) (k : ℕ) (e f : Event) → Owners xs → Between head xs k e → OnWalk head xs k f → ⊥
between_walk head xs k e f o h w = go (is_upmany h.of.op) refl
  where
    rest : is_walking xs ≡ false → ⊥
    rest s = none_some w.of (sym (walk_none xs s w.cpu) ∙ w.in_flight)

    left : (c : ℕ) (ds : List ℕ) → is_upmany h.of.op ≡ true → unbegun (batch head h.of.before h.of.op) xs ≡ c ∷ ds →
        (w.of.seat ≡ k) ⊎ (ap_seat w.cpu xs ≡ Some k) → ⊥
    left c ds u n (inr a) = ap_no_client xs w.cpu k o a (rw h.seat_is at (o.op_client h.of h.held))
    left c ds u n (inl s) =
        let t = turn_own head xs k w.cpu (turn_is head xs h.of k w.cpu h.held h.seat_is u (event_turn head xs k w.cpu f w.event_is)) in
        let at = h.held in
        let none = rw at at t.none_left in
        not_left c ds (sym n ∙ none)
      where
        not_left : (c : ℕ) (ds : List ℕ) → c ∷ ds ≡ [] → ⊥
        not_left c ds h = cc

    some : is_upmany h.of.op ≡ true →
        (is_walking xs ≡ false) ⊎ ((c : ℕ) × (ds : List ℕ) × (unbegun (batch head h.of.before h.of.op) xs ≡ c ∷ ds)) → ⊥
    some u (inl s) = rest s
    some u (inr n) = left n.0 n.1 u n.2 w.by

    go : (u : Bool) → is_upmany h.of.op ≡ u → ⊥
    go true u = some u (upmany_moves head xs h.of.before h.of.op u h.moves)
    go false u = rest (alone_at (is_upmany h.of.op) (is_walking xs) h.between u)
