-- Whose everything in flight is: an operation and a registration are of clients that are in, an AP seat is of its
-- processor, and a walk is of the operation that holds the map lock, alone but in an upmany.
use Rattle.std.proofs.Common.{◌≡◌, ℕ, ◌+◌, ◌<◌, Bool, true, false, not, ◌&&◌, ◌||◌, cond, eqb, is_some, Option, Some, None, List, [], ◌∷◌, ◌++◌, refl, ap, sym, ◌∙◌, inl, inr, arith}
use Rattle.std.proofs.lemmas.Bool.{true≢false, eqb-true, eq-eqb, or_parts}
use Rattle.hp_states.proofs.Basics.{none_of, unequal_turned, none_some, not_equal, same_some}
use Rattle.hp_event.specs.declared.op.Op.{Op}
use Rattle.hp_event.specs.declared.answer.Answer.{Answer}
use Rattle.hp_event.specs.declared.event.Role.{Role}
use Rattle.hp_event.specs.declared.event.Role.TheVariants.{Client, Ap}
use Rattle.hp_event.specs.declared.head.Head.{Head}
use Rattle.hp_event.specs.declared.event.Event.{Event}
use Rattle.hp_event.specs.declared.event.Event.TheVariants.{Admit, Leave, Enter, WalkBegin, WalkEnd, OpEnd, RegBegin, RegEnd, ReadLock, ReadUnlock}
use Rattle.hp_model.specs.Lists.{is_empty, among, without}
use Rattle.hp_model.specs.Walks.{Walk, walk, walking, is_walking}
use Rattle.hp_model.specs.Registrations.{Registration, registration, is_registering}
use Rattle.hp_model.specs.Settled.{settled, left_at}
use Rattle.hp_model.specs.Readers.{readers, is_read}
use Rattle.hp_model.specs.Suspend.{held_by}
use Rattle.hp_model.specs.Batch.{begun, is_upmany, is_batch_begun}
use Rattle.hp_model.specs.Room.{has_room}
use Rattle.hp_model.specs.MapLock.{Operation, operation, is_map_op}
use Rattle.hp_model.specs.Seats.{admits, role_of, ap_seat, unseated, holds_map, registers, is_busy}
use Rattle.hp_model.specs.Waits.{is_waiting, wait_for_map, wait_for_registration}
use Rattle.hp_model.proofs.WaitLemmas.{first_among, map_waits, writer_waits, first_waits, walks_alone}
use Rattle.hp_model.specs.StandsSeats.{Admits}
use Rattle.hp_model.specs.StandsOperations.{Enters, WalkBegins, OpEnds}
use Rattle.hp_model.specs.Lawful.{Comes}
use Rattle.hp_model.proofs.Laws.{walk_push, begun_push, settled_push, registration_push, readers_push, operation_push, role_push, admits_push, ap_push}
use Rattle.hp_model.proofs.InFlight.{empty_of, walking_is, walk_none}
use Rattle.hp_model.proofs.ListLemmas.{among_more, among_last}
use Rattle.hp_model.proofs.Passing.{begins_no_batch}

pub record Owners (xs : List Event) : Type 0 where
  pub seats_below : (k : ℕ) (role : Role) → role_of k xs ≡ Some role → k < admits xs
  pub ap_role : (c k : ℕ) → ap_seat c xs ≡ Some k → role_of k xs ≡ Some (Ap c)
  pub op_client : (o : Operation) → operation xs ≡ Some o → role_of o.seat xs ≡ Some Client
  pub reg_client : (r : Registration) → registration xs ≡ Some r → role_of r.seat xs ≡ Some Client
  pub apart : (o : Operation) (r : Registration) → operation xs ≡ Some o → registration xs ≡ Some r → o.seat ≡ r.seat → ⊥
  pub walk_op : (c : ℕ) (w : Walk) → walk c xs ≡ Some w → (o : Operation) × (operation xs ≡ Some o) × (o.seat ≡ w.seat)
  pub walk_begun : (c : ℕ) (w : Walk) → walk c xs ≡ Some w → among c (begun xs) ≡ true
  pub one_walk : (c d : ℕ) (w v : Walk) → walk c xs ≡ Some w → walk d xs ≡ Some v →
      held_by is_upmany (operation xs) ≡ false → c ≡ d
  pub settled_since : (c : ℕ) (o : Operation) → operation xs ≡ Some o → among c (begun xs) ≡ false → settled c xs ≡ settled c o.before
  pub batch_alone : is_batch_begun xs ≡ true → (is_read xs ≡ false) × (is_registering xs ≡ false)

-- a seat that isn't busy holds nothing
pub idle_op : (xs : List Event) (k : ℕ) (o : Operation) → is_busy k xs ≡ false → operation xs ≡ Some o → eqb o.seat k ≡ false
idle_op xs k o h e =
    let p = (or_parts (holds_map k (operation xs)) (registers k (registration xs)) h).0 in rw e at p

pub idle_reg : (xs : List Event) (k : ℕ) (r : Registration) → is_busy k xs ≡ false → registration xs ≡ Some r →
    eqb r.seat k ≡ false
idle_reg xs k r h e =
    let p = (or_parts (holds_map k (operation xs)) (registers k (registration xs)) h).1 in rw e at p

free_map : (xs : List Event) → is_some (wait_for_map (operation xs)) ≡ false → operation xs ≡ None
free_map xs h = none_of (operation xs) (sym (map_waits (operation xs)) ∙ h)

-- an operation of the map lock that waits for nothing finds it free
pub map_free : (xs : List Event) (op : Op) → is_map_op op ≡ true → is_waiting xs op ≡ false → operation xs ≡ None
map_free xs (Op.Up c) m h = free_map xs h
map_free xs (Op.Down c) m h = free_map xs h
map_free xs (Op.Target c v) m h =
    free_map xs (or_parts (is_some (wait_for_map (operation xs))) (is_some (wait_for_registration (registration xs)))
    (sym (first_waits (wait_for_map (operation xs)) (wait_for_registration (registration xs))) ∙ h)).0
map_free xs (Op.Boot n) m h = free_map xs h
map_free xs Op.Disable m h = free_map xs h
map_free xs Op.Enable m h = free_map xs h
map_free xs (Op.Freeze p) m h = free_map xs h
map_free xs Op.Thaw m h = free_map xs h
map_free xs (Op.UpMany set) m h = free_map xs h
map_free xs op m h = absurd (true≢false (sym m))

-- the roles of those that were in stay
admitted : (head : Head) (xs : List Event) (seat : ℕ) (role : Role) → Admits head xs seat role → (k : ℕ) (r : Role) →
    k < admits xs → role_of k xs ≡ Some r → role_of k (xs ++ Admit seat role ∷ []) ≡ Some r
admitted head xs seat role h k r below q = rw (role_push k xs (Admit seat role)) (go (eqb seat k) refl)
  where
    go : (b : Bool) → eqb seat k ≡ b → cond b (Some role) (role_of k xs) ≡ Some r
    go true e = let s = eqb-true seat k e in let a = h.seat_is in absurd (omega arith)
    go false e = q

left : (xs : List Event) (seat k : ℕ) (r : Role) → eqb seat k ≡ false → role_of k xs ≡ Some r →
    role_of k (xs ++ Leave seat ∷ []) ≡ Some r
left xs seat k r e q = rw (role_push k xs (Leave seat), e) q

seats_below_step : (head : Head) (xs : List Event) (e : Event) → Comes head xs e → Owners xs →
    (k : ℕ) (role : Role) → role_of k (xs ++ e ∷ []) ≡ Some role → k < admits (xs ++ e ∷ [])
seats_below_step head xs (Admit seat role) h o =
    λ k r q. rw (admits_push xs (Admit seat role)) (go k r (eqb seat k) refl (rw (role_push k xs (Admit seat role)) at q))
  where
    go : (k : ℕ) (r : Role) (b : Bool) → eqb seat k ≡ b → cond b (Some role) (role_of k xs) ≡ Some r → k < admits xs + 1
    go k r true e q = let s = eqb-true seat k e in let a = h.seat_is in omega arith
    go k r false e q = let b = o.seats_below k r q in omega arith
seats_below_step head xs (Leave seat) h o =
    λ k r q. rw (admits_push xs (Leave seat)) (go k r (eqb seat k) (rw (role_push k xs (Leave seat)) at q))
  where
    go : (k : ℕ) (r : Role) (b : Bool) → cond b None (role_of k xs) ≡ Some r → k < admits xs
    go k r true q = absurd (none_some r q)
    go k r false q = o.seats_below k r q
seats_below_step head xs e h o =
    λ k r q. rw (admits_push xs e) (o.seats_below k r (rw (role_push k xs e) at q))

unseated_some : (seat : ℕ) (o : Option ℕ) (k : ℕ) → unseated seat o ≡ Some k → (o ≡ Some k) × (eqb k seat ≡ false)
unseated_some seat None k h = absurd (none_some k h)
unseated_some seat (Some j) k h = go (eqb j seat) refl h
  where
    go : (b : Bool) → eqb j seat ≡ b → cond b None (Some j) ≡ Some k → (Some j ≡ Some k) × (eqb k seat ≡ false)
    go true e h = absurd (none_some k h)
    go false e h = (h, rw (same_some j k h) at e)

ap_role_step : (head : Head) (xs : List Event) (e : Event) → Comes head xs e → Owners xs →
    (c k : ℕ) → ap_seat c (xs ++ e ∷ []) ≡ Some k → role_of k (xs ++ e ∷ []) ≡ Some (Ap c)
ap_role_step head xs (Admit seat Client) h o =
    λ c k q.
    let r = o.ap_role c k (rw (ap_push c xs (Admit seat Client)) at q) in
    admitted head xs seat Client h k (Ap c) (o.seats_below k (Ap c) r) r
ap_role_step head xs (Admit seat (Ap cpu)) h o =
    λ c k q. go c k (eqb cpu c) refl (rw (ap_push c xs (Admit seat (Ap cpu))) at q)
  where
    go : (c k : ℕ) (b : Bool) → eqb cpu c ≡ b → cond b (Some seat) (ap_seat c xs) ≡ Some k →
        role_of k (xs ++ Admit seat (Ap cpu) ∷ []) ≡ Some (Ap c)
    go c k true e q =
        let self = eq-eqb seat k (same_some seat k q) in
        rw (role_push k xs (Admit seat (Ap cpu)), self, eqb-true cpu c e) refl
    go c k false e q =
        let r = o.ap_role c k q in admitted head xs seat (Ap cpu) h k (Ap c) (o.seats_below k (Ap c) r) r
ap_role_step head xs (Leave seat) h o =
    λ c k q.
    let u = unseated_some seat (ap_seat c xs) k (rw (ap_push c xs (Leave seat)) at q) in
    left xs seat k (Ap c) (unequal_turned k seat u.1) (o.ap_role c k u.0)
ap_role_step head xs e h o =
    λ c k q. rw (role_push k xs e) (o.ap_role c k (rw (ap_push c xs e) at q))

-- a client that isn't idle stays in
client_stays : (head : Head) (xs : List Event) (e : Event) (k : ℕ) → Comes head xs e → Owners xs → role_of k xs ≡ Some Client →
    ((seat : ℕ) → is_busy seat xs ≡ false → eqb k seat ≡ false) → role_of k (xs ++ e ∷ []) ≡ Some Client
client_stays head xs (Admit seat role) k h o r apart = admitted head xs seat role h k Client (o.seats_below k Client r) r
client_stays head xs (Leave seat) k h o r apart = left xs seat k Client (unequal_turned k seat (apart seat h.idle)) r
client_stays head xs e k h o r apart = role_push k xs e ∙ r

op_client_step : (head : Head) (xs : List Event) (e : Event) → Comes head xs e → Owners xs →
    (a : Operation) → operation (xs ++ e ∷ []) ≡ Some a → role_of a.seat (xs ++ e ∷ []) ≡ Some Client
op_client_step head xs (Enter seat op) h o =
    λ a q.
    let n : Operation = record { seat = seat; op = op; before = xs } in
    let s : n ≡ a = same_some n a (rw (operation_push xs (Enter seat op)) at q) in
    rw (← s, role_push seat xs (Enter seat op)) h.free.client
op_client_step head xs (OpEnd seat answer) h o =
    λ a q. absurd (none_some a (rw (operation_push xs (OpEnd seat answer)) at q))
op_client_step head xs e h o =
    λ a q.
    let q1 = rw (operation_push xs e) at q in client_stays head xs e a.seat h o (o.op_client a q1) (λ k i. idle_op xs k a i q1)

reg_client_step : (head : Head) (xs : List Event) (e : Event) → Comes head xs e → Owners xs →
    (r : Registration) → registration (xs ++ e ∷ []) ≡ Some r → role_of r.seat (xs ++ e ∷ []) ≡ Some Client
reg_client_step head xs (RegBegin seat state op) h o =
    λ a q.
    let n : Registration = record { seat = seat; state = state; op = op; before = xs } in
    let s : n ≡ a = same_some n a (rw (registration_push xs (RegBegin seat state op)) at q) in
    rw (← s, role_push seat xs (RegBegin seat state op)) h.free.client
reg_client_step head xs (RegEnd seat answer) h o =
    λ a q. absurd (none_some a (rw (registration_push xs (RegEnd seat answer)) at q))
reg_client_step head xs e h o =
    λ a q.
    let q1 = rw (registration_push xs e) at q in client_stays head xs e a.seat h o (o.reg_client a q1) (λ k i. idle_reg xs k a i q1)

apart_step : (head : Head) (xs : List Event) (e : Event) → Comes head xs e → Owners xs →
    (a : Operation) (r : Registration) → operation (xs ++ e ∷ []) ≡ Some a → registration (xs ++ e ∷ []) ≡ Some r →
    a.seat ≡ r.seat → ⊥
apart_step head xs (Enter seat op) h o =
    λ a r q p s.
    let n : Operation = record { seat = seat; op = op; before = xs } in
    let same : n ≡ a = same_some n a (rw (operation_push xs (Enter seat op)) at q) in
    let is : seat ≡ a.seat = ap (λ z. z.seat) same in
    not_equal r.seat seat (idle_reg xs seat r h.free.idle (rw (registration_push xs (Enter seat op)) at p)) (sym s ∙ sym is)
apart_step head xs (OpEnd seat answer) h o =
    λ a r q p s. none_some a (rw (operation_push xs (OpEnd seat answer)) at q)
apart_step head xs (RegBegin seat state op) h o =
    λ a r q p s.
    let n : Registration = record { seat = seat; state = state; op = op; before = xs } in
    let same : n ≡ r = same_some n r (rw (registration_push xs (RegBegin seat state op)) at p) in
    let is : seat ≡ r.seat = ap (λ z. z.seat) same in
    not_equal a.seat seat (idle_op xs seat a h.free.idle (rw (operation_push xs (RegBegin seat state op)) at q)) (s ∙ sym is)
apart_step head xs (RegEnd seat answer) h o =
    λ a r q p s. none_some r (rw (registration_push xs (RegEnd seat answer)) at p)
apart_step head xs e h o =
    λ a r q p s. o.apart a r (rw (operation_push xs e) at q) (rw (registration_push xs e) at p) s

-- where no walk has begun none is in flight
pub none_begun : (xs : List Event) → Owners xs → begun xs ≡ [] → is_walking xs ≡ false
none_begun xs o h = go (walking xs) refl
  where
    some_of : (v : Option Walk) → is_some v ≡ true → (w : Walk) × (v ≡ Some w)
    some_of None h = absurd (true≢false (sym h))
    some_of (Some w) h = (w, refl)

    go : (cs : List ℕ) → walking xs ≡ cs → not (is_empty cs) ≡ false
    go [] e = refl
    go (c ∷ cs) e =
        let w = some_of (walk c xs) (sym (walking_is c xs) ∙ (ap (λ z. among c z) e ∙ first_among c cs)) in
        let b = o.walk_begun c w.0 w.1 in
        absurd (true≢false (sym (rw h at b)))

-- an operation that isn't an upmany begins a walk where none is in flight
pub alone_at : (b walking : Bool) → (b || not walking) ≡ true → b ≡ false → walking ≡ false
alone_at true walking h e = absurd (true≢false e)
alone_at false true h e = absurd (true≢false (sym h))
alone_at false false h e = refl

-- a walk that has no room is the first
pub cut_at_rest : (head : Head) (xs : List Event) (seat cpu from to : ℕ) → Owners xs → WalkBegins head xs seat cpu from to →
    has_room head xs (WalkBegin seat cpu from to) ≡ false → is_walking xs ≡ false
cut_at_rest head xs seat cpu from to o h full = go (is_upmany h.of.op) refl
  where
    empty : (cs : List ℕ) → is_empty cs ≡ true → cs ≡ []
    empty [] e = refl
    empty (c ∷ cs) e = absurd (true≢false (sym e))

    room : (b : Bool) → is_empty (begun xs) ≡ b → is_upmany h.of.op ≡ true → is_walking xs ≡ false
    room true e u = none_begun xs o (empty (begun xs) e)
    room false e u = let at = h.held in absurd (true≢false (rw (at, u, e) at full))

    go : (b : Bool) → is_upmany h.of.op ≡ b → is_walking xs ≡ false
    go true u = room (is_empty (begun xs)) refl u
    go false u = alone_at (is_upmany h.of.op) (is_walking xs) h.between u

-- an operation ends where no walk is in flight
pub over_at_rest : (head : Head) (xs : List Event) (seat : ℕ) (answer : Answer) → Owners xs → OpEnds head xs seat answer →
    is_walking xs ≡ false
over_at_rest head xs seat answer o (inl h) = h.no_walk
over_at_rest head xs seat answer o (inr h) = cut_at_rest head xs seat h.cpu h.from h.to o h.begins h.no_room

-- an operation enters where no walk is in flight
pub enters_at_rest : (head : Head) (xs : List Event) (seat : ℕ) (op : Op) → Owners xs → Enters head xs seat op → (c : ℕ) (w : Walk) →
    walk c xs ≡ Some w → ⊥
enters_at_rest head xs seat op o h c w q =
    let p = o.walk_op c w q in none_some p.0 (sym (map_free xs op h.takes_map h.passes.not_waiting) ∙ p.1)

walk_op_step : (head : Head) (xs : List Event) (e : Event) → Comes head xs e → Owners xs →
    (c : ℕ) (w : Walk) → walk c (xs ++ e ∷ []) ≡ Some w →
    (a : Operation) × (operation (xs ++ e ∷ []) ≡ Some a) × (a.seat ≡ w.seat)
walk_op_step head xs (Enter seat op) h o =
    λ c w q. absurd (enters_at_rest head xs seat op o h c w (rw (walk_push c xs (Enter seat op)) at q))
walk_op_step head xs (OpEnd seat answer) h o =
    λ c w q. absurd (none_some w (sym (walk_none xs (over_at_rest head xs seat answer o h) c) ∙ (rw (walk_push c xs (OpEnd seat answer)) at q)))
walk_op_step head xs (WalkBegin seat cpu from to) h o =
    λ c w q. go c w (eqb cpu c) (rw (walk_push c xs (WalkBegin seat cpu from to)) at q)
  where
    n : Walk
    n = record { seat = seat; from = from; to = to; before = xs }

    go : (c : ℕ) (w : Walk) (b : Bool) → cond b (Some n) (walk c xs) ≡ Some w →
        (a : Operation) × (operation (xs ++ WalkBegin seat cpu from to ∷ []) ≡ Some a) × (a.seat ≡ w.seat)
    go c w true q =
        (h.of, operation_push xs (WalkBegin seat cpu from to) ∙ h.held, h.seat_is ∙ ap (λ z. z.seat) (same_some n w q))
    go c w false q =
        let p = o.walk_op c w q in (p.0, operation_push xs (WalkBegin seat cpu from to) ∙ p.1, p.2)
walk_op_step head xs (WalkEnd seat cpu answer) h o =
    λ c w q. go c w (eqb cpu c) (rw (walk_push c xs (WalkEnd seat cpu answer)) at q)
  where
    go : (c : ℕ) (w : Walk) (b : Bool) → cond b None (walk c xs) ≡ Some w →
        (a : Operation) × (operation (xs ++ WalkEnd seat cpu answer ∷ []) ≡ Some a) × (a.seat ≡ w.seat)
    go c w true q = absurd (none_some w q)
    go c w false q =
        let p = o.walk_op c w q in (p.0, operation_push xs (WalkEnd seat cpu answer) ∙ p.1, p.2)
walk_op_step head xs e h o =
    λ c w q.
    let p = o.walk_op c w (rw (walk_push c xs e) at q) in (p.0, operation_push xs e ∙ p.1, p.2)

-- a walk that goes on was in flight
was_walking : (c : ℕ) (w : Walk) (xs : List Event) (b : Bool) → cond b None (walk c xs) ≡ Some w → walk c xs ≡ Some w
was_walking c w xs true q = absurd (none_some w q)
was_walking c w xs false q = q

walk_begun_step : (head : Head) (xs : List Event) (e : Event) → Comes head xs e → Owners xs →
    (c : ℕ) (w : Walk) → walk c (xs ++ e ∷ []) ≡ Some w → among c (begun (xs ++ e ∷ [])) ≡ true
walk_begun_step head xs (Enter seat op) h o =
    λ c w q. absurd (enters_at_rest head xs seat op o h c w (rw (walk_push c xs (Enter seat op)) at q))
walk_begun_step head xs (WalkBegin seat cpu from to) h o =
    λ c w q. rw (begun_push xs (WalkBegin seat cpu from to)) (go c w (eqb cpu c) refl (rw (walk_push c xs (WalkBegin seat cpu from to)) at q))
  where
    go : (c : ℕ) (w : Walk) (b : Bool) → eqb cpu c ≡ b →
        cond b (Some (record { seat = seat; from = from; to = to; before = xs })) (walk c xs) ≡ Some w →
        among c (begun xs ++ cpu ∷ []) ≡ true
    go c w true e q = let s = eqb-true cpu c e in rw s (among_last c (begun xs))
    go c w false e q = among_more c (begun xs) (cpu ∷ []) (o.walk_begun c w q)
walk_begun_step head xs (WalkEnd seat cpu answer) h o =
    λ c w q.
    rw (begun_push xs (WalkEnd seat cpu answer))
    (o.walk_begun c w (was_walking c w xs (eqb cpu c) (rw (walk_push c xs (WalkEnd seat cpu answer)) at q)))
walk_begun_step head xs e h o =
    λ c w q. rw (begun_push xs e) (o.walk_begun c w (rw (walk_push c xs e) at q))

one_walk_step : (head : Head) (xs : List Event) (e : Event) → Comes head xs e → Owners xs →
    (c d : ℕ) (w v : Walk) → walk c (xs ++ e ∷ []) ≡ Some w → walk d (xs ++ e ∷ []) ≡ Some v →
    held_by is_upmany (operation (xs ++ e ∷ [])) ≡ false → c ≡ d
one_walk_step head xs (Enter seat op) h o =
    λ c d w v q p m. absurd (enters_at_rest head xs seat op o h c w (rw (walk_push c xs (Enter seat op)) at q))
one_walk_step head xs (OpEnd seat answer) h o =
    λ c d w v q p m.
    absurd (none_some w (sym (walk_none xs (over_at_rest head xs seat answer o h) c) ∙ (rw (walk_push c xs (OpEnd seat answer)) at q)))
one_walk_step head xs (WalkBegin seat cpu from to) h o =
    λ c d w v q p m.
    let single = rw (operation_push xs (WalkBegin seat cpu from to)) at m in
    let at = h.held in
    let single1 : is_upmany h.of.op ≡ false = rw at at single in
    let still = alone_at (is_upmany h.of.op) (is_walking xs) h.between single1 in
    sym (go still c w (eqb cpu c) refl (rw (walk_push c xs (WalkBegin seat cpu from to)) at q))
    ∙ go still d v (eqb cpu d) refl (rw (walk_push d xs (WalkBegin seat cpu from to)) at p)
  where
    n : Walk
    n = record { seat = seat; from = from; to = to; before = xs }

    go : is_walking xs ≡ false → (c : ℕ) (w : Walk) (b : Bool) → eqb cpu c ≡ b → cond b (Some n) (walk c xs) ≡ Some w → cpu ≡ c
    go still c w true e q = eqb-true cpu c e
    go still c w false e q = absurd (none_some w (sym (walk_none xs still c) ∙ q))
one_walk_step head xs (WalkEnd seat cpu answer) h o =
    λ c d w v q p m.
    o.one_walk c d w v
    (was_walking c w xs (eqb cpu c) (rw (walk_push c xs (WalkEnd seat cpu answer)) at q))
    (was_walking d v xs (eqb cpu d) (rw (walk_push d xs (WalkEnd seat cpu answer)) at p))
    (rw (operation_push xs (WalkEnd seat cpu answer)) at m)
one_walk_step head xs e h o =
    λ c d w v q p m.
    o.one_walk c d w v (rw (walk_push c xs e) at q) (rw (walk_push d xs e) at p) (rw (operation_push xs e) at m)

-- where no walk of it has begun a processor stands as it did when the operation entered
not_among : (c cpu : ℕ) (cs : List ℕ) → among c (cs ++ cpu ∷ []) ≡ false → among c cs ≡ false
not_among c cpu cs h = go (among c cs) refl
  where
    go : (b : Bool) → among c cs ≡ b → b ≡ false
    go false e = refl
    go true e = absurd (true≢false (sym (among_more c cs (cpu ∷ []) e) ∙ h))

settled_since_step : (head : Head) (xs : List Event) (e : Event) → Comes head xs e → Owners xs →
    (c : ℕ) (o : Operation) → operation (xs ++ e ∷ []) ≡ Some o → among c (begun (xs ++ e ∷ [])) ≡ false →
    settled c (xs ++ e ∷ []) ≡ settled c o.before
settled_since_step head xs (Enter seat op) h o =
    λ c a q b.
    let n : Operation = record { seat = seat; op = op; before = xs } in
    let s : n ≡ a = same_some n a (rw (operation_push xs (Enter seat op)) at q) in
    rw (← s) (settled_push c xs (Enter seat op))
settled_since_step head xs (OpEnd seat answer) h o =
    λ c a q b. absurd (none_some a (rw (operation_push xs (OpEnd seat answer)) at q))
settled_since_step head xs (WalkBegin seat cpu from to) h o =
    λ c a q b.
    settled_push c xs (WalkBegin seat cpu from to)
    ∙ o.settled_since c a (rw (operation_push xs (WalkBegin seat cpu from to)) at q)
    (not_among c cpu (begun xs) (rw (begun_push xs (WalkBegin seat cpu from to)) at b))
settled_since_step head xs (WalkEnd seat cpu answer) h o =
    λ c a q b.
    let b1 = rw (begun_push xs (WalkEnd seat cpu answer)) at b in
    settled_push c xs (WalkEnd seat cpu answer)
    ∙ (go c (eqb cpu c) refl b1 ∙ o.settled_since c a (rw (operation_push xs (WalkEnd seat cpu answer)) at q) b1)
  where
    go : (c : ℕ) (b : Bool) → eqb cpu c ≡ b → among c (begun xs) ≡ false →
        cond b (left_at answer (walk c xs) (settled c xs)) (settled c xs) ≡ settled c xs
    go c true e b1 =
        let same = eqb-true cpu c e in
        absurd (true≢false (sym (rw same at (o.walk_begun cpu h.of h.in_flight)) ∙ b1))
    go c false e b1 = refl
settled_since_step head xs e h o =
    λ c a q b.
    settled_push c xs e ∙ o.settled_since c a (rw (operation_push xs e) at q) (rw (begun_push xs e) at b)

-- an upmany that has begun a walk keeps readers and registrations out
no_batch : (b : Bool) → (b && false) ≡ true → ⊥
no_batch true h = true≢false (sym h)
no_batch false h = true≢false (sym h)

still_unread : (xs : List Event) (seat : ℕ) → is_read xs ≡ false → not (is_empty (without seat (readers xs))) ≡ false
still_unread xs seat h = let e = empty_of (readers xs) h in rw e refl

batch_alone_step : (head : Head) (xs : List Event) (e : Event) → Comes head xs e → Owners xs →
    is_batch_begun (xs ++ e ∷ []) ≡ true → (is_read (xs ++ e ∷ []) ≡ false) × (is_registering (xs ++ e ∷ []) ≡ false)
batch_alone_step head xs (Enter seat op) h o =
    λ q. absurd (no_batch (is_upmany op) (rw (begun_push xs (Enter seat op), operation_push xs (Enter seat op)) at q))
batch_alone_step head xs (OpEnd seat answer) h o =
    λ q. absurd (true≢false (sym (rw (operation_push xs (OpEnd seat answer)) at q)))
batch_alone_step head xs (WalkBegin seat cpu from to) h o =
    λ q.
    let a = walks_alone xs h.no_wait o.batch_alone in
    (rw (readers_push xs (WalkBegin seat cpu from to)) a.0, rw (registration_push xs (WalkBegin seat cpu from to)) a.1)
batch_alone_step head xs (RegBegin seat state op) h o =
    λ q.
    let was = rw (begun_push xs (RegBegin seat state op), operation_push xs (RegBegin seat state op)) at q in
    absurd (true≢false (sym was ∙ begins_no_batch head xs op state h.state_is h.passes.not_waiting))
batch_alone_step head xs (RegEnd seat answer) h o =
    λ q.
    let was = rw (begun_push xs (RegEnd seat answer), operation_push xs (RegEnd seat answer)) at q in
    (rw (readers_push xs (RegEnd seat answer)) (o.batch_alone was).0, rw (registration_push xs (RegEnd seat answer)) refl)
batch_alone_step head xs (ReadLock seat) h o =
    λ q.
    let was = rw (begun_push xs (ReadLock seat), operation_push xs (ReadLock seat)) at q in
    absurd (true≢false (sym was ∙ (or_parts (is_walking xs) (is_batch_begun xs) (sym (writer_waits xs) ∙ h.passes.not_waiting)).1))
batch_alone_step head xs (ReadUnlock seat) h o =
    λ q.
    let was = rw (begun_push xs (ReadUnlock seat), operation_push xs (ReadUnlock seat)) at q in
    let a = o.batch_alone was in
    (rw (readers_push xs (ReadUnlock seat)) (still_unread xs seat a.0), rw (registration_push xs (ReadUnlock seat)) a.1)
batch_alone_step head xs e h o =
    λ q.
    let was = rw (begun_push xs e, operation_push xs e) at q in
    let a = o.batch_alone was in
    (rw (readers_push xs e) a.0, rw (registration_push xs e) a.1)

pub owners_step : (head : Head) (xs : List Event) (e : Event) → Comes head xs e → Owners xs → Owners (xs ++ e ∷ [])
owners_step head xs e h o = record {
  seats_below = seats_below_step head xs e h o;
  ap_role = ap_role_step head xs e h o;
  op_client = op_client_step head xs e h o;
  reg_client = reg_client_step head xs e h o;
  apart = apart_step head xs e h o;
  walk_op = walk_op_step head xs e h o;
  walk_begun = walk_begun_step head xs e h o;
  one_walk = one_walk_step head xs e h o;
  settled_since = settled_since_step head xs e h o;
  batch_alone = batch_alone_step head xs e h o;
}

pub owners_none : Owners []
unfolding role_of ap_seat operation registration walk
owners_none = record {
  seats_below = λ k r q. absurd (none_some r q);
  ap_role = λ c k q. absurd (none_some k q);
  op_client = λ o q. absurd (none_some o q);
  reg_client = λ r q. absurd (none_some r q);
  apart = λ o r q p s. none_some o q;
  walk_op = λ c w q. absurd (none_some w q);
  walk_begun = λ c w q. absurd (none_some w q);
  one_walk = λ c d w v q p m. absurd (none_some w q);
  settled_since = λ c o q b. absurd (none_some o q);
  batch_alone = λ q. absurd (true≢false (sym q));
}
