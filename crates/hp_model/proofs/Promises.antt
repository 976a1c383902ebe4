-- What is promised after one event more: less by one, but for what the event takes.
use Rattle.std.proofs.Common.{◌≡◌, ℕ, ◌+◌, ◌-◌, ◌≤◌, Bool, true, false, eqb, Option, Some, None, List, [], ◌∷◌, ◌++◌, refl, sym, ◌∙◌, arith, inl, inr, ◌⊎◌, length-append}
use Rattle.std.proofs.lemmas.Bool.{eq-eqb, true≢false}
use Rattle.hp_states.proofs.Basics.{none_of, not_false, and_false}
use Rattle.hp_event.specs.declared.answer.Answer.{Answer}
use Rattle.hp_event.specs.declared.op.Op.{Op}
use Rattle.hp_event.specs.declared.op.Op.TheVariants.{Lock, Unlock}
use Rattle.hp_event.specs.declared.how.How.{How}
use Rattle.hp_event.specs.declared.event.Role.{Role}
use Rattle.hp_states.specs.declared.dir.Dir.{Dir}
use Rattle.hp_event.specs.declared.head.Head.{Head}
use Rattle.hp_event.specs.declared.event.Event.{Event}
use Rattle.hp_event.specs.declared.event.Event.TheVariants.{Admit, Leave, Enter, WalkBegin, Call, WalkEnd, OpEnd, RegBegin, RegEnd, ReadLock, ReadUnlock}
use Rattle.hp_model.specs.Lists.{without, among}
use Rattle.hp_model.specs.Walks.{Walk, walk, walk_entries}
use Rattle.hp_model.specs.Registrations.{Registration, registration, registration_step, registration_entries, registration_entries_step}
use Rattle.hp_model.specs.MapLock.{Operation, operation, operation_step}
use Rattle.hp_model.specs.Readers.{readers, readers_step, is_reading}
use Rattle.hp_model.specs.Seats.{seats, seats_step, admits, role_of}
use Rattle.hp_model.specs.Needs.{need}
use Rattle.hp_model.specs.Batch.{begun, is_upmany, is_batch_begun}
use Rattle.hp_model.specs.Promised.{promised_to_walk, promised_to_come, promised_to_registration, promised_to_walks, promised, given_back}
use Rattle.hp_model.specs.RefusalsAtOnce.{refusals_at_once}
use Rattle.hp_model.specs.StandsSeats.{Leaves, ReadLocks, ReadUnlocks}
use Rattle.hp_model.specs.StandsOperations.{IsOver, IsCut}
use Rattle.hp_model.specs.StandsCalls.{InWalk, InRegistration}
use Rattle.hp_model.specs.Lawful.{Comes}
use Rattle.hp_model.proofs.Laws.{walk_push, walk_entries_push, begun_push, operation_push}
use Rattle.hp_model.proofs.Passing.{none_holds, passed, begins_alone}
use Rattle.hp_model.proofs.Owners.{Owners, map_free}
use Rattle.hp_model.proofs.BatchLemmas.{upmany_over, begins_still}
use Rattle.hp_model.proofs.Kept.{Kept, WalkKept, RegistrationKept}
use Rattle.hp_model.proofs.Operations.{Operations, walk_present}
use Rattle.hp_model.proofs.SumLemmas.{length-without}
use Rattle.hp_model.proofs.SeatLemmas.{is_seat, no_seat, seat_once, is_reader, no_reader, reader_once}
use Rattle.hp_model.proofs.EntryBounds.{walk_bound, registration_bound}
pub use Rattle.hp_model.proofs.PromisedParts.{part, promised_is, promised_push, promised_none, promised_at_rest, Uses}
use Rattle.hp_model.proofs.PromisedParts.{begun_same, come_begun, come_none, come_out, come_quiet, ended_part, in_flight, later_room, other_part, walks_changed, walks_quiet, walks_same}
use Rattle.hp_model.proofs.PromisedBegins.{uses_walk_begin}

-- a seat comes in, whichever number it has
pub admit_at_most : (head : Head) (xs : List Event) (seat : ℕ) (role : Role) →
    promised head (xs ++ Admit seat role ∷ []) ≤ promised head xs + 1
admit_at_most head xs seat role =
    let e : Event = Admit seat role in
    let a = promised_push head xs e in
    let b = promised_is head xs in
    let w = walks_quiet head xs e (λ c v. refl) (λ c es. refl) (λ c. come_quiet head xs e refl refl (λ s. refl) c refl) in
    let s = length-append (without seat (seats xs)) (seat ∷ []) in
    let t = length-without seat (seats xs) in
    omega arith

uses_admit : (head : Head) (xs : List Event) (seat : ℕ) (role : Role) → role_of seat xs ≡ None → Uses head xs (Admit seat role)
uses_admit head xs seat role out =
    let e : Event = Admit seat role in
    let a = promised_push head xs e in
    let b = promised_is head xs in
    let w = walks_quiet head xs e (λ c v. refl) (λ c es. refl) (λ c. come_quiet head xs e refl refl (λ s. refl) c refl) in
    let s = length-append (without seat (seats xs)) (seat ∷ []) in
    let t = length-without seat (seats xs) in
    let n = no_seat seat xs out in
    omega arith

-- a number that isn't given yet is no seat's
new_seat : (xs : List Event) (seat : ℕ) → Owners xs → seat ≡ admits xs → role_of seat xs ≡ None
new_seat xs seat o h = go (role_of seat xs) refl
  where
    go : (r : Option Role) → role_of seat xs ≡ r → r ≡ None
    go None e = refl
    go (Some role) e = let b = o.seats_below seat role e in absurd (omega (arith, b, h))

uses_leave : (head : Head) (xs : List Event) (seat : ℕ) → Leaves head xs seat → Uses head xs (Leave seat)
uses_leave head xs seat h =
    let e : Event = Leave seat in
    let a = promised_push head xs e in
    let b = promised_is head xs in
    let w = walks_quiet head xs e (λ c v. refl) (λ c es. refl) (λ c. come_quiet head xs e refl refl (λ s. refl) c refl) in
    let t = length-without seat (seats xs) in
    let i = is_seat seat xs h.is_in.0 h.is_in.1 in
    let n = seat_once seat xs in
    omega arith

uses_enter : (head : Head) (xs : List Event) (seat : ℕ) (op : Op) → operation xs ≡ None → Uses head xs (Enter seat op)
uses_enter head xs seat op free =
    let e : Event = Enter seat op in
    let a = promised_push head xs e in
    let b = rw free at (promised_is head xs) in
    let none : is_batch_begun (xs ++ e ∷ []) ≡ false = rw (begun_push xs e, operation_push xs e) (and_false (is_upmany op)) in
    let was : is_batch_begun xs ≡ false = rw free refl in
    let w = walks_quiet head xs e (λ c v. refl) (λ c es. refl) (λ c. come_none head (xs ++ e ∷ []) c none ∙ sym (come_none head xs c was)) in
    omega arith

call_part : (head : Head) (xs : List Event) (seat c state inst : ℕ) (dir : Dir) (how : How) (w : Walk) → walk c xs ≡ Some w →
    WalkKept head c w xs → part head (xs ++ Call seat c state inst dir how ∷ []) c + 1 ≡ part head xs c
call_part head xs seat c state inst dir how w at k =
    let e : Event = Call seat c state inst dir how in
    let self : eqb c c ≡ true = eq-eqb c c refl in
    let bound = walk_bound head c w xs k in
    let l = length-append (walk_entries c xs) (e ∷ []) in
    let n = come_quiet head xs e refl refl (λ s. refl) c refl in
    let f : in_flight head (xs ++ e ∷ []) c + 1 ≡ in_flight head xs c =
    rw (walk_push c xs e, walk_entries_push c xs e, self, at) (omega arith)
    in
    omega arith

uses_call_of_walk : (head : Head) (xs : List Event) (seat c state inst : ℕ) (dir : Dir) (how : How) (w : Walk) →
    walk c xs ≡ Some w → WalkKept head c w xs → Uses head xs (Call seat c state inst dir how)
uses_call_of_walk head xs seat c state inst dir how w at k =
    let e : Event = Call seat c state inst dir how in
    let a = rw (k.no_registration) at (promised_push head xs e) in
    let b = rw (k.no_registration) at (promised_is head xs) in
    let v = walks_changed head xs (xs ++ e ∷ []) c k.present (λ o f. other_part head xs e o refl (rw f refl) (come_quiet head xs e refl refl (λ s. refl) o refl)) in
    let p = call_part head xs seat c state inst dir how w at k in
    omega arith

uses_call_of_registration : (head : Head) (xs : List Event) (seat c state inst : ℕ) (dir : Dir) (how : How) (r : Registration) →
    registration xs ≡ Some r → RegistrationKept head r xs → Uses head xs (Call seat c state inst dir how)
uses_call_of_registration head xs seat c state inst dir how r at k =
    let e : Event = Call seat c state inst dir how in
    let a = rw at at (promised_push head xs e) in
    let b = rw at at (promised_is head xs) in
    let v = walks_same head xs (xs ++ e ∷ []) (λ o.
    let n = come_quiet head xs e refl refl (λ s. refl) o refl in
    let f : in_flight head (xs ++ e ∷ []) o ≡ in_flight head xs o = rw (walk_push o xs e, k.no_walk o) refl in
    omega arith) in
    let bound = registration_bound head r xs k in
    let l = length-append (registration_entries xs) (e ∷ []) in
    omega arith

uses_walk_end : (head : Head) (xs : List Event) (seat c : ℕ) (answer : Answer) (w : Walk) → walk c xs ≡ Some w →
    WalkKept head c w xs → among c (begun xs) ≡ true → Uses head xs (WalkEnd seat c answer)
uses_walk_end head xs seat c answer w at k b1 =
    let e : Event = WalkEnd seat c answer in
    let a = promised_push head xs e in
    let b = promised_is head xs in
    let v = walks_changed head xs (xs ++ e ∷ []) c k.present (λ o f. other_part head xs e o (rw f refl) refl (come_quiet head xs e refl refl (λ s. refl) o (rw f refl))) in
    let p = ended_part head xs seat c answer b1 in
    let bound = walk_bound head c w xs k in
    let z = come_begun head xs c b1 in
    let q : in_flight head xs c ≡ promised_to_walk head (Some w) (walk_entries c xs) = rw at refl in
    let g : given_back head xs e ≡ in_flight head xs c - 1 = refl in
    omega arith

uses_op_end : (head : Head) (xs : List Event) (seat : ℕ) (answer : Answer) (o : Operation) → operation xs ≡ Some o →
    ((c : ℕ) → promised_to_come head xs c ≡ 0) → Uses head xs (OpEnd seat answer)
uses_op_end head xs seat answer o at none =
    let e : Event = OpEnd seat answer in
    let a = promised_push head xs e in
    let b = rw at at (promised_is head xs) in
    let over : is_batch_begun (xs ++ e ∷ []) ≡ false = rw (operation_push xs e) refl in
    let w = walks_quiet head xs e (λ c v. refl) (λ c es. refl) (λ c. come_none head (xs ++ e ∷ []) c over ∙ sym (none c)) in
    omega arith

uses_reg_begin : (head : Head) (xs : List Event) (seat state : ℕ) (op : Op) → registration xs ≡ None →
    Uses head xs (RegBegin seat state op)
uses_reg_begin head xs seat state op free =
    let e : Event = RegBegin seat state op in
    let a = promised_push head xs e in
    let b = rw free at (promised_is head xs) in
    let w = walks_quiet head xs e (λ c v. refl) (λ c es. refl) (λ c. come_quiet head xs e refl refl (λ s. refl) c refl) in
    omega arith

uses_reg_end : (head : Head) (xs : List Event) (seat : ℕ) (answer : Answer) (r : Registration) → registration xs ≡ Some r →
    RegistrationKept head r xs → is_batch_begun xs ≡ false → Uses head xs (RegEnd seat answer)
uses_reg_end head xs seat answer r at k none =
    let e : Event = RegEnd seat answer in
    let a = promised_push head xs e in
    let b = rw at at (promised_is head xs) in
    let still : is_batch_begun (xs ++ e ∷ []) ≡ false = begun_same xs (xs ++ e ∷ []) (operation_push xs e) (begun_push xs e) ∙ none in
    let w = walks_quiet head xs e (λ c v. refl) (λ c es. refl) (λ c. come_none head (xs ++ e ∷ []) c still ∙ sym (come_none head xs c none)) in
    let bound = registration_bound head r xs k in
    let g : given_back head xs e ≡ promised_to_registration head (Some r) (registration_entries xs) - 1 = rw at refl in
    omega arith

-- who locks isn't a reader, and who unlocks is one
locks_no_reader : (head : Head) (xs : List Event) (seat : ℕ) → ReadLocks head xs seat → is_reading seat xs ≡ false
locks_no_reader head xs seat h =
    (none_holds (refusals_at_once head xs seat Lock) (passed head xs seat Lock h.free.idle h.passes.not_waiting h.passes.not_refused).0).0

unlocks_reader : (head : Head) (xs : List Event) (seat : ℕ) → ReadUnlocks head xs seat → is_reading seat xs ≡ true
unlocks_reader head xs seat h =
    not_false (is_reading seat xs) (none_holds (refusals_at_once head xs seat Unlock) (passed head xs seat Unlock h.free.idle refl h.passes.not_refused).0).0

uses_read_lock : (head : Head) (xs : List Event) (seat : ℕ) → ReadLocks head xs seat → Uses head xs (ReadLock seat)
uses_read_lock head xs seat h =
    let e : Event = ReadLock seat in
    let a = promised_push head xs e in
    let b = promised_is head xs in
    let w = walks_quiet head xs e (λ c v. refl) (λ c es. refl) (λ c. come_quiet head xs e refl refl (λ s. refl) c refl) in
    let s = length-append (without seat (readers xs)) (seat ∷ []) in
    let t = length-without seat (readers xs) in
    let n = no_reader seat xs (locks_no_reader head xs seat h) in
    omega arith

uses_read_unlock : (head : Head) (xs : List Event) (seat : ℕ) → ReadUnlocks head xs seat → Uses head xs (ReadUnlock seat)
uses_read_unlock head xs seat h =
    let e : Event = ReadUnlock seat in
    let a = promised_push head xs e in
    let b = promised_is head xs in
    let w = walks_quiet head xs e (λ c v. refl) (λ c es. refl) (λ c. come_quiet head xs e refl refl (λ s. refl) c refl) in
    let t = length-without seat (readers xs) in
    let i = is_reader seat xs (unlocks_reader head xs seat h) in
    let n = reader_once seat xs in
    omega arith

-- an event that begins and ends nothing
uses_quiet : (head : Head) (xs : List Event) (e : Event) → need head xs e ≡ Some 1 → given_back head xs e ≡ 0 →
    promised head (xs ++ e ∷ []) ≡ promised head xs → Uses head xs e
uses_quiet head xs e n g h = rw (n, g) (omega arith)

quiet_promise : (head : Head) (xs : List Event) (e : Event) → seats_step (seats xs) xs e ≡ seats xs →
    operation_step (operation xs) xs e ≡ operation xs → readers_step (readers xs) xs e ≡ readers xs →
    promised_to_walks head (xs ++ e ∷ []) ≡ promised_to_walks head xs →
    registration_step (registration xs) xs e ≡ registration xs →
    registration_entries_step (registration_entries xs) xs e ≡ registration_entries xs →
    promised head (xs ++ e ∷ []) ≡ promised head xs
quiet_promise head xs e s o r w g ge = promised_push head xs e ∙ (rw (s, o, r, w, g, ge) (sym (promised_is head xs)))

-- of what can come next, each event uses one of the promises, and more where it takes room
pub uses : (head : Head) (xs : List Event) (e : Event) → Comes head xs e → Owners xs → Operations head xs → Kept head xs →
    Uses head xs e
uses head xs (Admit seat role) h w o k = uses_admit head xs seat role (new_seat xs seat w h.seat_is)
uses head xs (Leave seat) h w o k = uses_leave head xs seat h
uses head xs (Enter seat op) h w o k =
    uses_enter head xs seat op (map_free xs op h.takes_map h.passes.not_waiting)
uses head xs (WalkBegin seat cpu from to) h w o k =
    uses_walk_begin head xs seat cpu from to h w (walk_present head xs seat cpu from to h o k)
    (begins_still head xs seat cpu from to w h)
uses head xs (Call seat cpu state inst dir how) h w o k = go h
  where
    go : InWalk head xs seat cpu state inst dir how ⊎ InRegistration head xs seat cpu state inst dir how →
        Uses head xs (Call seat cpu state inst dir how)
    go (inl w) =
        let p : WalkKept head cpu w.entry.of xs = rw w.entry.in_flight at (k.at cpu).kept in
        uses_call_of_walk head xs seat cpu state inst dir how w.entry.of w.entry.in_flight p
    go (inr r) =
        let p : RegistrationKept head r.entry.of xs = rw r.entry.in_flight at k.registration_kept in
        uses_call_of_registration head xs seat cpu state inst dir how r.entry.of r.entry.in_flight p
uses head xs (WalkEnd seat cpu answer) h w o k =
    let p : WalkKept head cpu h.of xs = rw h.in_flight at (k.at cpu).kept in
    uses_walk_end head xs seat cpu answer h.of h.in_flight p (w.walk_begun cpu h.of h.in_flight)
uses head xs (OpEnd seat answer) h w o k = go h
  where
    -- the end of an upmany finds none of its walks left to begin
    none_left : (v : IsOver head xs seat answer) (c : ℕ) (b : Bool) → is_upmany v.of.op ≡ b → promised_to_come head xs c ≡ 0
    none_left v c true u =
        let at = v.held in
        let left = upmany_over head xs v.of.before v.of.op answer u v.gives in
        come_out head xs c (rw at (rw left refl))
    none_left v c false u = let at = v.held in come_none head xs c (rw (at, u) refl)

    cut : (c : ℕ) (v : IsCut head xs seat answer) (b : Bool) → is_batch_begun xs ≡ b → promised_to_come head xs c ≡ 0
    cut c v true u =
        let n = later_room head xs seat v.cpu v.from v.to u in absurd (true≢false (rw n at v.no_room))
    cut c v false u = come_none head xs c u

    go : IsOver head xs seat answer ⊎ IsCut head xs seat answer → Uses head xs (OpEnd seat answer)
    go (inl v) = uses_op_end head xs seat answer v.of v.held (λ c. none_left v c (is_upmany v.of.op) refl)
    go (inr v) = uses_op_end head xs seat answer v.begins.of v.begins.held (λ c. cut c v (is_batch_begun xs) refl)
uses head xs (RegBegin seat state op) h w o k =
    uses_reg_begin head xs seat state op
    (none_of (registration xs) (begins_alone head xs op state h.state_is h.passes.not_waiting).1)
uses head xs (RegEnd seat answer) h w o k =
    let p : RegistrationKept head h.of xs = rw h.in_flight at k.registration_kept in
    uses_reg_end head xs seat answer h.of h.in_flight p (no_batch (is_batch_begun xs) refl)
  where
    no_batch : (b : Bool) → is_batch_begun xs ≡ b → b ≡ false
    no_batch false e = refl
    no_batch true e = let at = h.in_flight in absurd (true≢false (rw at at (w.batch_alone e).1))
uses head xs (ReadLock seat) h w o k = uses_read_lock head xs seat h
uses head xs (ReadUnlock seat) h w o k = uses_read_unlock head xs seat h
uses head xs e h w o k =
    uses_quiet head xs e refl refl
    (quiet_promise head xs e refl refl refl
    (walks_quiet head xs e (λ c v. refl) (λ c es. refl) (λ c. come_quiet head xs e refl refl (λ s. refl) c refl)) refl refl)
