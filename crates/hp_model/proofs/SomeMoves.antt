-- Some seat can move: by what is in flight, from a walk or a registration over readers and the holder of the map lock
-- to a seat that has nothing in flight.
use Rattle.std.proofs.Common.{◌≡◌, ℕ, Bool, true, false, ◌||◌, cond, eqb, leb, is_some, Option, Some, None, List, [], ◌∷◌, length, refl, ap, sym, ◌∙◌, inl, inr, ◌⊎◌, arith}
use Rattle.std.specs.Prelude.{pos, Contains}
use Rattle.std.proofs.lemmas.Bool.{true≢false, false≢true, eqb-true}
use Rattle.std.proofs.lemmas.List.Elements.{All-contains}
use Rattle.hp_event.specs.declared.op.Op.{Op}
use Rattle.hp_event.specs.declared.op.Op.TheVariants.{Target, Setup, Remove, Add, Del, Boot, Disable, Enable, Freeze, Thaw}
use Rattle.hp_event.specs.declared.answer.Answer.{Answer}
use Rattle.hp_event.specs.declared.answer.Answer.TheVariants.{Ok, LogFull}
use Rattle.hp_event.specs.declared.head.Head.{Head}
use Rattle.hp_event.specs.declared.event.Event.{Event}
use Rattle.hp_event.specs.declared.event.Event.TheVariants.{WalkBegin, Call, OpEnd}
use Rattle.hp_model.specs.Lists.{among}
use Rattle.hp_model.specs.Events.{seat_of, is_registration_op, BelongsTo}
use Rattle.hp_model.specs.Walks.{Walk, walk, walking, is_walking}
use Rattle.hp_model.specs.Registrations.{Registration, registration}
use Rattle.hp_model.specs.Registered.{Registered}
use Rattle.hp_model.specs.MapLock.{Operation, operation, is_map_op}
use Rattle.hp_model.specs.Readers.{readers, is_reading, is_read}
use Rattle.hp_model.specs.Seats.{holds_map, IsFree}
use Rattle.hp_model.specs.Batch.{is_upmany, batch, unbegun, is_batch_begun}
use Rattle.hp_model.specs.BatchTurn.{has_turn}
use Rattle.hp_model.specs.Sequence as seq
use Rattle.hp_model.specs.Settled.{settled}
use Rattle.hp_model.specs.Sequence.{Next, walks, ends, nothing, answers, failures, target_of, to_boot, to_freeze, to_thaw, single_next, first_next, boot_next, freeze_next, next}
use Rattle.hp_model.specs.Suspend.{wakeup_pending}
use Rattle.hp_model.specs.Processors.{online}
use Rattle.hp_model.specs.Needs.{need}
use Rattle.hp_model.specs.Room.{has_room}
use Rattle.hp_model.specs.StandsOperations.{WalkBegins}
use Rattle.hp_model.specs.Lawful.{IsLawful}
use Rattle.hp_model.specs.Pending.{Pending, IsAllowed}
use Rattle.hp_model.specs.Moves.{ArePending, IsOfPending, IsOfThread, CanMove}
use Rattle.hp_model.proofs.CanBegin.{CanBegin}
use Rattle.hp_model.proofs.InFlight.{walking_is, readers_are, reader_none}
use Rattle.hp_model.proofs.WaitLemmas.{is_writing, first_among, can_walk}
use Rattle.hp_model.proofs.Kept.{Kept, WalkKept, RegistrationKept}
use Rattle.hp_model.proofs.Operations.{Operations, Entered}
use Rattle.hp_model.proofs.Induction.{held}
use Rattle.hp_model.proofs.Owners.{Owners}
use Rattle.hp_model.proofs.OneNext.{owners}
use Rattle.hp_model.proofs.HoldersDontRead.{HoldersDontRead, holders}
use Rattle.hp_model.proofs.NextOfWalk.{walk_goes}
use Rattle.hp_model.proofs.BatchLemmas.{between_rest}
use Rattle.hp_model.proofs.TurnLemmas.{thread_turn, single_turn}
use Rattle.hp_model.proofs.BatchNext.{ThreadNext, BatchNext, begins, makes, threads, batch_next}
use Rattle.hp_model.proofs.NextOfRegistration.{registration_goes}
use Rattle.hp_model.proofs.WalkGives.{walk_given}
use Rattle.hp_model.proofs.RegistrationGives.{registration_given}
use Rattle.hp_model.proofs.FirstEvents.{ComesOf, first_comes, nothing_waits, reader_waits}

-- what a lawful journal keeps, for this
pub record Facts (head : Head) (xs : List Event) : Type 0 where
  pub kept : Kept head xs
  pub operations : Operations head xs
  pub owners : Owners xs
  pub holders : HoldersDontRead xs

pub facts : (head : Head) (xs : List Event) → IsLawful head xs → Facts head xs
facts head xs h =
    let k = held head xs h in
    record { kept = k.kept; operations = k.operations; owners = owners head xs h; holders = holders head xs h }

abbrev held_as : Operation → Pending
held_as o = record { seat = o.seat; op = o.op }

abbrev asked_as : Registration → Pending
asked_as r = record { seat = r.seat; op = r.op }

pub some_of : {A : Type 0} (o : Option A) → is_some o ≡ true → (x : A) × (o ≡ Some x)
some_of None h = absurd (false≢true h)
some_of (Some x) h = (x, refl)

takes_none : (head : Head) (xs : List Event) (e : Event) → need head xs e ≡ None → has_room head xs e ≡ true
takes_none head xs e h = rw h refl

pub entered_op : (head : Head) (xs : List Event) (o : Operation) → Operations head xs → operation xs ≡ Some o → is_map_op o.op ≡ true
entered_op head xs o k at = let e : Entered head o = rw at at k.entered in e.enters.takes_map

-- what is given in a walk of the operation that holds the map lock
of_holder : (head : Head) (xs : List Event) (pending : List Pending) (o : Operation) (e : Event) {k : ℕ} → Facts head xs →
    ArePending head xs pending → operation xs ≡ Some o → (seat_of e ≡ k → seat_of e ≡ o.seat) →
    ((seat_of e ≡ k) × ((op : Op) → is_map_op op ≡ true → BelongsTo op e)) ⊎ IsOfThread xs e →
    IsOfPending pending e ⊎ IsOfThread xs e
of_holder head xs pending o e f p held s (inl h) =
    inl (held_as o, p.in_flight (held_as o) (inl (o, held, refl, refl)), s h.0, h.1 o.op (entered_op head xs o f.operations held))
of_holder head xs pending o e f p held s (inr h) = inr h

-- a walk is in flight, and each has its turn
by_walk : (head : Head) (xs : List Event) (pending : List Pending) (o : Operation) (c : ℕ) (w : Walk) → Facts head xs →
    ArePending head xs pending → operation xs ≡ Some o → o.seat ≡ w.seat → walk c xs ≡ Some w →
    ((k : ℕ) → has_turn head xs k c ≡ true) → CanMove head xs pending
by_walk head xs pending o c w f p held own at turns =
    let kept : WalkKept head c w xs = rw at at (f.kept.at c).kept in
    let n = walk_goes head xs c w kept (p.threads c kept.present) in
    let g = walk_given head xs c w n.0 at (turns (seat_of n.0)) n.1 in
    inl (n.0, (g.comes, takes_none head xs n.0 g.takes_none), of_holder head xs pending o n.0 f p held (λ q. q ∙ sym own) g.by)

-- an upmany walks
by_batch : (head : Head) (xs : List Event) (pending : List Pending) (o : Operation) (c : ℕ) (w : Walk) → Facts head xs →
    ArePending head xs pending → operation xs ≡ Some o → is_upmany o.op ≡ true → walk c xs ≡ Some w → CanMove head xs pending
by_batch head xs pending o c w f p held u at = go (batch_next head xs o c w f.owners f.kept held u at)
  where
    takes_map : is_map_op o.op ≡ true
    takes_map = entered_op head xs o f.operations held

    is : Contains pending (held_as o)
    is = p.in_flight (held_as o) (inl (o, held, refl, refl))

    thread : (n : ThreadNext head xs c w) → CanMove head xs pending
    thread n =
        let kept : WalkKept head c w xs = rw at at (f.kept.at c).kept in
        let a = p.threads c kept.present in
        let m = n.by_thread in
        inl (
          Call a.0 c n.next.state n.next.inst n.next.dir n.next.how,
          (
            inl (record {
              entry = n.next.entry;
              caller_is = rw m a.1;
              turn = thread_turn head xs c c a.0 f.owners a.1;
            }),
            refl,
          ),
          inr (c, a.1, refl),
        )

    go : BatchNext head xs o → CanMove head xs pending
    go (begins d b r) = inl (WalkBegin o.seat d (settled d xs) 200, (b, r), inl (held_as o, is, refl, takes_map))
    go (makes v e s g) =
        inl (e, (g.comes, takes_none head xs e g.takes_none), of_holder head xs pending o e f p held (λ q. s) g.by)
    go (threads n t all) = thread (all c w at)

pub registers_op : (op : Op) (found : Option Registered) → CanBegin op found → is_registration_op op ≡ true
registers_op (Setup s sub form) found h = refl
registers_op (Remove s form) found h = refl
registers_op (Add s i form) found h = refl
registers_op (Del s i form) found h = refl
registers_op op found h = elim h [ ]

-- a registration is in flight
by_registration : (head : Head) (xs : List Event) (pending : List Pending) (r : Registration) → Facts head xs →
    ArePending head xs pending → registration xs ≡ Some r → CanMove head xs pending
by_registration head xs pending r f p at =
    let kept : RegistrationKept head r xs = rw at at f.kept.registration_kept in
    let n = registration_goes head xs r kept p.threads in
    let g = registration_given head xs r n.0 at n.1 in
    inl (n.0, (g.comes, takes_none head xs n.0 g.takes_none), go n.0 (registers_op r.op _ kept.can_begin) g.by)
  where
    go : (e : Event) → is_registration_op r.op ≡ true →
        ((seat_of e ≡ r.seat) × ((op : Op) → is_registration_op op ≡ true → BelongsTo op e)) ⊎ IsOfThread xs e →
        IsOfPending pending e ⊎ IsOfThread xs e
    go e is (inl h) = inl (asked_as r, p.in_flight (asked_as r) (inr (r, at, refl, refl)), h.0, h.1 r.op is)
    go e is (inr h) = inr h

-- a free seat makes its first event, or has no room for it
first_moves : (head : Head) (xs : List Event) (pending : List Pending) (p : Pending) → Contains pending p → IsFree xs p.seat →
    ComesOf head xs p.seat p.op → CanMove head xs pending
first_moves head xs pending p is free c = go (has_room head xs c.event) refl
  where
    go : (b : Bool) → has_room head xs c.event ≡ b → CanMove head xs pending
    go true e = inl (c.event, (c.comes, e), inl (p, is, c.by, c.of))
    go false e = inr (p, is, record { free = free; first = c.event; by = c.by; of = c.of; kept_out = (c.comes, e) })

-- a seat reads
by_reader : (head : Head) (xs : List Event) (pending : List Pending) (k : ℕ) → Facts head xs → ArePending head xs pending →
    is_walking xs ≡ false → registration xs ≡ None → is_reading k xs ≡ true → CanMove head xs pending
by_reader head xs pending k f p still none reads =
    let r = p.readers k reads in
    let a : IsAllowed head xs (record { seat = k; op = r.0 }) = All-contains (IsAllowed head xs) pending (record { seat = k; op = r.0 }) p.allowed r.1 in
    let free : IsFree xs k = record { client = a.client; idle = rw none (idle (operation xs) refl) } in
    first_moves head xs pending (record { seat = k; op = r.0 }) r.1 free
    (first_comes head xs k r.0 free a.has_sub (λ h. reader_waits head xs k r.0 unwritten (rw none refl) free reads h))
  where
    no_batch : (b : Bool) → is_batch_begun xs ≡ b → b ≡ false
    no_batch false e = refl
    no_batch true e =
        let r = reader_none xs (f.owners.batch_alone e).0 k in absurd (true≢false (sym reads ∙ ap is_some r))

    unwritten : is_writing xs ≡ false
    unwritten = let b = no_batch (is_batch_begun xs) refl in rw (still, b) refl

    other : (o : Operation) (b : Bool) → eqb o.seat k ≡ b → is_reading o.seat xs ≡ false → b ≡ false
    other o true e h = let s = eqb-true o.seat k e in absurd (true≢false (sym reads ∙ (rw s at h)))
    other o false e h = refl

    idle : (o : Option Operation) → operation xs ≡ o → (holds_map k o || false) ≡ false
    idle None e = refl
    idle (Some o) e = rw (other o (eqb o.seat k) refl (f.holders.at o e)) refl

-- an operation of the map lock always has something that comes next
single_some : (c to now : ℕ) (xs : List Answer) → single_next c to now xs ≡ nothing → ⊥
single_some c to now [] h = go (eqb now to) h
  where
    go : (b : Bool) → cond b (ends (Ok (pos 0))) (walks c to) ≡ nothing → ⊥
    go true h = cc
    go false h = cc
single_some c to now (answer ∷ xs) h = cc

first_some : (to : ℕ) (cs : List ℕ) (answer : Answer) → first_next to cs answer ≡ nothing → ⊥
first_some to [] answer h = cc
first_some to (c ∷ cs) answer h = cc

boot_some : (enough : Bool) (cs : List ℕ) (n : ℕ) → boot_next enough cs n ≡ nothing → ⊥
boot_some true cs n h = cc
boot_some false cs n h = first_some 200 cs (Ok (pos n)) h

freeze_some : (waking : Bool) (failed : List Answer) (cs : List ℕ) → freeze_next waking failed cs ≡ nothing → ⊥
freeze_some waking (answer ∷ more) cs h = cc
freeze_some waking [] [] h = cc
freeze_some true [] (c ∷ cs) h = cc
freeze_some false [] (c ∷ cs) h = cc

batch_some : (cs : List ℕ) (answer : Answer) → seq.batch_next cs false answer ≡ nothing → ⊥
batch_some [] answer h = cc
batch_some (c ∷ cs) answer h = cc

pub next_some : (head : Head) (xs before : List Event) (op : Op) → is_map_op op ≡ true → is_walking xs ≡ false →
    next head xs before op ≡ nothing → ⊥
next_some head xs before (Op.Up c) m still h = single_some c 200 (settled c xs) (answers xs) h
next_some head xs before (Op.Down c) m still h = single_some c 0 (settled c xs) (answers xs) h
next_some head xs before (Target c v) m still h = single_some c (target_of v) (settled c xs) (answers xs) h
next_some head xs before (Boot n) m still h =
    boot_some (leb n (length (online head xs))) (to_boot head xs) (length (failures (answers xs))) h
next_some head xs before Disable m still h = cc
next_some head xs before Enable m still h = cc
next_some head xs before (Freeze q) m still h =
    freeze_some (wakeup_pending xs) (failures (answers xs)) (to_freeze head q before xs) h
next_some head xs before Thaw m still h =
    first_some 200 (to_thaw xs) (Ok (pos (length (failures (answers xs))))) h
next_some head xs before (Op.UpMany set) m still h =
    batch_some (unbegun (batch head before (Op.UpMany set)) xs) (Ok (pos (length (failures (answers xs))))) (rw still at h)
next_some head xs before op m still h = true≢false (sym m)

-- a seat holds the map lock
by_holder : (head : Head) (xs : List Event) (pending : List Pending) (o : Operation) → Facts head xs → ArePending head xs pending →
    is_walking xs ≡ false → registration xs ≡ None → is_read xs ≡ false → operation xs ≡ Some o → CanMove head xs pending
by_holder head xs pending o f p still none unread at = go (next head xs o.before o.op) refl
  where
    takes_map : is_map_op o.op ≡ true
    takes_map = entered_op head xs o f.operations at

    is : Contains pending (held_as o)
    is = p.in_flight (held_as o) (inl (o, at, refl, refl))

    walk_moves : (c to : ℕ) → WalkBegins head xs o.seat c (settled c xs) to → (b : Bool) →
        has_room head xs (WalkBegin o.seat c (settled c xs) to) ≡ b → CanMove head xs pending
    walk_moves c to w true e =
        inl (WalkBegin o.seat c (settled c xs) to, (w, e), inl (held_as o, is, refl, takes_map))
    walk_moves c to w false e =
        inl (
          OpEnd o.seat LogFull,
          (inr (record { cpu = c; from = settled c xs; to = to; begins = w; no_room = e; answer_is = refl }), refl),
          inl (held_as o, is, refl, takes_map),
        )

    go : (n : Next) → next head xs o.before o.op ≡ n → CanMove head xs pending
    go (walks c to) e =
        walk_moves c to
        (record {
          of = o;
          held = at;
          seat_is = refl;
          between = between_rest o.op xs still;
          gives = e;
          from_is = refl;
          no_wait = can_walk xs unread (rw none refl);
        })
        (has_room head xs (WalkBegin o.seat c (settled c xs) to)) refl
    go (ends answer) e =
        inl (
          OpEnd o.seat answer,
          (inl (record { of = o; held = at; seat_is = refl; no_walk = still; gives = e }), refl),
          inl (held_as o, is, refl, takes_map),
        )
    go nothing e = absurd (next_some head xs o.before o.op takes_map still e)

-- nothing is in flight
first_is : (p : Pending) (ps : List Pending) → Contains (p ∷ ps) p
first_is p ps = (0, omega arith, refl)

by_first : (head : Head) (xs : List Event) (pending : List Pending) → ArePending head xs pending →
    is_walking xs ≡ false → registration xs ≡ None → operation xs ≡ None → CanMove head xs pending
by_first head xs [] p still none free = absurd (true≢false p.some)
by_first head xs (q ∷ qs) p still none no_holder =
    let is = first_is q qs in
    let a = All-contains (IsAllowed head xs) (q ∷ qs) q p.allowed is in
    let free : IsFree xs q.seat = record { client = a.client; idle = rw (no_holder, none) refl } in
    first_moves head xs (q ∷ qs) q is free
    (first_comes head xs q.seat q.op free a.has_sub (λ h. nothing_waits xs q.op still (rw none refl) no_holder))

pub some_moves : (head : Head) (xs : List Event) (pending : List Pending) → IsLawful head xs → ArePending head xs pending →
    CanMove head xs pending
some_moves head xs pending lawful p = walk_or (walking xs) refl
  where
    f : Facts head xs
    f = facts head xs lawful

    single_or : (o : Operation) (c : ℕ) (w : Walk) → operation xs ≡ Some o → o.seat ≡ w.seat → walk c xs ≡ Some w → (b : Bool) →
        is_upmany o.op ≡ b → CanMove head xs pending
    single_or o c w held s at true u = by_batch head xs pending o c w f p held u at
    single_or o c w held s at false u = by_walk head xs pending o c w f p held s at (λ k. single_turn head xs o k c held u)

    holder_or : (o : Option Operation) → operation xs ≡ o → is_walking xs ≡ false → registration xs ≡ None → is_read xs ≡ false →
        CanMove head xs pending
    holder_or None e still none unread = by_first head xs pending p still none e
    holder_or (Some o) e still none unread = by_holder head xs pending o f p still none unread e

    reader_or : (ks : List ℕ) → readers xs ≡ ks → is_walking xs ≡ false → registration xs ≡ None → CanMove head xs pending
    reader_or [] e still none = holder_or (operation xs) refl still none (rw e refl)
    reader_or (k ∷ ks) e still none =
        by_reader head xs pending k f p still none (sym (readers_are k xs) ∙ (ap (λ z. among k z) e ∙ first_among k ks))

    registration_or : (r : Option Registration) → registration xs ≡ r → is_walking xs ≡ false → CanMove head xs pending
    registration_or None e still = reader_or (readers xs) refl still e
    registration_or (Some r) e still = by_registration head xs pending r f p e

    walk_or : (cs : List ℕ) → walking xs ≡ cs → CanMove head xs pending
    walk_or [] e = registration_or (registration xs) refl (rw e refl)
    walk_or (c ∷ cs) e =
        let w = some_of (walk c xs) (sym (walking_is c xs) ∙ (ap (λ z. among c z) e ∙ first_among c cs)) in
        let q = f.owners.walk_op c w.0 w.1 in
        single_or q.0 c w.0 q.1 q.2 w.1 (is_upmany q.0.op) refl
