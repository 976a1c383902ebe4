-- A lock that an event takes is free, and one that it gives back is held by its seat.
use Rattle.std.proofs.Common.{◌≡◌, ℕ, Bool, true, false, is_some, inl, inr, ◌⊎◌, Option, Some, None, List, [], ◌∷◌, length, refl, sym, ap, ◌∙◌}
use Rattle.std.specs.Prelude.{option_map}
use Rattle.std.proofs.lemmas.Bool.{false≢true, or_parts}
use Rattle.hp_states.proofs.Basics.{none_of}
use Rattle.hp_event.specs.declared.answer.Answer.{Answer}
use Rattle.hp_event.specs.declared.event.Role.{Role}
use Rattle.hp_event.specs.declared.head.Head.{Head}
use Rattle.hp_event.specs.declared.event.Event.{Event}
use Rattle.hp_event.specs.declared.event.Event.TheVariants.{Admit, Enter, WalkBegin, WalkEnd, OpEnd, RegBegin, RegEnd, ReadLock, ReadUnlock}
use Rattle.hp_model.specs.MapLock.{Operation, operation}
use Rattle.hp_model.specs.Batch.{is_upmany, is_batch_begun}
use Rattle.hp_model.specs.Lists.{among}
use Rattle.hp_model.specs.Walks.{Walk, walk, walking, is_walking}
use Rattle.hp_model.specs.Registrations.{Registration, registration}
use Rattle.hp_model.specs.Readers.{readers}
use Rattle.hp_model.specs.StandsOperations.{OpEnds, WalkBegins}
use Rattle.hp_model.specs.Lawful.{Comes, IsLawful}
use Rattle.hp_model.proofs.BatchLemmas.{walking_begun}
use Rattle.hp_model.proofs.InFlight.{empty_of, walking_is}
use Rattle.hp_model.proofs.OneNext.{owners}
use Rattle.hp_model.proofs.Owners.{Owners, map_free, alone_at, over_at_rest}
use Rattle.hp_model.proofs.Passing.{begins_alone, begins_no_batch}
use Rattle.hp_model.proofs.WaitLemmas.{first_among, walks_alone, writer_waits}
use Rattle.hp_locks.specs.declared.why.Why.{Why}
use Rattle.hp_locks.specs.Holders.{Holders, readers_in}
use Rattle.hp_locks.specs.Waits.{first_of, wait_to_write, wait_for_map, wait_for_readers, wait_for_registration, wait_for_writer}
use Rattle.hp_account.specs.Appending.{CanHold}
use Rattle.hp_account.specs.Locks.{IsLocks, writer_of}
use Rattle.hp_account.proofs.LocksMore.{seat_below, reads_not, reads_now, writer_by, writer_at_rest}

-- what nobody holds keeps nobody
no_map : (h : Holders) → h.map ≡ None → wait_for_map h ≡ None
no_map h free = rw free refl

no_writer : (h : Holders) → h.writer ≡ None → wait_for_writer h ≡ None
no_writer h free = rw free refl

no_registrar : (h : Holders) → h.registrar ≡ None → wait_for_registration h ≡ None
no_registrar h free = rw free refl

no_readers : (h : Holders) → readers_in h.reading ≡ 0 → wait_for_readers (readers_in h.reading) ≡ None
no_readers h none = rw none refl

second_of : (a b : Option Why) → a ≡ None → b ≡ None → first_of a b ≡ None
second_of a b first second = rw first second

-- the seat whose operation ends holds the map lock
over_by : (head : Head) (es : List Event) (seat : ℕ) (answer : Answer) → OpEnds head es seat answer →
    option_map (λ (o : Operation). o.seat) (operation es) ≡ Some seat
over_by head es seat answer (inl h) = ap (option_map (λ (o : Operation). o.seat)) h.held ∙ ap Some h.seat_is
over_by head es seat answer (inr h) =
    ap (option_map (λ (o : Operation). o.seat)) h.begins.held ∙ ap Some h.begins.seat_is

-- while nothing walks or registers, nobody holds the write side or registers, but an upmany that has begun a walk
unwritten : (es : List Event) (h : Holders) → IsLocks es h → walking es ≡ [] → is_batch_begun es ≡ false → h.writer ≡ None
unwritten es h is none begins = is.writer_is ∙ writer_at_rest es false none begins

written : (es : List Event) (h : Holders) (o : Operation) → Owners es → IsLocks es h → operation es ≡ Some o → is_batch_begun es ≡ true →
    h.writer ≡ Some o.seat
written es h o own is held begins = is.writer_is ∙ go (walking es) refl
  where
    go : (cs : List ℕ) → walking es ≡ cs → writer_of (walking es) es ≡ Some o.seat
    go [] e = writer_at_rest es true e begins ∙ ap (option_map (λ (x : Operation). x.seat)) held
    go (d ∷ ds) e = writer_by es o d own held (ap (among d) e ∙ first_among d ds)

unregistered : (es : List Event) (h : Holders) → IsLocks es h → registration es ≡ None → h.registrar ≡ None
unregistered es h is none = is.registrar_is ∙ ap (option_map (λ (r : Registration). r.seat)) none

registrar_by : (es : List Event) (h : Holders) (r : Registration) (seat : ℕ) → IsLocks es h → registration es ≡ Some r → r.seat ≡ seat →
    h.registrar ≡ Some seat
registrar_by es h r seat is held by = is.registrar_is ∙ ap (option_map (λ (r : Registration). r.seat)) held ∙ ap Some by

-- an operation that ends gives back the write side where it holds it
over_writer : (head : Head) (es : List Event) (h : Holders) (seat : ℕ) (answer : Answer) → Owners es → OpEnds head es seat answer →
    IsLocks es h → (b : Bool) → is_batch_begun es ≡ b → (h.writer ≡ None) ⊎ (h.writer ≡ Some seat)
over_writer head es h seat answer own comes is false begins =
    inl (unwritten es h is (empty_of (walking es) (over_at_rest head es seat answer own comes)) begins)
over_writer head es h seat answer own comes is true begins =
    inr (is.writer_is ∙ writer_at_rest es true (empty_of (walking es) (over_at_rest head es seat answer own comes)) begins
    ∙ over_by head es seat answer comes)

-- a walk begins: the first of an upmany as any other, and the later ones hold the write side already
can_begin : (head : Head) (es : List Event) (h : Holders) (seat c from to : ℕ) → Owners es → WalkBegins head es seat c from to →
    IsLocks es h → (b : Bool) → is_batch_begun es ≡ b →
    ((h.writer ≡ None) × (wait_to_write h ≡ None)) ⊎ (h.writer ≡ Some seat)
can_begin head es h seat c from to own comes is true begins =
    inr (written es h comes.of own is comes.held begins ∙ ap Some comes.seat_is)
can_begin head es h seat c from to own comes is false begins =
    let alone = walks_alone es comes.no_wait (λ q. absurd (false≢true (sym begins ∙ q))) in
    let unread : readers es ≡ [] = empty_of (readers es) alone.0 in
    let none : readers_in h.reading ≡ 0 = is.readers_are ∙ ap length unread in
    inl (
      unwritten es h is still begins,
      second_of (wait_for_readers (readers_in h.reading)) (wait_for_registration h) (no_readers h none)
          (no_registrar h (unregistered es h is (none_of (registration es) alone.1))),
    )
  where
    still : walking es ≡ []
    still = go (is_upmany comes.of.op) refl (walking es) refl
      where
        there : (v : Option Walk) → is_some v ≡ true → (w : Walk) × (v ≡ Some w)
        there None q = absurd (false≢true q)
        there (Some w) q = (w, refl)

        go : (u : Bool) → is_upmany comes.of.op ≡ u → (cs : List ℕ) → walking es ≡ cs → walking es ≡ []
        go u e [] q = q
        go false e (d ∷ ds) q = empty_of (walking es) (alone_at (is_upmany comes.of.op) (is_walking es) comes.between e)
        go true e (d ∷ ds) q =
            let w = there (walk d es) (sym (walking_is d es) ∙ ap (among d) q ∙ first_among d ds) in
            absurd (false≢true (sym begins ∙ walking_begun es comes.of d w.0 own comes.held e w.1))

pub locks_can : (head : Head) (es : List Event) (h : Holders) (e : Event) → ((seat : ℕ) (role : Role) → e ≡ Admit seat role → ⊥) →
    IsLawful head es → Comes head es e → IsLocks es h → CanHold e h
locks_can head es h (Admit seat role) other lawful comes is = absurd (other seat role refl)
locks_can head es h (Enter seat op) other lawful comes is =
    let free = map_free es op comes.takes_map comes.passes.not_waiting in
    let held : h.map ≡ None = is.map_is ∙ ap (option_map (λ (o : Operation). o.seat)) free in
    (seat_below es h seat (owners head es lawful) is comes.free, no_map h held)
locks_can head es h (OpEnd seat answer) other lawful comes is = (
  is.map_is ∙ over_by head es seat answer comes,
  over_writer head es h seat answer (owners head es lawful) comes is (is_batch_begun es) refl,
)
locks_can head es h (WalkBegin seat cpu from to) other lawful comes is = (
  is.map_is ∙ ap (option_map (λ (o : Operation). o.seat)) comes.held ∙ ap Some comes.seat_is,
  can_begin head es h seat cpu from to (owners head es lawful) comes is (is_batch_begun es) refl,
)
locks_can head es h (WalkEnd seat cpu answer) other lawful comes is =
    let own = owners head es lawful in
    let by = own.walk_op cpu comes.of comes.in_flight in
    is.writer_is ∙ writer_by es by.0 cpu own by.1 (walking_is cpu es ∙ ap is_some comes.in_flight) ∙ ap Some (by.2 ∙ comes.seat_is)
locks_can head es h (RegBegin seat state op) other lawful comes is =
    let alone = begins_alone head es op state comes.state_is comes.passes.not_waiting in
    let none = begins_no_batch head es op state comes.state_is comes.passes.not_waiting in (
      seat_below es h seat (owners head es lawful) is comes.free,
      second_of (wait_for_writer h) (wait_for_registration h) (no_writer h (unwritten es h is (empty_of (walking es) alone.0) none))
          (no_registrar h (unregistered es h is (none_of (registration es) alone.1))),
    )
locks_can head es h (RegEnd seat answer) other lawful comes is = registrar_by es h comes.of seat is comes.in_flight comes.seat_is
locks_can head es h (ReadLock seat) other lawful comes is =
    let still = or_parts (is_walking es) (is_batch_begun es) (sym (writer_waits es) ∙ comes.passes.not_waiting) in (
      seat_below es h seat (owners head es lawful) is comes.free,
      is.reads_are seat ∙ reads_not head es seat comes,
      no_writer h (unwritten es h is (empty_of (walking es) still.0) still.1),
    )
locks_can head es h (ReadUnlock seat) other lawful comes is =
    (seat_below es h seat (owners head es lawful) is comes.free, is.reads_are seat ∙ reads_now head es seat comes)
locks_can head es h e other lawful comes is = tt
