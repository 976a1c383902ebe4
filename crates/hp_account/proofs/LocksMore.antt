-- Who holds which lock after one event more.
use Rattle.std.proofs.Common.{◌≡◌, ◌≢◌, ℕ, zero, suc, ◌+◌, ◌<◌, Bool, true, false, ◌&&◌, cond, eqb, is_some, Option, Some, None, List, [], ◌∷◌, ◌++◌, length, length-append, get_or, refl, sym, ap, ◌∙◌, subst, arith, get_or-set_same, get_or-set_other}
use Rattle.std.specs.Prelude.{option_map}
use Rattle.std.proofs.Math.ListN.{set}
use Rattle.std.proofs.lemmas.Bool.{eqb-true, eqb-false, eq-eqb, false≢true, true≢false}
use Rattle.std.proofs.lemmas.List.{length-set}
use Rattle.std.proofs.lemmas.List.Sums.{sum_by-set, fold-append}
use Rattle.hp_states.proofs.Basics.{same_some, not_false}
use Rattle.hp_event.specs.declared.answer.Answer.{Answer}
use Rattle.hp_event.specs.declared.op.Op.{Op}
use Rattle.hp_event.specs.declared.op.Op.TheVariants.{Lock, Unlock}
use Rattle.hp_event.specs.declared.event.Role.{Role}
use Rattle.hp_event.specs.declared.head.Head.{Head}
use Rattle.hp_event.specs.declared.event.Event.{Event}
use Rattle.hp_event.specs.declared.event.Event.TheVariants.{Admit, Enter, WalkBegin, WalkEnd, OpEnd, RegBegin, RegEnd, ReadLock, ReadUnlock}
use Rattle.hp_model.specs.Batch.{begun, is_upmany, is_batch_begun}
use Rattle.hp_model.specs.Lists.{without, among}
use Rattle.hp_model.specs.Suspend.{held_by}
use Rattle.hp_model.specs.MapLock.{Operation, operation}
use Rattle.hp_model.specs.Walks.{Walk, walk, walking}
use Rattle.hp_model.specs.Registrations.{Registration, registration}
use Rattle.hp_model.specs.Readers.{readers, is_reading, reading_since}
use Rattle.hp_model.specs.Seats.{admits, IsFree}
use Rattle.hp_model.specs.RefusalsAtOnce.{refusals_at_once}
use Rattle.hp_model.specs.Lawful.{Comes, IsLawful}
use Rattle.hp_model.proofs.Laws.{operation_push, begun_push, walk_push, walking_push, registration_push, readers_push, reading_since_push, admits_push}
use Rattle.hp_model.proofs.InFlight.{empty_of, walking_is, none_walking}
use Rattle.hp_model.proofs.BatchLemmas.{walking_begun}
use Rattle.hp_model.proofs.OneNext.{owners}
use Rattle.hp_model.proofs.Owners.{Owners, owners_step, enters_at_rest, over_at_rest, map_free}
use Rattle.hp_model.proofs.WaitLemmas.{first_among}
use Rattle.hp_model.proofs.Passing.{passed, none_holds}
use Rattle.hp_model.proofs.SeatLemmas.{no_reader, is_reader, reader_once}
use Rattle.hp_model.proofs.SumLemmas.{length-without}
use Rattle.hp_model.proofs.SomeMoves.{some_of}
use Rattle.hp_locks.specs.Holders.{Holders, reads, readers_in, with_map, with_writer, with_registrar, with_reader}
use Rattle.hp_account.specs.Locks.{IsLocks, writer_of}
use Rattle.hp_account.specs.After.{holders_after}
use Rattle.hp_account.proofs.FlightFacts.{alone}

-- the seat that holds the write side, where no walk begins or ends, and no operation
batch_stays : (es : List Event) (e : Event) → operation (es ++ e ∷ []) ≡ operation es → begun (es ++ e ∷ []) ≡ begun es →
    writer_of [] (es ++ e ∷ []) ≡ writer_of [] es
batch_stays es e op begins = rw (op, begins) refl

writer_stays : (es : List Event) (e : Event) → ((c : ℕ) → walk c (es ++ e ∷ []) ≡ walk c es) → walking (es ++ e ∷ []) ≡ walking es →
    operation (es ++ e ∷ []) ≡ operation es → begun (es ++ e ∷ []) ≡ begun es →
    writer_of (walking (es ++ e ∷ [])) (es ++ e ∷ []) ≡ writer_of (walking es) es
writer_stays es e same cpus op begins = ap (λ cs. writer_of cs (es ++ e ∷ [])) cpus ∙ go (walking es)
  where
    go : (cs : List ℕ) → writer_of cs (es ++ e ∷ []) ≡ writer_of cs es
    go [] = batch_stays es e op begins
    go (c ∷ cs) = ap (option_map (λ w. w.seat)) (same c)

-- where anything walks it is the seat of the operation
walk_there : (es : List Event) (c : ℕ) → among c (walking es) ≡ true → (w : Walk) × (walk c es ≡ Some w)
walk_there es c h = some_of (walk c es) (sym (walking_is c es) ∙ h)

pub writer_by : (es : List Event) (o : Operation) (c : ℕ) → Owners es → operation es ≡ Some o → among c (walking es) ≡ true →
    writer_of (walking es) es ≡ Some o.seat
writer_by es o c own held there = go (walking es) refl
  where
    go : (cs : List ℕ) → walking es ≡ cs → writer_of cs es ≡ Some o.seat
    go [] e = absurd (false≢true (sym (ap (among c) e) ∙ there))
    go (d ∷ ds) e =
        let w = walk_there es d (ap (among d) e ∙ first_among d ds) in
        let by = own.walk_op d w.0 w.1 in
        let same = same_some by.0 o (sym by.1 ∙ held) in
        ap (option_map (λ (v : Walk). v.seat)) w.1 ∙ ap Some (sym by.2 ∙ ap (λ (x : Operation). x.seat) same)

-- where nothing walks it is that of an upmany that has begun a walk
pub writer_at_rest : (es : List Event) (b : Bool) → walking es ≡ [] → is_batch_begun es ≡ b →
    writer_of (walking es) es ≡ cond b (option_map (λ (o : Operation). o.seat) (operation es)) None
writer_at_rest es b still begins =
    ap (λ cs. writer_of cs es) still ∙ ap (λ q. cond q (option_map (λ (o : Operation). o.seat) (operation es)) None) begins

-- a seat that reads, or doesn't, after an event of another kind
reading_stays : (es : List Event) (e : Event) → ((k : ℕ) → reading_since k (es ++ e ∷ []) ≡ reading_since k es) →
    (k : ℕ) → is_reading k (es ++ e ∷ []) ≡ is_reading k es
reading_stays es e same k = ap is_some (same k)

-- after an event that changes one holder at most, and neither seats nor readers
changed : (es : List Event) (e : Event) (h new : Holders) → IsLocks es h → admits (es ++ e ∷ []) ≡ admits es →
    ((k : ℕ) → reading_since k (es ++ e ∷ []) ≡ reading_since k es) → readers (es ++ e ∷ []) ≡ readers es → new.reading ≡ h.reading →
    new.map ≡ option_map (λ o. o.seat) (operation (es ++ e ∷ [])) → new.writer ≡ writer_of (walking (es ++ e ∷ [])) (es ++ e ∷ []) →
    new.registrar ≡ option_map (λ r. r.seat) (registration (es ++ e ∷ [])) → IsLocks (es ++ e ∷ []) new
changed es e h new is seats since same reading map writer registrar = record {
  map_is = map;
  writer_is = writer;
  registrar_is = registrar;
  seats = ap length reading ∙ is.seats ∙ sym seats;
  reads_are = λ k. ap (λ xs. get_or xs k false) reading ∙ is.reads_are k ∙ sym (reading_stays es e since k);
  readers_are = ap readers_in reading ∙ is.readers_are ∙ ap length (sym same);
}

-- an operation enters where nothing walks, and none has begun
no_batch : (es : List Event) → held_by is_upmany (operation es) ≡ false → is_batch_begun es ≡ false
no_batch es h = rw h refl

enters : (head : Head) (es : List Event) (seat : ℕ) (op : Op) → Owners es → Comes head es (Enter seat op) →
    writer_of (walking es) es ≡ writer_of (walking (es ++ Enter seat op ∷ [])) (es ++ Enter seat op ∷ [])
enters head es seat op own comes =
    let e : Event = Enter seat op in
    let still = none_walking es (λ c. none_if (walk c es) (enters_at_rest head es seat op own comes c)) in
    let free = map_free es op comes.takes_map comes.passes.not_waiting in
    let before = writer_at_rest es false still (no_batch es (ap (held_by is_upmany) free)) in
    let begins : is_batch_begun (es ++ e ∷ []) ≡ false = rw (begun_push es e) (and_false (held_by is_upmany (operation (es ++ e ∷ [])))) in
    before ∙ sym (writer_at_rest (es ++ e ∷ []) false (walking_push es e ∙ still) begins)
  where
    none_if : (w : Option Walk) → ((v : Walk) → w ≡ Some v → ⊥) → w ≡ None
    none_if None h = refl
    none_if (Some v) h = absurd (h v refl)

    and_false : (b : Bool) → (b && false) ≡ false
    and_false true = refl
    and_false false = refl

-- an operation ends where nothing walks
over_none : (head : Head) (es : List Event) (seat : ℕ) (answer : Answer) → Owners es → Comes head es (OpEnd seat answer) →
    None ≡ writer_of (walking (es ++ OpEnd seat answer ∷ [])) (es ++ OpEnd seat answer ∷ [])
over_none head es seat answer own comes =
    let e : Event = OpEnd seat answer in
    let still = empty_of (walking es) (over_at_rest head es seat answer own comes) in
    sym (writer_at_rest (es ++ e ∷ []) false (walking_push es e ∙ still)
    (no_batch (es ++ e ∷ []) (ap (held_by is_upmany) (operation_push es e))))

-- a walk begins, of the operation that holds the map lock
began : (head : Head) (es : List Event) (seat c from to : ℕ) → Owners es → Comes head es (WalkBegin seat c from to) →
    Some seat ≡ writer_of (walking (es ++ WalkBegin seat c from to ∷ [])) (es ++ WalkBegin seat c from to ∷ [])
began head es seat c from to own comes =
    let e : Event = WalkBegin seat c from to in
    let self : eqb c c ≡ true = eq-eqb c c refl in
    let flies : walk c (es ++ e ∷ []) ≡ Some (record { seat = seat; from = from; to = to; before = es }) =
    walk_push c es e ∙ rw self refl in
    let there = walking_is c (es ++ e ∷ []) ∙ ap is_some flies in
    let held = operation_push es e ∙ comes.held in
    ap Some (sym comes.seat_is) ∙ sym (writer_by (es ++ e ∷ []) comes.of c (owners_step head es e comes own) held there)

-- a walk ends: of an upmany, which holds the write side to its end, or the one walk
batch_over : (head : Head) (es : List Event) (seat c : ℕ) (answer : Answer) → Owners es → Comes head es (WalkEnd seat c answer) →
    held_by is_upmany (operation es) ≡ true →
    writer_of (walking es) es ≡ writer_of (walking (es ++ WalkEnd seat c answer ∷ [])) (es ++ WalkEnd seat c answer ∷ [])
batch_over head es seat c answer own comes batch =
    writer_by es o c own held there ∙ sym (go (walking (es ++ e ∷ [])) refl)
  where
    e : Event
    e = WalkEnd seat c answer

    by : (o : Operation) × (operation es ≡ Some o) × (o.seat ≡ comes.of.seat)
    by = own.walk_op c comes.of comes.in_flight

    o : Operation
    o = by.0

    held : operation es ≡ Some o
    held = by.1

    there : among c (walking es) ≡ true
    there = walking_is c es ∙ ap is_some comes.in_flight

    after : operation (es ++ e ∷ []) ≡ Some o
    after = operation_push es e ∙ held

    begins : is_batch_begun (es ++ e ∷ []) ≡ true
    begins =
        let was = walking_begun es o c comes.of own held (sym (ap (held_by is_upmany) held) ∙ batch) comes.in_flight in
        rw (operation_push es e, begun_push es e) was

    go : (cs : List ℕ) → walking (es ++ e ∷ []) ≡ cs → writer_of (walking (es ++ e ∷ [])) (es ++ e ∷ []) ≡ Some o.seat
    go [] q = writer_at_rest (es ++ e ∷ []) true q begins ∙ ap (option_map (λ (x : Operation). x.seat)) after
    go (d ∷ ds) q =
        writer_by (es ++ e ∷ []) o d (owners_step head es e comes own) after (ap (among d) q ∙ first_among d ds)

over : (head : Head) (es : List Event) (seat c : ℕ) (answer : Answer) → IsLawful head es → Comes head es (WalkEnd seat c answer) →
    held_by is_upmany (operation es) ≡ false →
    None ≡ writer_of (walking (es ++ WalkEnd seat c answer ∷ [])) (es ++ WalkEnd seat c answer ∷ [])
over head es seat c answer lawful comes single =
    let e : Event = WalkEnd seat c answer in
    let self : eqb c c ≡ true = eq-eqb c c refl in
    let one = alone head es c comes.of lawful single comes.in_flight in
    let cpus : walking (es ++ e ∷ []) ≡ [] = walking_push es e ∙ rw (one, self) refl in
    sym (writer_at_rest (es ++ e ∷ []) false cpus
    (no_batch (es ++ e ∷ []) (ap (held_by is_upmany) (operation_push es e) ∙ single)))

walk_over : (head : Head) (es : List Event) (h : Holders) (seat c : ℕ) (answer : Answer) → IsLawful head es →
    Comes head es (WalkEnd seat c answer) → IsLocks es h → (b : Bool) → held_by is_upmany (operation es) ≡ b →
    IsLocks (es ++ WalkEnd seat c answer ∷ []) (cond b h (with_writer None h))
walk_over head es h seat c answer lawful comes is true batch =
    let e : Event = WalkEnd seat c answer in
    changed es e h h is (admits_push es e) (λ k. reading_since_push k es e) (readers_push es e) refl
    (is.map_is ∙ ap (option_map (λ (o : Operation). o.seat)) (sym (operation_push es e)))
    (is.writer_is ∙ batch_over head es seat c answer (owners head es lawful) comes batch)
    (is.registrar_is ∙ ap (option_map (λ (r : Registration). r.seat)) (sym (registration_push es e)))
walk_over head es h seat c answer lawful comes is false single =
    let e : Event = WalkEnd seat c answer in
    changed es e h (with_writer None h) is (admits_push es e) (λ k. reading_since_push k es e) (readers_push es e) refl
    (is.map_is ∙ ap (option_map (λ (o : Operation). o.seat)) (sym (operation_push es e)))
    (over head es seat c answer lawful comes single)
    (is.registrar_is ∙ ap (option_map (λ (r : Registration). r.seat)) (sym (registration_push es e)))

-- how many read once a seat does or doesn't
counted : (xs : List Bool) (k : ℕ) (b : Bool) → k < length xs →
    readers_in (set xs k b) + cond (get_or xs k false) 1 0 ≡ readers_in xs + cond b 1 0
counted xs k b below = sum_by-set (λ x. cond x 1 0) xs k b false below

read_at : (xs : List Bool) (c d : ℕ) (b : Bool) → c < length xs → get_or (set xs c b) d false ≡ cond (eqb c d) b (get_or xs d false)
read_at xs c d b below = go (eqb c d) refl
  where
    go : (q : Bool) → eqb c d ≡ q → get_or (set xs c b) d false ≡ cond q b (get_or xs d false)
    go true e = let at : c ≡ d = eqb-true c d e in subst (λ k. get_or (set xs c b) k false ≡ b) at (get_or-set_same xs c b false below)
    go false e = let other : d ≢ c = λ same. eqb-false c d e (sym same) in get_or-set_other xs c d b false other

some_if : (b : Bool) (x found : Option (List Event)) → is_some (cond b x found) ≡ cond b (is_some x) (is_some found)
some_if true x found = refl
some_if false x found = refl

-- a seat that is in has a place
pub seat_below : (es : List Event) (h : Holders) (k : ℕ) → Owners es → IsLocks es h → IsFree es k → k < length h.reading
seat_below es h k owners is free =
    let b = owners.seats_below k _ free.client in let n = is.seats in omega (arith, b, n)

locks : (head : Head) (es : List Event) (h : Holders) (seat : ℕ) → Owners es → Comes head es (ReadLock seat) → reads h seat ≡ false →
    IsLocks es h → IsLocks (es ++ ReadLock seat ∷ []) (with_reader seat true h)
locks head es h seat owners comes outside is =
    let e : Event = ReadLock seat in
    let below = seat_below es h seat owners is comes.free in
    let not_in : is_reading seat es ≡ false = sym (is.reads_are seat) ∙ outside in
    record {
      map_is = is.map_is ∙ ap (option_map (λ (o : Operation). o.seat)) (sym (operation_push es e));
      writer_is = is.writer_is ∙ sym (writer_stays es e (λ c. walk_push c es e) (walking_push es e) (operation_push es e) (begun_push es e));
      registrar_is = is.registrar_is ∙ ap (option_map (λ (r : Registration). r.seat)) (sym (registration_push es e));
      seats = length-set h.reading seat true ∙ is.seats ∙ sym (admits_push es e);
      reads_are = λ k.
          read_at h.reading seat k true below ∙ ap (cond (eqb seat k) true) (is.reads_are k)
          ∙ sym (ap is_some (reading_since_push k es e) ∙ some_if (eqb seat k) (Some es) (reading_since k es));
      readers_are =
          let a = counted h.reading seat true below in
          let b : readers_in (set h.reading seat true) ≡ readers_in h.reading + 1 =
          let f : get_or h.reading seat false ≡ false = outside in
          let g : readers_in (set h.reading seat true) + 0 ≡ readers_in h.reading + 1 = rw f at a in omega (arith, g) in
          let none = no_reader seat es not_in in
          let w = length-without seat (readers es) in
          let r = is.readers_are in
          b ∙ (rw (readers_push es e, length-append (without seat (readers es)) (seat ∷ [])) (omega (arith, none, w, r)));
    }

unlocks : (head : Head) (es : List Event) (h : Holders) (seat : ℕ) → Owners es → Comes head es (ReadUnlock seat) → reads h seat ≡ true →
    IsLocks es h → IsLocks (es ++ ReadUnlock seat ∷ []) (with_reader seat false h)
unlocks head es h seat owners comes inside is =
    let e : Event = ReadUnlock seat in
    let below = seat_below es h seat owners is comes.free in
    let in_it : is_reading seat es ≡ true = sym (is.reads_are seat) ∙ inside in
    record {
      map_is = is.map_is ∙ ap (option_map (λ (o : Operation). o.seat)) (sym (operation_push es e));
      writer_is = is.writer_is ∙ sym (writer_stays es e (λ c. walk_push c es e) (walking_push es e) (operation_push es e) (begun_push es e));
      registrar_is = is.registrar_is ∙ ap (option_map (λ (r : Registration). r.seat)) (sym (registration_push es e));
      seats = length-set h.reading seat false ∙ is.seats ∙ sym (admits_push es e);
      reads_are = λ k.
          read_at h.reading seat k false below ∙ ap (cond (eqb seat k) false) (is.reads_are k)
          ∙ sym (ap is_some (reading_since_push k es e) ∙ some_if (eqb seat k) None (reading_since k es));
      readers_are =
          let a = counted h.reading seat false below in
          let b : readers_in (set h.reading seat false) + 1 ≡ readers_in h.reading =
          let f : get_or h.reading seat false ≡ true = inside in
          let g : readers_in (set h.reading seat false) + 1 ≡ readers_in h.reading + 0 = rw f at a in omega (arith, g) in
          let least = is_reader seat es in_it in
          let most = reader_once seat es in
          let w = length-without seat (readers es) in
          let r = is.readers_are in
          rw (readers_push es e) (omega (arith, b, least, most, w, r));
    }

-- a seat comes in, which doesn't read
admits_one : (es : List Event) (h : Holders) (seat : ℕ) (role : Role) → IsLocks es h →
    IsLocks (es ++ Admit seat role ∷ []) (holders_after false (Admit seat role) h)
admits_one es h seat role is =
    let e : Event = Admit seat role in
    record {
      map_is = is.map_is ∙ ap (option_map (λ (o : Operation). o.seat)) (sym (operation_push es e));
      writer_is = is.writer_is ∙ sym (writer_stays es e (λ c. walk_push c es e) (walking_push es e) (operation_push es e) (begun_push es e));
      registrar_is = is.registrar_is ∙ ap (option_map (λ (r : Registration). r.seat)) (sym (registration_push es e));
      seats = length-append h.reading (false ∷ []) ∙ ap (λ n. n + 1) is.seats ∙ sym (admits_push es e);
      reads_are = λ k. none_there h.reading k ∙ is.reads_are k ∙ sym (ap is_some (reading_since_push k es e));
      readers_are =
          fold-append (λ (n : ℕ) (b : Bool). n + cond b 1 0) 0 h.reading (false ∷ []) ∙ zero_more (readers_in h.reading) ∙ is.readers_are
          ∙ ap length (sym (readers_push es e));
    }
  where
    zero_more : (n : ℕ) → n + 0 ≡ n
    zero_more n = omega arith

    none_there : (xs : List Bool) (k : ℕ) → get_or (xs ++ false ∷ []) k false ≡ get_or xs k false
    none_there [] zero = refl
    none_there [] (suc k) = refl
    none_there (x ∷ xs) zero = refl
    none_there (x ∷ xs) (suc k) = none_there xs k

-- a seat that begins to read didn't, and one that ends did
pub reads_not : (head : Head) (es : List Event) (seat : ℕ) → Comes head es (ReadLock seat) → is_reading seat es ≡ false
reads_not head es seat comes =
    let p = passed head es seat Lock comes.free.idle comes.passes.not_waiting comes.passes.not_refused in
    (none_holds (refusals_at_once head es seat Lock) p.0).0

pub reads_now : (head : Head) (es : List Event) (seat : ℕ) → Comes head es (ReadUnlock seat) → is_reading seat es ≡ true
reads_now head es seat comes =
    let p = passed head es seat Unlock comes.free.idle comes.passes.not_waiting comes.passes.not_refused in
    not_false (is_reading seat es) (none_holds (refusals_at_once head es seat Unlock) p.0).0

pub locks_more : (head : Head) (es : List Event) (h : Holders) (e : Event) → IsLawful head es → Comes head es e → IsLocks es h →
    IsLocks (es ++ e ∷ []) (holders_after (held_by is_upmany (operation es)) e h)
locks_more head es h (Admit seat role) lawful comes is = admits_one es h seat role is
locks_more head es h (Enter seat op) lawful comes is =
    let e : Event = Enter seat op in
    changed es e h (with_map (Some seat) h) is (admits_push es e) (λ k. reading_since_push k es e) (readers_push es e) refl
    (ap (option_map (λ (o : Operation). o.seat)) (sym (operation_push es e)))
    (is.writer_is ∙ enters head es seat op (owners head es lawful) comes)
    (is.registrar_is ∙ ap (option_map (λ (r : Registration). r.seat)) (sym (registration_push es e)))
locks_more head es h (OpEnd seat answer) lawful comes is =
    let e : Event = OpEnd seat answer in
    changed es e h (with_map None (with_writer None h)) is (admits_push es e) (λ k. reading_since_push k es e) (readers_push es e) refl
    (ap (option_map (λ (o : Operation). o.seat)) (sym (operation_push es e)))
    (over_none head es seat answer (owners head es lawful) comes)
    (is.registrar_is ∙ ap (option_map (λ (r : Registration). r.seat)) (sym (registration_push es e)))
locks_more head es h (WalkBegin seat c from to) lawful comes is =
    let e : Event = WalkBegin seat c from to in
    changed es e h (with_writer (Some seat) h) is (admits_push es e) (λ k. reading_since_push k es e) (readers_push es e) refl
    (is.map_is ∙ ap (option_map (λ (o : Operation). o.seat)) (sym (operation_push es e)))
    (began head es seat c from to (owners head es lawful) comes)
    (is.registrar_is ∙ ap (option_map (λ (r : Registration). r.seat)) (sym (registration_push es e)))
locks_more head es h (WalkEnd seat c answer) lawful comes is =
    walk_over head es h seat c answer lawful comes is (held_by is_upmany (operation es)) refl
locks_more head es h (RegBegin seat state op) lawful comes is =
    let e : Event = RegBegin seat state op in
    changed es e h (with_registrar (Some seat) h) is (admits_push es e) (λ k. reading_since_push k es e) (readers_push es e) refl
    (is.map_is ∙ ap (option_map (λ (o : Operation). o.seat)) (sym (operation_push es e)))
    (is.writer_is ∙ sym (writer_stays es e (λ c. walk_push c es e) (walking_push es e) (operation_push es e) (begun_push es e)))
    (ap (option_map (λ (r : Registration). r.seat)) (sym (registration_push es e)))
locks_more head es h (RegEnd seat answer) lawful comes is =
    let e : Event = RegEnd seat answer in
    changed es e h (with_registrar None h) is (admits_push es e) (λ k. reading_since_push k es e) (readers_push es e) refl
    (is.map_is ∙ ap (option_map (λ (o : Operation). o.seat)) (sym (operation_push es e)))
    (is.writer_is ∙ sym (writer_stays es e (λ c. walk_push c es e) (walking_push es e) (operation_push es e) (begun_push es e)))
    (ap (option_map (λ (r : Registration). r.seat)) (sym (registration_push es e)))
locks_more head es h (ReadLock seat) lawful comes is =
    locks head es h seat (owners head es lawful) comes (is.reads_are seat ∙ reads_not head es seat comes) is
locks_more head es h (ReadUnlock seat) lawful comes is =
    unlocks head es h seat (owners head es lawful) comes (is.reads_are seat ∙ reads_now head es seat comes) is
locks_more head es h e lawful comes is =
    changed es e h h is (admits_push es e) (λ k. reading_since_push k es e) (readers_push es e) refl
    (is.map_is ∙ ap (option_map (λ (o : Operation). o.seat)) (sym (operation_push es e)))
    (is.writer_is ∙ sym (writer_stays es e (λ c. walk_push c es e) (walking_push es e) (operation_push es e) (begun_push es e)))
    (is.registrar_is ∙ ap (option_map (λ (r : Registration). r.seat)) (sym (registration_push es e)))

-- where nobody holds the write side, nothing walks
pub unwritten_still : (es : List Event) (h : Holders) → IsLocks es h → h.writer ≡ None → walking es ≡ []
unwritten_still es h is free = go (walking es) refl
  where
    some : (c : ℕ) (w : Option Walk) → walk c es ≡ w → is_some w ≡ true → option_map (λ (w : Walk). w.seat) w ≡ None → ⊥
    some c None at there none = true≢false (sym there)
    some c (Some w) at there none = cc none

    go : (cs : List ℕ) → walking es ≡ cs → walking es ≡ []
    go [] e = e
    go (c ∷ cs) e =
        let there : is_some (walk c es) ≡ true = sym (walking_is c es) ∙ (ap (among c) e ∙ first_among c cs) in
        let none : option_map (λ (w : Walk). w.seat) (walk c es) ≡ None = sym (ap (λ ds. writer_of ds es) e) ∙ (sym is.writer_is ∙ free) in
        absurd (some c (walk c es) refl there none)
