-- Who waits for a lock before an operation waits on after an event that gives none back; and who has an operation in flight waits
-- where a thread has to make its next entry.
use Rattle.std.proofs.Common.{◌≡◌, ◌≢◌, ℕ, Bool, true, false, not, ◌&&◌, ◌||◌, cond, is_some, Option, Some, None, List, [], ◌∷◌, ◌++◌, refl, ap, sym, ◌∙◌, inl, inr, ◌⊎◌, ⊎_elim}
use Rattle.std.proofs.lemmas.Bool.{true≢false, false≢true, and_parts, ne_eqb}
use Rattle.hp_event.specs.declared.op.Op.{Op}
use Rattle.hp_event.specs.declared.op.Op.TheVariants.{Up, Down, Target, Arm, ShowStates, Setup, Remove, Add, Del, Lock, Unlock, Boot, Disable, Enable, Freeze, Thaw, UpMany}
use Rattle.hp_event.specs.declared.head.Head.{Head}
use Rattle.hp_event.specs.declared.event.Event.{Event}
use Rattle.hp_event.specs.declared.event.Event.TheVariants.{Enter, WalkBegin, WalkEnd, OpEnd, RegBegin, RegEnd, ReadLock, ReadUnlock}
use Rattle.hp_model.specs.ApTurn.{IsApTurn}
use Rattle.hp_model.specs.Batch.{begun, begun_step, is_upmany, is_batch_begun}
use Rattle.hp_model.specs.Events.{seat_of}
use Rattle.hp_model.specs.Lawful.{Comes, Stands, IsLawful}
use Rattle.hp_model.specs.Lists.{is_empty, without}
use Rattle.hp_model.specs.MapLock.{Operation, operation, operation_step}
use Rattle.hp_model.specs.NextEvent.{is_full}
use Rattle.hp_model.specs.Pending.{Pending, IsAllowed}
use Rattle.hp_model.specs.Readers.{is_reading, reading_since, reading_since_step}
use Rattle.hp_model.specs.Refusals.{refusal}
use Rattle.hp_model.specs.RefusalsAtOnce.{refusals_at_once}
use Rattle.hp_model.specs.Registrations.{registration, registration_step}
use Rattle.hp_model.specs.Seats.{is_busy}
use Rattle.hp_model.specs.Suspend.{held_by}
use Rattle.hp_model.specs.Turns.{IsKeptWaiting, NeedsThread, MakesNone}
use Rattle.hp_model.specs.Waits.{Wait, first_wait, wait_for_map, wait_for_registration, wait_for_writer, wait_to_register, wait_to_begin, is_waiting, is_disarming}
use Rattle.hp_model.specs.Walks.{walking, walking_step, is_walking}
use Rattle.hp_model.proofs.FindsOne.{finds_one, thread_busy}
use Rattle.hp_model.proofs.HeadlineProof.{lawful_more}
use Rattle.hp_model.proofs.Laws.{operation_push, registration_push, walking_push, begun_push, reading_since_push}
use Rattle.hp_model.proofs.NextGives.{next_nothing, full_exactly}
use Rattle.hp_model.proofs.OneNext.{owners}
use Rattle.hp_model.proofs.Owners.{map_free}
use Rattle.hp_model.proofs.WaitLemmas.{map_waits, registration_waits, writer_waits}
use Rattle.hp_live.specs.Freed.{Waits, gives_back}

-- ---- what keeps a lock is still there

or_stays : (a b c d : Bool) → (a ≡ true → c ≡ true) → (b ≡ true → d ≡ true) → (a || b) ≡ true → (c || d) ≡ true
or_stays true b c d f g h = rw (f refl) refl
or_stays false b true d f g h = refl
or_stays false b false d f g h = g h

map_stays : (xs : List Event) (e : Event) → gives_back e ≡ false → is_some (operation xs) ≡ true →
    is_some (operation (xs ++ e ∷ [])) ≡ true
map_stays xs e g h = rw (operation_push xs e) (go e g)
  where
    go : (x : Event) → gives_back x ≡ false → is_some (operation_step (operation xs) xs x) ≡ true
    go (Enter seat op) g = refl
    go (OpEnd seat answer) g = absurd (true≢false g)
    go x g = h

registration_stays : (xs : List Event) (e : Event) → gives_back e ≡ false → is_some (registration xs) ≡ true →
    is_some (registration (xs ++ e ∷ [])) ≡ true
registration_stays xs e g h = rw (registration_push xs e) (go e g)
  where
    go : (x : Event) → gives_back x ≡ false → is_some (registration_step (registration xs) xs x) ≡ true
    go (RegBegin seat state op) g = refl
    go (RegEnd seat answer) g = absurd (true≢false g)
    go x g = h

put_last : (cs : List ℕ) (c : ℕ) → not (is_empty (cs ++ c ∷ [])) ≡ true
put_last [] c = refl
put_last (d ∷ ds) c = refl

walks_stay : (xs : List Event) (e : Event) → gives_back e ≡ false → is_walking xs ≡ true → is_walking (xs ++ e ∷ []) ≡ true
walks_stay xs e g h = rw (walking_push xs e) (go e g)
  where
    go : (x : Event) → gives_back x ≡ false → not (is_empty (walking_step (walking xs) xs x)) ≡ true
    go (WalkBegin seat cpu from to) g = put_last (without cpu (walking xs)) cpu
    go (WalkEnd seat cpu answer) g = absurd (true≢false g)
    go x g = h

batch_stays : (head : Head) (xs : List Event) (e : Event) → Comes head xs e → gives_back e ≡ false → is_batch_begun xs ≡ true →
    is_batch_begun (xs ++ e ∷ []) ≡ true
batch_stays head xs e k g h = rw (operation_push xs e, begun_push xs e) (go e k g)
  where
    held : (o : Option Operation) → operation xs ≡ o → o ≡ None → ⊥
    held o at none =
        true≢false (sym (and_parts (held_by is_upmany (operation xs)) (not (is_empty (begun xs))) h).0 ∙ ap (held_by is_upmany) (at ∙ none))

    go : (x : Event) → Comes head xs x → gives_back x ≡ false →
        (held_by is_upmany (operation_step (operation xs) xs x) && not (is_empty (begun_step (begun xs) xs x))) ≡ true
    go (Enter seat op) k g = absurd (held (operation xs) refl (map_free xs op k.takes_map k.passes.not_waiting))
    go (OpEnd seat answer) k g = absurd (true≢false g)
    go (WalkBegin seat cpu from to) k g =
        rw ((and_parts (held_by is_upmany (operation xs)) (not (is_empty (begun xs))) h).0, put_last (begun xs) cpu) refl
    go x k g = h

writes_stay : (head : Head) (xs : List Event) (e : Event) → Comes head xs e → gives_back e ≡ false →
    is_some (wait_for_writer (walking xs) xs) ≡ true → is_some (wait_for_writer (walking (xs ++ e ∷ [])) (xs ++ e ∷ [])) ≡ true
writes_stay head xs e k g h =
    writer_waits (xs ++ e ∷ [])
    ∙ or_stays (is_walking xs) (is_batch_begun xs) (is_walking (xs ++ e ∷ [])) (is_batch_begun (xs ++ e ∷ [])) (walks_stay xs e g)
    (batch_stays head xs e k g) (sym (writer_waits xs) ∙ h)

-- ---- so an operation that it kept waiting is

first_some : (a b : Option Wait) → is_some (first_wait a b) ≡ (is_some a || is_some b)
first_some None b = refl
first_some (Some w) b = refl

either_stays : (a b c d : Option Wait) → (is_some a ≡ true → is_some c ≡ true) → (is_some b ≡ true → is_some d ≡ true) →
    is_some (first_wait a b) ≡ true → is_some (first_wait c d) ≡ true
either_stays a b c d f g h =
    first_some c d ∙ or_stays (is_some a) (is_some b) (is_some c) (is_some d) f g (sym (first_some a b) ∙ h)

waits_on : (head : Head) (xs : List Event) (e : Event) → Comes head xs e → gives_back e ≡ false → (op : Op) →
    is_waiting xs op ≡ true → is_waiting (xs ++ e ∷ []) op ≡ true
waits_on head xs e k g = go
  where
    ys : List Event
    ys = xs ++ e ∷ []

    map : is_some (wait_for_map (operation xs)) ≡ true → is_some (wait_for_map (operation ys)) ≡ true
    map h = map_waits (operation ys) ∙ map_stays xs e g (sym (map_waits (operation xs)) ∙ h)

    reg : is_some (wait_for_registration (registration xs)) ≡ true → is_some (wait_for_registration (registration ys)) ≡ true
    reg h = registration_waits (registration ys) ∙ registration_stays xs e g (sym (registration_waits (registration xs)) ∙ h)

    to_register : is_some (wait_to_register xs) ≡ true → is_some (wait_to_register ys) ≡ true
    to_register =
        either_stays (wait_for_writer (walking xs) xs) (wait_for_registration (registration xs))
        (wait_for_writer (walking ys) ys) (wait_for_registration (registration ys)) (writes_stay head xs e k g) reg

    arms : (b : Bool) → is_some (cond b None (wait_for_registration (registration xs))) ≡ true →
        is_some (cond b None (wait_for_registration (registration ys))) ≡ true
    arms true h = h
    arms false h = reg h

    go : (op : Op) → is_waiting xs op ≡ true → is_waiting ys op ≡ true
    go (Up c) h = map h
    go (Down c) h = map h
    go (Target c v) h =
        either_stays (wait_for_map (operation xs)) (wait_for_registration (registration xs)) (wait_for_map (operation ys))
        (wait_for_registration (registration ys)) map reg h
    go (Boot n) h = map h
    go Disable h = map h
    go Enable h = map h
    go (Freeze p) h = map h
    go Thaw h = map h
    go (UpMany set) h = map h
    go (Arm c v) h = arms (is_disarming v) h
    go ShowStates h = reg h
    go Lock h = writes_stay head xs e k g h
    go (Setup s sub form) h = to_register h
    go (Remove s form) h = to_register h
    go (Add s i form) h = to_register h
    go (Del s i form) h = to_register h
    go op h = h

-- ---- and it isn't refused at once, if it wasn't

reads_on : (xs : List Event) (e : Event) (k : ℕ) → seat_of e ≢ k → is_reading k (xs ++ e ∷ []) ≡ is_reading k xs
reads_on xs e k other = ap is_some (reading_since_push k xs e ∙ go e other)
  where
    go : (x : Event) → seat_of x ≢ k → reading_since_step k (reading_since k xs) xs x ≡ reading_since k xs
    go (ReadLock seat) other = let apart = ne_eqb seat k other in rw apart refl
    go (ReadUnlock seat) other = let apart = ne_eqb seat k other in rw apart refl
    go x other = refl

at_once_same : (head : Head) (xs ys : List Event) (k : ℕ) (op : Op) → is_reading k ys ≡ is_reading k xs →
    refusals_at_once head ys k op ≡ refusals_at_once head xs k op
at_once_same head xs ys k (Up c) h = rw h refl
at_once_same head xs ys k (Down c) h = rw h refl
at_once_same head xs ys k (Target c v) h = rw h refl
at_once_same head xs ys k (Boot n) h = rw h refl
at_once_same head xs ys k Disable h = rw h refl
at_once_same head xs ys k Enable h = rw h refl
at_once_same head xs ys k (Freeze p) h = rw h refl
at_once_same head xs ys k Thaw h = rw h refl
at_once_same head xs ys k (UpMany set) h = rw h refl
at_once_same head xs ys k Lock h = rw h refl
at_once_same head xs ys k Unlock h = rw h refl
at_once_same head xs ys k (Setup s sub form) h = rw h refl
at_once_same head xs ys k (Remove s form) h = rw h refl
at_once_same head xs ys k (Add s i form) h = rw h refl
at_once_same head xs ys k (Del s i form) h = rw h refl
at_once_same head xs ys k op h = refl

refused_same : (head : Head) (xs ys : List Event) (k : ℕ) (op : Op) → is_busy k xs ≡ false → is_busy k ys ≡ false →
    is_reading k ys ≡ is_reading k xs → is_waiting xs op ≡ true → is_waiting ys op ≡ true →
    refusal head ys k op ≡ refusal head xs k op
refused_same head xs ys k op idle still reads was now =
    rw (idle, still, was, now, at_once_same head xs ys k op reads) refl

-- ---- what the functions find then

-- who is kept waiting, or needs a thread, waits
pub found_waits : (head : Head) (xs : List Event) (k : ℕ) (op : Op) → IsLawful head xs →
    IsAllowed head xs (record { seat = k; op = op }) →
    IsKeptWaiting head xs (record { seat = k; op = op }) ⊎ NeedsThread head xs (record { seat = k; op = op }) → Waits head xs k op
found_waits head xs k op lawful allowed w =
    record {
      no_event = (next_nothing head xs p lawful allowed).1 (inr w);
      not_full = go (is_full head xs k op) refl;
    }
  where
    p : Pending
    p = record { seat = k; op = op }

    go : (b : Bool) → is_full head xs k op ≡ b → b ≡ false
    go false e = refl
    go true e =
        let one = finds_one head xs p lawful allowed in
        let full = (full_exactly head xs p lawful allowed).0 e in
        absurd (⊎_elim (λ z. one.full_waits full z) (λ z. one.full_thread full z) w)

-- whose next entry is a thread's waits
pub thread_waits : (head : Head) (xs : List Event) (k cpu : ℕ) (op : Op) → IsLawful head xs →
    IsAllowed head xs (record { seat = k; op = op }) → IsApTurn head xs k cpu → Waits head xs k op
thread_waits head xs k cpu op lawful allowed t = found_waits head xs k op lawful allowed (inr (cpu, t))

-- what it waits for
kept_waiting : (head : Head) (xs : List Event) (k : ℕ) (op : Op) → IsLawful head xs →
    IsAllowed head xs (record { seat = k; op = op }) → is_busy k xs ≡ false → Waits head xs k op →
    IsKeptWaiting head xs (record { seat = k; op = op })
kept_waiting head xs k op lawful allowed idle w = go ((next_nothing head xs p lawful allowed).0 w.no_event)
  where
    p : Pending
    p = record { seat = k; op = op }

    go : MakesNone head xs p → IsKeptWaiting head xs p
    go (inl full) = absurd (true≢false (sym ((full_exactly head xs p lawful allowed).1 full) ∙ w.not_full))
    go (inr (inl z)) = z
    go (inr (inr t)) =
        absurd (thread_busy head xs k t.0 (owners head xs lawful) t.1 (record { client = allowed.client; idle = idle }))

-- who has nothing in flight and waits does so after an event of another that gives no lock back
pub idle_waits : (head : Head) (xs : List Event) (e : Event) (k : ℕ) (op : Op) → IsLawful head xs → Stands head xs e →
    gives_back e ≡ false → seat_of e ≢ k → IsAllowed head xs (record { seat = k; op = op }) →
    IsAllowed head (xs ++ e ∷ []) (record { seat = k; op = op }) → is_busy k xs ≡ false → is_busy k (xs ++ e ∷ []) ≡ false →
    Waits head xs k op → Waits head (xs ++ e ∷ []) k op
idle_waits head xs e k op lawful stands g other allowed later idle still w =
    found_waits head ys k op (lawful_more head xs e lawful stands) later (inl now)
  where
    ys : List Event
    ys = xs ++ e ∷ []

    was : IsKeptWaiting head xs (record { seat = k; op = op })
    was = kept_waiting head xs k op lawful allowed idle w

    waiting : is_waiting xs op ≡ true
    waiting = let h = was.2 in ap is_some (rw idle at h)

    waiting_on : is_waiting ys op ≡ true
    waiting_on = waits_on head xs e stands.0 g op waiting

    some : (v : Option Wait) → wait_to_begin ys op ≡ v → is_some v ≡ true → (why : Wait) × (wait_to_begin ys op ≡ Some why)
    some None at h = absurd (false≢true h)
    some (Some why) at h = (why, at)

    now : IsKeptWaiting head ys (record { seat = k; op = op })
    now =
        let s = some (wait_to_begin ys op) refl waiting_on in
        (s.0, refused_same head xs ys k op idle still (reads_on xs e k other) waiting waiting_on ∙ was.1, rw still s.1)
