-- An operation that waits to begin makes nothing of a turn, and waits on after what another seat does, unless something ends by that.
use Rattle.std.proofs.Common.{◌≡◌, ◌≢◌, ℕ, Bool, true, false, cond, ◌&&◌, not, ◌||◌, is_some, Option, Some, None, List, [], ◌∷◌, ◌++◌, refl, ap, sym, ◌∙◌}
use Rattle.std.proofs.lemmas.List.{append-nil}
use Rattle.std.proofs.lemmas.Bool.{true≢false, ne_eqb, or_parts}
use Rattle.hp_states.proofs.Basics.{or_false, none_some}
use Rattle.hp_event.specs.declared.op.Op.{Op}
use Rattle.hp_event.specs.declared.op.Op.TheVariants as op
use Rattle.hp_event.specs.declared.head.Head.{Head}
use Rattle.hp_event.specs.declared.event.Event.{Event}
use Rattle.hp_event.specs.declared.event.Event.TheVariants.{Enter, WalkBegin, WalkEnd, OpEnd, RegBegin, RegEnd, ReadLock, ReadUnlock}
use Rattle.hp_model.specs.Events.{seat_of}
use Rattle.hp_model.specs.FirstEvent.{first_event, is_client, refused_or_begun}
use Rattle.hp_model.specs.Lists.{is_empty, without}
use Rattle.hp_model.specs.Batch.{begun, begun_step, is_upmany, is_batch_begun}
use Rattle.hp_model.specs.Lawful.{Comes}
use Rattle.hp_model.specs.MapLock.{Operation, operation, operation_step, is_map_held, is_map_op}
use Rattle.hp_model.specs.NextEvent.{next_event, is_full, if_room, lacks_room, next_in_flight}
use Rattle.hp_model.specs.Readers.{reading_since, reading_since_step, is_reading}
use Rattle.hp_model.specs.Refusals.{refusal}
use Rattle.hp_model.specs.RefusalsAtOnce.{first_that_holds, refusals_at_once}
use Rattle.hp_model.specs.Registrations.{Registration, registration, registration_step, is_registering}
use Rattle.hp_model.specs.Seats.{is_busy, holds_map, registers, role_of}
use Rattle.hp_model.specs.Subsystems.{names_sub}
use Rattle.hp_model.specs.Suspend.{held_by}
use Rattle.hp_model.specs.Waits.{Wait, maps_held, writer_in, first_wait, is_waiting, is_disarming, wait_for_map, wait_for_registration, wait_for_walk, wait_for_batch, wait_for_writer, wait_to_register, wait_to_begin}
use Rattle.hp_model.specs.Walks.{Walk, walk, walking, walking_step, is_walking}
use Rattle.hp_model.proofs.Laws.{operation_push, registration_push, reading_since_push, walking_push, begun_push}
use Rattle.hp_model.proofs.Owners.{map_free}
use Rattle.hp_model.proofs.WaitLemmas.{is_writing, map_waits, registration_waits, writer_waits, first_waits, register_waits}
use Rattle.hp_actors.specs.PassedOver.{IsReady, IsWaiting, is_end}

neither : (a b : Bool) → a ≡ false → b ≡ false → (a || b) ≡ false
neither a b x y = rw (x, y) refl

not_empty : (xs : List ℕ) (x : ℕ) → not (is_empty (xs ++ x ∷ [])) ≡ true
not_empty [] x = refl
not_empty (y ∷ ys) x = refl

-- what an event of another seat leaves of a seat with nothing in flight
record LeavesReady (seat : ℕ) (before : List Event) (e : Event) : Type 0 where
  pub idle :
      (holds_map seat (operation_step (operation before) before e)
      || registers seat (registration_step (registration before) before e))
      ≡ false
  pub reading : is_some (reading_since_step seat (reading_since seat before) before e) ≡ is_reading seat before

leaves_ready : (xs : List Event) (e : Event) (k : ℕ) → seat_of e ≢ k → is_busy k xs ≡ false → LeavesReady k xs e
leaves_ready xs (Enter seat o) k other idle =
    let parts = or_parts (holds_map k (operation xs)) (registers k (registration xs)) idle in
    record { idle = neither _ _ (ne_eqb seat k other) parts.1; reading = refl }
leaves_ready xs (OpEnd seat answer) k other idle =
    let parts = or_parts (holds_map k (operation xs)) (registers k (registration xs)) idle in
    record { idle = neither _ _ refl parts.1; reading = refl }
leaves_ready xs (RegBegin seat state o) k other idle =
    let parts = or_parts (holds_map k (operation xs)) (registers k (registration xs)) idle in
    record { idle = neither _ _ parts.0 (ne_eqb seat k other); reading = refl }
leaves_ready xs (RegEnd seat answer) k other idle =
    let parts = or_parts (holds_map k (operation xs)) (registers k (registration xs)) idle in
    record { idle = neither _ _ parts.0 refl; reading = refl }
leaves_ready xs (ReadLock seat) k other idle =
    record { idle = idle; reading = ap (λ b. is_some (cond b (Some xs) (reading_since k xs))) (ne_eqb seat k other) }
leaves_ready xs (ReadUnlock seat) k other idle =
    record { idle = idle; reading = ap (λ b. is_some (cond b None (reading_since k xs))) (ne_eqb seat k other) }
leaves_ready xs e k other idle = record { idle = idle; reading = refl }

-- what an event that is no end leaves held
record LeavesHeld (before : List Event) (e : Event) : Type 0 where
  pub map : is_map_held before ≡ true → is_some (operation_step (operation before) before e) ≡ true
  pub registers : is_registering before ≡ true → is_some (registration_step (registration before) before e) ≡ true
  pub writes : is_writing before ≡ true →
      (not (is_empty (walking_step (walking before) before e))
      || (held_by is_upmany (operation_step (operation before) before e) && not (is_empty (begun_step (begun before) before e))))
      ≡ true

-- where an operation enters nobody holds the map lock, so an upmany has begun no walk
walks_then : (xs : List Event) (b : Bool) → operation xs ≡ None → is_writing xs ≡ true → (is_walking xs || b) ≡ true
walks_then xs b none h =
    let no : is_batch_begun xs ≡ false = rw none refl in
    rw (sym (or_false (is_walking xs)) ∙ (ap (λ z. is_walking xs || z) (sym no) ∙ h)) refl

leaves_held : (head : Head) (xs : List Event) (e : Event) → Comes head xs e → is_end e ≡ false → LeavesHeld xs e
leaves_held head xs (Enter seat o) comes end =
    let free = map_free xs o comes.takes_map comes.passes.not_waiting in
    record { map = λ held. refl; registers = λ held. held; writes = λ held. walks_then xs _ free held }
leaves_held head xs (RegBegin seat state o) comes end =
    record { map = λ held. held; registers = λ held. refl; writes = λ held. held }
leaves_held head xs (WalkBegin seat cpu from to) comes end =
    record {
      map = λ held. held;
      registers = λ held. held;
      writes = λ held. let some = not_empty (without cpu (walking xs)) cpu in rw some refl;
    }
leaves_held head xs (WalkEnd seat cpu answer) comes end = absurd (true≢false end)
leaves_held head xs (OpEnd seat answer) comes end = absurd (true≢false end)
leaves_held head xs (RegEnd seat answer) comes end = absurd (true≢false end)
leaves_held head xs e comes end = record { map = λ held. held; registers = λ held. held; writes = λ held. held }

either_on : (a b c d : Bool) → (a ≡ true → c ≡ true) → (b ≡ true → d ≡ true) → (a || b) ≡ true → (c || d) ≡ true
either_on true b c d x y h = ap (λ z. z || d) (x refl)
either_on false b true d x y h = refl
either_on false b false d x y h = y h

-- what an operation waits for is there as long as the locks are held
waits_on : (before after : List Event) (o : Op) → (is_map_held before ≡ true → is_map_held after ≡ true) →
    (is_registering before ≡ true → is_registering after ≡ true) → (is_writing before ≡ true → is_writing after ≡ true) →
    is_waiting before o ≡ true → is_waiting after o ≡ true
waits_on before after o map reg writes w = go o w
  where
    map_on : is_some (wait_for_map (operation before)) ≡ true → is_some (wait_for_map (operation after)) ≡ true
    map_on w = map_waits (operation after) ∙ map (sym (map_waits (operation before)) ∙ w)

    reg_on : is_some (wait_for_registration (registration before)) ≡ true →
        is_some (wait_for_registration (registration after)) ≡ true
    reg_on w = registration_waits (registration after) ∙ reg (sym (registration_waits (registration before)) ∙ w)

    register_on : (is_writing before || is_registering before) ≡ true → (is_writing after || is_registering after) ≡ true
    register_on w = either_on (is_writing before) (is_registering before) (is_writing after) (is_registering after) writes reg w

    arm_on : (b : Bool) → is_some (cond b None (wait_for_registration (registration before))) ≡ true →
        is_some (cond b None (wait_for_registration (registration after))) ≡ true
    arm_on true w = w
    arm_on false w = reg_on w

    go : (o : Op) → is_waiting before o ≡ true → is_waiting after o ≡ true
    go (op.Up c) w = map_on w
    go (op.Down c) w = map_on w
    go (op.Target c v) w =
        first_waits (wait_for_map (operation after)) (wait_for_registration (registration after))
        ∙ either_on _ _ _ _ map_on reg_on
        (sym (first_waits (wait_for_map (operation before)) (wait_for_registration (registration before))) ∙ w)
    go (op.Boot n) w = map_on w
    go op.Disable w = map_on w
    go op.Enable w = map_on w
    go (op.Freeze p) w = map_on w
    go op.Thaw w = map_on w
    go (op.UpMany set) w = map_on w
    go (op.Arm c v) w = arm_on (is_disarming v) w
    go op.ShowStates w = reg_on w
    go op.Lock w = writer_waits after ∙ writes (sym (writer_waits before) ∙ w)
    go (op.Setup s sub form) w = register_waits after ∙ register_on (sym (register_waits before) ∙ w)
    go (op.Remove s form) w = register_waits after ∙ register_on (sym (register_waits before) ∙ w)
    go (op.Add s i form) w = register_waits after ∙ register_on (sym (register_waits before) ∙ w)
    go (op.Del s i form) w = register_waits after ∙ register_on (sym (register_waits before) ∙ w)
    go o w = w

-- what refuses it at once
at_once_same : (head : Head) (before after : List Event) (k : ℕ) (o : Op) → is_reading k after ≡ is_reading k before →
    refusals_at_once head after k o ≡ refusals_at_once head before k o
at_once_same head before after k (op.Up c) same = rw same refl
at_once_same head before after k (op.Down c) same = rw same refl
at_once_same head before after k (op.Target c v) same = rw same refl
at_once_same head before after k (op.Boot n) same = rw same refl
at_once_same head before after k op.Disable same = rw same refl
at_once_same head before after k op.Enable same = rw same refl
at_once_same head before after k (op.Freeze p) same = rw same refl
at_once_same head before after k op.Thaw same = rw same refl
at_once_same head before after k (op.UpMany set) same = rw same refl
at_once_same head before after k op.Lock same = rw same refl
at_once_same head before after k op.Unlock same = rw same refl
at_once_same head before after k (op.Setup s sub form) same = rw same refl
at_once_same head before after k (op.Remove s form) same = rw same refl
at_once_same head before after k (op.Add s i form) same = rw same refl
at_once_same head before after k (op.Del s i form) same = rw same refl
at_once_same head before after k o same = refl

-- an operation that waits is refused at once or not at all
pub refused_waiting : (head : Head) (events : List Event) (k : ℕ) (o : Op) → is_busy k events ≡ false → is_waiting events o ≡ true →
    refusal head events k o ≡ first_that_holds (refusals_at_once head events k o)
refused_waiting head events k o idle waits =
    let only : refusal head events k o ≡ first_that_holds (refusals_at_once head events k o ++ []) = rw (idle, waits) refl in
    only ∙ ap first_that_holds (append-nil (refusals_at_once head events k o))

-- it is ready whatever other seats do
pub ready_still : (head : Head) (xs : List Event) (e : Event) (k : ℕ) (o : Op) → seat_of e ≢ k → IsReady head xs k o →
    IsReady head (xs ++ e ∷ []) k o
ready_still head xs e k o other r =
    let l = leaves_ready xs e k other r.idle in
    record {
      idle = rw (operation_push xs e, registration_push xs e) l.idle;
      not_refused =
          ap first_that_holds (at_once_same head xs (xs ++ e ∷ []) k o (ap is_some (reading_since_push k xs e) ∙ l.reading)) ∙ r.not_refused;
    }

-- it waits on after an event of another seat that ends nothing
pub waits_still : (head : Head) (xs : List Event) (e : Event) (k : ℕ) (o : Op) → Comes head xs e → seat_of e ≢ k →
    is_end e ≡ false → IsWaiting head xs k o → IsWaiting head (xs ++ e ∷ []) k o
waits_still head xs e k o comes other end w =
    let l = leaves_held head xs e comes end in
    record {
      ready = ready_still head xs e k o other w.ready;
      waits =
          waits_on xs (xs ++ e ∷ []) o (λ h. ap is_some (operation_push xs e) ∙ l.map h)
          (λ h. ap is_some (registration_push xs e) ∙ l.registers h)
          (λ h. rw (walking_push xs e, operation_push xs e, begun_push xs e) (l.writes h)) w.waits;
    }

-- an operation of the map lock waits whenever that is held
pub held_waits : (xs : List Event) (o : Op) → is_map_op o ≡ true → is_map_held xs ≡ true → is_waiting xs o ≡ true
held_waits xs o takes held = go (is_waiting xs o) refl
  where
    go : (b : Bool) → is_waiting xs o ≡ b → b ≡ true
    go true f = refl
    go false f = absurd (true≢false (sym held ∙ ap is_some (map_free xs o takes f)))

no_registration_map : (r : Option Registration) (s : ℕ) → wait_for_registration r ≡ Some (maps_held s) → ⊥
no_registration_map None s h = absurd (cc)
no_registration_map (Some r) s h = absurd (cc)

no_walk_map : (w : Option Walk) (s : ℕ) → wait_for_walk w ≡ Some (maps_held s) → ⊥
no_walk_map None s h = absurd (cc)
no_walk_map (Some w) s h = absurd (cc)

no_batch_map : (cs : List ℕ) (o : Option Operation) (s : ℕ) → wait_for_batch cs o ≡ Some (maps_held s) → ⊥
no_batch_map cs None s h = absurd (cc)
no_batch_map cs (Some o) s h = go (is_upmany o.op && not (is_empty cs)) h
  where
    go : (b : Bool) → cond b (Some (writer_in o.seat)) None ≡ Some (maps_held s) → ⊥
    go true h = absurd (cc)
    go false h = absurd (cc)

no_writer_map : (cs : List ℕ) (xs : List Event) (s : ℕ) → wait_for_writer cs xs ≡ Some (maps_held s) → ⊥
no_writer_map [] xs s h = no_batch_map (begun xs) (operation xs) s h
no_writer_map (c ∷ cs) xs s h = no_walk_map (walk c xs) s h

neither_map : (a b : Option Wait) (s : ℕ) → (a ≡ Some (maps_held s) → ⊥) → (b ≡ Some (maps_held s) → ⊥) →
    first_wait a b ≡ Some (maps_held s) → ⊥
neither_map None b s x y h = y h
neither_map (Some w) b s x y h = x h

-- what waits for the map lock is such an operation
pub map_waited : (xs : List Event) (o : Op) (s : ℕ) → wait_to_begin xs o ≡ Some (maps_held s) → is_map_op o ≡ true
map_waited xs o s h = go o h
  where
    no_register : wait_to_register xs ≡ Some (maps_held s) → ⊥
    no_register =
        neither_map (wait_for_writer (walking xs) xs) (wait_for_registration (registration xs)) s (no_writer_map (walking xs) xs s)
        (no_registration_map (registration xs) s)

    no_arm : (b : Bool) → cond b None (wait_for_registration (registration xs)) ≡ Some (maps_held s) → ⊥
    no_arm true h = absurd (cc)
    no_arm false h = no_registration_map (registration xs) s h

    go : (o : Op) → wait_to_begin xs o ≡ Some (maps_held s) → is_map_op o ≡ true
    go (op.Up c) h = refl
    go (op.Down c) h = refl
    go (op.Target c v) h = refl
    go (op.Boot n) h = refl
    go op.Disable h = refl
    go op.Enable h = refl
    go (op.Freeze p) h = refl
    go op.Thaw h = refl
    go (op.UpMany set) h = refl
    go (op.Arm c v) h = absurd (no_arm (is_disarming v) h)
    go op.ShowStates h = absurd (no_registration_map (registration xs) s h)
    go op.Lock h = absurd (no_writer_map (walking xs) xs s h)
    go (op.Setup t sub form) h = absurd (no_register h)
    go (op.Remove t form) h = absurd (no_register h)
    go (op.Add t i form) h = absurd (no_register h)
    go (op.Del t i form) h = absurd (no_register h)
    go o h = absurd (none_some (maps_held s) h)

-- it makes nothing of a turn
waiting_first : (head : Head) (events : List Event) (k : ℕ) (o : Op) → IsWaiting head events k o → first_event head events k o ≡ None
waiting_first head events k o w = go (is_client (role_of k events) && names_sub head o)
  where
    go : (b : Bool) → cond b (refused_or_begun head events k o (refusal head events k o)) None ≡ None
    go true =
        let waits = w.waits in
        let no = refused_waiting head events k o w.ready.idle waits ∙ w.ready.not_refused in
        rw (no, waits) refl
    go false = refl

pub waiting_next : (head : Head) (events : List Event) (k : ℕ) (o : Op) → IsWaiting head events k o → next_event head events k o ≡ None
unfolding next_event
waiting_next head events k o w =
    ap (λ b. cond b (next_in_flight head events k) (if_room head events (first_event head events k o))) w.ready.idle
    ∙ ap (if_room head events) (waiting_first head events k o w)

pub waiting_full : (head : Head) (events : List Event) (k : ℕ) (o : Op) → IsWaiting head events k o → is_full head events k o ≡ false
unfolding is_full
waiting_full head events k o w =
    ap (λ b. not b && lacks_room head events (first_event head events k o)) w.ready.idle
    ∙ ap (lacks_room head events) (waiting_first head events k o w)
