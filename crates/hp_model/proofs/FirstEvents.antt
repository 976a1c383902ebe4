-- A free seat's operation that waits for nothing has a first event that can come next, if there is room for it.
use Rattle.std.proofs.Common.{◌≡◌, ℕ, Bool, true, false, ◌&&◌, cond, is_some, is_none, Option, Some, None, List, refl, ap, sym, ◌∙◌}
use Rattle.std.proofs.lemmas.Bool.{true≢false}
use Rattle.hp_states.proofs.Basics.{none_some}
use Rattle.hp_states.specs.Sections.{is_dynamic}
use Rattle.hp_event.specs.declared.op.Op.{Op}
use Rattle.hp_event.specs.declared.op.Op.TheVariants.{Target, Arm, ShowState, ShowTarget, ShowFail, ShowStates, Setup, Remove, Add, Del, Lock, Unlock, Boot, Disable, Enable, Freeze, Thaw}
use Rattle.hp_event.specs.declared.event.File.{File}
use Rattle.hp_event.specs.declared.event.File.TheVariants as file
use Rattle.hp_event.specs.declared.head.Head.{Head}
use Rattle.hp_event.specs.declared.event.Event.{Event}
use Rattle.hp_event.specs.declared.event.Event.TheVariants.{Enter, Refused, RegBegin, ReadLock, ReadUnlock, Armed, Wakeup}
use Rattle.hp_model.specs.Events.{seat_of, showing, BelongsTo}
use Rattle.hp_model.specs.Walks.{is_walking}
use Rattle.hp_model.specs.Registrations.{registration, is_registering}
use Rattle.hp_model.specs.MapLock.{operation, is_map_op}
use Rattle.hp_model.specs.Readers.{is_reading}
use Rattle.hp_model.specs.Subsystems.{names_sub}
use Rattle.hp_model.specs.Seats.{IsFree}
use Rattle.hp_model.specs.Resolved.{lowest_free, resolved}
use Rattle.hp_model.specs.Waits.{is_disarming, wait_for_map, wait_for_registration, is_waiting}
use Rattle.hp_model.specs.Refusals.{refusals_after_waits, refusal, Passes}
use Rattle.hp_model.specs.Files.{HasFile}
use Rattle.hp_model.specs.FirstEvent.{reg_begin, file_shown, begin_of}
use Rattle.hp_model.specs.Lawful.{Comes}
use Rattle.hp_model.proofs.WaitLemmas.{is_writing, registration_waits, writer_waits, register_waits, first_waits}
use Rattle.hp_model.proofs.Passing.{none_holds, passed}

-- an event of an operation that can come next, if there is room for it
pub record ComesOf (head : Head) (xs : List Event) (k : ℕ) (op : Op) : Type 0 where
  pub event : Event
  pub comes : Comes head xs event
  pub by : seat_of event ≡ k
  pub of : BelongsTo op event

some_of : {A : Type 0} (o : Option A) → is_none o ≡ false → (x : A) × (o ≡ Some x)
some_of None h = absurd (true≢false h)
some_of (Some x) h = (x, refl)

-- a registration that isn't refused has a state
resolves_setup : (head : Head) (xs : List Event) (s sub : ℕ) (b : Bool) → (b && is_none (lowest_free head s xs)) ≡ false →
    (state : ℕ) × (cond b (lowest_free head s xs) (Some s) ≡ Some state)
resolves_setup head xs s sub true h = some_of (lowest_free head s xs) h
resolves_setup head xs s sub false h = (s, refl)

-- a begin that can come, as the function gives it
pub record BeginsBy (head : Head) (xs : List Event) (k : ℕ) (op : Op) : Type 0 where
  pub event : Event
  pub given : begin_of head xs k op ≡ Some event
  pub comes : Comes head xs event
  pub by : seat_of event ≡ k
  pub of : BelongsTo op event

registers : (head : Head) (xs : List Event) (k : ℕ) (op : Op) → IsFree xs k → names_sub head op ≡ true → Passes head xs k op →
    begin_of head xs k op ≡ reg_begin k op (resolved head xs op) →
    (state : ℕ) × (resolved head xs op ≡ Some state) → BeginsBy head xs k op
registers head xs k op f n p g r = record {
  event = RegBegin k r.0 op;
  given = g ∙ ap (λ z. reg_begin k op z) r.1;
  comes = record { free = f; has_sub = n; passes = p; state_is = r.1 };
  by = refl;
  of = refl;
}

enters : (head : Head) (xs : List Event) (k : ℕ) (op : Op) → IsFree xs k → names_sub head op ≡ true → is_map_op op ≡ true → Passes head xs k op →
    begin_of head xs k op ≡ Some (Enter k op) → BeginsBy head xs k op
enters head xs k op f n m p g =
    record { event = Enter k op; given = g; comes = record { free = f; has_sub = n; takes_map = m; passes = p }; by = refl; of = refl }

shows : (head : Head) (xs : List Event) (k : ℕ) (f : File) (c : ℕ) → IsFree xs k → Passes head xs k (showing f c) →
    HasFile f c → begin_of head xs k (showing f c) ≡ Some (file_shown head xs k f c) → BeginsBy head xs k (showing f c)
shows head xs k file c f p has g = record {
  event = file_shown head xs k file c;
  given = g;
  comes = record { free = f; passes = p; has_file = has; value_is = refl };
  by = refl;
  of = refl;
}

pub begins : (head : Head) (xs : List Event) (k : ℕ) (op : Op) → IsFree xs k → names_sub head op ≡ true → Passes head xs k op →
    BeginsBy head xs k op
begins head xs k (Op.Up c) f n p = enters head xs k (Op.Up c) f n refl p refl
begins head xs k (Op.Down c) f n p = enters head xs k (Op.Down c) f n refl p refl
begins head xs k (Target c v) f n p = enters head xs k (Target c v) f n refl p refl
begins head xs k (Boot c) f n p = enters head xs k (Boot c) f n refl p refl
begins head xs k Disable f n p = enters head xs k Disable f n refl p refl
begins head xs k Enable f n p = enters head xs k Enable f n refl p refl
begins head xs k (Freeze c) f n p = enters head xs k (Freeze c) f n refl p refl
begins head xs k Thaw f n p = enters head xs k Thaw f n refl p refl
begins head xs k (Op.UpMany set) f n p = enters head xs k (Op.UpMany set) f n refl p refl
begins head xs k Op.Wakeup f n p =
    record { event = Wakeup k; given = refl; comes = record { free = f; passes = p }; by = refl; of = refl }
begins head xs k (Arm c v) f n p =
    record { event = Armed k c v; given = refl; comes = record { free = f; passes = p }; by = refl; of = refl }
begins head xs k (ShowState c) f n p = shows head xs k file.State c f p tt refl
begins head xs k (ShowTarget c) f n p = shows head xs k file.Target c f p tt refl
begins head xs k (ShowFail c) f n p = shows head xs k file.Fail c f p tt refl
begins head xs k ShowStates f n p = shows head xs k file.States 0 f p refl refl
begins head xs k Lock f n p =
    record { event = ReadLock k; given = refl; comes = record { free = f; passes = p }; by = refl; of = refl }
begins head xs k Unlock f n p =
    record { event = ReadUnlock k; given = refl; comes = record { free = f; passes = p }; by = refl; of = refl }
begins head xs k (Setup s sub form) f n p =
    let h = (passed head xs k (Setup s sub form) f.idle p.not_waiting p.not_refused).1 in
    let q = none_holds (refusals_after_waits head xs (Setup s sub form)) h in
    registers head xs k (Setup s sub form) f n p refl (resolves_setup head xs s sub (is_dynamic s) q.1.0)
begins head xs k (Remove s form) f n p = registers head xs k (Remove s form) f n p refl (s, refl)
begins head xs k (Add s i form) f n p = registers head xs k (Add s i form) f n p refl (s, refl)
begins head xs k (Del s i form) f n p = registers head xs k (Del s i form) f n p refl (s, refl)

pub first_comes : (head : Head) (xs : List Event) (k : ℕ) (op : Op) → IsFree xs k → names_sub head op ≡ true →
    (refusal head xs k op ≡ None → is_waiting xs op ≡ false) → ComesOf head xs k op
first_comes head xs k op f n ready = go (refusal head xs k op) refl
  where
    go : (o : Option ℕ) → refusal head xs k op ≡ o → ComesOf head xs k op
    go (Some errno) e =
        record { event = Refused k errno op; comes = record { free = f; has_sub = n; refused = e }; by = refl; of = refl }
    go None e =
        let b = begins head xs k op f n (record { not_refused = e; not_waiting = ready e }) in
        record { event = b.event; comes = b.comes; by = b.by; of = b.of }

-- where the write side is free and no registration is in flight, only the map lock is waited for
waits_for_map : (xs : List Event) (op : Op) → is_writing xs ≡ false → is_registering xs ≡ false → is_map_op op ≡ false →
    is_waiting xs op ≡ false
waits_for_map xs (Arm c v) w r m = go (is_disarming v)
  where
    go : (b : Bool) → is_some (cond b None (wait_for_registration (registration xs))) ≡ false
    go true = refl
    go false = registration_waits (registration xs) ∙ r
waits_for_map xs ShowStates w r m = registration_waits (registration xs) ∙ r
waits_for_map xs Lock w r m = writer_waits xs ∙ w
waits_for_map xs (Setup s sub form) w r m = register_waits xs ∙ rw (w, r) refl
waits_for_map xs (Remove s form) w r m = register_waits xs ∙ rw (w, r) refl
waits_for_map xs (Add s i form) w r m = register_waits xs ∙ rw (w, r) refl
waits_for_map xs (Del s i form) w r m = register_waits xs ∙ rw (w, r) refl
waits_for_map xs (Op.Up c) w r m = absurd (true≢false m)
waits_for_map xs (Op.Down c) w r m = absurd (true≢false m)
waits_for_map xs (Target c v) w r m = absurd (true≢false m)
waits_for_map xs (Boot n) w r m = absurd (true≢false m)
waits_for_map xs Disable w r m = absurd (true≢false m)
waits_for_map xs Enable w r m = absurd (true≢false m)
waits_for_map xs (Freeze p) w r m = absurd (true≢false m)
waits_for_map xs Thaw w r m = absurd (true≢false m)
waits_for_map xs (Op.UpMany set) w r m = absurd (true≢false m)
waits_for_map xs op w r m = refl

map_free : (xs : List Event) (op : Op) → is_map_op op ≡ true → operation xs ≡ None → is_registering xs ≡ false →
    is_waiting xs op ≡ false
map_free xs (Op.Up c) m o r = rw o refl
map_free xs (Op.Down c) m o r = rw o refl
map_free xs (Target c v) m o r =
    first_waits (wait_for_map (operation xs)) (wait_for_registration (registration xs))
    ∙ rw (o, registration_waits (registration xs), r) refl
map_free xs (Boot n) m o r = rw o refl
map_free xs Disable m o r = rw o refl
map_free xs Enable m o r = rw o refl
map_free xs (Freeze p) m o r = rw o refl
map_free xs Thaw m o r = rw o refl
map_free xs (Op.UpMany set) m o r = rw o refl
map_free xs op m o r = absurd (true≢false (sym m))

pub nothing_waits : (xs : List Event) (op : Op) → is_walking xs ≡ false → is_registering xs ≡ false → operation xs ≡ None →
    is_waiting xs op ≡ false
nothing_waits xs op w r o = go (is_map_op op) refl
  where
    free : is_writing xs ≡ false
    free = rw (w, o) refl

    go : (b : Bool) → is_map_op op ≡ b → is_waiting xs op ≡ false
    go true m = map_free xs op m o r
    go false m = waits_for_map xs op free r m

-- a reader's operation of the map lock is refused at once
reader_refused : (head : Head) (xs : List Event) (k : ℕ) (op : Op) → is_map_op op ≡ true → IsFree xs k → is_reading k xs ≡ true →
    refusal head xs k op ≡ Some 35
reader_refused head xs k (Op.Up c) m f r = rw (f.idle, r) refl
reader_refused head xs k (Op.Down c) m f r = rw (f.idle, r) refl
reader_refused head xs k (Target c v) m f r = rw (f.idle, r) refl
reader_refused head xs k (Boot n) m f r = rw (f.idle, r) refl
reader_refused head xs k Disable m f r = rw (f.idle, r) refl
reader_refused head xs k Enable m f r = rw (f.idle, r) refl
reader_refused head xs k (Freeze p) m f r = rw (f.idle, r) refl
reader_refused head xs k Thaw m f r = rw (f.idle, r) refl
reader_refused head xs k (Op.UpMany set) m f r = rw (f.idle, r) refl
reader_refused head xs k op m f r = absurd (true≢false (sym m))

pub reader_waits : (head : Head) (xs : List Event) (k : ℕ) (op : Op) → is_writing xs ≡ false → is_registering xs ≡ false →
    IsFree xs k → is_reading k xs ≡ true → refusal head xs k op ≡ None → is_waiting xs op ≡ false
reader_waits head xs k op w r f reads h = go (is_map_op op) refl
  where
    go : (b : Bool) → is_map_op op ≡ b → is_waiting xs op ≡ false
    go true m = absurd (none_some 35 (sym h ∙ reader_refused head xs k op m f reads))
    go false m = waits_for_map xs op w r m
