-- At what stage a seat is when an event of its operation can stand: before it, between its walks, on a walk, or on
-- a registration. No two of them are possible at once.
use Rattle.std.proofs.Common.{◌≡◌, ℕ, ℤ, Bool, true, false, cond, Option, Some, None, List, refl, sym, ◌∙◌, inl, inr, ◌⊎◌}
use Rattle.std.proofs.lemmas.Bool.{true≢false, false≢true}
use Rattle.hp_states.proofs.Basics.{none_some, not_equal, same_some}
use Rattle.hp_event.specs.declared.op.Op.{Op}
use Rattle.hp_event.specs.declared.op.Op.TheVariants.{Lock, Unlock, Arm, ShowState, ShowTarget, ShowFail, ShowStates}
use Rattle.hp_event.specs.declared.event.File.{File}
use Rattle.hp_event.specs.declared.event.File.TheVariants.{State, Target, Fail, States}
use Rattle.hp_event.specs.declared.event.Role.TheVariants.{Client, Ap}
use Rattle.hp_event.specs.declared.answer.Answer.{Answer}
use Rattle.hp_event.specs.declared.head.Head.{Head}
use Rattle.hp_event.specs.declared.event.Event.{Event}
use Rattle.hp_event.specs.declared.event.Event.TheVariants.{Admit, Leave, Enter, Refused, WalkBegin, Call, WalkEnd, OpEnd, RegBegin, RegEnd, ReadLock, ReadUnlock, Armed, Shown, Wakeup}
use Rattle.hp_model.specs.Events.{seat_of, showing, BelongsTo}
use Rattle.hp_model.specs.Walks.{Walk, walk}
use Rattle.hp_model.specs.Registrations.{Registration, registration}
use Rattle.hp_model.specs.MapLock.{Operation, operation, is_map_op}
use Rattle.hp_model.specs.Seats.{role_of, ap_seat, is_busy, IsFree}
use Rattle.hp_model.specs.Settled.{settled}
use Rattle.hp_model.specs.Sequence.{Next, walks, ends, nothing, next, is_between}
use Rattle.hp_model.specs.Resolved.{resolved}
use Rattle.hp_model.specs.Refusals.{refusal, Passes}
use Rattle.hp_model.specs.Files.{file_value}
use Rattle.hp_model.specs.NextEvent.{walk_begin}
use Rattle.hp_model.specs.Caller.{is_made_by_ap}
use Rattle.hp_model.specs.StandsCalls.{InWalk, InRegistration}
use Rattle.hp_model.specs.StandsOperations.{Enters, WalkEnds, IsOver, IsCut}
use Rattle.hp_model.specs.StandsFiles.{Shows}
use Rattle.hp_model.specs.StandsRegistrations.{RegEnds}
use Rattle.hp_model.specs.Lawful.{Comes, Stands}
use Rattle.hp_model.proofs.BatchLemmas.{between_rest}
use Rattle.hp_model.proofs.Kept.{Kept, WalkKept}
use Rattle.hp_model.proofs.Owners.{Owners, idle_op, idle_reg}

-- the first event of an operation: its refusal, or its begin
abbrev pub begin_of : Head → List Event → (seat : ℕ) → Op → (takes_map : Bool) → Event
begin_of head xs k op true = Enter k op
begin_of head xs k Lock false = ReadLock k
begin_of head xs k Unlock false = ReadUnlock k
begin_of head xs k (Arm c v) false = Armed k c v
begin_of head xs k (ShowState c) false = Shown k State c (file_value head xs State c)
begin_of head xs k (ShowTarget c) false = Shown k Target c (file_value head xs Target c)
begin_of head xs k (ShowFail c) false = Shown k Fail c (file_value head xs Fail c)
begin_of head xs k ShowStates false = Shown k States 0 (file_value head xs States 0)
begin_of head xs k op false = Wakeup k

abbrev pub first_by : Head → List Event → (seat : ℕ) → Op → (refused resolved : Option ℕ) → Event
first_by head xs k op (Some errno) s = Refused k errno op
first_by head xs k op None (Some s) = RegBegin k s op
first_by head xs k op None None = begin_of head xs k op (is_map_op op)

abbrev pub first_event : Head → List Event → (seat : ℕ) → Op → Event
first_event head xs k op = first_by head xs k op (refusal head xs k op) (resolved head xs op)

abbrev pub event_next : Head → List Event → (seat : ℕ) → Next → Event
event_next head xs k (walks c to) = walk_begin head xs k c (settled c xs) to
event_next head xs k (ends answer) = OpEnd k answer
event_next head xs k nothing = Wakeup k

-- the seat has no operation in flight
pub record Before (head : Head) (xs : List Event) (k : ℕ) (op : Op) (e : Event) : Type 0 where
  pub client : role_of k xs ≡ Some Client
  pub idle : is_busy k xs ≡ false
  pub event_is : e ≡ first_event head xs k op

-- it holds the map lock, and begins a walk or ends
pub record Between (head : Head) (xs : List Event) (k : ℕ) (e : Event) : Type 0 where
  pub of : Operation
  pub held : operation xs ≡ Some of
  pub seat_is : of.seat ≡ k
  pub between : is_between of.op xs ≡ true
  pub moves : next head xs of.before of.op ≡ nothing → ⊥
  pub event_is : e ≡ event_next head xs k (next head xs of.before of.op)

abbrev pub WalkEvent : Head → List Event → (seat cpu : ℕ) → Event → Type 0
WalkEvent head xs k c (Call seat cpu state inst dir how) = (seat ≡ k) × (cpu ≡ c) × InWalk head xs k c state inst dir how
WalkEvent head xs k c (WalkEnd seat cpu answer) = (seat ≡ k) × (cpu ≡ c) × WalkEnds head xs k c answer
WalkEvent head xs k c _ = ⊥

-- it has an event of a walk, as the walk's seat or as the processor's
pub record OnWalk (head : Head) (xs : List Event) (k : ℕ) (e : Event) : Type 0 where
  pub cpu : ℕ
  pub of : Walk
  pub in_flight : walk cpu xs ≡ Some of
  pub by : (of.seat ≡ k) ⊎ (ap_seat cpu xs ≡ Some k)
  pub event_is : WalkEvent head xs k cpu e

abbrev pub RegistrationEvent : Head → List Event → (seat : ℕ) → Event → Type 0
RegistrationEvent head xs k (Call seat cpu state inst dir how) = (seat ≡ k) × InRegistration head xs k cpu state inst dir how
RegistrationEvent head xs k (RegEnd seat answer) = (seat ≡ k) × RegEnds head xs k answer
RegistrationEvent head xs k _ = ⊥

pub record OnRegistration (head : Head) (xs : List Event) (k : ℕ) (e : Event) : Type 0 where
  pub cpu : ℕ
  pub of : Registration
  pub in_flight : registration xs ≡ Some of
  pub by : (of.seat ≡ k) ⊎ (ap_seat cpu xs ≡ Some k)
  pub event_is : RegistrationEvent head xs k e

abbrev pub Stage : Head → List Event → (seat : ℕ) → Op → Event → Type 0
Stage head xs k op e = Before head xs k op e ⊎ (Between head xs k e ⊎ (OnWalk head xs k e ⊎ OnRegistration head xs k e))

pub called_by : (b : Bool) (a : Option ℕ) (client k : ℕ) → cond b a (Some client) ≡ Some k → (client ≡ k) ⊎ (a ≡ Some k)
called_by true a client k h = inr h
called_by false a client k h = inl (same_some client k h)

pub entered : (head : Head) (xs : List Event) (k : ℕ) (op : Op) → Enters head xs k op → Enter k op ≡ first_event head xs k op
entered head xs k op h = rw h.passes.not_refused (go op h.takes_map)
  where
    go : (op : Op) → is_map_op op ≡ true → Enter k op ≡ first_by head xs k op None (resolved head xs op)
    go (Op.Up c) m = refl
    go (Op.Down c) m = refl
    go (Op.Target c v) m = refl
    go (Op.Boot n) m = refl
    go Op.Disable m = refl
    go Op.Enable m = refl
    go (Op.Freeze p) m = refl
    go Op.Thaw m = refl
    go (Op.UpMany set) m = refl
    go op m = absurd (true≢false (sym m))

pub shown_first : (head : Head) (xs : List Event) (seat : ℕ) (file : File) (cpu : ℕ) (value : ℤ) → Shows head xs seat file cpu value →
    Shown seat file cpu value ≡ first_event head xs seat (showing file cpu)
shown_first head xs seat State cpu value h = rw (h.passes.not_refused, h.value_is) refl
shown_first head xs seat Target cpu value h = rw (h.passes.not_refused, h.value_is) refl
shown_first head xs seat Fail cpu value h = rw (h.passes.not_refused, h.value_is) refl
shown_first head xs seat States cpu value h = rw (h.passes.not_refused, h.value_is, h.has_file) refl

-- whether an event is the first of an operation
abbrev pub is_first : Event → Bool
is_first (Admit seat role) = false
is_first (Leave seat) = false
is_first (WalkBegin seat cpu from to) = false
is_first (Call seat cpu state inst dir how) = false
is_first (WalkEnd seat cpu answer) = false
is_first (OpEnd seat answer) = false
is_first (RegEnd seat answer) = false
is_first e = true

-- it is a free seat's: its refusal, or its begin where it passes
pub record IsFirst (head : Head) (xs : List Event) (k : ℕ) (op : Op) (e : Event) : Type 0 where
  pub free : IsFree xs k
  pub event_is : e ≡ first_event head xs k op
  pub passes : Passes head xs k op ⊎ ((errno : ℕ) × (refusal head xs k op ≡ Some errno))

passed : (head : Head) (xs : List Event) (k : ℕ) (op : Op) (e : Event) → IsFree xs k → Passes head xs k op →
    e ≡ first_event head xs k op → IsFirst head xs k op e
passed head xs k op e free p is = record { free = free; event_is = is; passes = inl p }

pub first_is : (head : Head) (xs : List Event) (op : Op) (e : Event) → BelongsTo op e → Comes head xs e → is_first e ≡ true →
    IsFirst head xs (seat_of e) op e
first_is head xs op (Enter seat asked) b h f =
    rw (← b) (passed head xs seat asked (Enter seat asked) h.free h.passes (entered head xs seat asked h))
first_is head xs op (RegBegin seat state asked) b h f =
    rw (← b) (passed head xs seat asked (RegBegin seat state asked) h.free h.passes (rw (h.passes.not_refused, h.state_is) refl))
first_is head xs op (Refused seat errno asked) b h f =
    rw (← b) (record { free = h.free; event_is = rw h.refused refl; passes = inr (errno, h.refused) })
first_is head xs op (Shown seat file cpu value) b h f =
    rw b (passed head xs seat (showing file cpu) (Shown seat file cpu value) h.free h.passes (shown_first head xs seat file cpu value h))
first_is head xs op (ReadLock seat) b h f =
    rw b (passed head xs seat Lock (ReadLock seat) h.free h.passes (rw h.passes.not_refused refl))
first_is head xs op (ReadUnlock seat) b h f =
    rw b (passed head xs seat Unlock (ReadUnlock seat) h.free h.passes (rw h.passes.not_refused refl))
first_is head xs op (Armed seat cpu value) b h f =
    rw b (passed head xs seat (Arm cpu value) (Armed seat cpu value) h.free h.passes (rw h.passes.not_refused refl))
first_is head xs op (Wakeup seat) b h f =
    rw b (passed head xs seat Op.Wakeup (Wakeup seat) h.free h.passes (rw h.passes.not_refused refl))
first_is head xs op e b h f = absurd (false≢true f)

walks_something : (c to : ℕ) → walks c to ≡ nothing → ⊥
walks_something c to h = cc

ends_something : (answer : Answer) → ends answer ≡ nothing → ⊥
ends_something answer h = cc

-- the stage of an event that stands and belongs to an operation
pub stage_of : (head : Head) (xs : List Event) (op : Op) (e : Event) → BelongsTo op e → Stands head xs e →
    Stage head xs (seat_of e) op e
stage_of head xs op (WalkBegin seat cpu from to) b h =
    let w = h.0 in
    inr (inl (record {
      of = w.of;
      held = w.held;
      seat_is = w.seat_is;
      between = w.between;
      moves = λ n. walks_something cpu to (sym w.gives ∙ n);
      event_is = rw (w.gives, ← w.from_is, h.1) refl;
    }))
stage_of head xs op (OpEnd seat answer) b h = go h.0
  where
    go : IsOver head xs seat answer ⊎ IsCut head xs seat answer → Stage head xs seat op (OpEnd seat answer)
    go (inl o) =
        inr (inl (record {
          of = o.of;
          held = o.held;
          seat_is = o.seat_is;
          between = between_rest o.of.op xs o.no_walk;
          moves = λ n. ends_something answer (sym o.gives ∙ n);
          event_is = rw o.gives refl;
        }))
    go (inr c) =
        let w = c.begins in
        inr (inl (record {
          of = w.of;
          held = w.held;
          seat_is = w.seat_is;
          between = w.between;
          moves = λ n. walks_something c.cpu c.to (sym w.gives ∙ n);
          event_is = rw (w.gives, ← w.from_is, c.no_room, c.answer_is) refl;
        }))
stage_of head xs op (WalkEnd seat cpu answer) b h =
    inr (inr (inl (record {
      cpu = cpu;
      of = h.0.of;
      in_flight = h.0.in_flight;
      by = inl h.0.seat_is;
      event_is = (refl, refl, h.0);
    })))
stage_of head xs op (RegEnd seat answer) b h =
    inr (inr (inr (record { cpu = 0; of = h.0.of; in_flight = h.0.in_flight; by = inl h.0.seat_is; event_is = (refl, h.0) })))
stage_of head xs op (Call seat cpu state inst dir how) b h = go h.0
  where
    go : InWalk head xs seat cpu state inst dir how ⊎ InRegistration head xs seat cpu state inst dir how →
        Stage head xs seat op (Call seat cpu state inst dir how)
    go (inl w) =
        inr (inr (inl (record {
          cpu = cpu;
          of = w.entry.of;
          in_flight = w.entry.in_flight;
          by = called_by (is_made_by_ap state how) (ap_seat cpu xs) w.entry.of.seat seat w.caller_is;
          event_is = (refl, refl, w);
        })))
    go (inr r) =
        inr (inr (inr (record {
          cpu = cpu;
          of = r.entry.of;
          in_flight = r.entry.in_flight;
          by = called_by (is_made_by_ap state how) (ap_seat cpu xs) r.entry.of.seat seat r.caller_is;
          event_is = (refl, r);
        })))
stage_of head xs op (Admit seat role) b h = elim b [ ]
stage_of head xs op (Leave seat) b h = elim b [ ]
stage_of head xs op e b h =
    let f = first_is head xs op e b h.0 refl in
    inl (record { client = f.free.client; idle = f.free.idle; event_is = f.event_is })

-- no two stages at once
pub ap_no_client : (xs : List Event) (c k : ℕ) → Owners xs → ap_seat c xs ≡ Some k → role_of k xs ≡ Some Client → ⊥
ap_no_client xs c k o a r = not_both c (sym (o.ap_role c k a) ∙ r)
  where
    not_both : (c : ℕ) → Some (Ap c) ≡ Some Client → ⊥
    not_both c h = cc

pub before_between : (head : Head) (xs : List Event) (k : ℕ) (op : Op) (e f : Event) → Before head xs k op e →
    Between head xs k f → ⊥
before_between head xs k op e f h b = not_equal b.of.seat k (idle_op xs k b.of h.idle b.held) b.seat_is

pub before_walk : (head : Head) (xs : List Event) (k : ℕ) (op : Op) (e f : Event) → Owners xs → Before head xs k op e →
    OnWalk head xs k f → ⊥
before_walk head xs k op e f o h w = go w.by
  where
    go : (w.of.seat ≡ k) ⊎ (ap_seat w.cpu xs ≡ Some k) → ⊥
    go (inl s) =
        let p = o.walk_op w.cpu w.of w.in_flight in not_equal p.0.seat k (idle_op xs k p.0 h.idle p.1) (p.2 ∙ s)
    go (inr a) = ap_no_client xs w.cpu k o a h.client

pub before_registration : (head : Head) (xs : List Event) (k : ℕ) (op : Op) (e f : Event) → Owners xs → Before head xs k op e →
    OnRegistration head xs k f → ⊥
before_registration head xs k op e f o h w = go w.by
  where
    go : (w.of.seat ≡ k) ⊎ (ap_seat w.cpu xs ≡ Some k) → ⊥
    go (inl s) = not_equal w.of.seat k (idle_reg xs k w.of h.idle w.in_flight) s
    go (inr a) = ap_no_client xs w.cpu k o a h.client

pub between_registration : (head : Head) (xs : List Event) (k : ℕ) (e f : Event) → Owners xs → Between head xs k e →
    OnRegistration head xs k f → ⊥
between_registration head xs k e f o h w = go w.by
  where
    go : (w.of.seat ≡ k) ⊎ (ap_seat w.cpu xs ≡ Some k) → ⊥
    go (inl s) = o.apart h.of w.of h.held w.in_flight (h.seat_is ∙ sym s)
    go (inr a) = ap_no_client xs w.cpu k o a (rw h.seat_is at (o.op_client h.of h.held))

pub walk_registration : (head : Head) (xs : List Event) (k : ℕ) (e f : Event) → Kept head xs → OnWalk head xs k e →
    OnRegistration head xs k f → ⊥
walk_registration head xs k e f kept h w =
    let p : WalkKept head h.cpu h.of xs = rw h.in_flight at (kept.at h.cpu).kept in
    none_some w.of (sym p.no_registration ∙ w.in_flight)
