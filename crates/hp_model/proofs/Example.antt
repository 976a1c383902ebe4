-- A lawful journal, step by step: a state is set up, and a walk up of processor 1 is turned back by a
-- fault. It shows that the conditions can be met, and how each is shown on a journal that is given.
use Rattle.std.proofs.Common.{◌≡◌, ℕ, ◌+◌, ◌≤◌, true, false, Option, Some, None, List, [], ◌∷◌, ◌++◌, length, refl, ap, arith, inl, inr, length-append}
use Rattle.std.proofs.lemmas.Bool.{le-leb}
use Rattle.std.specs.Prelude.{pos, slice_get}
use Rattle.hp_states.specs.declared.dir.Dir.TheVariants.{Up}
use Rattle.hp_states.specs.declared.place.Place.{Place}
use Rattle.hp_states.specs.declared.place.Place.TheVariants.{Forward}
use Rattle.hp_states.specs.declared.plan.Rule.{Rule}
use Rattle.hp_event.specs.declared.how.How.TheVariants.{RanOk, RanFault}
use Rattle.hp_event.specs.declared.op.Op.{Op}
use Rattle.hp_event.specs.declared.op.Op.TheVariants.{Setup, Target}
use Rattle.hp_event.specs.declared.event.Role.TheVariants.{Client}
use Rattle.hp_event.specs.declared.answer.Answer.TheVariants.{Ok, Fault}
use Rattle.hp_event.specs.declared.op.Form.{Form}
use Rattle.hp_event.specs.declared.head.Sub.{Sub}
use Rattle.hp_event.specs.declared.head.Head.{Head}
use Rattle.hp_event.specs.declared.event.Event.{Event}
use Rattle.hp_event.specs.declared.event.Event.TheVariants.{Admit, Enter, WalkBegin, Call, WalkEnd, OpEnd, RegBegin, RegEnd}
use Rattle.hp_model.specs.Crossing.{Crossing, failed}
use Rattle.hp_model.specs.Plan.{plan, keys_on}
use Rattle.hp_model.specs.WalkShape.{returned, IsBack}
use Rattle.hp_model.specs.Walks.{Walk, walk, walk_entries, walking}
use Rattle.hp_model.specs.Registrations.{Registration, registration, registration_entries}
use Rattle.hp_model.specs.Registered.{registered, keys}
use Rattle.hp_model.specs.Settled.{settled}
use Rattle.hp_model.specs.Readers.{reading_since, readers}
use Rattle.hp_model.specs.Seats.{admits, role_of}
use Rattle.hp_model.specs.Armed.{armed}
use Rattle.hp_model.specs.Calls.{sites}
use Rattle.hp_model.specs.MapLock.{Operation, operation}
use Rattle.hp_model.specs.Sequence.{answers}
use Rattle.hp_model.specs.Suspend.{disabled}
use Rattle.hp_model.specs.Processors.{is_present, present, processors}
use Rattle.hp_model.specs.RegistrationShape.{key_of, each, IsRegistrationShape, made}
use Rattle.hp_model.specs.StandsSeats.{Admits}
use Rattle.hp_model.specs.StandsOperations.{Enters, OpEnds, WalkBegins, WalkEnds}
use Rattle.hp_model.specs.StandsCalls.{InWalk, InRegistration}
use Rattle.hp_model.specs.StandsRegistrations.{RegBegins, RegEnds}
use Rattle.hp_model.specs.Needs.{walk_need, need, taken}
use Rattle.hp_model.specs.Promised.{promised}
use Rattle.hp_model.specs.Room.{is_room}
use Rattle.hp_model.specs.Lawful.{Comes, Stands, IsLawful}
use Rattle.hp_model.specs.Heads.{IsHead}
use Rattle.hp_states.specs.declared.limits.TheConstants.{MAX_EVENTS}
use Rattle.hp_model.specs.Lists.{is_empty, numbers}
use Rattle.hp_model.proofs.Induction.{Held, held_none, held_step}
use Rattle.hp_model.proofs.Lengths.{total}
use Rattle.hp_model.proofs.EntryBounds.{total_sum}
use Rattle.hp_model.proofs.SumLemmas.{length-filter_le, length-numbers}
use Rattle.hp_model.proofs.Owners.{Owners, owners_none, owners_step}
use Rattle.hp_model.proofs.Promises.{uses, promised_none}

abbrev form : Form
form = record { nocalls = false; locked = false }

abbrev setup : Op
setup = Setup 10 1 form

-- the hook faults on processor 1
abbrev rule : Rule
rule = record { dir = Up; cpu = Some 1; inst = None; nth = None; code = 5 }

-- what the head says: two processors are there, and subsystem 1 has both callbacks and that rule
pub record Fitting (head : Head) : Type 0 where
  pub sub : Sub
  pub is_head : IsHead head
  pub first_sub : slice_get head.subs 0 ≡ Some sub
  pub named : is_empty sub.name ≡ false
  pub single : sub.multi ≡ false
  pub up : sub.up ≡ true
  pub rules : sub.plan ≡ rule ∷ []
  pub possible : head.possible ≡ 2
  pub present : is_present head 0 ≡ true
  pub other : is_present head 1 ≡ true
  pub alone : processors head 10 (Admit 0 Client ∷ []) ≡ 0 ∷ []

abbrev j1 : List Event
j1 = Admit 0 Client ∷ []

abbrev j2 : List Event
j2 = j1 ++ RegBegin 0 10 setup ∷ []

abbrev j3 : List Event
j3 = j2 ++ Call 0 0 10 0 Up RanOk ∷ []

abbrev j4 : List Event
j4 = j3 ++ RegEnd 0 (Ok (pos 0)) ∷ []

abbrev j5 : List Event
j5 = j4 ++ Enter 0 (Target 1 (pos 10)) ∷ []

abbrev j6 : List Event
j6 = j5 ++ WalkBegin 0 1 0 10 ∷ []

abbrev j7 : List Event
j7 = j6 ++ Call 0 1 10 0 Up (RanFault 5) ∷ []

abbrev j8 : List Event
j8 = j7 ++ WalkEnd 0 1 (Fault 5) ∷ []

abbrev asked : Registration
asked = record { seat = 0; state = 10; op = setup; before = j1 }

abbrev held : Operation
held = record { seat = 0; op = Target 1 (pos 10); before = j4 }

abbrev way : Walk
way = record { seat = 0; from = 0; to = 10; before = j5 }

none_some : {A : Type 0} {a : A} → None ≡ Some a → ⊥
none_some h = cc

s1 : (head : Head) → Admits head [] 0 Client
unfolding admits
s1 head = record { seat_is = refl; below = omega arith; can_sit = tt }

s2 : (head : Head) → Fitting head → RegBegins head j1 0 10 setup
unfolding walking registration registered role_of operation reading_since
s2 head f = record {
  free = record { client = refl; idle = refl };
  has_sub = rw f.first_sub refl;
  passes = record { not_refused = rw (f.first_sub, f.named) refl; not_waiting = refl };
  state_is = refl;
}

setup_shape : (head : Head) → Fitting head →
    IsRegistrationShape true 10 (key_of head asked) (processors head 10 j1) (each Place.Add Up 10 0 (0 ∷ [])) made
setup_shape head f = rw (f.first_sub, f.single, f.alone) refl

s3 : (head : Head) → Fitting head → InRegistration head j2 0 0 10 0 Up RanOk
unfolding registration registration_entries registered sites
s3 head f = record {
  entry = record {
    of = asked;
    in_flight = refl;
    outcome = made;
    slots = each Place.Add Up 10 0 (0 ∷ []);
    shape = setup_shape head f;
    slot = record { cpu = 0; state = 10; inst = 0; dir = Up; place = Place.Add; first = false; fails = false };
    is_next = record { front = []; rest = []; slots_are = refl; filled = tt };
    fits = (refl, refl, refl, refl, refl);
    how_is = rw (f.first_sub, f.up, f.rules) refl;
  };
  caller_is = refl;
}

s4 : (head : Head) → Fitting head → RegEnds head j3 0 (Ok (pos 0))
unfolding registration registration_entries
s4 head f = record {
  of = asked;
  in_flight = refl;
  seat_is = refl;
  whole = record {
    outcome = made;
    slots = each Place.Add Up 10 0 (0 ∷ []);
    shape = setup_shape head f;
    filled = ((refl, refl, refl, refl, refl), tt);
    answered = refl;
  };
}

s5 : (head : Head) → Fitting head → Enters head j4 0 (Target 1 (pos 10))
unfolding registration registered settled disabled operation reading_since role_of
s5 head f = record {
  free = record { client = refl; idle = refl };
  has_sub = refl;
  takes_map = refl;
  passes = record { not_refused = rw (f.other, f.possible) refl; not_waiting = refl };
}

s6 : (head : Head) → WalkBegins head j5 0 1 0 10
unfolding walking registration settled operation answers readers
s6 head = record {
  of = held;
  held = refl;
  seat_is = refl;
  between = refl;
  gives = refl;
  from_is = refl;
  no_wait = refl;
}

plan_is : (head : Head) → Fitting head → plan (keys head j5) 0 10 ≡ 10 ∷ []
unfolding registered registration
plan_is head f = rw (f.first_sub, f.single) refl

keys_are : (head : Head) → Fitting head → keys head j5 10 ≡ 0 ∷ []
unfolding registered registration
keys_are head f = rw (f.first_sub, f.single) refl

abbrev turned : List Crossing
turned = failed Forward Up 10 [] 0 ∷ []

turned_shape : (head : Head) → Fitting head → IsBack (keys head j5) Up (plan (keys head j5) 0 10) turned
turned_shape head f = record {
  before = [];
  state = 10;
  after = [];
  earlier = [];
  inst = 0;
  later = [];
  plan_is = plan_is head f;
  keys_are = keys_are head f;
  crossings_are = refl;
}

s7 : (head : Head) → Fitting head → InWalk head j6 0 1 10 0 Up (RanFault 5)
unfolding walk walk_entries registration registered armed sites operation
s7 head f = record {
  entry = record {
    of = way;
    in_flight = refl;
    outcome = returned;
    crossings = turned;
    shape = turned_shape head f;
    slot = record { cpu = 1; state = 10; inst = 0; dir = Up; place = Forward; first = true; fails = true };
    is_next = record { front = []; rest = []; slots_are = refl; filled = tt };
    fits = (refl, refl, refl, refl, refl);
    how_is = rw (f.first_sub, f.up, f.rules) refl;
  };
  caller_is = refl;
  turn = refl;
}

s8 : (head : Head) → Fitting head → WalkEnds head j7 0 1 (Fault 5)
unfolding walk walk_entries operation
s8 head f = record {
  of = way;
  in_flight = refl;
  seat_is = refl;
  turn = refl;
  whole = record {
    outcome = returned;
    crossings = turned;
    shape = turned_shape head f;
    filled = ((refl, refl, refl, refl, refl), tt);
    answered = (5, refl, refl);
  };
}

s9 : (head : Head) → OpEnds head j8 0 (Fault 5)
unfolding walking operation answers
s9 head = inl (record { of = held; held = refl; seat_is = refl; no_walk = refl; gives = refl })

-- how much a journal has of events and promises, which is far below the limit
record Small (head : Head) (xs : List Event) (n : ℕ) : Type 0 where
  held : Held head xs
  owners : Owners xs
  few : length xs + promised head xs ≤ n

small_first : (head : Head) → IsHead head → Small head [] 0
small_first head h = let none = promised_none head in record { held = held_none head h; owners = owners_none; few = omega arith }

record Grown (head : Head) (xs : List Event) (e : Event) (m : ℕ) : Type 0 where
  stands : Stands head xs e
  small : Small head (xs ++ e ∷ []) m

grown : (head : Head) (xs : List Event) (e : Event) (n m : ℕ) → Comes head xs e → Small head xs n → n + taken (need head xs e) ≤ m →
    m ≤ MAX_EVENTS → Grown head xs e m
grown head xs e n m h s more few = record {
  stands = (h, room (need head xs e) more);
  small = record {
    held = held_step head xs e h s.held;
    owners = owners_step head xs e h s.owners;
    few =
        let u = uses head xs e h s.owners s.held.operations s.held.kept in
        let l = length-append xs (e ∷ []) in
        let f = s.few in
        omega arith;
  };
}
  where
    room : (k : Option ℕ) → n + taken k ≤ m → is_room head xs k ≡ true
    room None more = refl
    room (Some k) more = let f = s.few in le-leb (length xs + promised head xs + k) MAX_EVENTS (omega arith)

two_present : (head : Head) → Fitting head → length (present head) ≤ 2
two_present head f =
    let a = length-filter_le (λ c. is_present head c) (numbers head.possible) in
    let b = length-numbers head.possible in
    let c = f.possible in
    omega arith

one_key : (head : Head) → Fitting head → keys_on (keys head j5) 0 10 ≡ 1
one_key head f =
    let t = total_sum (keys head j5) (plan (keys head j5) 0 10) in
    let p = ap (total (keys head j5)) (plan_is head f) in
    let l = ap length (keys_are head f) in
    omega arith

need_is : (head : Head) → need head j5 (WalkBegin 0 1 0 10) ≡ Some (walk_need head j5 0 10)
unfolding operation
need_is head = refl

pub lawful : (head : Head) → Fitting head → IsLawful head (j8 ++ OpEnd 0 (Fault 5) ∷ [])
lawful head f =
    let two = two_present head f in
    let one = one_key head f in
    let walk = ap taken (need_is head) in
    let g1 = grown head [] (Admit 0 Client) 0 2 (s1 head) (small_first head f.is_head) (omega arith) (omega arith) in
    let g2 = grown head j1 (RegBegin 0 10 setup) 2 8 (s2 head f) g1.small (omega arith) (omega arith) in
    let g3 = grown head j2 (Call 0 0 10 0 Up RanOk) 8 8 (inr (s3 head f)) g2.small (omega arith) (omega arith) in
    let g4 = grown head j3 (RegEnd 0 (Ok (pos 0))) 8 8 (s4 head f) g3.small (omega arith) (omega arith) in
    let g5 = grown head j4 (Enter 0 (Target 1 (pos 10))) 8 10 (s5 head f) g4.small (omega arith) (omega arith) in
    let g6 = grown head j5 (WalkBegin 0 1 0 10) 10 17 (s6 head) g5.small (omega arith) (omega arith) in
    let g7 = grown head j6 (Call 0 1 10 0 Up (RanFault 5)) 17 17 (inl (s7 head f)) g6.small (omega arith) (omega arith) in
    let g8 = grown head j7 (WalkEnd 0 1 (Fault 5)) 17 17 (s8 head f) g7.small (omega arith) (omega arith) in
    let g9 = grown head j8 (OpEnd 0 (Fault 5)) 17 17 (s9 head) g8.small (omega arith) (omega arith) in (
      f.is_head,
      (g1.stands, (g2.stands, (g3.stands, (g4.stands, (g5.stands, (g6.stands, (g7.stands, (g8.stands, (g9.stands, tt))))))))),
    )
