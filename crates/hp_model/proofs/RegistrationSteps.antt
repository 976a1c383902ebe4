-- One event more of a registration.
use Rattle.std.proofs.Common.{◌≡◌, ℕ, ◌+◌, ◌<◌, ◌≤◌, Bool, true, false, cond, eqb, Option, Some, None, List, [], ◌∷◌, ◌++◌, refl, ap, sym, ◌∙◌, arith, ℤ}
use Rattle.std.specs.Prelude.{pos}
use Rattle.std.proofs.lemmas.Bool.Decides.{nat_tests}
use Rattle.std.proofs.lemmas.Bool.{eqb-true}
use Rattle.hp_states.proofs.Basics.{none_of}
use Rattle.hp_states.specs.declared.dir.Dir.{Dir}
use Rattle.hp_states.specs.declared.dir.Dir.TheVariants.{Up, Down}
use Rattle.hp_states.specs.declared.place.Place.{Place}
use Rattle.hp_event.specs.declared.how.How.{How}
use Rattle.hp_event.specs.declared.op.Op.{Op}
use Rattle.hp_event.specs.declared.op.Op.TheVariants.{Setup, Remove, Add, Del}
use Rattle.hp_event.specs.declared.answer.Answer.{Answer}
use Rattle.hp_event.specs.declared.answer.Answer.TheVariants.{Ok, Fault}
use Rattle.hp_event.specs.declared.head.Head.{Head}
use Rattle.hp_event.specs.declared.event.Event.{Event}
use Rattle.hp_event.specs.declared.event.Event.TheVariants.{Call, RegBegin, RegEnd}
use Rattle.hp_model.specs.InForce.{ups, downs}
use Rattle.hp_model.specs.Lists.{occurs}
use Rattle.hp_model.specs.Crossing.{Slot}
use Rattle.hp_model.specs.Walks.{walk}
use Rattle.hp_model.specs.Registrations.{Registration, registration, registration_entries}
use Rattle.hp_model.specs.Registered.{Registered, registered, applied, insts_of, keys, after_answer}
use Rattle.hp_model.specs.Subsystems.{is_multi}
use Rattle.hp_model.specs.Settled.{settled}
use Rattle.hp_model.specs.Processors.{is_present, processors}
use Rattle.hp_model.specs.RegistrationShape.{key_of, is_adding, each, Registering, made, undone, IsRegistrationShape, IsRegistrationAnswer, ok_value}
use Rattle.hp_model.specs.StandsCalls.{InRegistration}
use Rattle.hp_model.specs.StandsRegistrations.{RegBegins, RegEnds}
use Rattle.hp_model.proofs.Counts.{at_or_below, done_entries-none, done_entries_push}
use Rattle.hp_model.proofs.Laws.{walk_push, registration_push, registration_entries_push, registered_push, settled_push}
use Rattle.hp_model.proofs.ListLemmas.{occurs-without}
use Rattle.hp_model.proofs.Registrations.{after_it, made_nets, undone_even}
use Rattle.hp_model.proofs.WalkSteps.{Begin_next}
use Rattle.hp_model.proofs.Kept.{Balanced, KeptAt, RegistrationKept, Kept}
use Rattle.hp_model.proofs.CanBegin.{CanBegin}
use Rattle.hp_model.proofs.InFlight.{walk_none}
use Rattle.hp_model.proofs.Passing.{passed, can_begin, begins_above, begins_alone}

-- while a registration is in flight nothing is claimed of a processor but that no walk of it is
pub kept_beside : (head : Head) (c : ℕ) (ys : List Event) (r : Registration) → walk c ys ≡ None → registration ys ≡ Some r →
    (is_present head c ≡ false → settled c ys ≡ 0) → KeptAt head c ys
kept_beside head c ys r no_walk at_registration away = record { kept = rw (no_walk, at_registration) tt; away = away }

-- there is a whole shape
abbrev pub made_slots : Bool → (state : ℕ) → Option ℕ → (cpus : List ℕ) → List Slot
made_slots adding s None cs = []
made_slots true s (Some i) cs = each Place.Add Up s i cs
made_slots false s (Some i) cs = each Place.Remove Down s i cs

pub made_shape : (adding : Bool) (s : ℕ) (key : Option ℕ) (cs : List ℕ) →
    IsRegistrationShape adding s key cs (made_slots adding s key cs) made
made_shape adding s None cs = refl
made_shape true s (Some i) cs = refl
made_shape false s (Some i) cs = refl

pub registration_begin_step : (head : Head) (xs : List Event) (seat state : ℕ) (op : Op) → RegBegins head xs seat state op →
    Kept head xs → Kept head (xs ++ RegBegin seat state op ∷ [])
registration_begin_step head xs seat state op b k =
    let e : Event = RegBegin seat state op in
    let r : Registration = record { seat = seat; state = state; op = op; before = xs } in
    let alone = begins_alone head xs op state b.state_is b.passes.not_waiting in
    let no_walk : (c : ℕ) → walk c xs ≡ None = walk_none xs alone.0 in
    let no_registration = none_of (registration xs) alone.1 in
    let after = (passed head xs seat op b.free.idle b.passes.not_waiting b.passes.not_refused).1 in
    let at_registration : registration (xs ++ e ∷ []) ≡ Some r = registration_push xs e in
    let no_entries : registration_entries (xs ++ e ∷ []) ≡ [] = registration_entries_push xs e in
    let kept : RegistrationKept head r (xs ++ e ∷ []) = record {
      no_walk = λ c. walk_push c xs e ∙ no_walk c;
      above = begins_above head xs op state k.none_at_0 b.state_is after;
      can_begin = can_begin head xs op state b.state_is after;
      settled_same = λ c. settled_push c xs e;
      registered_same = λ s. registered_push head s xs e;
      balanced = λ c. rw (no_walk c, no_registration) at (k.at c).kept;
      counts = λ c s i d. rw (done_entries_push c s i d xs e, no_entries, done_entries-none c s i d) refl;
      so_far = record {
        outcome = made;
        slots = made_slots (is_adding op) state (key_of head r) (processors head state xs);
        shape = made_shape (is_adding op) state (key_of head r) (processors head state xs);
        begun = rw no_entries tt;
      };
    } in
    record {
      at = λ c. kept_beside head c (xs ++ e ∷ []) r (walk_push c xs e ∙ no_walk c) at_registration
          (λ h. settled_push c xs e ∙ (k.at c).away h);
      registration_kept = rw at_registration kept;
      once = λ s i. rw (registered_push head s xs e) (k.once s i);
      none_at_0 = registered_push head 0 xs e ∙ k.none_at_0;
    }

pub registration_call_step : (head : Head) (xs : List Event) (seat cpu state inst : ℕ) (dir : Dir) (how : How) →
    InRegistration head xs seat cpu state inst dir how →
    Kept head xs → Kept head (xs ++ Call seat cpu state inst dir how ∷ [])
registration_call_step head xs seat cpu state inst dir how b k =
    let e : Event = Call seat cpu state inst dir how in
    let r : Registration = b.entry.of in
    let h : RegistrationKept head r xs = rw b.entry.in_flight at k.registration_kept in
    let at_registration : registration (xs ++ e ∷ []) ≡ Some r = registration_push xs e ∙ b.entry.in_flight in
    let entries : registration_entries (xs ++ e ∷ []) ≡ registration_entries xs ++ e ∷ [] = registration_entries_push xs e in
    let kept : RegistrationKept head r (xs ++ e ∷ []) = record {
      no_walk = λ c. walk_push c xs e ∙ h.no_walk c;
      above = h.above;
      can_begin = h.can_begin;
      settled_same = λ c. settled_push c xs e ∙ h.settled_same c;
      registered_same = λ s. registered_push head s xs e ∙ h.registered_same s;
      balanced = h.balanced;
      counts = λ c s i d.
          let n = h.counts c s i d in
          rw (done_entries_push c s i d xs e, entries, done_entries_push c s i d (registration_entries xs) e) (omega arith);
      so_far = record {
        outcome = b.entry.outcome;
        slots = b.entry.slots;
        shape = b.entry.shape;
        begun =
            rw (entries, b.entry.is_next.slots_are)
            (Begin_next b.entry.is_next.front b.entry.slot b.entry.is_next.rest (registration_entries xs) e b.entry.is_next.filled b.entry.fits);
      };
    } in
    record {
      at = λ c. kept_beside head c (xs ++ e ∷ []) r (walk_push c xs e ∙ h.no_walk c) at_registration
          (λ a. settled_push c xs e ∙ (k.at c).away a);
      registration_kept = rw at_registration kept;
      once = λ s i. rw (registered_push head s xs e) (k.once s i);
      none_at_0 = registered_push head 0 xs e ∙ k.none_at_0;
    }

-- no key is there twice after a registration
pub setup_once : (m : Bool) (j : ℕ) → occurs j (cond m [] (0 ∷ [])) ≤ 1
setup_once true j = omega arith
setup_once false j = at_most j
  where
    at_most : (j : ℕ) → cond (eqb 0 j) 1 0 + 0 ≤ 1
    at_most j = grind (arith, nat_tests)

pub add_once : (n : ℕ → ℕ) (i j : ℕ) → n i ≡ 0 → n j ≤ 1 → cond (eqb i j) 1 0 + n j ≤ 1
add_once n i j none once = grind (arith, nat_tests)

pub del_once : (b : Bool) (n : ℕ) → n ≤ 1 → cond b 0 n ≤ 1
del_once true n h = omega arith
del_once false n h = h

pub applied_once : (head : Head) (op : Op) (found : Option Registered) (j : ℕ) → CanBegin op found →
    occurs j (insts_of found) ≤ 1 → occurs j (insts_of (applied head op found)) ≤ 1
applied_once head (Setup state sub form) found j h once = setup_once (is_multi head sub) j
applied_once head (Remove state form) found j h once = omega arith
applied_once head (Add state inst form) found j h once =
    let once' = rw (h.1, h.2) at once in
    rw (h.1, h.2) (add_once (λ x. occurs x h.0.insts) inst j h.3 once')
applied_once head (Del state inst form) found j h once =
    let once' = rw (h.1, h.2) at once in
    rw (h.1, h.2, occurs-without inst j h.0.insts) (del_once (eqb j inst) (occurs j h.0.insts) once')
applied_once head op found j h once = elim h [ ]

-- what is registered after a registration that was made, and after one that was undone
pub registered_made : (head : Head) (xs : List Event) (seat : ℕ) (answer : Answer) (value : ℤ) (r : Registration) (s : ℕ) →
    answer ≡ Ok value → registration xs ≡ Some r → registered head s xs ≡ registered head s r.before →
    keys head (xs ++ RegEnd seat answer ∷ []) s ≡ after_it head r s
registered_made head xs seat answer value r s ok at_registration same =
    rw (registered_push head s xs (RegEnd seat answer), ok, at_registration, same) refl

pub registered_undone : (head : Head) (xs : List Event) (seat : ℕ) (answer : Answer) (code : ℕ) (s : ℕ) →
    answer ≡ Fault code → registered head s (xs ++ RegEnd seat answer ∷ []) ≡ registered head s xs
registered_undone head xs seat answer code s fault = rw (registered_push head s xs (RegEnd seat answer), fault) refl

-- the end of a registration leaves every other state
pub after_other : (head : Head) (s : ℕ) (answer : Answer) (r : Registration) (found : Option Registered) → eqb r.state s ≡ false →
    after_answer head s answer (Some r) found ≡ found
after_other head s (Ok value) r found h = rw h refl
after_other head s answer r found h = refl

not_0 : (n : ℕ) → 0 < n → eqb n 0 ≡ false
not_0 n h = grind (arith, nat_tests)

-- the end of a registration, for keys K' after it and the net of its entries
pub registration_ends : (head : Head) (xs : List Event) (seat : ℕ) (answer : Answer) (r : Registration) (K : ℕ → List ℕ) →
    registration xs ≡ Some r → RegistrationKept head r xs → Kept head xs →
    ((s : ℕ) → keys head (xs ++ RegEnd seat answer ∷ []) s ≡ K s) →
    ((s i : ℕ) → occurs i (K s) ≤ 1) →
    ((c s i : ℕ) →
    at_or_below (keys head r.before) (settled c r.before) s i + ups c s i (registration_entries xs)
    ≡ downs c s i (registration_entries xs) + at_or_below K (settled c r.before) s i) →
    Kept head (xs ++ RegEnd seat answer ∷ [])
registration_ends head xs seat answer r K at_registration h k keys_are once net =
    let e : Event = RegEnd seat answer in
    let no_registration : registration (xs ++ e ∷ []) ≡ None = registration_push xs e in
    record {
      at = λ c. record {
        kept = rw (walk_push c xs e, h.no_walk c, no_registration) (balanced c);
        away = λ a. settled_push c xs e ∙ (k.at c).away a;
      };
      registration_kept = rw no_registration tt;
      once = λ s i. rw (keys_are s) (once s i);
      none_at_0 =
          registered_push head 0 xs e
          ∙ (rw (at_registration) refl
          ∙ (after_other head 0 answer r (registered head 0 xs) (not_0 r.state h.above) ∙ k.none_at_0));
    }
  where
    balanced : (c : ℕ) → Balanced head c (xs ++ RegEnd seat answer ∷ [])
    balanced c = record {
      at = λ s i.
          let n = net c s i in
          let b = (h.balanced c).at s i in
          let up = h.counts c s i Up in
          let down = h.counts c s i Down in
          rw (
            done_entries_push c s i Up xs (RegEnd seat answer),
            done_entries_push c s i Down xs (RegEnd seat answer),
            settled_push c xs (RegEnd seat answer),
            h.settled_same c,
            keys_are s,
          )
          (omega arith);
    }

pub after_once : (head : Head) (r : Registration) (s i : ℕ) → CanBegin r.op (registered head r.state r.before) →
    ((s i : ℕ) → occurs i (keys head r.before s) ≤ 1) → occurs i (after_it head r s) ≤ 1
after_once head r s i can once = go (eqb r.state s) refl
  where
    go : (b : Bool) → eqb r.state s ≡ b →
        occurs i (insts_of (cond b (applied head r.op (registered head s r.before)) (registered head s r.before))) ≤ 1
    go true e =
        let f : s ≡ r.state = sym (eqb-true r.state s e) in
        rw f (applied_once head r.op (registered head r.state r.before) i can (once r.state i))
    go false e = once s i

pub registration_end_step : (head : Head) (xs : List Event) (seat : ℕ) (answer : Answer) → RegEnds head xs seat answer →
    Kept head xs → Kept head (xs ++ RegEnd seat answer ∷ [])
registration_end_step head xs seat answer b k =
    go b.whole.outcome b.whole.shape b.whole.answered
  where
    r : Registration
    r = b.of

    h : RegistrationKept head r xs
    h = rw b.in_flight at k.registration_kept

    once : (s i : ℕ) → occurs i (keys head r.before s) ≤ 1
    once s i = rw (h.registered_same s) at (k.once s i)

    away : (c : ℕ) → is_present head c ≡ false → settled c r.before ≡ 0
    away c a = sym (h.settled_same c) ∙ (k.at c).away a

    go : (o : Registering) →
        IsRegistrationShape (is_adding r.op) r.state (key_of head r) (processors head r.state r.before) b.whole.slots o →
        IsRegistrationAnswer o (ok_value r.op r.state) (registration_entries xs) answer → Kept head (xs ++ RegEnd seat answer ∷ [])
    go made shape answered =
        registration_ends head xs seat answer r (after_it head r) b.in_flight h k
        (λ s. registered_made head xs seat answer (pos (ok_value r.op r.state)) r s answered b.in_flight (h.registered_same s))
        (λ s i. after_once head r s i h.can_begin once)
        (λ c s i. made_nets head r c s i b.whole.slots (registration_entries xs) h.above h.can_begin (once r.state) (away c) shape
        b.whole.filled)
    go undone shape answered =
        registration_ends head xs seat answer r (keys head r.before) b.in_flight h k
        (λ s. ap insts_of (registered_undone head xs seat answer answered.0 s answered.2 ∙ h.registered_same s))
        once
        (λ c s i.
        let even = undone_even c s i r.state (is_adding r.op) (key_of head r) (processors head r.state r.before)
        b.whole.slots (registration_entries xs) shape b.whole.filled
        in
        omega arith)
