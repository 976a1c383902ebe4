-- A registration in flight after one event more: it begins, goes on past an entry, ends, or stays as it is.
use Rattle.std.proofs.Common.{◌≡◌, ℕ, ◌+◌, ◌-◌, Bool, true, false, ◌||◌, Option, Some, None, List, [], ◌∷◌, ◌++◌, length, length-append, refl, sym, ap, ◌∙◌, subst, ⊎_elim, arith}
use Rattle.std.specs.Prelude.{option_map}
use Rattle.std.proofs.lemmas.Bool.{true≢false}
use Rattle.hp_states.specs.declared.dir.Dir.{Dir}
use Rattle.hp_states.specs.declared.place.Place.{Place}
use Rattle.hp_states.specs.Sections.{can_fail}
use Rattle.hp_event.specs.declared.how.How.{How}
use Rattle.hp_event.specs.declared.key.Key.{Key}
use Rattle.hp_event.specs.declared.op.Op.{Op}
use Rattle.hp_event.specs.declared.op.Op.TheVariants.{Setup, Remove, Add, Del}
use Rattle.hp_event.specs.declared.answer.Answer.{Answer}
use Rattle.hp_event.specs.declared.head.Head.{Head}
use Rattle.hp_event.specs.declared.event.Event.{Event}
use Rattle.hp_event.specs.declared.event.Event.TheVariants.{RegBegin, RegEnd, Call, WalkBegin, WalkEnd}
use Rattle.hp_model.specs.Events.{is_registration_op}
use Rattle.hp_model.specs.Entries.{is_done}
use Rattle.hp_model.specs.How.{fits, how_in_registration}
use Rattle.hp_model.specs.Caller.{caller}
use Rattle.hp_model.specs.Walks.{walk, walking}
use Rattle.hp_model.specs.Registrations.{Registration, registration, registration_entries}
use Rattle.hp_model.specs.RegistrationShape.{key_of}
use Rattle.hp_model.specs.Processors.{processors}
use Rattle.hp_model.specs.Needs.{registration_need}
use Rattle.hp_model.specs.Resolved.{resolved}
use Rattle.hp_model.specs.Settled.{settled}
use Rattle.hp_model.specs.UnderWay.{next_of_registration}
use Rattle.hp_model.specs.StandsCalls.{Calls, InWalk, InRegistration}
use Rattle.hp_model.specs.StandsRegistrations.{RegBegins}
use Rattle.hp_model.specs.Lawful.{Comes}
use Rattle.hp_model.proofs.Laws.{registration_push, registration_entries_push, settled_push, walking_push}
use Rattle.hp_model.proofs.InFlight.{walk_none, empty_of}
use Rattle.hp_model.proofs.Owners.{Owners}
use Rattle.hp_model.proofs.Passing.{begins_alone}
use Rattle.hp_model.proofs.WaitLemmas.{walks_alone}
use Rattle.hp_model.proofs.HowLemmas.{registration_fails}
use Rattle.hp_model.proofs.RegistrationGives.{gives_entry}
use Rattle.hp_reg.specs.declared.step.RegStep.{RegStep}
use Rattle.hp_reg.specs.declared.step.RegStep.TheVariants as regstep
use Rattle.hp_reg.specs.Asked.{asked}
use Rattle.hp_reg.specs.After.{IsAfter}
use Rattle.hp_reg.proofs.Callers.{processors_rise}
use Rattle.hp_account.specs.declared.registering.Registering.{Registering}
use Rattle.hp_account.specs.Registering.{IsRegistering, IsRegisteringOf}
use Rattle.hp_account.specs.RegisteringChanges.{RegistrationBegan, RegistrationWentOn}
use Rattle.hp_account.proofs.RegistrationNext.{entry_next, end_next}

pub registers : (head : Head) (es : List Event) (op : Op) (state : ℕ) → resolved head es op ≡ Some state → is_registration_op op ≡ true
registers head es (Setup asked sub form) state h = refl
registers head es (Remove s form) state h = refl
registers head es (Add s inst form) state h = refl
registers head es (Del s inst form) state h = refl
registers head es op state h = absurd (cc)

-- it begins
pub registration_begins : (head : Head) (es : List Event) (seat : ℕ) (op : Op) (state need : ℕ) (g : Registering) →
    RegBegins head es seat state op → RegistrationBegan seat op state need g → need ≡ registration_need head →
    IsRegistering head (es ++ RegBegin seat state op ∷ []) g
registration_begins head es seat op state need g b begun needed =
    let e : Event = RegBegin seat state op in
    let r : Registration = record { seat = seat; state = state; op = op; before = es } in
    record {
      of = r;
      in_flight = registration_push es e;
      seat_is = begun.seat_is;
      op_is = begun.op_is;
      state_is = begun.state_is;
      registers = registers head es op state b.state_is;
      still = λ c. sym (settled_push c es e);
      no_walk = walking_push es e ∙ empty_of (walking es) (begins_alone head es op state b.state_is b.passes.not_waiting).0;
      after =
          rw (registration_entries_push es e) (begun.after (key_of head r) (processors head state es) (processors_rise head state es));
      left_is = rw (registration_entries_push es e) (begun.left_is ∙ ap (λ n. n - 1) needed);
    }

-- with a registration in flight nothing walks
no_walk_in : (head : Head) (es : List Event) (g : Registering) → IsRegistering head es g → (c : ℕ) → walk c es ≡ None
no_walk_in head es g r c = walk_none es (rw r.no_walk refl) c

same_entry : (k c s i l d t j : ℕ) (a b : Dir) (x y : How) → Some (Call k c s i a x) ≡ Some (Call l d t j b y) →
    (c ≡ d) × (s ≡ t) × (i ≡ j) × (a ≡ b) × (x ≡ y)
same_entry k c s i l d t j a b x y h = (cc, cc, cc, cc, cc)

-- the call that comes is the one that is asked for
pub record IsAskedFor (head : Head) (es : List Event) (r : Registration) (g : Registering) (c s i : ℕ) (d : Dir) (how : How) : Type 0 where
  pub key : Key
  pub place : Place
  pub asks : asked (key_of head r) (processors head r.state r.before) g.reg ≡ regstep.Call c key d place
  pub state_is : s ≡ key.state
  pub inst_is : i ≡ key.inst
  pub can : fits how d key.state place ≡ true

fits_so : (head : Head) (es : List Event) (op : Op) (c s i : ℕ) (d : Dir) (place : Place) →
    fits (how_in_registration head es op c s i d place) d s place ≡ true
fits_so head es op c s i d place = go (is_done (how_in_registration head es op c s i d place)) refl
  where
    go : (b : Bool) → is_done (how_in_registration head es op c s i d place) ≡ b →
        (is_done (how_in_registration head es op c s i d place) || can_fail d s place) ≡ true
    go true e = rw e refl
    go false e = rw (e, registration_fails head es op c s i d place e) refl

asked_for : (head : Head) (es : List Event) (g : Registering) (r : IsRegistering head es g) (seat c s i : ℕ) (d : Dir) (how : How) →
    InRegistration head es seat c s i d how → IsAskedFor head es r.of g c s i d how
asked_for head es g r seat c s i d how comes =
    go (asked (key_of head r.of) (processors head r.of.state r.of.before) g.reg) refl
  where
    given : next_of_registration head es (registration es) ≡ Some (Call seat c s i d how)
    given = gives_entry head es seat c s i d how comes

    called : (cpu : ℕ) (key : Key) (dir : Dir) (place : Place) →
        asked (key_of head r.of) (processors head r.of.state r.of.before) g.reg ≡ regstep.Call cpu key dir place →
        (by : Option ℕ) →
        option_map (λ k. Call k cpu key.state key.inst dir (how_in_registration head es r.of.op cpu key.state key.inst dir place)) by
        ≡ Some (Call seat c s i d how) → IsAskedFor head es r.of g c s i d how
    called cpu key dir place asks None h = absurd (cc)
    called cpu key dir place asks (Some k) h =
        let made = how_in_registration head es r.of.op cpu key.state key.inst dir place in
        let e = same_entry k cpu key.state key.inst seat c s i dir d made how h in
        let can : fits made dir key.state place ≡ true = fits_so head es r.of.op cpu key.state key.inst dir place in
        record {
          key = key;
          place = place;
          asks = rw (← e.0, ← e.3) asks;
          state_is = sym e.1;
          inst_is = sym e.2;
          can = rw (← e.4, ← e.3) can;
        }

    go : (x : RegStep) → asked (key_of head r.of) (processors head r.of.state r.of.before) g.reg ≡ x → IsAskedFor head es r.of g c s i d how
    go (regstep.Call cpu key dir place) asks =
        let n = entry_next head es g r cpu key dir place asks in
        called cpu key dir place asks
        (caller es cpu key.state (how_in_registration head es r.of.op cpu key.state key.inst dir place) r.of.seat) (sym n.next ∙ given)
    go (regstep.Ended answer) asks = absurd (let n = sym (end_next head es g r answer asks) ∙ given in cc)

-- it goes on past an entry
pub registration_calls : (head : Head) (es : List Event) (g new : Registering) (seat c s i : ℕ) (d : Dir) (how : How) →
    Calls head es seat c s i d how → IsRegistering head es g → RegistrationWentOn c how g new →
    IsRegistering head (es ++ Call seat c s i d how ∷ []) new
registration_calls head es g new seat c s i d how comes r went =
    let e : Event = Call seat c s i d how in
    let here : InRegistration head es seat c s i d how =
    ⊎_elim
    (λ (w : InWalk head es seat c s i d how). absurd (let n = sym (no_walk_in head es g r c) ∙ w.entry.in_flight in cc))
    (λ (h : InRegistration head es seat c s i d how). h) comes
    in
    let a = asked_for head es g r seat c s i d how here in
    let after = went.after (key_of head r.of) (processors head r.of.state r.of.before) (registration_entries es) seat a.key d a.place r.after
    a.asks a.can in
    let K = key_of head r.of in
    let C = processors head r.of.state r.of.before in
    let xs = registration_entries es in
    let by_inst : IsAfter K C (xs ++ Call seat c a.key.state i d how ∷ []) new.reg =
    subst (λ y. IsAfter K C (xs ++ Call seat c a.key.state y d how ∷ []) new.reg) (sym a.inst_is) after in
    let there : IsAfter K C (xs ++ e ∷ []) new.reg =
    subst (λ x. IsAfter K C (xs ++ Call seat c x i d how ∷ []) new.reg) (sym a.state_is) by_inst in
    record {
      of = r.of;
      in_flight = registration_push es e ∙ r.in_flight;
      seat_is = went.seat_same ∙ r.seat_is;
      op_is = went.op_same ∙ r.op_is;
      state_is = went.state_same ∙ r.state_is;
      registers = r.registers;
      still = λ x. r.still x ∙ sym (settled_push x es e);
      no_walk = walking_push es e ∙ r.no_walk;
      after = rw (registration_entries_push es e) there;
      left_is =
          rw (registration_entries_push es e, length-append (registration_entries es) (e ∷ []))
          (went.left_is ∙ ap (λ n. n - 1) r.left_is ∙ less (registration_need head) (length (registration_entries es)));
    }
  where
    less : (n m : ℕ) → (n - (m + 1)) - 1 ≡ n - ((m + 1) + 1)
    less n m = omega arith

-- it has ended
pub registration_ends : (head : Head) (es : List Event) (seat : ℕ) (answer : Answer) →
    IsRegisteringOf head (es ++ RegEnd seat answer ∷ []) None
registration_ends head es seat answer = registration_push es (RegEnd seat answer)

-- an event that is none of a registration
abbrev pub IsBesideRegistration : Event → Type 0
IsBesideRegistration (RegBegin seat state op) = ⊥
IsBesideRegistration (RegEnd seat answer) = ⊥
IsBesideRegistration (Call seat c s i d how) = ⊥
IsBesideRegistration _ = Unit {0}

beside_flight : (es : List Event) (e : Event) → IsBesideRegistration e → registration (es ++ e ∷ []) ≡ registration es
beside_flight es (RegBegin seat state op) h = elim h [ ]
beside_flight es (RegEnd seat answer) h = elim h [ ]
beside_flight es (Call seat c s i d how) h = elim h [ ]
beside_flight es e h = registration_push es e

beside_entries : (es : List Event) (e : Event) → IsBesideRegistration e →
    registration_entries (es ++ e ∷ []) ≡ registration_entries es
beside_entries es (RegBegin seat state op) h = elim h [ ]
beside_entries es (RegEnd seat answer) h = elim h [ ]
beside_entries es (Call seat c s i d how) h = elim h [ ]
beside_entries es e h = registration_entries_push es e

-- no walk begins or ends meanwhile
beside_walking : (head : Head) (es : List Event) (g : Registering) (e : Event) → Owners es → IsRegistering head es g → Comes head es e →
    walking (es ++ e ∷ []) ≡ []
beside_walking head es g (WalkBegin seat c from to) own r comes =
    absurd (true≢false (sym (rw r.in_flight refl) ∙ (walks_alone es comes.no_wait own.batch_alone).1))
beside_walking head es g (WalkEnd seat c answer) own r comes = walking_push es (WalkEnd seat c answer) ∙ rw r.no_walk refl
beside_walking head es g e own r comes = walking_push es e ∙ r.no_walk

beside_settled : (head : Head) (es : List Event) (g : Registering) (e : Event) → IsRegistering head es g → Comes head es e →
    (c : ℕ) → settled c (es ++ e ∷ []) ≡ settled c es
beside_settled head es g (WalkEnd seat c answer) r comes d =
    absurd (let n = sym (no_walk_in head es g r c) ∙ comes.in_flight in cc)
beside_settled head es g e r comes d = settled_push d es e

-- it stays as it is
pub registration_stays : (head : Head) (es : List Event) (flight : Option Registering) (e : Event) → Owners es → Comes head es e →
    IsBesideRegistration e → IsRegisteringOf head es flight → IsRegisteringOf head (es ++ e ∷ []) flight
registration_stays head es None e own comes beside r = beside_flight es e beside ∙ r
registration_stays head es (Some g) e own comes beside r =
    record {
      of = r.of;
      in_flight = beside_flight es e beside ∙ r.in_flight;
      seat_is = r.seat_is;
      op_is = r.op_is;
      state_is = r.state_is;
      registers = r.registers;
      still = λ c. r.still c ∙ sym (beside_settled head es g e r comes c);
      no_walk = beside_walking head es g e own r comes;
      after = rw (beside_entries es e beside) r.after;
      left_is = rw (beside_entries es e beside) r.left_is;
    }
