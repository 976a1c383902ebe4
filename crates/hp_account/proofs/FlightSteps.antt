-- The walks in flight stand where a journal's entries lead, by one event more: where one begins or ends, and by all other events but an entry.
use Rattle.std.proofs.Common.{◌≡◌, ◌≢◌, ℕ, ◌-◌, ◌<◌, ◌≤◌, Bool, true, false, not, ◌&&◌, ◌||◌, cond, eqb, is_some, Option, Some, None, List, [], ◌∷◌, ◌++◌, length, length-set, refl, ap, sym, subst, ◌∙◌, arith}
use Rattle.std.specs.Prelude.{slice_set}
use Rattle.std.proofs.lemmas.List.{length-replicate}
use Rattle.std.proofs.lemmas.Bool.{true≢false, eqb-true, eq-eqb}
use Rattle.hp_model.proofs.EntryStays.{walk_kept}
use Rattle.hp_states.proofs.Basics.{none_of, none_some}
use Rattle.hp_states.specs.declared.limits.TheConstants.{MAX_CPU_SET, ONLINE}
use Rattle.hp_event.specs.declared.answer.Answer.{Answer}
use Rattle.hp_event.specs.declared.head.Head.{Head}
use Rattle.hp_event.specs.declared.event.Event.{Event}
use Rattle.hp_event.specs.declared.event.Event.TheVariants.{WalkBegin, Call, WalkEnd, RegEnd}
use Rattle.hp_model.specs.Lawful.{Comes, IsLawful}
use Rattle.hp_model.specs.Lists.{among}
use Rattle.hp_model.specs.Needs.{walk_need}
use Rattle.hp_model.specs.Promised.{promised_to_walk, given_back}
use Rattle.hp_model.specs.Registered.{registered, keys}
use Rattle.hp_model.specs.Registrations.{registration}
use Rattle.hp_model.specs.Settled.{settled}
use Rattle.hp_model.specs.StandsOperations.{WalkBegins, WalkEnds}
use Rattle.hp_model.specs.Walks.{walk, walk_entries, walking}
use Rattle.hp_model.proofs.EntryBounds.{walk_bound}
use Rattle.hp_model.proofs.Induction.{kept}
use Rattle.hp_model.proofs.WaitLemmas.{walks_alone}
use Rattle.hp_model.proofs.InFlight.{among-in, among-out}
use Rattle.hp_model.proofs.Kept.{RegistrationKept}
use Rattle.hp_model.proofs.Laws.{walk_push, walk_entries_push, walking_push, registered_push}
use Rattle.hp_model.proofs.OneNext.{owners}
use Rattle.hp_table.specs.Step.{Step}
use Rattle.hp_walk.specs.Keys.{keys_by}
use Rattle.hp_walk.proofs.Alike.{after_alike}
use Rattle.hp_account.specs.declared.flights.Flight.{Flight}
use Rattle.hp_account.specs.declared.flights.Flights.{Flights}
use Rattle.hp_account.specs.Places.{at_place}
use Rattle.hp_account.specs.Flights.{IsFlight, IsFlightOf, IsFlights}
use Rattle.hp_account.specs.Table.{IsTableOf}
use Rattle.hp_account.specs.FlightChanges.{IsStill, WalkBegan, IfWalks, WalkEnded}
use Rattle.hp_account.proofs.PlaceLemmas.{at_place-none, at_place-set, at_place-within}
use Rattle.hp_account.proofs.FlightFacts.{flight_at, no_flight_at, no_registration, keys_there, flight_of}
use Rattle.hp_account.proofs.WalkMoves.{walk_begins}

-- what the table has is what is registered
abbrev pub HasKeys : Head → List Event → (places : List (Option Step)) → Type 0
HasKeys head xs places = (s : ℕ) → keys head xs s ≡ keys_by places s

pub has_keys : (head : Head) (xs : List Event) (places : List (Option Step)) → IsTableOf head xs places → registration xs ≡ None →
    HasKeys head xs places
has_keys head xs places t idle = λ s. keys_there head xs places s t idle

-- no registration is in flight where a walk begins, nor while one is in flight
pub begin_idle : (head : Head) (xs : List Event) (seat cpu from to : ℕ) → IsLawful head xs → WalkBegins head xs seat cpu from to →
    registration xs ≡ None
begin_idle head xs seat cpu from to lawful h =
    none_of (registration xs) (walks_alone xs h.no_wait (owners head xs lawful).batch_alone).1

pub walker_idle : (head : Head) (xs : List Event) (f : Flights) (n : ℕ) (o : Flight) → IsLawful head xs → IsFlights head xs f →
    at_place f.by_cpu.items n ≡ Some o → registration xs ≡ None
walker_idle head xs f n o lawful t is = no_registration head xs n o lawful (flight_at head xs f n o t is)

-- a walk that nothing was added to stays, where what is registered does
pub flight_stays : (head : Head) (xs ys : List Event) (c : ℕ) (o : Option Flight) → walk c ys ≡ walk c xs →
    walk_entries c ys ≡ walk_entries c xs → ((s : ℕ) → registered head s ys ≡ registered head s xs) → IsFlightOf head xs c o →
    IsFlightOf head ys c o
flight_stays head xs ys c None w e r h = w ∙ h
flight_stays head xs ys c (Some f) w e r h = record {
  of = h.of;
  in_flight = w ∙ h.in_flight;
  seat_is = h.seat_is;
  walk_is = h.walk_is;
  after = rw e h.after;
  registered_same = λ s. h.registered_same s ∙ sym (r s);
  left_is = rw e h.left_is;
}

-- where a processor doesn't walk, it stays so
none_stays : (head : Head) (xs ys : List Event) (c : ℕ) (o : Option Flight) → walk c xs ≡ None → walk c ys ≡ None →
    IsFlightOf head xs c o → IsFlightOf head ys c o
none_stays head xs ys c None w v h = v
none_stays head xs ys c (Some f) w v h = absurd (none_some h.of (sym w ∙ h.in_flight))

-- an event that leaves all walks as they are: an entry does where its processor has none
abbrev pub LeavesWalks : Flights → Event → Type 0
LeavesWalks f (WalkBegin seat cpu from to) = ⊥
LeavesWalks f (Call seat cpu state inst dir how) = at_place f.by_cpu.items cpu ≡ None
LeavesWalks f (WalkEnd seat cpu answer) = ⊥
LeavesWalks f _ = Unit {0}

pub flights_stay : (head : Head) (xs : List Event) (e : Event) (f : Flights) → IsLawful head xs → Comes head xs e →
    IsFlights head xs f → LeavesWalks f e → IsFlights head (xs ++ e ∷ []) f
flights_stay head xs (WalkBegin seat cpu from to) f lawful h t l = elim l [ ]
flights_stay head xs (WalkEnd seat cpu answer) f lawful h t l = elim l [ ]
flights_stay head xs (Call seat cpu state inst dir how) f lawful h t l =
    record {
      cpus = t.cpus;
      each = λ c. go c (eqb cpu c) refl;
      walking_is = λ c. t.walking_is c ∙ sym (ap (among c) (walking_push xs e));
    }
  where
    e : Event
    e = Call seat cpu state inst dir how

    none : walk cpu xs ≡ None
    none = no_flight_at head xs f cpu t l

    go : (c : ℕ) (b : Bool) → eqb cpu c ≡ b → IsFlightOf head (xs ++ e ∷ []) c (at_place f.by_cpu.items c)
    go c true q =
        let s = eqb-true cpu c q in
        let still : walk c xs ≡ None = ap (λ z. walk z xs) (sym s) ∙ none in
        none_stays head xs (xs ++ e ∷ []) c (at_place f.by_cpu.items c) still (walk_push c xs e ∙ still) (t.each c)
    go c false q =
        flight_stays head xs (xs ++ e ∷ []) c (at_place f.by_cpu.items c) (walk_push c xs e) (walk_entries_push c xs e ∙ rw q refl)
        (λ s. registered_push head s xs e) (t.each c)
flights_stay head xs (RegEnd seat answer) f lawful h t l =
    let e : Event = RegEnd seat answer in
    let k = kept head xs lawful in
    let r : RegistrationKept head h.of xs = rw h.in_flight at k.registration_kept in
    record {
      cpus = t.cpus;
      each = λ c.
          none_stays head xs (xs ++ e ∷ []) c (at_place f.by_cpu.items c) (r.no_walk c) (walk_push c xs e ∙ r.no_walk c) (t.each c);
      walking_is = λ c. t.walking_is c ∙ sym (ap (among c) (walking_push xs e));
    }
flights_stay head xs e f lawful h t l = record {
  cpus = t.cpus;
  each = λ c.
      flight_stays head xs (xs ++ e ∷ []) c (at_place f.by_cpu.items c) (walk_push c xs e) (walk_entries_push c xs e)
      (λ s. registered_push head s xs e) (t.each c);
  walking_is = λ c. t.walking_is c ∙ sym (ap (among c) (walking_push xs e));
}

-- at each processor, after the walk of one is written
pub each_after : (head : Head) (ys : List Event) (old new : List (Option Flight)) (cpu : ℕ) (o : Option Flight) → cpu < length old →
    new ≡ slice_set old cpu o → IsFlightOf head ys cpu o →
    ((c : ℕ) → eqb cpu c ≡ false → IsFlightOf head ys c (at_place old c)) → (c : ℕ) → IsFlightOf head ys c (at_place new c)
each_after head ys old new cpu o below is here there c =
    subst (λ z. IsFlightOf head ys c (at_place z c)) (sym is)
    (subst (IsFlightOf head ys c) (sym (at_place-set old cpu o c below)) (go (eqb cpu c) refl))
  where
    go : (b : Bool) → eqb cpu c ≡ b → IsFlightOf head ys c (cond b o (at_place old c))
    go true e = subst (λ z. IsFlightOf head ys z o) (eqb-true cpu c e) here
    go false e = there c e

-- a number put into those that walk, and one taken out
put_in : (c cpu : ℕ) (x : Bool) → (eqb c cpu || x) ≡ cond (eqb cpu c) true x
put_in c cpu x = go (eqb c cpu) refl (eqb cpu c) refl
  where
    go : (a : Bool) → eqb c cpu ≡ a → (b : Bool) → eqb cpu c ≡ b → (a || x) ≡ cond b true x
    go true e true f = refl
    go true e false f = absurd (true≢false (sym (eq-eqb cpu c (sym (eqb-true c cpu e))) ∙ f))
    go false e true f = absurd (true≢false (sym (eq-eqb c cpu (sym (eqb-true cpu c f))) ∙ e))
    go false e false f = refl

take_out : (c cpu : ℕ) (x : Bool) → (not (eqb c cpu) && x) ≡ cond (eqb cpu c) false x
take_out c cpu x = go (eqb c cpu) refl (eqb cpu c) refl
  where
    go : (a : Bool) → eqb c cpu ≡ a → (b : Bool) → eqb cpu c ≡ b → (not a && x) ≡ cond b false x
    go true e true f = refl
    go true e false f = absurd (true≢false (sym (eq-eqb cpu c (sym (eqb-true c cpu e))) ∙ f))
    go false e true f = absurd (true≢false (sym (eq-eqb c cpu (sym (eqb-true cpu c f))) ∙ e))
    go false e false f = refl

-- what a begin asks for is met
pub record CanBegin (old : Flights) (cpu from to need : ℕ) : Type 0 where
  pub inside : cpu < length old.by_cpu.items
  pub few : cpu < MAX_CPU_SET
  pub states : (from ≤ ONLINE) × (to ≤ ONLINE) × (from ≢ to)
  pub room : 0 < need

pub can_begin : (head : Head) (xs : List Event) (seat cpu from to need : ℕ) (old : Flights) → IsLawful head xs →
    WalkBegins head xs seat cpu from to → IsFlights head xs old → settled cpu xs ≤ ONLINE → need ≡ walk_need head xs from to →
    CanBegin old cpu from to need
can_begin head xs seat cpu from to need old lawful h t most n =
    let b = walk_begins head xs seat cpu from to lawful h in
    let inside = b.inside in
    let cpus = t.cpus in
    let at = h.from_is in
    let possible = lawful.0.few_possible in
    record { inside = omega (arith, inside, cpus); few = omega (arith, inside, possible); states = (omega (arith, at, most), b.to_most, b.moves); room = omega (arith, n) }

pub flights_begin : (head : Head) (xs : List Event) (places : List (Option Step)) (seat cpu from to need : ℕ) (old new : Flights) →
    IsLawful head xs → WalkBegins head xs seat cpu from to → IsFlights head xs old → HasKeys head xs places →
    WalkBegan (keys_by places) seat cpu from to need old new → need ≡ walk_need head xs from to →
    IsFlights head (xs ++ WalkBegin seat cpu from to ∷ []) new
flights_begin head xs places seat cpu from to need old new lawful h t has b n =
    record {
      cpus = ap length b.with_it.by_cpu_is ∙ (length-set old.by_cpu.items cpu (Some b.flight) ∙ t.cpus);
      each = each_after head (xs ++ e ∷ []) old.by_cpu.items new.by_cpu.items cpu (Some b.flight) below b.with_it.by_cpu_is begun other;
      walking_is = λ c.
          b.walking_is c
          ∙ (ap (λ z. eqb c cpu || z) (t.walking_is c)
          ∙ (put_in c cpu (among c (walking xs)) ∙ sym (ap (among c) (walking_push xs e) ∙ among-in c cpu (walking xs))));
    }
  where
    e : Event
    e = WalkBegin seat cpu from to

    below : cpu < length old.by_cpu.items
    below = let inside = (walk_begins head xs seat cpu from to lawful h).inside in let cpus = t.cpus in omega (arith, inside, cpus)

    self : eqb cpu cpu ≡ true
    self = eq-eqb cpu cpu refl

    entries : walk_entries cpu (xs ++ e ∷ []) ≡ []
    entries = walk_entries_push cpu xs e ∙ rw self refl

    begun : IsFlight head (xs ++ e ∷ []) cpu b.flight
    begun = record {
      of = record { seat = seat; from = from; to = to; before = xs };
      in_flight = walk_push cpu xs e ∙ rw self refl;
      seat_is = b.seat_is;
      walk_is = b.walk_is;
      after = rw entries (after_alike (keys_by places) (keys head xs) (λ s. sym (has s)) [] b.flight.walk b.after);
      registered_same = λ s. sym (registered_push head s xs e);
      left_is = rw entries (b.left_is ∙ ap (λ z. z - 1) n);
    }

    other : (c : ℕ) → eqb cpu c ≡ false → IsFlightOf head (xs ++ e ∷ []) c (at_place old.by_cpu.items c)
    other c f =
        flight_stays head xs (xs ++ e ∷ []) c (at_place old.by_cpu.items c) (walk_push c xs e ∙ rw f refl)
        (walk_entries_push c xs e ∙ rw f refl) (λ s. registered_push head s xs e) (t.each c)

-- a walk in flight has room for what comes next in it
pub flight_room : (head : Head) (xs : List Event) (cpu : ℕ) (f : Flight) → IsLawful head xs → IsFlight head xs cpu f → 0 < f.left
flight_room head xs cpu f lawful b =
    let bound = walk_bound head cpu b.of xs (walk_kept head xs cpu b.of lawful b.in_flight) in
    let left = b.left_is in
    omega arith

-- what an end asks for is met
pub can_end : (head : Head) (xs : List Event) (seat cpu : ℕ) (answer : Answer) (old : Flights) → IsLawful head xs →
    WalkEnds head xs seat cpu answer → IsFlights head xs old →
    (cpu < length old.by_cpu.items) × (cpu < MAX_CPU_SET) × IfWalks (at_place old.by_cpu.items cpu) (λ flight. 0 < flight.left)
can_end head xs seat cpu answer old lawful h t =
    let w = flight_of head xs old cpu t (ap is_some h.in_flight) in
    let inside = at_place-within old.by_cpu.items cpu w.0 w.1 in
    let cpus = t.cpus in
    let possible = lawful.0.few_possible in (
      inside,
      omega (arith, inside, cpus, possible),
      rw w.1 (flight_room head xs cpu w.0 lawful (flight_at head xs old cpu w.0 t w.1)),
    )

-- the walk ends, and gives back what is left of its room
pub flights_end : (head : Head) (xs : List Event) (seat cpu : ℕ) (answer : Answer) (freed : ℕ) (old new : Flights) →
    WalkEnds head xs seat cpu answer → IsFlights head xs old → WalkEnded cpu freed old new →
    IsFlights head (xs ++ WalkEnd seat cpu answer ∷ []) new × (freed ≡ given_back head xs (WalkEnd seat cpu answer))
flights_end head xs seat cpu answer freed old new h t ended = (
  record {
    cpus = ap length ended.with_it.by_cpu_is ∙ (length-set old.by_cpu.items cpu None ∙ t.cpus);
    each =
        each_after head (xs ++ e ∷ []) old.by_cpu.items new.by_cpu.items cpu None
        (at_place-within old.by_cpu.items cpu ended.flight ended.was) ended.with_it.by_cpu_is (walk_push cpu xs e ∙ rw self refl) other;
    walking_is = λ c.
        ended.walking_is c
        ∙ (ap (λ z. not (eqb c cpu) && z) (t.walking_is c)
        ∙ (take_out c cpu (among c (walking xs)) ∙ sym (ap (among c) (walking_push xs e) ∙ among-out c cpu (walking xs))));
  },
  ended.freed_is ∙ ap (λ z. z - 1) (b.left_is ∙ ap (λ w. promised_to_walk head w (walk_entries cpu xs)) (sym b.in_flight)),
)
  where
    e : Event
    e = WalkEnd seat cpu answer

    self : eqb cpu cpu ≡ true
    self = eq-eqb cpu cpu refl

    b : IsFlight head xs cpu ended.flight
    b = flight_at head xs old cpu ended.flight t ended.was

    other : (c : ℕ) → eqb cpu c ≡ false → IsFlightOf head (xs ++ e ∷ []) c (at_place old.by_cpu.items c)
    other c f =
        flight_stays head xs (xs ++ e ∷ []) c (at_place old.by_cpu.items c) (walk_push c xs e ∙ rw f refl)
        (walk_entries_push c xs e) (λ s. registered_push head s xs e) (t.each c)

-- before any event no processor walks
pub flights_none : (head : Head) (f : Flights) → IsStill head.possible f → IsFlights head [] f
unfolding walk walking
flights_none head f s = record {
  cpus = ap length s.by_cpu_is ∙ length-replicate head.possible None;
  each = λ c. subst (IsFlightOf head [] c) (sym (ap (λ z. at_place z c) s.by_cpu_is ∙ at_place-none head.possible c)) refl;
  walking_is = λ c. s.walking_is c;
}
