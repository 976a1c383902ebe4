-- The walks in flight stand where a journal's entries lead, by one entry more.
use Rattle.std.proofs.Common.{◌≡◌, ℕ, ◌-◌, Bool, true, false, eqb, Option, Some, None, List, [], ◌∷◌, ◌++◌, length, length-append, length-set, refl, ap, sym, subst, ◌∙◌, inl, inr, arith}
use Rattle.std.specs.Prelude.{option_map}
use Rattle.std.proofs.lemmas.Bool.{eq-eqb}
use Rattle.hp_states.proofs.Basics.{none_some}
use Rattle.hp_states.specs.CpuSets.{has}
use Rattle.hp_states.specs.declared.dir.Dir.{Dir}
use Rattle.hp_states.specs.declared.place.Place.{Place}
use Rattle.hp_event.specs.declared.how.How.{How}
use Rattle.hp_event.specs.declared.key.Key.{Key}
use Rattle.hp_event.specs.declared.head.Head.{Head}
use Rattle.hp_event.specs.declared.event.Event.{Event}
use Rattle.hp_event.specs.declared.event.Event.TheVariants.{Call, WalkEnd}
use Rattle.hp_model.specs.Caller.{caller}
use Rattle.hp_model.specs.How.{how_in_walk, fits}
use Rattle.hp_model.specs.Lawful.{IsLawful}
use Rattle.hp_model.specs.Lists.{among}
use Rattle.hp_model.specs.Registered.{keys}
use Rattle.hp_model.specs.StandsCalls.{WalkEntry, InWalk, Calls}
use Rattle.hp_model.specs.Walks.{Walk, walk, walk_entries}
use Rattle.hp_model.proofs.Induction.{kept}
use Rattle.hp_model.proofs.Kept.{RegistrationKept}
use Rattle.hp_model.proofs.Laws.{walk_push, walk_entries_push, walking_push, registered_push}
use Rattle.hp_model.proofs.OneEntry.{one_walk_entry}
use Rattle.hp_model.proofs.WalkGives.{gives_by_caller}
use Rattle.hp_table.specs.Step.{Step}
use Rattle.hp_walk.specs.declared.step.Step.{Step as Ask}
use Rattle.hp_walk.specs.declared.step.Step.TheVariants as ask
use Rattle.hp_walk.specs.After.{IsAfter}
use Rattle.hp_walk.specs.Asked.{asked, entry_of, FitsStep, IfCall}
use Rattle.hp_walk.specs.Took.{Took}
use Rattle.hp_walk.specs.Keys.{keys_by}
use Rattle.hp_walk.proofs.Alike.{after_alike, asked_alike, within_alike}
use Rattle.hp_account.specs.declared.flights.Flight.{Flight}
use Rattle.hp_account.specs.declared.flights.Flights.{Flights}
use Rattle.hp_account.specs.Places.{at_place}
use Rattle.hp_account.specs.Flights.{IsFlight, IsFlightOf, IsFlights}
use Rattle.hp_account.specs.FlightChanges.{CanGoOn, WalkWentOn}
use Rattle.hp_account.proofs.PlaceLemmas.{at_place-within}
use Rattle.hp_account.proofs.FlightFacts.{flight_at, keys_at_begin}
use Rattle.hp_account.proofs.WalkEntries.{entry_asked, end_gives, walk_fits}
use Rattle.hp_account.proofs.FlightSteps.{HasKeys, flight_stays, each_after, flight_room}

-- an entry that can come is the one that the walk asks for, made so
pub record IsAsked (K : ℕ → List ℕ) (f : Flight) (state inst : ℕ) (dir : Dir) (how : How) : Type 0 where
  pub place : Place
  pub first : Bool
  pub asks : asked K f.walk ≡ ask.Call (record { state = state; inst = inst }) dir place first
  pub fits_is : fits how dir state place ≡ true

entry_is_asked : (head : Head) (xs : List Event) (cpu state inst : ℕ) (dir : Dir) (how : How) (f : Flight)
    (b : IsFlight head xs cpu f) → WalkEntry head xs cpu state inst dir how → IsAsked (keys head b.of.before) f state inst dir how
entry_is_asked head xs cpu state inst dir how f b h = go (asked (keys head b.of.before) f.walk) refl
  where
    same : (key : Key) (d : Dir) (place : Place) (first : Bool) (made : How) → made ≡ how_in_walk head xs cpu key.state key.inst d place first →
        asked (keys head b.of.before) f.walk ≡ ask.Call key d place first → state ≡ key.state → inst ≡ key.inst → dir ≡ d →
        how ≡ made → IsAsked (keys head b.of.before) f state inst dir how
    same key d place first made made_is is e_state e_inst e_dir e_how =
        record {
          place = place;
          first = first;
          asks = is ∙ rw (e_state, e_inst, e_dir) refl;
          fits_is = rw (e_how, made_is, e_state, e_dir) (walk_fits head xs cpu key.state key.inst d place first);
        }

    go : (x : Ask) → asked (keys head b.of.before) f.walk ≡ x → IsAsked (keys head b.of.before) f state inst dir how
    go (ask.Call key d place first) is =
        let e = entry_asked head xs cpu f key d place first b is in
        let made : How = how_in_walk head xs cpu key.state key.inst d place first in
        let q = one_walk_entry head xs cpu state key.state inst key.inst dir d how made h e.0 in
        same key d place first made refl is q.state_same q.inst_same q.dir_same q.how_same
    go (ask.Ended answer) is =
        absurd (no_end (caller xs cpu state how h.of.seat)
        (sym (gives_by_caller head xs cpu state inst dir how h) ∙ end_gives head xs cpu f answer b is))
      where
        no_end : (by : Option ℕ) → option_map (λ k. Call k cpu state inst dir how) by ≡ Some (WalkEnd f.seat cpu answer) → ⊥
        no_end None e = cc
        no_end (Some k) e = cc

-- an entry on a processor that walks is its walk's
in_walk : (head : Head) (xs : List Event) (seat cpu state inst : ℕ) (dir : Dir) (how : How) (w : Walk) → IsLawful head xs →
    Calls head xs seat cpu state inst dir how → walk cpu xs ≡ Some w → InWalk head xs seat cpu state inst dir how
in_walk head xs seat cpu state inst dir how w lawful (inl h) at = h
in_walk head xs seat cpu state inst dir how w lawful (inr h) at =
    let k = kept head xs lawful in
    let r : RegistrationKept head h.entry.of xs = rw h.entry.in_flight at k.registration_kept in
    absurd (none_some w (sym (r.no_walk cpu) ∙ at))

-- what an entry asks for is met
pub can_enter : (head : Head) (xs : List Event) (places : List (Option Step)) (seat cpu state inst : ℕ) (dir : Dir) (how : How)
    (old : Flights) (f : Flight) → IsLawful head xs → Calls head xs seat cpu state inst dir how → IsFlights head xs old →
    HasKeys head xs places → at_place old.by_cpu.items cpu ≡ Some f → CanGoOn (keys_by places) how f
can_enter head xs places seat cpu state inst dir how old f lawful h t has is =
    let b = flight_at head xs old cpu f t is in
    let i = in_walk head xs seat cpu state inst dir how b.of lawful h b.in_flight in
    let K = keys head b.of.before in
    let same : (s : ℕ) → K s ≡ keys_by places s = λ s. keys_at_begin head xs cpu f b s ∙ has s in
    let a = entry_is_asked head xs cpu state inst dir how f b i.entry in
    let asks : asked (keys_by places) f.walk ≡ ask.Call (record { state = state; inst = inst }) dir a.place a.first =
    sym (asked_alike K (keys_by places) same f.walk) ∙ a.asks in
    record {
      going = record {
        within = within_alike K (keys_by places) same f.walk b.after.within;
        room = flight_room head xs cpu f lawful b;
      };
      asks = subst (λ x. FitsStep x how) (sym asks) a.fits_is;
    }

-- the walk goes on past the entry
went_on : (head : Head) (xs : List Event) (places : List (Option Step)) (seat cpu state inst : ℕ) (dir : Dir) (how : How)
    (f g : Flight) (b : IsFlight head xs cpu f) → HasKeys head xs places →
    IsAsked (keys head b.of.before) f state inst dir how → g.seat ≡ f.seat → Took (keys_by places) how f.walk g.walk →
    g.left ≡ f.left - 1 → IsFlight head (xs ++ Call seat cpu state inst dir how ∷ []) cpu g
went_on head xs places seat cpu state inst dir how f g b has a seat_is took left =
    let e : Event = Call seat cpu state inst dir how in
    let self : eqb cpu cpu ≡ true = eq-eqb cpu cpu refl in
    let K = keys head b.of.before in
    let same : (s : ℕ) → K s ≡ keys_by places s = λ s. keys_at_begin head xs cpu f b s ∙ has s in
    let asks : asked (keys_by places) f.walk ≡ ask.Call (record { state = state; inst = inst }) dir a.place a.first =
    sym (asked_alike K (keys_by places) same f.walk) ∙ a.asks in
    let P : Ask → Type 0 = λ x. IfCall x (λ k way. IsAfter (keys_by places) (walk_entries cpu xs ++ entry_of seat f.walk.cpu k way how ∷ []) g.walk) in
    let there : IsAfter (keys_by places) (walk_entries cpu xs ++ Call seat f.walk.cpu state inst dir how ∷ []) g.walk =
    subst P asks (took.after (walk_entries cpu xs) seat (after_alike K (keys_by places) same (walk_entries cpu xs) f.walk b.after)) in
    let At : ℕ → Type 0 = λ n. IsAfter (keys_by places) (walk_entries cpu xs ++ Call seat n state inst dir how ∷ []) g.walk in
    let here : At cpu = subst At b.walk_is.0 there in
    let entries : walk_entries cpu (xs ++ e ∷ []) ≡ walk_entries cpu xs ++ e ∷ [] = walk_entries_push cpu xs e ∙ rw self refl in
    let more = length-append (walk_entries cpu xs) (e ∷ []) in
    let was = b.left_is in
    record {
      of = b.of;
      in_flight = walk_push cpu xs e ∙ b.in_flight;
      seat_is = seat_is ∙ b.seat_is;
      walk_is = (took.same.0 ∙ b.walk_is.0, took.same.1 ∙ b.walk_is.1, took.same.2 ∙ b.walk_is.2);
      after = rw entries (after_alike (keys_by places) K (λ s. sym (same s)) (walk_entries cpu xs ++ e ∷ []) g.walk here);
      registered_same = λ s. b.registered_same s ∙ sym (registered_push head s xs e);
      left_is = rw entries (omega arith);
    }

pub flights_entry : (head : Head) (xs : List Event) (places : List (Option Step)) (seat cpu state inst : ℕ) (dir : Dir) (how : How)
    (old new : Flights) → IsLawful head xs → Calls head xs seat cpu state inst dir how → IsFlights head xs old →
    HasKeys head xs places → WalkWentOn (keys_by places) cpu how old new →
    IsFlights head (xs ++ Call seat cpu state inst dir how ∷ []) new
flights_entry head xs places seat cpu state inst dir how old new lawful h t table went =
    record {
      cpus = ap length went.with_it.by_cpu_is ∙ (length-set old.by_cpu.items cpu (Some went.now) ∙ t.cpus);
      each =
          each_after head (xs ++ e ∷ []) old.by_cpu.items new.by_cpu.items cpu (Some went.now)
          (at_place-within old.by_cpu.items cpu went.flight went.was) went.with_it.by_cpu_is
          (went_on head xs places seat cpu state inst dir how went.flight went.now b table
          (entry_is_asked head xs cpu state inst dir how went.flight b i.entry) went.seat_is went.took went.left_is)
          other;
      walking_is = λ c. ap (λ z. has z c) went.walking_is ∙ (t.walking_is c ∙ sym (ap (among c) (walking_push xs e)));
    }
  where
    e : Event
    e = Call seat cpu state inst dir how

    b : IsFlight head xs cpu went.flight
    b = flight_at head xs old cpu went.flight t went.was

    i : InWalk head xs seat cpu state inst dir how
    i = in_walk head xs seat cpu state inst dir how b.of lawful h b.in_flight

    other : (c : ℕ) → eqb cpu c ≡ false → IsFlightOf head (xs ++ e ∷ []) c (at_place old.by_cpu.items c)
    other c f =
        flight_stays head xs (xs ++ e ∷ []) c (at_place old.by_cpu.items c) (walk_push c xs e)
        (walk_entries_push c xs e ∙ rw f refl) (λ s. registered_push head s xs e) (t.each c)
