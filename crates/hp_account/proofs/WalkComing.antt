-- What comes next in a walk in flight, by what its cursor asks for; and where that walk is alone, it is what is under way, and nothing
-- else is.
use Rattle.std.proofs.Common.{◌≡◌, ◌≢◌, ℕ, Bool, true, false, cond, Option, Some, None, IfSome, List, [], ◌∷◌, ◌++◌, ◌⊎◌, refl, ap, sym, subst, ◌∙◌, inl, inr}
use Rattle.std.specs.Prelude.{option_map, option_to_list}
use Rattle.std.specs.List.{cons_option}
use Rattle.hp_model.proofs.EntryStays.{walk_kept}
use Rattle.hp_states.proofs.Basics.{none_some, same_some}
use Rattle.hp_states.specs.declared.dir.Dir.{Dir}
use Rattle.hp_states.specs.declared.place.Place.{Place}
use Rattle.hp_states.specs.Sections.{is_ap_state, can_fail}
use Rattle.hp_event.specs.declared.answer.Answer.{Answer}
use Rattle.hp_event.specs.declared.how.How.{How}
use Rattle.hp_event.specs.declared.key.Key.{Key}
use Rattle.hp_event.specs.declared.head.Head.{Head}
use Rattle.hp_event.specs.declared.event.Event.{Event}
use Rattle.hp_event.specs.declared.event.Event.TheVariants.{Call}
use Rattle.hp_model.specs.ApTurn.{IsApTurn}
use Rattle.hp_model.specs.Batch.{is_upmany}
use Rattle.hp_model.specs.Caller.{is_made_by_ap, caller}
use Rattle.hp_model.specs.Events.{seat_of}
use Rattle.hp_model.specs.How.{how_answered, answer_at, how_in_walk}
use Rattle.hp_model.specs.Lawful.{IsLawful}
use Rattle.hp_model.specs.MapLock.{operation}
use Rattle.hp_model.specs.Registered.{keys}
use Rattle.hp_model.specs.Registrations.{registration}
use Rattle.hp_model.specs.Seats.{ap_seat}
use Rattle.hp_model.specs.StandsCalls.{WalkEntry}
use Rattle.hp_model.specs.Suspend.{held_by}
use Rattle.hp_model.specs.UnderWay.{next_of_walk, under_way}
use Rattle.hp_model.specs.Walks.{Walk, walk, walking}
use Rattle.hp_model.proofs.NoUpmanyProof.{is_plain, none_brings}
use Rattle.hp_model.proofs.TurnLemmas.{single_held_up}
use Rattle.hp_model.proofs.WalkGives.{gives_by_caller}
use Rattle.hp_table.specs.Step.{Step, step_at}
use Rattle.hp_walk.specs.Cursor.{cpu_of}
use Rattle.hp_walk.specs.declared.step.Step.TheVariants as ask
use Rattle.hp_walk.specs.After.{IsWithin}
use Rattle.hp_walk.specs.Asked.{asked}
use Rattle.hp_walk.specs.Keys.{keys_by, insts_of}
use Rattle.hp_walk.proofs.Alike.{asked_alike}
use Rattle.hp_walk.proofs.Asked.{asked_state}
use Rattle.hp_account.specs.declared.under_way.MadeBy.{MadeBy}
use Rattle.hp_account.specs.declared.under_way.Entry.{Entry}
use Rattle.hp_account.specs.declared.under_way.NextStep.{NextStep}
use Rattle.hp_account.specs.declared.under_way.NextStep.TheVariants as coming
use Rattle.hp_account.specs.declared.under_way.Ending.TheVariants as ending
use Rattle.hp_account.specs.declared.flights.Flight.{Flight}
use Rattle.hp_account.specs.NextStep.{IsComing, IsByThread, IsInFlightOf, end_event, made_by_in_walk}
use Rattle.hp_account.specs.Entries.{entry_event, how_made_by}
use Rattle.hp_account.specs.Table.{registered_by, IsStepOf}
use Rattle.hp_account.specs.WalkComing.{event_of, IsThreadsEntry, IsOfWalk, IsNextOn}
use Rattle.hp_account.specs.Walking.{IsFlightIn, IsSceneOf}
use Rattle.hp_account.proofs.FlightFacts.{flight_at, no_registration, registered_there, keys_same, alone}
use Rattle.hp_account.proofs.WalkEntries.{entry_asked, end_gives, by_thread_at, has_same, made_same}

-- where nothing walks and no registration is in flight, nothing is under way
pub nothing_under_way : (head : Head) (events : List Event) → walking events ≡ [] → registration events ≡ None →
    under_way head events ≡ []
unfolding under_way
nothing_under_way head events still idle = rw (still, idle) refl

-- where one processor walks, and no upmany is in flight, its walk alone is under way
pub one_under_way : (head : Head) (events : List Event) (c : ℕ) → held_by is_upmany (operation events) ≡ false →
    walking events ≡ c ∷ [] → registration events ≡ None →
    under_way head events ≡ option_to_list (next_of_walk head events c (walk c events))
one_under_way head events c single alone idle =
    (is_plain head events single).under_way_is ∙ rw (alone, idle) (go (next_of_walk head events c (walk c events)))
  where
    go : (o : Option Event) → cons_option o [] ++ [] ≡ option_to_list o
    go None = refl
    go (Some e) = refl

-- who makes an entry, as one of two
maker_of : (by_thread : Bool) (thread : Option ℕ) (client k : ℕ) → cond by_thread thread (Some client) ≡ Some k →
    (k ≡ client) ⊎ ((by_thread ≡ true) × (thread ≡ Some k))
maker_of true thread client k h = inr (refl, h)
maker_of false thread client k h = inl (sym (same_some client k h))

by_none : (by_thread : Bool) (thread : Option ℕ) (client : ℕ) → cond by_thread thread (Some client) ≡ None → by_thread ≡ true
by_none true thread client h = refl
by_none false thread client h = absurd (none_some client (sym h))

-- what the code makes of a seat, where it has one
abbrev pub entry_at : (cpu : ℕ) → Key → Dir → Place → MadeBy → (seat : ℕ) → Entry
entry_at c key d place made_by k = record { seat = k; cpu = c; key = key; dir = d; place = place; made_by = made_by }

-- the entry that is asked for, where it is a processor's
next_entry : (head : Head) (events : List Event) (client c : ℕ) (w : Walk) (key : Key) (d : Dir) (place : Place) (made_by : MadeBy) (how : How)
    (e : WalkEntry head events c key.state key.inst d how) → e.of.seat ≡ client → walk c events ≡ Some w → client ≡ w.seat →
    next_of_walk head events c (walk c events) ≡ option_map (λ k. Call k c key.state key.inst d how) (caller events c key.state how client) →
    ((k : ℕ) → entry_event head events (entry_at c key d place made_by k) ≡ Call k c key.state key.inst d how) →
    IsNextOn head events c (coming.Entry client c (option_map (entry_at c key d place made_by) (caller events c key.state how client)))
next_entry head events client c w key d place made_by how e own at by given made = go (caller events c key.state how client) refl given
  where
    threads : is_made_by_ap key.state how ≡ true → IsThreadsEntry head events client c
    threads h = record { state = key.state; inst = key.inst; dir = d; how = how; entry = e; client_is = own; by_thread = h }

    either : (k : ℕ) → (k ≡ client) ⊎ ((is_made_by_ap key.state how ≡ true) × (ap_seat c events ≡ Some k)) →
        (k ≡ client) ⊎ (IsThreadsEntry head events client c × (ap_seat c events ≡ Some k))
    either k (inl h) = inl h
    either k (inr h) = inr (threads h.0, h.1)

    go : (o : Option ℕ) → caller events c key.state how client ≡ o →
        next_of_walk head events c (walk c events) ≡ option_map (λ k. Call k c key.state key.inst d how) o →
        IsNextOn head events c (coming.Entry client c (option_map (entry_at c key d place made_by) o))
    go None h g =
        record {
          of = w;
          in_flight = at;
          gives = g;
          parts = (refl, by, threads (by_none (is_made_by_ap key.state how) (ap_seat c events) client h));
        }
    go (Some k) h g =
        record {
          of = w;
          in_flight = at;
          gives = g ∙ ap Some (sym (made k));
          parts = (refl, by, (refl, either k (maker_of (is_made_by_ap key.state how) (ap_seat c events) client k h)));
        }

-- a state with a key has a place in the table
has_step : (P : Step → Type 0) (Q : Type 0) (places : List (Option Step)) (s : ℕ) → keys_by places s ≢ [] →
    IfSome (step_at places s) P → ((step : Step) → step_at places s ≡ Some step → P step → Q) → Q
has_step P Q places s some h then = go (step_at places s) refl some h
  where
    go : (o : Option Step) → step_at places s ≡ o → insts_of o ≢ [] → IfSome o P → Q
    go None e f g = absurd (f refl)
    go (Some step) e f g = then step e g

-- how the entry is made that the walk of a flight asks for, by what makes it
pub flight_made_by : (head : Head) (events : List Event) (f : Flight) (places : List (Option Step)) (armed_at thread : Option ℕ) (key : Key)
    (d : Dir) (place : Place) (first : Bool) (made_by : MadeBy) → IsFlightIn head events f →
    IsSceneOf head events places (cpu_of f.walk) armed_at thread → ask.Call key d place first ≡ asked (keys_by places) f.walk →
    IsWithin (keys_by places) f.walk →
    IfSome (step_at places key.state) (λ step. made_by ≡ made_by_in_walk step.kept armed_at key.state d place first) →
    how_made_by made_by (how_answered (can_fail d key.state place) (answer_at head events (cpu_of f.walk) key.state key.inst d))
    ≡ how_in_walk head events (cpu_of f.walk) key.state key.inst d place first
flight_made_by head events f places armed_at thread key d place first made_by one beside is within by =
    let c : ℕ = cpu_of f.walk in
    let b = flight_at head events one.flights c f one.flights_are one.there in
    let idle = no_registration head events c f beside.lawful b in
    let some = asked_state (keys_by places) f.walk key d place first within (sym is) in
    has_step (λ step. made_by ≡ made_by_in_walk step.kept armed_at key.state d place first)
    (how_made_by made_by (how_answered (can_fail d key.state place) (answer_at head events c key.state key.inst d))
    ≡ how_in_walk head events c key.state key.inst d place first) places key.state some.some by
    (λ step there means_is.
    let registered = registered_there head events places key.state beside.table_is idle ∙ ap registered_by there in
    let kept_there = subst (λ o. IfSome o (IsStepOf head events key.state)) there (beside.table_is.steps key.state) in
    ap (λ m. how_made_by m (how_answered (can_fail d key.state place) (answer_at head events c key.state key.inst d))) means_is
    ∙ made_same head events c key.state key.inst d place first step armed_at
    (has_same head events key.state step d idle registered kept_there) beside.armed_is)

-- the entry that the walk of a flight asks for, by the seat that makes it, if that is in
pub flight_entry : (head : Head) (events : List Event) (f : Flight) (places : List (Option Step)) (armed_at thread : Option ℕ) (key : Key)
    (d : Dir) (place : Place) (first : Bool) (made_by : MadeBy) (seat : Option ℕ) (entry : Option Entry) → IsFlightIn head events f →
    IsSceneOf head events places (cpu_of f.walk) armed_at thread → ask.Call key d place first ≡ asked (keys_by places) f.walk →
    IsWithin (keys_by places) f.walk →
    IfSome (step_at places key.state) (λ step. made_by ≡ made_by_in_walk step.kept armed_at key.state d place first) →
    seat ≡ cond (is_ap_state key.state) thread (Some f.seat) →
    entry ≡ option_map (entry_at (cpu_of f.walk) key d place made_by) seat →
    IsNextOn head events (cpu_of f.walk) (coming.Entry f.seat (cpu_of f.walk) entry)
flight_entry head events f places armed_at thread key d place first made_by seat entry one beside is within by seat_is entry_is =
    let c : ℕ = cpu_of f.walk in
    let b = flight_at head events one.flights c f one.flights_are one.there in
    let K = keys head b.of.before in
    let same : (s : ℕ) → K s ≡ keys_by places s = λ s. keys_same head events places c f b s beside.lawful beside.table_is in
    let e = entry_asked head events c f key d place first b (asked_alike K (keys_by places) same f.walk ∙ sym is) in
    let how : How = how_in_walk head events c key.state key.inst d place first in
    let given = gives_by_caller head events c key.state key.inst d how e.0 in
    let Given : ℕ → Type 0 = λ k. next_of_walk head events c (walk c events)
    ≡ option_map (λ j. Call j c key.state key.inst d how) (caller events c key.state how k) in
    let made : (k : ℕ) → entry_event head events (entry_at c key d place made_by k) ≡ Call k c key.state key.inst d how =
    λ k. ap (Call k c key.state key.inst d) (flight_made_by head events f places armed_at thread key d place first made_by one beside is within by) in
    let by_seat : seat ≡ caller events c key.state how f.seat =
    seat_is ∙ rw (by_thread_at head events c key.state key.inst d place first, beside.thread_is) refl in
    subst (λ o. IsNextOn head events c (coming.Entry f.seat c o)) (sym (entry_is ∙ ap (option_map (entry_at c key d place made_by)) by_seat))
    (next_entry head events f.seat c b.of key d place made_by how e.0 e.1 b.in_flight b.seat_is (subst Given e.1 given) made)

-- the end of the walk of a flight
pub flight_end : (head : Head) (events : List Event) (f : Flight) (places : List (Option Step)) (armed_at thread : Option ℕ)
    (answer : Answer) → IsFlightIn head events f → IsSceneOf head events places (cpu_of f.walk) armed_at thread →
    ask.Ended answer ≡ asked (keys_by places) f.walk →
    IsNextOn head events (cpu_of f.walk) (coming.End (ending.Walk f.seat (cpu_of f.walk) answer))
flight_end head events f places armed_at thread answer one beside is =
    let c : ℕ = cpu_of f.walk in
    let b = flight_at head events one.flights c f one.flights_are one.there in
    let K = keys head b.of.before in
    let same : (s : ℕ) → K s ≡ keys_by places s = λ s. keys_same head events places c f b s beside.lawful beside.table_is in
    record {
      of = b.of;
      in_flight = b.in_flight;
      gives = end_gives head events c f answer b (asked_alike K (keys_by places) same f.walk ∙ sym is);
      parts = (b.seat_is, refl, refl);
    }

-- what comes next in the one walk in flight is what is under way
pub walk_comes : (head : Head) (events : List Event) (c : ℕ) (what : NextStep) → IsLawful head events →
    held_by is_upmany (operation events) ≡ false → IsNextOn head events c what → IsComing head events what
walk_comes head events c what lawful single n = go what n.gives n.parts
  where
    w : Walk
    w = n.of

    only : under_way head events ≡ option_to_list (next_of_walk head events c (walk c events))
    only =
        one_under_way head events c single (alone head events c w lawful single n.in_flight)
        (walk_kept head events c w lawful n.in_flight).no_registration

    flies : (client : ℕ) → client ≡ w.seat → IsInFlightOf events client
    flies client own = inl (c, w, n.in_flight, sym own)

    turn : (client : ℕ) → IsThreadsEntry head events client c → IsApTurn head events client c
    turn client t =
        record {
          state = t.state;
          inst = t.inst;
          dir = t.dir;
          how = t.how;
          entry = inl (t.entry, t.client_is);
          by_thread = t.by_thread;
          held_up = single_held_up head events client c (none_brings events client single);
        }

    either : (client k : ℕ) → (k ≡ client) ⊎ (IsThreadsEntry head events client c × (ap_seat c events ≡ Some k)) →
        (k ≡ client) ⊎ IsByThread head events client c k
    either client k (inl h) = inl h
    either client k (inr h) = inr (record { thread_is = h.1; turn = turn client h.0 })

    go : (what : NextStep) → next_of_walk head events c (walk c events) ≡ event_of head events what → IsOfWalk head events c w what →
        IsComing head events what
    go (coming.Entry client on None) g p =
        subst (λ z. IsComing head events (coming.Entry client z None)) (sym p.0)
        (record { none = only ∙ ap option_to_list g; turn = turn client p.2; of_client = flies client p.1 })
    go (coming.Entry client on (Some x)) g p =
        subst (λ z. IsComing head events (coming.Entry client z (Some x))) (sym p.0)
        (record {
          only = only ∙ ap option_to_list g;
          cpu_is = p.2.0;
          made_by = either client x.seat p.2.1;
          of_client = flies client p.1;
        })
    go (coming.End e) g p =
        record { only = only ∙ ap option_to_list g; no_entry = p.1; takes_none = p.2; of_client = flies (seat_of (end_event e)) p.0 }
