-- What the next event of an upmany's walk is: its processor's thread's entry, its seat's entry, or its end.
use Rattle.std.proofs.Common.{◌≡◌, ℕ, Bool, true, false, not, cond, Option, Some, List, ◌⊎◌, inl, inr, refl, ap, sym, ◌∙◌}
use Rattle.std.specs.Prelude.{option_map}
use Rattle.hp_states.proofs.Basics.{same_some}
use Rattle.hp_states.specs.declared.dir.Dir.{Dir}
use Rattle.hp_states.specs.declared.place.Place.{Place}
use Rattle.hp_states.specs.Sections.{is_ap_state}
use Rattle.hp_event.specs.declared.answer.Answer.{Answer}
use Rattle.hp_event.specs.declared.how.How.{How}
use Rattle.hp_event.specs.declared.key.Key.{Key}
use Rattle.hp_event.specs.declared.head.Head.{Head}
use Rattle.hp_event.specs.declared.event.Event.{Event}
use Rattle.hp_event.specs.declared.event.Event.TheVariants.{Call, WalkEnd}
use Rattle.hp_model.specs.Caller.{is_made_by_ap}
use Rattle.hp_model.specs.How.{how_in_walk}
use Rattle.hp_model.specs.Lawful.{IsLawful}
use Rattle.hp_model.specs.MapLock.{Operation, operation}
use Rattle.hp_model.specs.NextInWalk.{next_of_walk}
use Rattle.hp_model.specs.Registered.{keys}
use Rattle.hp_model.specs.Seats.{ap_seat}
use Rattle.hp_model.specs.Walks.{walk}
use Rattle.hp_model.proofs.OneNext.{owners}
use Rattle.hp_model.proofs.Owners.{Owners}
use Rattle.hp_table.specs.Step.{Step}
use Rattle.hp_walk.specs.declared.step.Step.{Step as Ask}
use Rattle.hp_walk.specs.declared.step.Step.TheVariants as ask
use Rattle.hp_walk.specs.Asked.{asked}
use Rattle.hp_walk.specs.Keys.{keys_by}
use Rattle.hp_walk.proofs.Alike.{asked_alike}
use Rattle.hp_account.specs.declared.flights.Flight.{Flight}
use Rattle.hp_account.specs.declared.flights.Flights.{Flights}
use Rattle.hp_account.specs.BatchTurns.{asks_by, asks_own, asks_entry, calls_by}
use Rattle.hp_account.specs.Flights.{IsFlight, IsFlights}
use Rattle.hp_account.specs.Places.{at_place}
use Rattle.hp_account.specs.Table.{IsTableOf}
use Rattle.hp_account.proofs.FlightFacts.{flight_at, keys_same}
use Rattle.hp_model.proofs.WalkGives.{gives_by_caller}
use Rattle.hp_account.proofs.WalkEntries.{entry_asked, end_gives, by_thread_at}

-- the next event of a walk is its processor's thread's
pub record ByThread (head : Head) (xs : List Event) (c : ℕ) : Type 0 where
  pub state : ℕ
  pub inst : ℕ
  pub dir : Dir
  pub how : How
  pub gives : next_of_walk head xs c (walk c xs) ≡ option_map (λ j. Call j c state inst dir how) (ap_seat c xs)

-- it is an entry of a seat
pub record BySeat (head : Head) (xs : List Event) (c k : ℕ) : Type 0 where
  pub state : ℕ
  pub inst : ℕ
  pub dir : Dir
  pub how : How
  pub gives : next_of_walk head xs c (walk c xs) ≡ Some (Call k c state inst dir how)

-- it is the walk's end
pub record ByEnd (head : Head) (xs : List Event) (c k : ℕ) : Type 0 where
  pub answer : Answer
  pub gives : next_of_walk head xs c (walk c xs) ≡ Some (WalkEnd k c answer)

-- what a flight asks for
abbrev pub Goes : Head → List Event → (c k : ℕ) → (own entry : Bool) → Type 0
Goes head xs c k own entry =
    ((own ≡ false) × ByThread head xs c)
    ⊎ (((own ≡ true) × (entry ≡ true) × BySeat head xs c k) ⊎ ((own ≡ true) × (entry ≡ false) × ByEnd head xs c k))

pub goes : (head : Head) (xs : List Event) (places : List (Option Step)) (f : Flights) (o : Operation) (c : ℕ) (g : Flight) →
    IsLawful head xs → IsFlights head xs f → IsTableOf head xs places → operation xs ≡ Some o → at_place f.by_cpu.items c ≡ Some g →
    Goes head xs c o.seat (asks_own (keys_by places) (Some g)) (asks_entry (keys_by places) (Some g))
goes head xs places f o c g lawful t table held at = by (asked K g.walk) refl
  where
    own : Owners xs
    own = owners head xs lawful

    b : IsFlight head xs c g
    b = flight_at head xs f c g t at

    K : ℕ → List ℕ
    K = keys head b.of.before

    alike : asked K g.walk ≡ asked (keys_by places) g.walk
    alike = asked_alike K (keys_by places) (λ s. keys_same head xs places c g b s lawful table) g.walk

    client : g.seat ≡ o.seat
    client =
        let w = own.walk_op c b.of b.in_flight in
        b.seat_is ∙ (sym w.2 ∙ ap (λ (x : Operation). x.seat) (same_some w.0 o (sym w.1 ∙ held)))

    split : (key : Key) (d : Dir) (place : Place) (first : Bool) → asked K g.walk ≡ ask.Call key d place first →
        (z : Bool) → is_ap_state key.state ≡ z →
        Goes head xs c o.seat (asks_own (keys_by places) (Some g)) (asks_entry (keys_by places) (Some g))
    split key d place first e true z =
        let a = entry_asked head xs c g key d place first b e in
        let how = how_in_walk head xs c key.state key.inst d place first in
        let thread : is_made_by_ap key.state how ≡ is_ap_state key.state = by_thread_at head xs c key.state key.inst d place first in
        inl (
          ap asks_by (sym alike ∙ e) ∙ ap not z,
          record {
            state = key.state;
            inst = key.inst;
            dir = d;
            how = how;
            gives =
                gives_by_caller head xs c key.state key.inst d how a.0
                ∙ ap (λ m. option_map (λ j. Call j c key.state key.inst d how) (cond m (ap_seat c xs) (Some a.0.of.seat))) (thread ∙ z);
          },
        )
    split key d place first e false z =
        let a = entry_asked head xs c g key d place first b e in
        let how = how_in_walk head xs c key.state key.inst d place first in
        let thread : is_made_by_ap key.state how ≡ is_ap_state key.state = by_thread_at head xs c key.state key.inst d place first in
        inr (inl (
          ap asks_by (sym alike ∙ e) ∙ ap not z,
          ap calls_by (sym alike ∙ e),
          record {
            state = key.state;
            inst = key.inst;
            dir = d;
            how = how;
            gives =
                gives_by_caller head xs c key.state key.inst d how a.0
                ∙ (ap (λ m. option_map (λ j. Call j c key.state key.inst d how) (cond m (ap_seat c xs) (Some a.0.of.seat))) (thread ∙ z)
                ∙ ap (λ k. Some (Call k c key.state key.inst d how)) (a.1 ∙ client));
          },
        ))

    by : (x : Ask) → asked K g.walk ≡ x →
        Goes head xs c o.seat (asks_own (keys_by places) (Some g)) (asks_entry (keys_by places) (Some g))
    by (ask.Call key d place first) e = split key d place first e (is_ap_state key.state) refl
    by (ask.Ended answer) e =
        inr (inr (
          ap asks_by (sym alike ∙ e),
          ap calls_by (sym alike ∙ e),
          record {
            answer = answer;
            gives = end_gives head xs c g answer b e ∙ ap (λ k. Some (WalkEnd k c answer)) client;
          },
        ))
