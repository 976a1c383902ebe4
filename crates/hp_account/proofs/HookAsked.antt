-- The hook that the next entry of a walk or of a registration calls.
use Rattle.std.proofs.Common.{◌≡◌, ℕ, Bool, true, false, Option, Some, None, List, refl, ap, sym, ◌∙◌, inl, inr}
use Rattle.std.specs.Prelude.{IfSome, option_map, is_some}
use Rattle.std.proofs.lemmas.Bool.{true≢false}
use Rattle.hp_states.proofs.Basics.{none_some}
use Rattle.hp_states.specs.declared.dir.Dir.{Dir}
use Rattle.hp_states.specs.declared.place.Place.{Place}
use Rattle.hp_event.specs.declared.key.Key.{Key}
use Rattle.hp_event.specs.declared.how.How.{How}
use Rattle.hp_event.specs.declared.head.Head.{Head}
use Rattle.hp_event.specs.declared.event.Event.{Event}
use Rattle.hp_model.specs.How.{how_in_walk, how_answered, answer_at}
use Rattle.hp_model.specs.StandsCalls.{WalkEntry}
use Rattle.hp_account.specs.declared.under_way.MadeBy.{MadeBy}
use Rattle.hp_account.specs.declared.under_way.MadeBy.TheVariants.{Presumed, Empty, Injected, Hook}
use Rattle.hp_model.specs.How.{how_in_registration, is_nocalls}
use Rattle.hp_model.specs.StandsCalls.{RegistrationEntry}
use Rattle.hp_model.proofs.OneRegistration.{same_registration_entry, registration_ended}
use Rattle.hp_reg.specs.Asked.{asked as reg_asked}
use Rattle.hp_reg.specs.Concerned.{key_at, cpus_at}
use Rattle.hp_reg.specs.declared.step.RegStep.TheVariants as regstep
use Rattle.hp_account.specs.declared.registering.Registering.{Registering}
use Rattle.hp_account.specs.Processors.{ProcessorsView, IsStanding}
use Rattle.hp_account.specs.Registering.{IsRegistering}
use Rattle.hp_account.specs.RegistrationMadeBy.{made_by_in_registration}
use Rattle.hp_account.specs.Table.{IsTableOf}
use Rattle.hp_account.proofs.RegistrationNext.{entry_next, end_stands}
use Rattle.hp_account.proofs.RegistrationComing.{registration_means, asked_alike as reg_alike}
use Rattle.hp_account.specs.Entries.{how_made_by}
use Rattle.hp_account.specs.UnderWay.{hook_asked, hook_by}
use Rattle.hp_table.specs.Step.{Step, step_at}
use Rattle.hp_walk.specs.After.{IsWithin}
use Rattle.hp_walk.specs.Asked.{asked}
use Rattle.hp_walk.specs.Cursor.{cpu_of}
use Rattle.hp_walk.specs.Keys.{keys_by}
use Rattle.hp_walk.specs.declared.step.Step.TheVariants as ask
use Rattle.hp_states.specs.Sections.{can_fail}
use Rattle.hp_event.specs.declared.answer.Answer.{Answer}
use Rattle.hp_event.specs.declared.event.Event.TheVariants.{Call, WalkEnd}
use Rattle.hp_model.specs.Caller.{caller}
use Rattle.hp_model.specs.Registered.{keys}
use Rattle.hp_model.proofs.OneEntry.{one_walk_entry}
use Rattle.hp_walk.proofs.Alike.{asked_alike}
use Rattle.hp_account.specs.declared.flights.Flight.{Flight}
use Rattle.hp_account.specs.NextStep.{made_by_in_walk}
use Rattle.hp_account.specs.Walking.{IsFlightIn, IsSceneOf}
use Rattle.hp_model.specs.ApTurn.{IsApTurn, IsEntryOf}
use Rattle.hp_model.specs.Lawful.{IsLawful}
use Rattle.hp_model.proofs.SomeMoves.{some_of}
use Rattle.hp_model.proofs.WalkGives.{gives_by_caller}
use Rattle.hp_account.specs.declared.flights.Flights.{Flights}
use Rattle.hp_account.specs.Flights.{IsFlights}
use Rattle.hp_account.specs.Places.{at_place}
use Rattle.hp_account.proofs.FlightFacts.{flight_at, keys_same, no_flight_at, no_registration}
use Rattle.hp_account.proofs.WalkEntries.{entry_asked, end_gives}
use Rattle.hp_account.proofs.WalkComing.{flight_made_by}
use Rattle.hp_account.proofs.TableMore.{answered_called}

-- an entry calls the hook where that makes it
pub hook_made : (s code : ℕ) (may_fail : Bool) (by : MadeBy) (how : How) → how_made_by by (how_answered may_fail code) ≡ how →
    hook_by s by ≡ hook_asked s how
hook_made s code may_fail by how is = go by ∙ ap (hook_asked s) is
  where
    go : (m : MadeBy) → hook_by s m ≡ hook_asked s (how_made_by m (how_answered may_fail code))
    go Presumed = refl
    go Empty = refl
    go Injected = refl
    go Hook = let c = answered_called may_fail code in rw c refl

-- of the walk of a flight
pub flight_asks : (head : Head) (events : List Event) (f : Flight) (places : List (Option Step)) (armed_at thread : Option ℕ) (key : Key)
    (d : Dir) (place : Place) (first : Bool) (made_by : MadeBy) → IsFlightIn head events f →
    IsSceneOf head events places (cpu_of f.walk) armed_at thread → ask.Call key d place first ≡ asked (keys_by places) f.walk →
    IsWithin (keys_by places) f.walk →
    IfSome (step_at places key.state) (λ step. made_by ≡ made_by_in_walk step.kept armed_at key.state d place first) →
    (s i : ℕ) (dir : Dir) (how : How) → WalkEntry head events (cpu_of f.walk) s i dir how →
    hook_by key.state made_by ≡ hook_asked s how
flight_asks head events f places armed_at thread key d place first made_by one beside is within by s i dir how entry =
    let c : ℕ = cpu_of f.walk in
    let b = flight_at head events one.flights c f one.flights_are one.there in
    let K = keys head b.of.before in
    let same : (s : ℕ) → K s ≡ keys_by places s = λ s. keys_same head events places c f b s beside.lawful beside.table_is in
    let e = entry_asked head events c f key d place first b (asked_alike K (keys_by places) same f.walk ∙ sym is) in
    let made : How = how_in_walk head events c key.state key.inst d place first in
    let alike = one_walk_entry head events c s key.state i key.inst dir d how made entry e.0 in
    hook_made key.state (answer_at head events c key.state key.inst d) (can_fail d key.state place) made_by made
    (flight_made_by head events f places armed_at thread key d place first made_by one beside is within by)
    ∙ rw (alike.state_same, alike.how_same) refl

-- a walk that is at its end has no entry
pub flight_over : (head : Head) (events : List Event) (f : Flight) (places : List (Option Step)) (armed_at thread : Option ℕ)
    (answer : Answer) → IsFlightIn head events f → IsSceneOf head events places (cpu_of f.walk) armed_at thread →
    ask.Ended answer ≡ asked (keys_by places) f.walk →
    (s i : ℕ) (dir : Dir) (how : How) → WalkEntry head events (cpu_of f.walk) s i dir how → ⊥
flight_over head events f places armed_at thread answer one beside is s i dir how entry =
    let c : ℕ = cpu_of f.walk in
    let b = flight_at head events one.flights c f one.flights_are one.there in
    let K = keys head b.of.before in
    let same : (s : ℕ) → K s ≡ keys_by places s = λ s. keys_same head events places c f b s beside.lawful beside.table_is in
    go (caller events c s how entry.of.seat)
    (sym (gives_by_caller head events c s i dir how entry)
    ∙ end_gives head events c f answer b (asked_alike K (keys_by places) same f.walk ∙ sym is))
  where
    apart : (k : ℕ) → Some (Call k (cpu_of f.walk) s i dir how) ≡ Some (WalkEnd f.seat (cpu_of f.walk) answer) → ⊥
    apart k h = cc

    none : None ≡ Some (WalkEnd f.seat (cpu_of f.walk) answer) → ⊥
    none h = cc

    go : (o : Option ℕ) → option_map (λ k. Call k (cpu_of f.walk) s i dir how) o ≡ Some (WalkEnd f.seat (cpu_of f.walk) answer) → ⊥
    go None h = none h
    go (Some k) h = apart k h

not_there : (o : Option Flight) → is_some o ≡ false → o ≡ None
not_there None h = refl
not_there (Some f) h = absurd (true≢false h)

-- of a registration in flight
pub registration_asks : (head : Head) (es : List Event) (places : List (Option Step)) (p : ProcessorsView) (g : Registering)
    (r : IsRegistering head es g) → IsTableOf head es places → IsStanding head es p → (c : ℕ) (key : Key) (d : Dir) (place : Place)
    (by : MadeBy) → key.state ≡ g.reg.state →
    regstep.Call c key d place ≡ reg_asked (key_at places g.reg) (cpus_at p.settled head.absent g.reg) g.reg →
    IfSome (step_at places key.state) (λ step. by ≡ made_by_in_registration (is_nocalls g.reg.op) step.kept d) →
    (on s i : ℕ) (dir : Dir) (how : How) → RegistrationEntry head es on s i dir how → hook_by key.state by ≡ hook_asked s how
registration_asks head es places p g r t standing c key d place by at asks means_are on s i dir how entry =
    let n = entry_next head es g r c key d place (sym (asks ∙ reg_alike head es places p g r t standing)) in
    let made : How = how_in_registration head es r.of.op c key.state key.inst d place in
    let alike = (same_registration_entry head es on c s key.state i key.inst dir d how made entry n.entry).1 in
    hook_made key.state (answer_at head es c key.state key.inst d) (can_fail d key.state place) by made
    (registration_means head es places g r t c key d place by at means_are)
    ∙ rw (alike.state_same, alike.how_same) refl

pub registration_over : (head : Head) (es : List Event) (places : List (Option Step)) (p : ProcessorsView) (g : Registering) →
    IsRegistering head es g → IsTableOf head es places → IsStanding head es p → (answer : Answer) →
    regstep.Ended answer ≡ reg_asked (key_at places g.reg) (cpus_at p.settled head.absent g.reg) g.reg →
    (on s i : ℕ) (dir : Dir) (how : How) → RegistrationEntry head es on s i dir how → ⊥
registration_over head es places p g r t standing answer asks on s i dir how entry =
    registration_ended head es g.seat on s i dir how answer entry
    (end_stands head es g r answer (sym (asks ∙ reg_alike head es places p g r t standing)))

-- while its processor walks, what a client waits for is an entry of the walk
pub walk_turn : (head : Head) (events : List Event) (flights : Flights) (cpu seat : ℕ) (found : Option ℕ) → IsLawful head events →
    IsFlights head events flights → is_some (at_place flights.by_cpu.items cpu) ≡ true →
    ((s i : ℕ) (d : Dir) (how : How) → WalkEntry head events cpu s i d how → found ≡ hook_asked s how) →
    (turn : IsApTurn head events seat cpu) → found ≡ hook_asked turn.state turn.how
walk_turn head events flights cpu seat found lawful are there by turn = go turn.entry
  where
    go : IsEntryOf head events seat cpu turn.state turn.inst turn.dir turn.how → found ≡ hook_asked turn.state turn.how
    go (inl e) = by turn.state turn.inst turn.dir turn.how e.0
    go (inr e) =
        let f = some_of (at_place flights.by_cpu.items cpu) there in
        let b = flight_at head events flights cpu f.0 are f.1 in
        absurd (none_some e.0.of (sym (no_registration head events cpu f.0 lawful b) ∙ e.0.in_flight))

-- and while it doesn't, one of the registration in flight
pub registration_turn : (head : Head) (events : List Event) (flights : Flights) (cpu seat : ℕ) (found : Option ℕ) →
    IsFlights head events flights → is_some (at_place flights.by_cpu.items cpu) ≡ false →
    ((s i : ℕ) (d : Dir) (how : How) → RegistrationEntry head events cpu s i d how → found ≡ hook_asked s how) →
    (turn : IsApTurn head events seat cpu) → found ≡ hook_asked turn.state turn.how
registration_turn head events flights cpu seat found are none by turn = go turn.entry
  where
    go : IsEntryOf head events seat cpu turn.state turn.inst turn.dir turn.how → found ≡ hook_asked turn.state turn.how
    go (inl e) =
        let still = no_flight_at head events flights cpu are (not_there (at_place flights.by_cpu.items cpu) none) in
        absurd (none_some e.0.of (sym still ∙ e.0.in_flight))
    go (inr e) = by turn.state turn.inst turn.dir turn.how e.0
