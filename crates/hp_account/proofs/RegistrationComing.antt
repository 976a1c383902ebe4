-- What a registration in flight asks for is what is under way.
use Rattle.std.proofs.Common.{◌≡◌, ℕ, zero, suc, Bool, true, false, not, ◌&&◌, cond, eqb, Option, Some, None, IfSome, List, [], ◌∷◌, refl, sym, ap, ◌∙◌, subst, inl, inr}
use Rattle.std.specs.Prelude.{option_map, option_to_list}
use Rattle.std.proofs.lemmas.Bool.{eqb-true}
use Rattle.hp_states.specs.declared.dir.Dir.{Dir}
use Rattle.hp_states.specs.declared.dir.Dir.TheVariants.{Up, Down}
use Rattle.hp_states.specs.declared.place.Place.{Place}
use Rattle.hp_states.specs.Sections.{can_fail, is_ap_state}
use Rattle.hp_event.specs.declared.how.How.{How}
use Rattle.hp_event.specs.declared.how.How.TheVariants as how
use Rattle.hp_event.specs.declared.key.Key.{Key}
use Rattle.hp_event.specs.declared.op.Op.{Op}
use Rattle.hp_event.specs.declared.answer.Answer.{Answer}
use Rattle.hp_event.specs.declared.head.Head.{Head}
use Rattle.hp_event.specs.declared.event.Event.{Event}
use Rattle.hp_event.specs.declared.event.Event.TheVariants as event
use Rattle.hp_model.specs.Batch.{is_upmany}
use Rattle.hp_model.specs.BatchTurn.{brings_up}
use Rattle.hp_model.specs.Lawful.{IsLawful}
use Rattle.hp_model.specs.MapLock.{Operation, operation}
use Rattle.hp_model.specs.Registrations.{Registration, registration}
use Rattle.hp_model.specs.Registered.{registered}
use Rattle.hp_model.specs.RegistrationShape.{key_of}
use Rattle.hp_model.specs.Processors.{processors}
use Rattle.hp_model.specs.Seats.{ap_seat}
use Rattle.hp_model.specs.Calls.{sub_at}
use Rattle.hp_model.specs.Subsystems.{has_callback}
use Rattle.hp_model.specs.How.{how_answered, answer_at, is_nocalls, how_in_registration}
use Rattle.hp_model.specs.Caller.{caller, is_presumed}
use Rattle.hp_model.specs.ApTurn.{IsApTurn}
use Rattle.hp_model.specs.UnderWay.{under_way, next_of_registration}
use Rattle.hp_model.proofs.OneNext.{owners}
use Rattle.hp_model.proofs.TurnLemmas.{single_held_up}
use Rattle.hp_table.specs.Step.{Step, step_at}
use Rattle.hp_reg.specs.Asked.{asked}
use Rattle.hp_reg.specs.Concerned.{key_at, cpus_at, key_in, concerned}
use Rattle.hp_reg.specs.declared.step.RegStep.TheVariants as regstep
use Rattle.hp_reg.proofs.Callers.{concerned_processors, key_known}
use Rattle.hp_account.specs.declared.registering.Registering.{Registering}
use Rattle.hp_account.specs.declared.under_way.Entry.{Entry}
use Rattle.hp_account.specs.declared.under_way.MadeBy.{MadeBy}
use Rattle.hp_account.specs.declared.under_way.MadeBy.TheVariants as made_by
use Rattle.hp_account.specs.declared.under_way.NextStep.TheVariants as coming
use Rattle.hp_account.specs.declared.under_way.Ending.TheVariants as ending
use Rattle.hp_account.specs.Entries.{entry_event, how_made_by}
use Rattle.hp_account.specs.NextStep.{IsComing, IsInFlightOf, has_callback_by}
use Rattle.hp_account.specs.Registering.{IsRegistering}
use Rattle.hp_account.specs.RegistrationMadeBy.{made_by_in_registration, seat_by}
use Rattle.hp_account.specs.Table.{IsTableOf, IsStepOf, HasRegistration}
use Rattle.hp_account.specs.Processors.{ProcessorsView, IsStanding}
use Rattle.hp_account.specs.Places.{at_place}
use Rattle.hp_account.specs.Seats.{SeatsView, IsRoll}
use Rattle.hp_account.proofs.RegistrationNext.{EntryNext, entry_next, end_next}

pub in_flight_of : (head : Head) (es : List Event) (places : List (Option Step)) (r : Registration) → registration es ≡ Some r →
    IsTableOf head es places → HasRegistration head es places r
in_flight_of head es places r is t = rw is at t.in_flight

-- the cursor asks for the same by the table as by the journal
pub asked_alike : (head : Head) (es : List Event) (places : List (Option Step)) (p : ProcessorsView) (g : Registering)
    (r : IsRegistering head es g) → IsTableOf head es places → IsStanding head es p →
    asked (key_at places g.reg) (cpus_at p.settled head.absent g.reg) g.reg
    ≡ asked (key_of head r.of) (processors head r.of.state r.of.before) g.reg
asked_alike head es places p g r t standing =
    let h = in_flight_of head es places r.of r.in_flight t in
    let key : key_of head r.of ≡ key_at places g.reg =
    key_known head r.of.op (registered head r.of.state r.of.before) (Some h.step) h.known
    ∙ ap (key_in r.of.op) (sym h.place_is) ∙ ap (λ s. key_in r.of.op (step_at places s)) (sym r.state_is)
    ∙ ap (λ o. key_in o (step_at places g.reg.state)) (sym r.op_is) in
    let cpus : processors head r.of.state r.of.before ≡ cpus_at p.settled head.absent g.reg =
    concerned_processors head r.of.state r.of.before p.settled standing.cpus
    (λ c below. r.still c ∙ sym (standing.settled_is c below))
    ∙ ap (λ s. concerned s p.settled head.absent) (sym r.state_is) in
    ap (λ k. asked k (cpus_at p.settled head.absent g.reg) g.reg) (sym key) ∙ ap (λ cs. asked (key_of head r.of) cs g.reg) (sym cpus)

-- its state is registered
pub state_there : (head : Head) (es : List Event) (places : List (Option Step)) (g : Registering) (r : IsRegistering head es g)
    (t : IsTableOf head es places) → step_at places g.reg.state ≡ Some (in_flight_of head es places r.of r.in_flight t).step
state_there head es places g r t =
    let h = in_flight_of head es places r.of r.in_flight t in ap (step_at places) r.state_is ∙ h.place_is

-- nothing walks, so the registration's alone is under way
under_way_is : (head : Head) (es : List Event) (g : Registering) (r : IsRegistering head es g) (e : Option Event) →
    next_of_registration head es (registration es) ≡ e → under_way head es ≡ option_to_list e
unfolding under_way
under_way_is head es g r e next = rw (r.no_walk, next) refl

in_flight : (head : Head) (es : List Event) (g : Registering) → IsRegistering head es g → IsInFlightOf es g.seat
in_flight head es g r = inr (r.of, r.in_flight, sym r.seat_is, r.no_walk)

pub comes_to_end : (head : Head) (es : List Event) (places : List (Option Step)) (p : ProcessorsView) (g : Registering) →
    IsRegistering head es g → IsTableOf head es places → IsStanding head es p → (answer : Answer) →
    regstep.Ended answer ≡ asked (key_at places g.reg) (cpus_at p.settled head.absent g.reg) g.reg →
    IsComing head es (coming.End (ending.Registration g.seat answer))
comes_to_end head es places p g r t standing answer asks =
    let next = end_next head es g r answer (sym (asks ∙ asked_alike head es places p g r t standing)) in
    record {
      only = under_way_is head es g r (Some (event.RegEnd g.seat answer)) next;
      no_entry = refl;
      takes_none = refl;
      of_client = in_flight head es g r;
    }

callback_is : (head : Head) (es : List Event) (s : ℕ) (step : Step) (k : IsStepOf head es s step) (d : Dir) →
    has_callback (Some k.sub) d ≡ has_callback_by step.kept d
callback_is head es s step k Up = sym k.up_is
callback_is head es s step k Down = sym k.down_is

-- how it is made, by what it is made by
made_so : (head : Head) (es : List Event) (op : Op) (c s i : ℕ) (d : Dir) (place : Place) (step : Step) (k : IsStepOf head es s step) →
    sub_at head s es ≡ Some k.sub →
    how_made_by (made_by_in_registration (is_nocalls op) step.kept d) (how_answered (can_fail d s place) (answer_at head es c s i d))
    ≡ how_in_registration head es op c s i d place
made_so head es op c s i d place step k sub =
    rw (sub, callback_is head es s step k d) (go (is_nocalls op) (has_callback_by step.kept d) _)
  where
    go : (none has : Bool) (answered : How) →
        how_made_by (cond none made_by.Presumed (cond has made_by.Hook made_by.Empty)) answered
        ≡ cond none how.Presumed (cond has answered how.Empty)
    go true has answered = refl
    go false true answered = refl
    go false false answered = refl

-- an entry is presumed where the form is without calls, and else not
presumed_is : (head : Head) (es : List Event) (op : Op) (c s i : ℕ) (d : Dir) (place : Place) →
    is_presumed (how_in_registration head es op c s i d place) ≡ is_nocalls op
presumed_is head es op c s i d place =
    go (is_nocalls op) (has_callback (sub_at head s es) d) (can_fail d s place) (answer_at head es c s i d)
  where
    go : (none has may_fail : Bool) (code : ℕ) →
        is_presumed (cond none how.Presumed (cond has (how_answered may_fail code) how.Empty)) ≡ none
    go true has may_fail code = refl
    go false false may_fail code = refl
    go false true may_fail zero = refl
    go false true true (suc code) = refl
    go false true false (suc code) = refl

caller_is : (head : Head) (es : List Event) (op : Op) (c s i client : ℕ) (d : Dir) (place : Place) (thread : Option ℕ) →
    thread ≡ ap_seat c es →
    caller es c s (how_in_registration head es op c s i d place) client ≡ seat_by (is_nocalls op) s thread client
caller_is head es op c s i client d place thread is = rw (presumed_is head es op c s i d place, is) refl

-- by whom it is made, where that isn't the client
thread_turn : (head : Head) (es : List Event) (r : Registration) (c : ℕ) (key : Key) (d : Dir) (place : Place) → IsLawful head es →
    registration es ≡ Some r → EntryNext head es r c key d place → is_ap_state key.state && not (is_nocalls r.op) ≡ true →
    IsApTurn head es r.seat c
thread_turn head es r c key d place lawful there n by =
    record {
      state = key.state;
      inst = key.inst;
      dir = d;
      how = how_in_registration head es r.op c key.state key.inst d place;
      entry = inr (n.entry, n.seat_is);
      by_thread = rw (presumed_is head es r.op c key.state key.inst d place) by;
      held_up = single_held_up head es r.seat c (no_batch (operation es) refl);
    }
  where
    -- the seat that registers has no upmany in flight
    no_batch : (o : Option Operation) → operation es ≡ o → brings_up r.seat o ≡ false
    no_batch None at = refl
    no_batch (Some o) at = go (eqb o.seat r.seat) refl
      where
        go : (b : Bool) → eqb o.seat r.seat ≡ b → (b && is_upmany o.op) ≡ false
        go true same = absurd ((owners head es lawful).apart o r at there (eqb-true o.seat r.seat same))
        go false other = refl

-- the entry that it asks for, by who makes it
abbrev pub entry_by : (cpu : ℕ) → Key → Dir → Place → MadeBy → Option ℕ → Option Entry
entry_by c key d place by seat =
    option_map (λ k. record { seat = k; cpu = c; key = key; dir = d; place = place; made_by = by }) seat

-- how the entry is made that it asks for, by what makes it
pub registration_means : (head : Head) (es : List Event) (places : List (Option Step)) (g : Registering) (r : IsRegistering head es g) →
    IsTableOf head es places → (c : ℕ) (key : Key) (d : Dir) (place : Place) (by : MadeBy) → key.state ≡ g.reg.state →
    IfSome (step_at places key.state) (λ step. by ≡ made_by_in_registration (is_nocalls g.reg.op) step.kept d) →
    how_made_by by (how_answered (can_fail d key.state place) (answer_at head es c key.state key.inst d))
    ≡ how_in_registration head es r.of.op c key.state key.inst d place
registration_means head es places g r t c key d place by at means_are =
    ap (λ m. how_made_by m (how_answered (can_fail d key.state place) (answer_at head es c key.state key.inst d)))
    (by_is ∙ ap (λ o. made_by_in_registration (is_nocalls o) h.step.kept d) r.op_is)
    ∙ made_so head es r.of.op c key.state key.inst d place h.step kept sub
  where
    h : HasRegistration head es places r.of
    h = in_flight_of head es places r.of r.in_flight t

    there : step_at places key.state ≡ Some h.step
    there = ap (step_at places) at ∙ state_there head es places g r t

    kept : IsStepOf head es key.state h.step
    kept = rw there at (t.steps key.state)

    sub : sub_at head key.state es ≡ Some kept.sub
    sub = ap (λ s. sub_at head s es) (at ∙ r.state_is) ∙ h.sub_is ∙ kept.sub_is

    by_is : by ≡ made_by_in_registration (is_nocalls g.reg.op) h.step.kept d
    by_is = rw there at means_are

pub comes_by_entry : (head : Head) (es : List Event) (places : List (Option Step)) (p : ProcessorsView) (roll : SeatsView) (g : Registering) →
    IsLawful head es → IsRegistering head es g → IsTableOf head es places → IsStanding head es p → IsRoll head es roll →
    (c : ℕ) (key : Key) (d : Dir) (place : Place) (by : MadeBy) → key.state ≡ g.reg.state →
    regstep.Call c key d place ≡ asked (key_at places g.reg) (cpus_at p.settled head.absent g.reg) g.reg →
    IfSome (step_at places key.state) (λ step. by ≡ made_by_in_registration (is_nocalls g.reg.op) step.kept d) →
    IsComing head es
    (coming.Entry g.seat c (entry_by c key d place by (seat_by (is_nocalls g.reg.op) key.state (at_place roll.threads c) g.seat)))
comes_by_entry head es places p roll g lawful r t standing seated c key d place by at asks means_are =
    go (is_ap_state key.state && not (is_nocalls g.reg.op)) refl
  where
    n : EntryNext head es r.of c key d place
    n = entry_next head es g r c key d place (sym (asks ∙ asked_alike head es places p g r t standing))

    made : How
    made = how_in_registration head es r.of.op c key.state key.inst d place

    how_is : how_made_by by (how_answered (can_fail d key.state place) (answer_at head es c key.state key.inst d)) ≡ made
    how_is = registration_means head es places g r t c key d place by at means_are

    event_of : (k : ℕ) → Event
    event_of k = event.Call k c key.state key.inst d made

    called : (thread : Option ℕ) → thread ≡ ap_seat c es →
        next_of_registration head es (registration es) ≡ option_map event_of (seat_by (is_nocalls g.reg.op) key.state thread g.seat)
    called thread is =
        n.next
        ∙ ap (option_map event_of)
        (caller_is head es r.of.op c key.state key.inst r.of.seat d place thread is
        ∙ ap (λ o. seat_by (is_nocalls o) key.state thread r.of.seat) (sym r.op_is)
        ∙ ap (λ k. seat_by (is_nocalls g.reg.op) key.state thread k) (sym r.seat_is))

    next : next_of_registration head es (registration es)
        ≡ option_map event_of (seat_by (is_nocalls g.reg.op) key.state (at_place roll.threads c) g.seat)
    next = called (at_place roll.threads c) (sym (seated.threads_are c))

    only : (k : ℕ) → next_of_registration head es (registration es) ≡ Some (event_of k) →
        under_way head es ≡ entry_event head es (record { seat = k; cpu = c; key = key; dir = d; place = place; made_by = by }) ∷ []
    only k is =
        under_way_is head es g r (Some (event_of k)) is
        ∙ ap (λ x. event.Call k c key.state key.inst d x ∷ []) (sym how_is)

    turn : is_ap_state key.state && not (is_nocalls g.reg.op) ≡ true → IsApTurn head es g.seat c
    turn b =
        subst (λ k. IsApTurn head es k c) (sym r.seat_is)
        (thread_turn head es r.of c key d place lawful r.in_flight n (ap (λ o. is_ap_state key.state && not (is_nocalls o)) (sym r.op_is) ∙ b))

    by_thread : (thread : Option ℕ) → at_place roll.threads c ≡ thread →
        next_of_registration head es (registration es) ≡ option_map event_of thread →
        is_ap_state key.state && not (is_nocalls g.reg.op) ≡ true →
        IsComing head es (coming.Entry g.seat c (entry_by c key d place by thread))
    by_thread None is next b = record {
      none = under_way_is head es g r None next;
      turn = turn b;
      of_client = in_flight head es g r;
    }
    by_thread (Some k) is next b = record {
      only = only k next;
      cpu_is = refl;
      made_by = inr (record { thread_is = seated.threads_are c ∙ is; turn = turn b });
      of_client = in_flight head es g r;
    }

    go : (b : Bool) → is_ap_state key.state && not (is_nocalls g.reg.op) ≡ b →
        IsComing head es
        (coming.Entry g.seat c (entry_by c key d place by (seat_by (is_nocalls g.reg.op) key.state (at_place roll.threads c) g.seat)))
    go true b =
        rw b (by_thread (at_place roll.threads c) refl (next ∙ rw b refl) b)
    go false b =
        rw b (record {
          only = only g.seat (next ∙ rw b refl);
          cpu_is = refl;
          made_by = inl refl;
          of_client = in_flight head es g r;
        })
