-- The entry that a walk in flight asks for: it comes next, it is made as its place wants, and by its seat.
use Rattle.std.proofs.Common.{◌≡◌, ℕ, zero, suc, Bool, true, false, not, ◌&&◌, ◌||◌, cond, Option, Some, None, List, refl, ap, sym, subst, ◌∙◌}
use Rattle.hp_model.proofs.TurnStays.{not_presumed}
use Rattle.hp_states.proofs.Basics.{and_true, not_not}
use Rattle.hp_states.specs.declared.dir.Dir.{Dir}
use Rattle.hp_states.specs.declared.dir.Dir.TheVariants.{Up, Down}
use Rattle.hp_states.specs.declared.place.Place.{Place}
use Rattle.hp_states.specs.Sections.{can_fail, is_ap_state}
use Rattle.hp_event.specs.declared.answer.Answer.{Answer}
use Rattle.hp_event.specs.declared.how.How.{How}
use Rattle.hp_event.specs.declared.how.How.TheVariants as how
use Rattle.hp_event.specs.declared.key.Key.{Key}
use Rattle.hp_event.specs.declared.head.Head.{Head}
use Rattle.hp_event.specs.declared.event.Event.{Event}
use Rattle.hp_event.specs.declared.event.Event.TheVariants.{WalkEnd}
use Rattle.hp_model.specs.Armed.{armed}
use Rattle.hp_model.specs.Caller.{is_presumed, is_made_by_ap}
use Rattle.hp_model.specs.Calls.{sub_at}
use Rattle.hp_model.specs.Entries.{is_done}
use Rattle.hp_model.specs.How.{how_answered, answer_at, takes_fault, how_in_walk, fits}
use Rattle.hp_model.specs.Plan.{direction, plan}
use Rattle.hp_model.specs.Registered.{registered, keys}
use Rattle.hp_model.specs.Registrations.{registration}
use Rattle.hp_model.specs.StandsCalls.{IsNextInWalk, WalkEntry}
use Rattle.hp_model.specs.Subsystems.{has_callback}
use Rattle.hp_model.specs.UnderWay.{next_of_walk}
use Rattle.hp_model.specs.Walks.{walk, walk_entries}
use Rattle.hp_model.specs.WalkShape.{IsWholeWalk}
use Rattle.hp_model.proofs.HowLemmas.{walk_fails}
use Rattle.hp_model.proofs.WalkGives.{gives_whole}
use Rattle.hp_table.specs.Step.{Step}
use Rattle.hp_walk.specs.declared.walk.Walk.{Walk as AWalk}
use Rattle.hp_walk.specs.declared.step.Step.TheVariants as ask
use Rattle.hp_walk.specs.After.{Asks, ComesNext}
use Rattle.hp_walk.specs.Asked.{asked, slot_of}
use Rattle.hp_walk.proofs.Asked.{asks}
use Rattle.hp_account.specs.declared.under_way.MadeBy.TheVariants as made_by
use Rattle.hp_account.specs.declared.flights.Flight.{Flight}
use Rattle.hp_account.specs.NextStep.{has_callback_by, made_by_in_walk}
use Rattle.hp_account.specs.Entries.{how_made_by}
use Rattle.hp_account.specs.Flights.{IsFlight}
use Rattle.hp_account.specs.Table.{registered_by, IsStepOf}

-- an entry of a walk that isn't done is one that may fail
pub walk_fits : (head : Head) (events : List Event) (c s i : ℕ) (d : Dir) (place : Place) (first : Bool) →
    fits (how_in_walk head events c s i d place first) d s place ≡ true
walk_fits head events c s i d place first =
    go (is_done (how_in_walk head events c s i d place first)) (walk_fails head events c s i d place first)
  where
    go : (done : Bool) → (done ≡ false → can_fail d s place ≡ true) → (done || can_fail d s place) ≡ true
    go true h = refl
    go false h = h refl

-- an entry that is asked for comes next, made so
comes : (K : ℕ → List ℕ) (entries : List Event) (w : AWalk) (key : Key) (d : Dir) (place : Place) (first : Bool) (how : How) →
    ComesNext K entries w key d place first → fits how d key.state place ≡ true →
    IsNextInWalk w.cpu K (direction w.from w.to) (plan K w.from w.to) entries (slot_of w.cpu key d place first (not (is_done how)))
comes K entries w key d place first how next fit = go (is_done how) fit
  where
    go : (b : Bool) → (b || can_fail d key.state place) ≡ true →
        IsNextInWalk w.cpu K (direction w.from w.to) (plan K w.from w.to) entries (slot_of w.cpu key d place first (not b))
    go true h = next.done
    go false h = next.fault h

-- what the walk of a flight asks for comes next in the walk of its processor, whoever makes it
pub entry_asked : (head : Head) (events : List Event) (c : ℕ) (f : Flight) (key : Key) (d : Dir) (place : Place) (first : Bool)
    (b : IsFlight head events c f) → asked (keys head b.of.before) f.walk ≡ ask.Call key d place first →
    (e : WalkEntry head events c key.state key.inst d (how_in_walk head events c key.state key.inst d place first))
    × (e.of.seat ≡ f.seat)
entry_asked head events c f key d place first b asks_for =
    let K = keys head b.of.before in
    let how = how_in_walk head events c key.state key.inst d place first in
    let next : Asks K (walk_entries c events) f.walk (ask.Call key d place first) =
    subst (Asks K (walk_entries c events) f.walk) asks_for (asks K (walk_entries c events) f.walk b.after) in
    let n = comes K (walk_entries c events) f.walk key d place first how next (walk_fits head events c key.state key.inst d place first)
    in
    let m = rw (b.walk_is.0, b.walk_is.1, b.walk_is.2) at n in (
      record {
        of = b.of;
        in_flight = b.in_flight;
        outcome = m.outcome;
        crossings = m.crossings;
        shape = m.shape;
        slot = slot_of c key d place first (not (is_done how));
        is_next = m.is_next;
        fits = (refl, refl, refl, refl, not_not (is_done how));
        how_is = refl;
      },
      sym b.seat_is,
    )

-- where it asks for no entry the walk is whole, with that answer
pub end_asked : (head : Head) (events : List Event) (c : ℕ) (f : Flight) (answer : Answer) (b : IsFlight head events c f) →
    asked (keys head b.of.before) f.walk ≡ ask.Ended answer →
    IsWholeWalk c (keys head b.of.before) (direction b.of.from b.of.to) (plan (keys head b.of.before) b.of.from b.of.to)
    (walk_entries c events) answer
end_asked head events c f answer b ended =
    let K = keys head b.of.before in
    let whole : Asks K (walk_entries c events) f.walk (ask.Ended answer) =
    subst (Asks K (walk_entries c events) f.walk) ended (asks K (walk_entries c events) f.walk b.after) in
    rw (b.walk_is.0, b.walk_is.1, b.walk_is.2) at whole

-- so its end comes next there, whether it is its turn or not
pub end_gives : (head : Head) (events : List Event) (c : ℕ) (f : Flight) (answer : Answer) (b : IsFlight head events c f) →
    asked (keys head b.of.before) f.walk ≡ ask.Ended answer →
    next_of_walk head events c (walk c events) ≡ Some (WalkEnd f.seat c answer)
end_gives head events c f answer b ended =
    gives_whole head events c b.of answer b.in_flight (end_asked head events c f answer b ended)
    ∙ ap (λ z. Some (WalkEnd z c answer)) (sym b.seat_is)

-- no entry of a walk is presumed
presumed_answered : (may_fail : Bool) (code : ℕ) → is_presumed (how_answered may_fail code) ≡ false
presumed_answered may_fail zero = refl
presumed_answered true (suc n) = refl
presumed_answered false (suc n) = refl

-- so the thread makes it at an AP state, and the client elsewhere
pub by_thread_at : (head : Head) (events : List Event) (c s i : ℕ) (d : Dir) (place : Place) (first : Bool) →
    is_made_by_ap s (how_in_walk head events c s i d place first) ≡ is_ap_state s
by_thread_at head events c s i d place first =
    ap (λ z. is_ap_state s && not z) (not_presumed head events c s i d place first) ∙ and_true (is_ap_state s)

-- a state has the callbacks of its subsystem
callback_is : (head : Head) (events : List Event) (s : ℕ) (step : Step) (k : IsStepOf head events s step) (d : Dir) →
    has_callback_by step.kept d ≡ has_callback (Some k.sub) d
callback_is head events s step k Up = k.up_is
callback_is head events s step k Down = k.down_is

pub has_same : (head : Head) (events : List Event) (s : ℕ) (step : Step) (d : Dir) → registration events ≡ None →
    registered head s events ≡ registered_by (Some step) → IsStepOf head events s step →
    has_callback_by step.kept d ≡ has_callback (sub_at head s events) d
has_same head events s step d idle is k = rw (idle, is, k.sub_is) (callback_is head events s step k d)

-- and what makes an entry makes it as the journal's
pub made_same : (head : Head) (events : List Event) (c s i : ℕ) (d : Dir) (place : Place) (first : Bool) (step : Step)
    (armed_at : Option ℕ) → has_callback_by step.kept d ≡ has_callback (sub_at head s events) d → armed_at ≡ armed c events →
    how_made_by (made_by_in_walk step.kept armed_at s d place first) (how_answered (can_fail d s place) (answer_at head events c s i d))
    ≡ how_in_walk head events c s i d place first
made_same head events c s i d place first step armed_at has at =
    rw (has, at) (go (has_callback (sub_at head s events) d) (takes_fault events c s d place first))
  where
    answered : How
    answered = how_answered (can_fail d s place) (answer_at head events c s i d)

    go : (has takes : Bool) →
        how_made_by (cond has (cond takes made_by.Injected made_by.Hook) made_by.Empty) answered
        ≡ cond has (cond takes how.Injected answered) how.Empty
    go true true = refl
    go true false = refl
    go false takes = refl
