-- The walks in flight after one event more that stands: the room that a walk takes, and where the walks are.
use Rattle.std.proofs.Common.{◌≡◌, ℕ, ◌+◌, ◌*◌, Bool, true, false, cond, Option, Some, None, List, [], ◌∷◌, ◌++◌, refl, ap, sym, subst, ◌∙◌}
use Rattle.hp_states.specs.declared.dir.Dir.{Dir}
use Rattle.hp_event.specs.declared.how.How.{How}
use Rattle.hp_event.specs.declared.head.Head.{Head}
use Rattle.hp_event.specs.declared.event.Event.{Event}
use Rattle.hp_event.specs.declared.event.Event.TheVariants.{WalkBegin, Call, WalkEnd}
use Rattle.hp_model.specs.Lawful.{Comes, IsLawful}
use Rattle.hp_model.specs.Needs.{need, taken, walk_need}
use Rattle.hp_model.specs.Plan.{keys_on}
use Rattle.hp_model.specs.Registered.{insts_of as insts_of_registered}
use Rattle.hp_model.specs.Registrations.{registration}
use Rattle.hp_model.proofs.Laws.{registration_push, registered_push}
use Rattle.hp_table.specs.Step.{Step}
use Rattle.hp_walk.specs.Keys.{keys_by}
use Rattle.hp_account.specs.declared.flights.Flight.{Flight}
use Rattle.hp_account.specs.declared.flights.Flights.{Flights}
use Rattle.hp_account.specs.declared.operation.MapOperation.{MapOperation}
use Rattle.hp_account.specs.Appending.{WalksChanged, WalkWentOnIf, room_of_walk}
use Rattle.hp_account.specs.BatchTurns.{is_batch}
use Rattle.hp_account.specs.Flights.{IsFlights}
use Rattle.hp_account.specs.Operations.{IsHeldBy}
use Rattle.hp_account.specs.Places.{at_place}
use Rattle.hp_account.specs.Table.{IsTableOf}
use Rattle.hp_account.proofs.FlightEntries.{flights_entry}
use Rattle.hp_account.proofs.FlightSteps.{HasKeys, has_keys, LeavesWalks, begin_idle, walker_idle, flights_begin, flights_end, flights_stay}
use Rattle.hp_account.proofs.InBatch.{batch_is}

-- while no registration is in flight, the table after a walk's begin or its entry has the keys that there were before
pub keys_begun : (head : Head) (es : List Event) (places : List (Option Step)) (seat cpu from to : ℕ) →
    IsTableOf head (es ++ WalkBegin seat cpu from to ∷ []) places → registration es ≡ None → HasKeys head es places
keys_begun head es places seat cpu from to t idle = λ s.
    let e : Event = WalkBegin seat cpu from to in
    ap insts_of_registered (sym (registered_push head s es e))
    ∙ has_keys head (es ++ e ∷ []) places t (registration_push es e ∙ idle) s

pub keys_called : (head : Head) (es : List Event) (places : List (Option Step)) (seat c st i : ℕ) (d : Dir) (how : How) →
    IsTableOf head (es ++ Call seat c st i d how ∷ []) places → registration es ≡ None → HasKeys head es places
keys_called head es places seat c st i d how t idle = λ s.
    let e : Event = Call seat c st i d how in
    ap insts_of_registered (sym (registered_push head s es e))
    ∙ has_keys head (es ++ e ∷ []) places t (registration_push es e ∙ idle) s

-- a walk that begins has the room that it needs
pub room_is : (head : Head) (es : List Event) (places : List (Option Step)) (held : Option MapOperation) (needed seat cpu from to : ℕ) →
    IsHeldBy head es held → HasKeys head es places → needed ≡ taken (need head es (WalkBegin seat cpu from to)) →
    room_of_walk (keys_by places) (is_batch held) needed (WalkBegin seat cpu from to) ≡ walk_need head es from to
room_is head es places held needed seat cpu from to is has n = go (is_batch held) refl
  where
    go : (b : Bool) → is_batch held ≡ b → cond b (3 * keys_on (keys_by places) from to + 4) needed ≡ walk_need head es from to
    go true e = λ i. 3 * keys_on (λ s. sym (has s) i) from to + 4
    go false e = let single = sym (batch_is head es held is) ∙ e in rw single at n

pub flights_same : (head : Head) (es : List Event) (e : Event) (old new : Flights) → IsLawful head es → Comes head es e → IsFlights head es old →
    LeavesWalks old e → new ≡ old → IsFlights head (es ++ e ∷ []) new
flights_same head es e old new lawful comes is leaves same =
    subst (IsFlights head (es ++ e ∷ [])) (sym same) (flights_stay head es e old lawful comes is leaves)

pub flights_after : (head : Head) (es : List Event) (places : List (Option Step)) (held : Option MapOperation) (needed freed : ℕ) (e : Event)
    (old new : Flights) → IsLawful head es → Comes head es e → needed ≡ taken (need head es e) →
    IsTableOf head (es ++ e ∷ []) places → IsHeldBy head es held → IsFlights head es old →
    WalksChanged (keys_by places) (room_of_walk (keys_by places) (is_batch held) needed e) freed e old new → IsFlights head (es ++ e ∷ []) new
flights_after head es places held needed freed (WalkBegin seat cpu from to) old new lawful comes n t by is flew =
    let has = keys_begun head es places seat cpu from to t (begin_idle head es seat cpu from to lawful comes) in
    let room = room_of_walk (keys_by places) (is_batch held) needed (WalkBegin seat cpu from to) in
    flights_begin head es places seat cpu from to room old new lawful comes is has flew.0
    (room_is head es places held needed seat cpu from to by has n)
flights_after head es places held needed freed (Call seat c s i d how) old new lawful comes n t by is flew =
    go (at_place old.by_cpu.items c) refl flew.0
  where
    go : (o : Option Flight) → at_place old.by_cpu.items c ≡ o → WalkWentOnIf o (keys_by places) c how old new →
        IsFlights head (es ++ Call seat c s i d how ∷ []) new
    go None none same = flights_same head es (Call seat c s i d how) old new lawful comes is none same
    go (Some f) walks went =
        flights_entry head es places seat c s i d how old new lawful comes is
        (keys_called head es places seat c s i d how t (walker_idle head es old c f lawful is walks)) went
flights_after head es places held needed freed (WalkEnd seat c answer) old new lawful comes n t by is flew =
    (flights_end head es seat c answer freed old new comes is flew).0
flights_after head es places held needed freed e old new lawful comes n t by is flew =
    flights_same head es e old new lawful comes is tt flew.0
