-- Each part of the account can take an event that stands.
use Rattle.std.proofs.Common.{◌≡◌, ℕ, ℤ, ◌+◌, ◌<◌, ◌≤◌, Option, Some, None, IsSome, IfSome, List, [], ◌∷◌, ◌++◌, length, refl, sym, ◌∙◌, subst, arith}
use Rattle.std.proofs.lemmas.Bool.{ltb-true}
use Rattle.hp_states.proofs.Basics.{not_false}
use Rattle.hp_model.proofs.EntryStays.{walk_kept}
use Rattle.hp_states.specs.declared.limits.TheConstants.{MAX_EVENTS, ONLINE}
use Rattle.hp_event.specs.declared.answer.Answer.{Answer}
use Rattle.hp_event.specs.declared.op.Op.{Op}
use Rattle.hp_event.specs.declared.op.Op.TheVariants as op
use Rattle.hp_event.specs.declared.head.Head.{Head}
use Rattle.hp_event.specs.declared.event.Event.{Event}
use Rattle.hp_event.specs.declared.event.Event.TheVariants.{Admit, Leave, Enter, WalkBegin, Call, WalkEnd, OpEnd, RegBegin, Armed}
use Rattle.hp_model.specs.Registrations.{Registration, registration}
use Rattle.hp_model.specs.Processors.{is_possible}
use Rattle.hp_model.specs.RefusalsAtOnce.{refusals_at_once}
use Rattle.hp_model.specs.Needs.{need, taken}
use Rattle.hp_model.specs.StandsOperations.{WalkEnds}
use Rattle.hp_model.specs.Lawful.{Comes, Stands, IsLawful}
use Rattle.hp_model.proofs.Laws.{registration_push}
use Rattle.hp_model.proofs.Passing.{passed, none_holds}
use Rattle.hp_model.proofs.RoomKept.{event_fits}
use Rattle.hp_model.proofs.EntryProcessors.{present_below, call_below}
use Rattle.hp_suspend.proofs.Few.{thawing_few, booting_few, batching_few}
use Rattle.hp_table.specs.Step.{Step}
use Rattle.hp_table.proofs.Places.{within_places}
use Rattle.hp_walk.specs.Keys.{keys_by}
use Rattle.hp_account.specs.declared.flights.Flight.{Flight}
use Rattle.hp_account.specs.declared.flights.Flights.{Flights}
use Rattle.hp_account.specs.declared.operation.MapOperation.{MapOperation}
use Rattle.hp_account.specs.declared.operation.Walks.{Walks}
use Rattle.hp_account.specs.declared.operation.Walks.TheVariants.{Single, Freeze, Thaw, Boot, Batch, NoWalk}
use Rattle.hp_account.specs.declared.account.Account.{Account}
use Rattle.hp_account.specs.Account.{IsAccount}
use Rattle.hp_account.specs.Appending.{CanLeave, CanEnd, HasPlaceFor, HasRoomFor, CanOperate, CountsFitIf, CanFly, CanRegister, CanAppend, room_of_walk}
use Rattle.hp_account.specs.BatchTurns.{is_batch, HasPlaceInSet}
use Rattle.hp_account.specs.FlightChanges.{IfFlies, IfWalks, CanGoOn}
use Rattle.hp_account.specs.Flights.{IsFlights}
use Rattle.hp_account.specs.Accounted.{NoAdmission}
use Rattle.hp_account.specs.Operations.{AreWalks, IsHeldBy, CountsFit}
use Rattle.hp_account.specs.Places.{at_place}
use Rattle.hp_account.specs.Seats.{SeatsView, IsRoll}
use Rattle.hp_account.specs.Suspended.{SuspendedView, IsSuspended}
use Rattle.hp_account.specs.Table.{IsTableOf, HasRegistration}
use Rattle.hp_account.proofs.FlightEntries.{can_enter}
use Rattle.hp_account.proofs.FlightSteps.{begin_idle, walker_idle, can_begin, can_end}
use Rattle.hp_account.proofs.FlightsMore.{keys_begun, keys_called, room_is, flights_after}
use Rattle.hp_account.proofs.TurnsMore.{can_turn}
use Rattle.hp_account.proofs.WalkMoves.{walk_begins}
use Rattle.hp_account.proofs.LocksCan.{locks_can}
use Rattle.hp_account.proofs.PlaceLemmas.{at_place-within}
use Rattle.hp_account.proofs.RegistrationMore.{registers}

can_leave : (head : Head) (es : List Event) (r : SeatsView) (e : Event) → NoAdmission e → Comes head es e → IsRoll head es r → CanLeave e r
can_leave head es r (Admit seat role) other comes is = absurd (other seat role refl)
can_leave head es r (Leave seat) other comes is =
    at_place-within r.roles seat comes.is_in.0 (sym (is.roles_are seat) ∙ comes.is_in.1)
can_leave head es r e other comes is = tt

-- what is armed is a possible processor
pub armed_on : (head : Head) (es : List Event) (seat c : ℕ) (value : ℤ) → Comes head es (Armed seat c value) → c < head.possible
armed_on head es seat c value comes =
    let p = passed head es seat (op.Arm c value) comes.free.idle comes.passes.not_waiting comes.passes.not_refused in
    let n = none_holds (refusals_at_once head es seat (op.Arm c value)) p.0 in
    ltb-true c head.possible (not_false (is_possible head c) n.0)

-- a walk that ends is a present processor's
pub ended_on : (head : Head) (es : List Event) (seat c : ℕ) (answer : Answer) → IsLawful head es → WalkEnds head es seat c answer →
    c < head.possible
ended_on head es seat c answer lawful comes =
    present_below head c (walk_kept head es c comes.of lawful comes.in_flight).present

-- the processor that an event is on
pub placed : (head : Head) (es : List Event) (p : Account) (e : Event) → IsLawful head es → Comes head es e → IsAccount head es p →
    HasPlaceFor e p.processors
placed head es p (Call seat c s i d how) lawful comes is =
    let b = call_below head es seat c s i d how lawful comes in
    let n = is.processors.armed_cpus in
    omega (arith, b, n)
placed head es p (WalkEnd seat c answer) lawful comes is =
    let b = ended_on head es seat c answer lawful comes in
    let n = is.processors.cpus in
    omega (arith, b, n)
placed head es p (Armed seat c value) lawful comes is =
    let b = armed_on head es seat c value comes in
    let n = is.processors.armed_cpus in
    omega (arith, b, n)
placed head es p e lawful comes is = tt

can_suspend : (head : Head) (es : List Event) (s : SuspendedView) (e : Event) → IsLawful head es → Comes head es e → length es + 1 ≤ MAX_EVENTS →
    IsSuspended head es s → HasRoomFor e s
can_suspend head es s (WalkEnd seat c answer) lawful comes fits is =
    let b = ended_on head es seat c answer lawful comes in
    let n = is.frozen_is.places in
    omega (arith, b, n)
can_suspend head es s (OpEnd seat answer) lawful comes fits is = let f = is.few in omega (arith, f, fits)
can_suspend head es s e lawful comes fits is = tt

-- the walks of the operation that holds the map lock are fewer than the events
counted : (head : Head) (entered es : List Event) (asked : Op) (s : Walks) → length es + 1 ≤ MAX_EVENTS →
    AreWalks head entered es asked s → CountsFit s
counted head entered es asked (Single w) fits is = tt
counted head entered es asked (Freeze f) fits is = tt
counted head entered es op.Thaw (Thaw t) fits is = let f = thawing_few es t is in omega (arith, f, fits)
counted head entered es (op.Boot n) (Boot b) fits is =
    let f = booting_few es n b is in
    let one = f.0 in
    let two = f.1 in
    (omega (arith, one, fits), omega (arith, two, fits))
counted head entered es (op.UpMany set) (Batch b) fits is =
    let f = batching_few head entered es set b is in omega (arith, f, fits)
counted head entered es asked NoWalk fits is = tt
counted head entered es asked (Thaw t) fits is = elim is [ ]
counted head entered es asked (Boot b) fits is = elim is [ ]
counted head entered es asked (Batch b) fits is = elim is [ ]

counted_if : (head : Head) (es : List Event) (held : Option MapOperation) → length es + 1 ≤ MAX_EVENTS → IsHeldBy head es held → CountsFitIf held
counted_if head es None fits is = tt
counted_if head es (Some h) fits is = counted head is.of.before es is.of.op h.sequence fits is.sequence_is

can_operate : (head : Head) (es : List Event) (held : Option MapOperation) (e : Event) → IsLawful head es → Comes head es e →
    length es + 1 ≤ MAX_EVENTS → IsHeldBy head es held → CanOperate e held
can_operate head es held (Enter seat asked) lawful comes fits is = comes.takes_map
can_operate head es held (WalkBegin seat cpu from to) lawful comes fits is =
    let inside = (walk_begins head es seat cpu from to lawful comes).inside in
    let possible = lawful.0.few_possible in
    omega (arith, inside, possible)
can_operate head es held (WalkEnd seat c answer) lawful comes fits is = counted_if head es held fits is
can_operate head es held e lawful comes fits is = tt

is_some_of : (o : Option Flight) (P : Flight → Type 0) → IfWalks o P → IsSome o
is_some_of None P h = elim h [ ]
is_some_of (Some f) P h = refl

can_end_of : (head : Head) (es : List Event) (f : Flights) (e : Event) → IsLawful head es → Comes head es e → IsFlights head es f →
    CanEnd e f
can_end_of head es f (WalkEnd seat c answer) lawful comes is =
    let k = can_end head es seat c answer f lawful comes is in
    (k.0, is_some_of (at_place f.by_cpu.items c) (λ flight. 0 < flight.left) k.2)
can_end_of head es f e lawful comes is = tt

can_fly : (head : Head) (es : List Event) (places : List (Option Step)) (p : Account) (needed : ℕ) (e : Event) → IsLawful head es →
    Comes head es e → needed ≡ taken (need head es e) → IsTableOf head (es ++ e ∷ []) places → IsAccount head es p →
    CanFly (keys_by places) (room_of_walk (keys_by places) (is_batch p.operation) needed e) e p.flights
can_fly head es places p needed (WalkBegin seat cpu from to) lawful comes n t is =
    let inside = (walk_begins head es seat cpu from to lawful comes).inside in
    let most = subst (λ (m : ℕ). m ≤ ONLINE) (is.processors.settled_is cpu inside) (is.processors.highest cpu) in
    let has = keys_begun head es places seat cpu from to t (begin_idle head es seat cpu from to lawful comes) in
    let room = room_of_walk (keys_by places) (is_batch p.operation) needed (WalkBegin seat cpu from to) in
    let c = can_begin head es seat cpu from to room p.flights lawful comes is.flights most
    (room_is head es places p.operation needed seat cpu from to is.operation has n) in
    (c.inside, c.few, c.states, c.room)
can_fly head es places p needed (Call seat c s i d how) lawful comes n t is = go (at_place p.flights.by_cpu.items c) refl
  where
    go : (o : Option Flight) → at_place p.flights.by_cpu.items c ≡ o → IfFlies o (CanGoOn (keys_by places) how)
    go None e = tt
    go (Some f) e =
        can_enter head es places seat c s i d how p.flights f lawful comes is.flights
        (keys_called head es places seat c s i d how t (walker_idle head es p.flights c f lawful is.flights e)) e
can_fly head es places p needed (WalkEnd seat c answer) lawful comes n t is = can_end head es seat c answer p.flights lawful comes is.flights
can_fly head es places p needed e lawful comes n t is = tt

-- a registration that begins is at one of the table's states, and an entry is on one of the processors
can_register : (head : Head) (es : List Event) (places : List (Option Step)) (p : Account) (e : Event) → IsLawful head es → Comes head es e →
    length places ≡ ONLINE + 1 → IsTableOf head (es ++ e ∷ []) places → IsAccount head es p → CanRegister e
can_register head es places p (RegBegin seat state asked) lawful comes sound t is =
    let r : Registration = record { seat = seat; state = state; op = asked; before = es } in
    let begun : registration (es ++ RegBegin seat state asked ∷ []) ≡ Some r = registration_push es (RegBegin seat state asked) in
    let h : HasRegistration head (es ++ RegBegin seat state asked ∷ []) places r =
    subst (λ x. IfSome x (HasRegistration head (es ++ RegBegin seat state asked ∷ []) places)) begun t.in_flight in
    let below = within_places places state h.step h.place_is in
    (registers head es asked state comes.state_is, omega (arith, below, sound))
can_register head es places p (Call seat c s i d how) lawful comes sound t is =
    let b = call_below head es seat c s i d how lawful comes in
    let h = lawful.0.few_possible in
    omega (arith, b, h)
can_register head es places p e lawful comes sound t is = tt

-- the processor of an event of a walk is one that a set can have
in_set : (keys : ℕ → List ℕ) (needed : ℕ) (e : Event) (f : Flights) → CanFly keys needed e f → CanRegister e → HasPlaceInSet e
in_set keys needed (WalkBegin seat c from to) f flies on = flies.1
in_set keys needed (Call seat c s i d how) f flies on = omega (arith, on)
in_set keys needed (WalkEnd seat c answer) f flies on = flies.1
in_set keys needed e f flies on = tt

pub can_append : (head : Head) (es : List Event) (places : List (Option Step)) (p : Account) (needed : ℕ) (e : Event) → NoAdmission e →
    IsLawful head es → Stands head es e → needed ≡ taken (need head es e) → length places ≡ ONLINE + 1 →
    IsTableOf head (es ++ e ∷ []) places → IsAccount head es p → CanAppend (keys_by places) needed e p
can_append head es places p needed e other lawful stands n sound t is =
    let comes = stands.0 in
    let fits = event_fits head es e lawful stands in
    let flies = can_fly head es places p needed e lawful comes n t is in
    let on = can_register head es places p e lawful comes sound t is in
    record {
      seats = can_leave head es p.seats e other comes is.seats;
      locks = locks_can head es p.locks e other lawful comes is.locks;
      ends = can_end_of head es p.flights e lawful comes is.flights;
      processors = placed head es p e lawful comes is;
      suspended = can_suspend head es p.suspended e lawful comes fits is.suspended;
      operation = can_operate head es p.operation e lawful comes fits is.operation;
      flights = flies;
      registration = on;
      turns = λ freed new flew.
          can_turn head es places p.operation e new p.turns lawful stands t is.operation is.turns
          (flights_after head es places p.operation needed freed e p.flights new lawful comes n t is.operation is.flights flew);
      place_in_set = in_set (keys_by places) (room_of_walk (keys_by places) (is_batch p.operation) needed e) e p.flights flies on;
    }
