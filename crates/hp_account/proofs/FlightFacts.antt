-- Facts of the walks in flight after a lawful journal's events.
use Rattle.std.proofs.Common.{◌≡◌, ℕ, zero, suc, ◌<◌, ◌≤◌, Bool, true, false, cond, eqb, is_some, Option, Some, None, List, [], ◌∷◌, ◌++◌, ◌+◌, length, get_or, refl, ap, sym, subst, ◌∙◌, arith}
use Rattle.std.proofs.lemmas.Bool.{true≢false, eq-eqb}
use Rattle.std.proofs.lemmas.Bool.Decides.{nat_tests}
use Rattle.hp_model.proofs.EntryStays.{walk_kept}
use Rattle.hp_model.proofs.RegistrationSteps.{del_once}
use Rattle.hp_event.specs.declared.head.Head.{Head}
use Rattle.hp_states.specs.CpuSets.{has}
use Rattle.hp_event.specs.declared.event.Event.{Event}
use Rattle.hp_event.specs.declared.event.Event.TheVariants.{WalkBegin, WalkEnd}
use Rattle.hp_model.specs.Batch.{is_upmany}
use Rattle.hp_model.specs.Journal.{over_from}
use Rattle.hp_model.specs.Lists.{among, occurs, without}
use Rattle.hp_model.specs.Lawful.{IsLawful}
use Rattle.hp_model.specs.MapLock.{operation}
use Rattle.hp_model.specs.Registered.{registered, keys, insts_of as insts_of_registered}
use Rattle.hp_model.specs.Registrations.{registration}
use Rattle.hp_model.specs.Suspend.{held_by}
use Rattle.hp_model.specs.Walks.{Walk, walk, walking, walking_step}
use Rattle.hp_model.proofs.Counts.{occurs-append}
use Rattle.hp_model.proofs.InFlight.{walking_is}
use Rattle.hp_model.proofs.ListLemmas.{is_among, occurs-without, once_in, none_among}
use Rattle.hp_model.proofs.OneNext.{owners}
use Rattle.hp_model.proofs.WaitLemmas.{first_among}
use Rattle.hp_model.proofs.SomeMoves.{some_of}
use Rattle.hp_table.specs.Step.{Step, step_at}
use Rattle.hp_walk.specs.Cursor.{cpu_of}
use Rattle.hp_walk.specs.After.{IsWithin}
use Rattle.hp_walk.specs.Keys.{keys_by, insts_of}
use Rattle.hp_walk.proofs.Alike.{within_alike}
use Rattle.hp_account.specs.declared.flights.Flight.{Flight}
use Rattle.hp_account.specs.declared.flights.Flights.{Flights}
use Rattle.hp_account.specs.Places.{at_place}
use Rattle.hp_account.specs.Flights.{IsFlight, IsFlightOf, IsFlights}
use Rattle.hp_account.specs.FlightChanges.{IfWalks}
use Rattle.hp_account.specs.Table.{registered_by, IsTableOf}
use Rattle.hp_account.specs.Walking.{IsFlightIn}
use Rattle.hp_account.proofs.PlaceLemmas.{at_place-within}

-- what is read at a place
pub at_place-read : {X : Type 0} (xs : List (Option X)) (n : ℕ) (x : Option X) → n < length xs → x ≡ get_or xs n x → at_place xs n ≡ x
at_place-read [] n x below is = absurd (omega arith)
at_place-read (y ∷ ys) zero x below is = sym is
at_place-read (y ∷ ys) (suc n) x below is = at_place-read ys n x (omega arith) is

-- the walk that is kept for a processor
pub flight_at : (head : Head) (events : List Event) (flights : Flights) (c : ℕ) (f : Flight) → IsFlights head events flights →
    at_place flights.by_cpu.items c ≡ Some f → IsFlight head events c f
flight_at head events flights c f t is = subst (IsFlightOf head events c) is (t.each c)

-- and it is one of the journal's
pub one_of : (head : Head) (events : List Event) (flights : Flights) (c : ℕ) (f : Flight) → IsFlights head events flights →
    at_place flights.by_cpu.items c ≡ Some f → (cpu_of f.walk ≡ c) × IsFlightIn head events f
one_of head events flights c f t is =
    let b = flight_at head events flights c f t is in
    let P : ℕ → Type 0 = λ n. at_place flights.by_cpu.items n ≡ Some f in
    (b.walk_is.0, record { flights = flights; flights_are = t; there = subst P (sym b.walk_is.0) is })

pub no_flight_at : (head : Head) (events : List Event) (flights : Flights) (c : ℕ) → IsFlights head events flights →
    at_place flights.by_cpu.items c ≡ None → walk c events ≡ None
no_flight_at head events flights c t is = subst (IsFlightOf head events c) is (t.each c)

-- while a processor walks no registration is in flight
pub no_registration : (head : Head) (events : List Event) (c : ℕ) (f : Flight) → IsLawful head events → IsFlight head events c f →
    registration events ≡ None
no_registration head events c f lawful b = (walk_kept head events c b.of lawful b.in_flight).no_registration

-- the keys at its begin are those that are registered
pub keys_at_begin : (head : Head) (events : List Event) (c : ℕ) (f : Flight) (b : IsFlight head events c f) (s : ℕ) →
    keys head b.of.before s ≡ keys head events s
keys_at_begin head events c f b s = ap insts_of_registered (b.registered_same s)

insts_same : (place : Option Step) → insts_of_registered (registered_by place) ≡ insts_of place
insts_same None = refl
insts_same (Some step) = refl

-- where no registration is in flight, what is registered is what the table has
pub registered_there : (head : Head) (events : List Event) (places : List (Option Step)) (s : ℕ) → IsTableOf head events places →
    registration events ≡ None → registered head s events ≡ registered_by (step_at places s)
registered_there head events places s t none = rw none at (t.registered_is s)

pub keys_there : (head : Head) (events : List Event) (places : List (Option Step)) (s : ℕ) → IsTableOf head events places →
    registration events ≡ None → keys head events s ≡ keys_by places s
keys_there head events places s t none =
    ap insts_of_registered (registered_there head events places s t none) ∙ insts_same (step_at places s)

pub keys_same : (head : Head) (events : List Event) (places : List (Option Step)) (c : ℕ) (f : Flight)
    (b : IsFlight head events c f) (s : ℕ) → IsLawful head events → IsTableOf head events places →
    keys head b.of.before s ≡ keys_by places s
keys_same head events places c f b s lawful t =
    keys_at_begin head events c f b s ∙ keys_there head events places s t (no_registration head events c f lawful b)

-- no processor is twice among those that walk
once_more : (cpu d n : ℕ) → n ≤ 1 → cond (eqb d cpu) 0 n + (cond (eqb cpu d) 1 0 + 0) ≤ 1
once_more cpu d n h = grind (arith, nat_tests)

once_step : (ws : List ℕ) (before : List Event) (e : Event) → ((d : ℕ) → occurs d ws ≤ 1) → (d : ℕ) → occurs d (walking_step ws before e) ≤ 1
once_step ws before (WalkBegin seat cpu from to) h d =
    rw (occurs-append d (without cpu ws) (cpu ∷ []), occurs-without cpu d ws) (once_more cpu d (occurs d ws) (h d))
once_step ws before (WalkEnd seat cpu answer) h d = rw (occurs-without cpu d ws) (del_once (eqb d cpu) (occurs d ws) (h d))
once_step ws before e h d = h d

once_from : (ws : List ℕ) (before es : List Event) → ((d : ℕ) → occurs d ws ≤ 1) → (d : ℕ) → occurs d (over_from walking_step ws before es) ≤ 1
once_from ws before [] h d = h d
once_from ws before (e ∷ es) h d = once_from (walking_step ws before e) (before ++ e ∷ []) es (once_step ws before e h) d

pub walks_once : (xs : List Event) (d : ℕ) → occurs d (walking xs) ≤ 1
unfolding walking
walks_once xs d = once_from [] [] xs (λ c. omega arith) d

-- but in an upmany a processor that walks is the only one
pub alone : (head : Head) (events : List Event) (c : ℕ) (w : Walk) → IsLawful head events →
    held_by is_upmany (operation events) ≡ false → walk c events ≡ Some w → walking events ≡ c ∷ []
alone head events c w lawful single at = go (walking events) refl
  where
    there : among c (walking events) ≡ true
    there = walking_is c events ∙ ap is_some at

    same : (d : ℕ) → among d (walking events) ≡ true → d ≡ c
    same d i =
        let v = some_of (walk d events) (sym (walking_is d events) ∙ i) in
        (owners head events lawful).one_walk d c v.0 w v.1 at single

    twice : (d : ℕ) (ds : List ℕ) → 2 ≤ occurs d (d ∷ (d ∷ ds))
    twice d ds = let self : eqb d d ≡ true = eq-eqb d d refl in rw self (omega arith)

    go : (ws : List ℕ) → walking events ≡ ws → walking events ≡ c ∷ []
    go [] e = absurd (true≢false (sym there ∙ ap (among c) e))
    go (d ∷ []) e =
        let s = same d (ap (among d) e ∙ first_among d []) in e ∙ ap (λ z. z ∷ []) s
    go (d ∷ (f ∷ ds)) e =
        let s = same d (ap (among d) e ∙ first_among d (f ∷ ds)) in
        let t = same f (ap (among f) e ∙ among_more_first f d ds) in
        let all : walking events ≡ c ∷ (c ∷ ds) = e ∙ ((λ i. s i ∷ (t i ∷ ds))) in
        let two = twice c ds in
        let one = walks_once events c in
        let n = ap (occurs c) all in
        absurd (omega (arith, two, one, n))
      where
        among_more_first : (f d : ℕ) (ds : List ℕ) → among f (d ∷ (f ∷ ds)) ≡ true
        among_more_first f d ds =
            let i = once_in f ds in is_among f (d ∷ (f ∷ ds)) (more (eqb d f) i)
          where
            more : (b : Bool) → 0 < occurs f (f ∷ ds) → 0 < cond b 1 0 + occurs f (f ∷ ds)
            more b h = omega (arith, h)

-- a processor that walks has a walk in flight
pub walks : (head : Head) (events : List Event) (flights : Flights) (c : ℕ) → IsFlights head events flights →
    has flights.walking c ≡ true → is_some (walk c events) ≡ true
walks head events flights c t is = sym (walking_is c events) ∙ (sym (t.walking_is c) ∙ is)

-- a walk in flight is kept
pub flight_of : (head : Head) (events : List Event) (flights : Flights) (c : ℕ) → IsFlights head events flights →
    is_some (walk c events) ≡ true → (f : Flight) × (at_place flights.by_cpu.items c ≡ Some f)
flight_of head events flights c t is = go (at_place flights.by_cpu.items c) refl
  where
    go : (o : Option Flight) → at_place flights.by_cpu.items c ≡ o → (f : Flight) × (at_place flights.by_cpu.items c ≡ Some f)
    go None e = absurd (true≢false (sym is ∙ ap is_some (no_flight_at head events flights c t e)))
    go (Some f) e = (f, e)

pub flown : (head : Head) (events : List Event) (flights : Flights) (c : ℕ) → IsFlights head events flights →
    has flights.walking c ≡ true → (f : Flight) × (at_place flights.by_cpu.items c ≡ Some f)
flown head events flights c t is = flight_of head events flights c t (walks head events flights c t is)

-- and what is kept walks
pub flies : (head : Head) (events : List Event) (flights : Flights) (c : ℕ) (f : Flight) → IsFlights head events flights →
    at_place flights.by_cpu.items c ≡ Some f → has flights.walking c ≡ true
flies head events flights c f t is =
    t.walking_is c ∙ (walking_is c events ∙ ap is_some (flight_at head events flights c f t is).in_flight)

-- a walk stands among the table's keys
pub within_at : (head : Head) (events : List Event) (places : List (Option Step)) (flights : Flights) (c : ℕ) (f : Flight) →
    IsLawful head events → IsFlights head events flights → IsTableOf head events places →
    at_place flights.by_cpu.items c ≡ Some f → IsWithin (keys_by places) f.walk
within_at head events places flights c f lawful t table is =
    let b = flight_at head events flights c f t is in
    let same : (s : ℕ) → keys head b.of.before s ≡ keys_by places s = λ s. keys_same head events places c f b s lawful table in
    within_alike (keys head b.of.before) (keys_by places) same f.walk b.after.within

-- so what a walk's next asks for is met
pub can_next : (head : Head) (events : List Event) (places : List (Option Step)) (flights : Flights) (c : ℕ) → IsLawful head events →
    IsFlights head events flights → IsTableOf head events places → has flights.walking c ≡ true →
    (c < length flights.by_cpu.items) × IfWalks (at_place flights.by_cpu.items c) (λ flight. IsWithin (keys_by places) flight.walk)
can_next head events places flights c lawful t table is =
    let w = flown head events flights c t is in (
      at_place-within flights.by_cpu.items c w.0 w.1,
      rw w.1 (within_at head events places flights c w.0 lawful t table w.1),
    )

-- where no processor walks, none does by the journal
pub none_walks : (head : Head) (events : List Event) (flights : Flights) → IsFlights head events flights →
    ((c : ℕ) → has flights.walking c ≡ false) → walking events ≡ []
none_walks head events flights t none = none_among (walking events) (λ c. sym (t.walking_is c) ∙ none c)
