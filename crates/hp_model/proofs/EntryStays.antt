-- An entry that can come stays so after an event of another seat, but for one that arms its processor in the middle of
-- its walk, and for another call of the hook of its state.
use Rattle.std.proofs.Common.{◌≡◌, ◌≢◌, ℕ, Bool, true, false, ◌&&◌, cond, eqb, ◌<◌, is_none, Option, Some, None, List, [], ◌∷◌, ◌++◌, refl, ap, sym, ◌∙◌, subst, inl, inr, ◌⊎◌, is_some}
use Rattle.std.proofs.lemmas.Bool.{true≢false, eqb-true, and_parts}
use Rattle.hp_states.proofs.Basics.{none_some}
use Rattle.hp_states.specs.Sections.{is_ap_state}
use Rattle.hp_states.specs.declared.dir.Dir.{Dir}
use Rattle.hp_states.specs.declared.place.Place.{Place}
use Rattle.hp_event.specs.declared.how.How.{How}
use Rattle.hp_event.specs.declared.op.Op.{Op}
use Rattle.hp_event.specs.declared.answer.Answer.{Answer}
use Rattle.hp_event.specs.declared.event.Role.{Role}
use Rattle.hp_event.specs.declared.event.Role.TheVariants.{Client, Ap}
use Rattle.hp_event.specs.declared.head.Head.{Head}
use Rattle.hp_event.specs.declared.event.Event.{Event}
use Rattle.hp_event.specs.declared.event.Event.TheVariants.{Admit, Leave, Enter, WalkBegin, Call, WalkEnd, OpEnd, RegBegin, RegEnd, Armed}
use Rattle.hp_model.specs.Armed.{armed}
use Rattle.hp_model.specs.Calls.{sites, sites_step}
use Rattle.hp_model.specs.Caller.{is_made_by_ap, caller}
use Rattle.hp_model.specs.Events.{seat_of, is_call}
use Rattle.hp_model.specs.How.{how_in_walk, how_in_registration}
use Rattle.hp_model.specs.Lawful.{Comes, Stands, IsLawful}
use Rattle.hp_model.specs.Lent.{arms, arms_walker, calls_beside, cpu_of}
use Rattle.hp_event.specs.Hows.{is_called}
use Rattle.hp_model.specs.MapLock.{Operation, operation}
use Rattle.hp_model.specs.Suspend.{held_by}
use Rattle.hp_model.specs.Batch.{is_upmany}
use Rattle.hp_model.specs.BatchTurn.{turn_of, is_it, brings_up, has_turn}
use Rattle.hp_model.specs.NextEvent.{due_entry}
use Rattle.hp_model.specs.Registered.{registered, registered_step}
use Rattle.hp_model.specs.Registrations.{Registration, registration, registration_step, registration_entries, registration_entries_step}
use Rattle.hp_model.specs.Seats.{admits, role_of, ap_seat, ap_step, seated, unseated}
use Rattle.hp_model.specs.StandsCalls.{WalkEntry, InWalk, InRegistration, Calls}
use Rattle.hp_model.specs.StandsRegistrations.{RegEnds}
use Rattle.hp_model.specs.StandsSeats.{CanSit}
use Rattle.hp_model.specs.Walks.{Walk, walk, walk_step, walk_entries, entries_step}
use Rattle.hp_model.proofs.DueGives.{due_stands, due_gives}
use Rattle.hp_model.proofs.HeadlineProof.{lawful_more}
use Rattle.hp_model.proofs.InFlight.{walk_none}
use Rattle.hp_model.proofs.Induction.{kept}
use Rattle.hp_model.proofs.Kept.{WalkKept, RegistrationKept}
use Rattle.hp_model.proofs.Laws.{walk_push, walk_entries_push, registration_push, registration_entries_push, registered_push, sites_push, ap_push, armed_push, operation_push}
use Rattle.hp_model.proofs.OneEntry.{one_entry, walk_ended}
use Rattle.hp_model.proofs.OneNext.{owners}
use Rattle.hp_model.proofs.OneRegistration.{one_registration_entry, registration_ended}
use Rattle.hp_model.proofs.Owners.{Owners, enters_at_rest, over_at_rest}
use Rattle.hp_model.proofs.BatchLemmas.{begins_still}
use Rattle.hp_model.proofs.TurnLemmas.{turn_is, is_turn}
use Rattle.hp_model.proofs.TurnStays.{turn_stays}
use Rattle.hp_model.proofs.OneWalkProof.{one_seats}
use Rattle.hp_model.proofs.Passing.{begins_alone}
use Rattle.hp_model.proofs.Stages.{called_by}
use Rattle.hp_model.proofs.WaitLemmas.{walks_alone}

-- what an entry rests on is as it was, but for what its processor is armed at
record Same (head : Head) (seat cpu state : ℕ) (xs ys : List Event) : Type 0 where
  walk_same : walk cpu ys ≡ walk cpu xs
  entries_same : walk_entries cpu ys ≡ walk_entries cpu xs
  registration_same : registration ys ≡ registration xs
  registered_same : registered head state ys ≡ registered head state xs
  sites_same : sites state ys ≡ sites state xs
  thread_stays : ap_seat cpu xs ≡ Some seat → ap_seat cpu ys ≡ Some seat

caller_stays : (xs ys : List Event) (c s : ℕ) (how : How) (client seat : ℕ) →
    (ap_seat c xs ≡ Some seat → ap_seat c ys ≡ Some seat) → caller xs c s how client ≡ Some seat →
    caller ys c s how client ≡ Some seat
caller_stays xs ys c s how client seat stays h = go (is_made_by_ap s how) h
  where
    go : (b : Bool) → cond b (ap_seat c xs) (Some client) ≡ Some seat → cond b (ap_seat c ys) (Some client) ≡ Some seat
    go true h = stays h
    go false h = h

how_walks : (head : Head) (xs ys : List Event) (seat c s i : ℕ) (d : Dir) (place : Place) (first : Bool) →
    Same head seat c s xs ys → armed c ys ≡ armed c xs →
    how_in_walk head ys c s i d place first ≡ how_in_walk head xs c s i d place first
how_walks head xs ys seat c s i d place first e a =
    rw (e.registration_same, e.registered_same, e.sites_same, a) refl

how_registers : (head : Head) (xs ys : List Event) (op : Op) (seat c s i : ℕ) (d : Dir) (place : Place) →
    Same head seat c s xs ys → how_in_registration head ys op c s i d place ≡ how_in_registration head xs op c s i d place
how_registers head xs ys op seat c s i d place e = rw (e.registration_same, e.registered_same, e.sites_same) refl

walks_on : (head : Head) (xs ys : List Event) (seat cpu state inst : ℕ) (dir : Dir) (how : How) → Same head seat cpu state xs ys →
    armed cpu ys ≡ armed cpu xs → has_turn head ys seat cpu ≡ true → InWalk head xs seat cpu state inst dir how →
    InWalk head ys seat cpu state inst dir how
walks_on head xs ys seat cpu state inst dir how s a t h =
    record {
      entry =
          record {
            of = h.entry.of;
            in_flight = s.walk_same ∙ h.entry.in_flight;
            outcome = h.entry.outcome;
            crossings = h.entry.crossings;
            shape = h.entry.shape;
            slot = h.entry.slot;
            is_next = rw s.entries_same h.entry.is_next;
            fits = h.entry.fits;
            how_is =
                h.entry.how_is
                ∙ sym (how_walks head xs ys seat cpu state inst dir h.entry.slot.place h.entry.slot.first s a);
          };
      caller_is = caller_stays xs ys cpu state how h.entry.of.seat seat s.thread_stays h.caller_is;
      turn = t;
    }

registers_on : (head : Head) (xs ys : List Event) (seat cpu state inst : ℕ) (dir : Dir) (how : How) →
    Same head seat cpu state xs ys → registration_entries ys ≡ registration_entries xs →
    InRegistration head xs seat cpu state inst dir how → InRegistration head ys seat cpu state inst dir how
registers_on head xs ys seat cpu state inst dir how s rs h =
    record {
      entry =
          record {
            of = h.entry.of;
            in_flight = s.registration_same ∙ h.entry.in_flight;
            outcome = h.entry.outcome;
            slots = h.entry.slots;
            shape = h.entry.shape;
            slot = h.entry.slot;
            is_next = rw rs h.entry.is_next;
            fits = h.entry.fits;
            how_is =
                h.entry.how_is
                ∙ sym (how_registers head xs ys h.entry.of.op seat cpu state inst dir h.entry.slot.place s);
          };
      caller_is = caller_stays xs ys cpu state how h.entry.of.seat seat s.thread_stays h.caller_is;
    }

-- with a walk in flight the operation is as it was
operation_on : (head : Head) (xs : List Event) (e : Event) (c : ℕ) (w : Walk) → Owners xs → Comes head xs e → walk c xs ≡ Some w →
    operation (xs ++ e ∷ []) ≡ operation xs
operation_on head xs (Enter seat op) c w own h is = absurd (enters_at_rest head xs seat op own h c w is)
operation_on head xs (OpEnd seat answer) c w own h is =
    absurd (none_some w (sym (walk_none xs (over_at_rest head xs seat answer own h) c) ∙ is))
operation_on head xs e c w own h is = operation_push xs e

-- and whoever has the turn of a walk keeps it while others make events
turn_on : (head : Head) (xs : List Event) (k c : ℕ) (w : Walk) (e : Event) → Owners xs → Comes head xs e → walk c xs ≡ Some w →
    seat_of e ≢ k → has_turn head xs k c ≡ true → has_turn head (xs ++ e ∷ []) k c ≡ true
turn_on head xs k c w e own h is apart t = go (brings_up k (operation xs)) refl
  where
    ys : List Event
    ys = xs ++ e ∷ []

    p : (o : Operation) × (operation xs ≡ Some o) × (o.seat ≡ w.seat)
    p = own.walk_op c w is

    with_turn : (eqb p.0.seat k && is_upmany p.0.op) ≡ true → has_turn head ys k c ≡ true
    with_turn b =
        let a = and_parts (eqb p.0.seat k) (is_upmany p.0.op) b in
        let s : p.0.seat ≡ k = eqb-true p.0.seat k a.0 in
        let now = turn_is head xs p.0 k c p.1 s a.1 t in
        let later =
        turn_stays head xs e p.0 c own h p.1 a.1 (λ z. apart (z ∙ s)) (subst (λ z. turn_of head xs z ≡ Some c) (sym s) now)
        in
        is_turn head ys k c (subst (λ z. turn_of head ys z ≡ Some c) s later)

    go : (b : Bool) → brings_up k (operation xs) ≡ b → has_turn head ys k c ≡ true
    go true q = with_turn (sym (ap (brings_up k) p.1) ∙ q)
    go false q =
        ap (λ b. cond b (is_it c (turn_of head ys k)) true) (ap (brings_up k) (operation_on head xs e c w own h is) ∙ q)

goes_on : (head : Head) (xs : List Event) (e : Event) (seat cpu state inst : ℕ) (dir : Dir) (how : How) → Owners xs →
    Comes head xs e → seat_of e ≢ seat → Same head seat cpu state xs (xs ++ e ∷ []) →
    registration_entries (xs ++ e ∷ []) ≡ registration_entries xs →
    ((w : Walk) → walk cpu xs ≡ Some w → armed cpu (xs ++ e ∷ []) ≡ armed cpu xs) → Calls head xs seat cpu state inst dir how →
    Calls head (xs ++ e ∷ []) seat cpu state inst dir how
goes_on head xs e seat cpu state inst dir how own h other s rs a (inl w) =
    inl (walks_on head xs (xs ++ e ∷ []) seat cpu state inst dir how s (a w.entry.of w.entry.in_flight)
    (turn_on head xs seat cpu w.entry.of e own h w.entry.in_flight other w.turn) w)
goes_on head xs e seat cpu state inst dir how own h other s rs a (inr r) =
    inr (registers_on head xs (xs ++ e ∷ []) seat cpu state inst dir how s rs r)

-- an event with which none of it changes
same_by : (head : Head) (seat cpu state : ℕ) (xs : List Event) (e : Event) → walk_step cpu (walk cpu xs) xs e ≡ walk cpu xs →
    entries_step cpu (walk_entries cpu xs) xs e ≡ walk_entries cpu xs →
    registration_step (registration xs) xs e ≡ registration xs →
    registered_step head state (registered head state xs) xs e ≡ registered head state xs →
    sites_step state (sites state xs) xs e ≡ sites state xs →
    (ap_seat cpu xs ≡ Some seat → ap_step cpu (ap_seat cpu xs) xs e ≡ Some seat) →
    Same head seat cpu state xs (xs ++ e ∷ [])
same_by head seat cpu state xs e w es r f s a =
    record {
      walk_same = walk_push cpu xs e ∙ w;
      entries_same = walk_entries_push cpu xs e ∙ es;
      registration_same = registration_push xs e ∙ r;
      registered_same = registered_push head state xs e ∙ f;
      sites_same = sites_push state xs e ∙ s;
      thread_stays = λ h. ap_push cpu xs e ∙ a h;
    }

-- a thread that is in isn't admitted again, and stays while another leaves
admits_on : (head : Head) (xs : List Event) (cpu seat k : ℕ) (role : Role) → CanSit head xs role → ap_seat cpu xs ≡ Some seat →
    seated cpu k role (ap_seat cpu xs) ≡ Some seat
admits_on head xs cpu seat k Client can is = is
admits_on head xs cpu seat k (Ap c) can is = go (eqb c cpu) refl
  where
    go : (b : Bool) → eqb c cpu ≡ b → cond b (Some k) (ap_seat cpu xs) ≡ Some seat
    go true e =
        let same : ap_seat c xs ≡ ap_seat cpu xs = ap (λ z. ap_seat z xs) (eqb-true c cpu e) in
        absurd (none_some seat (sym can.1 ∙ (same ∙ is)))
    go false e = is

leaves_on : (xs : List Event) (cpu seat k : ℕ) → k ≢ seat → ap_seat cpu xs ≡ Some seat → unseated k (ap_seat cpu xs) ≡ Some seat
leaves_on xs cpu seat k other is = ap (unseated k) is ∙ go (eqb seat k) refl
  where
    go : (b : Bool) → eqb seat k ≡ b → cond b None (Some seat) ≡ Some seat
    go true e = absurd (other (sym (eqb-true seat k e)))
    go false e = refl

arms_on : (cpu k c : ℕ) (found new : Option ℕ) (there : Option Walk) (w : Walk) → there ≡ Some w →
    (is_some there && eqb c cpu) ≡ false → cond (eqb c cpu) new found ≡ found
arms_on cpu k c found new there w is calm = go (eqb c cpu) (ap (λ o. is_some o && eqb c cpu) (sym is) ∙ calm)
  where
    go : (b : Bool) → (true && b) ≡ false → cond b new found ≡ found
    go true e = absurd (true≢false e)
    go false e = refl

seat_is : (k j c c' s s' i i' : ℕ) (d d' : Dir) (how how' : How) → Call k c s i d how ≡ Call j c' s' i' d' how' → k ≡ j
seat_is k j c c' s s' i i' d d' how how' e = ap seat_of e

-- what can't come while an entry can
pub no_registration_begins : (head : Head) (xs : List Event) (seat cpu state inst : ℕ) (dir : Dir) (how : How) (k s : ℕ) (op : Op) →
    Calls head xs seat cpu state inst dir how → Comes head xs (RegBegin k s op) → ⊥
no_registration_begins head xs seat cpu state inst dir how k s op (inl w) h =
    none_some w.entry.of
    (sym (walk_none xs (begins_alone head xs op s h.state_is h.passes.not_waiting).0 cpu) ∙ w.entry.in_flight)
no_registration_begins head xs seat cpu state inst dir how k s op (inr r) h =
    true≢false (sym (ap is_some r.entry.in_flight) ∙ (begins_alone head xs op s h.state_is h.passes.not_waiting).1)

pub walk_kept : (head : Head) (xs : List Event) (c : ℕ) (w : Walk) → IsLawful head xs → walk c xs ≡ Some w → WalkKept head c w xs
walk_kept head xs c w lawful is = rw is at ((kept head xs lawful).at c).kept

registration_kept : (head : Head) (xs : List Event) (r : Registration) → IsLawful head xs → registration xs ≡ Some r →
    RegistrationKept head r xs
registration_kept head xs r lawful is = rw is at (kept head xs lawful).registration_kept

-- only one entry can come of each walk
pub one_calls : (head : Head) (xs : List Event) (seat k cpu c state s inst i : ℕ) (dir d : Dir) (how h : How) →
    IsLawful head xs → ((w v : Walk) → walk cpu xs ≡ Some w → walk c xs ≡ Some v → cpu ≡ c) →
    Calls head xs seat cpu state inst dir how → Calls head xs k c s i d h →
    Call seat cpu state inst dir how ≡ Call k c s i d h
one_calls head xs seat k cpu c state s inst i dir d how h lawful one (inl w) (inl v) =
    let same : cpu ≡ c = one w.entry.of v.entry.of w.entry.in_flight v.entry.in_flight in
    let moved = subst (λ z. InWalk head xs seat z state inst dir how) same w in
    ap (λ z. Call seat z state inst dir how) same
    ∙ one_entry head xs seat k c state s inst i dir d how h moved v
one_calls head xs seat k cpu c state s inst i dir d how h lawful one (inr r) (inr q) =
    one_registration_entry head xs seat k cpu c state s inst i dir d how h r q
one_calls head xs seat k cpu c state s inst i dir d how h lawful one (inl w) (inr r) =
    absurd (none_some r.entry.of
    (sym (walk_kept head xs cpu w.entry.of lawful w.entry.in_flight).no_registration ∙ r.entry.in_flight))
one_calls head xs seat k cpu c state s inst i dir d how h lawful one (inr r) (inl w) =
    absurd (none_some r.entry.of
    (sym (walk_kept head xs c w.entry.of lawful w.entry.in_flight).no_registration ∙ r.entry.in_flight))

pub no_registration_ends : (head : Head) (xs : List Event) (seat cpu state inst : ℕ) (dir : Dir) (how : How) (k : ℕ) (answer : _) →
    IsLawful head xs → Calls head xs seat cpu state inst dir how → RegEnds head xs k answer → ⊥
no_registration_ends head xs seat cpu state inst dir how k answer lawful (inl w) h =
    none_some h.of
    (sym (walk_kept head xs cpu w.entry.of lawful w.entry.in_flight).no_registration ∙ h.in_flight)
no_registration_ends head xs seat cpu state inst dir how k answer lawful (inr r) h =
    registration_ended head xs k cpu state inst dir how answer r.entry h

quietly : (head : Head) (xs : List Event) (seat cpu state inst : ℕ) (dir : Dir) (how : How) (e : Event) → Owners xs →
    Comes head xs e → seat_of e ≢ seat → Same head seat cpu state xs (xs ++ e ∷ []) →
    registration_entries_step (registration_entries xs) xs e ≡ registration_entries xs →
    armed cpu (xs ++ e ∷ []) ≡ armed cpu xs → Calls head xs seat cpu state inst dir how →
    Calls head (xs ++ e ∷ []) seat cpu state inst dir how
quietly head xs seat cpu state inst dir how e own h other s rs a calls =
    goes_on head xs e seat cpu state inst dir how own h other s (registration_entries_push xs e ∙ rs) (λ w is. a) calls

-- an event of the walk of another processor
beside : (head : Head) (xs : List Event) (seat cpu state inst : ℕ) (dir : Dir) (how : How) (e : Event) → Owners xs →
    Comes head xs e → seat_of e ≢ seat → Same head seat cpu state xs (xs ++ e ∷ []) →
    armed cpu (xs ++ e ∷ []) ≡ armed cpu xs → InWalk head xs seat cpu state inst dir how →
    InWalk head (xs ++ e ∷ []) seat cpu state inst dir how
beside head xs seat cpu state inst dir how e own h other s a w =
    walks_on head xs (xs ++ e ∷ []) seat cpu state inst dir how s a
    (turn_on head xs seat cpu w.entry.of e own h w.entry.in_flight other w.turn) w

-- at a state that no thread serves all entries are those of the operation's seat
own_state : (xs : List Event) (c s : ℕ) (how : How) (client seat : ℕ) → is_ap_state s ≡ false →
    caller xs c s how client ≡ Some seat → client ≡ seat
own_state xs c s how client seat none h = same_seat (rw none at h)
  where
    same_seat : Some client ≡ Some seat → client ≡ seat
    same_seat e = cc

-- so another seat's entry of another walk isn't one of the same hook, unless it is one beside
sites_on : (head : Head) (xs : List Event) (seat cpu state inst : ℕ) (dir : Dir) (how : How) (k c s i : ℕ) (d : Dir) (made : How) →
    IsLawful head xs → InWalk head xs seat cpu state inst dir how → InWalk head xs k c s i d made → k ≢ seat →
    calls_beside (Call seat cpu state inst dir how) (Call k c s i d made) ≡ false → (eqb s state && is_called made) ≡ false
sites_on head xs seat cpu state inst dir how k c s i d made lawful w v other calm = at (is_ap_state state) refl calm
  where
    seats : is_ap_state state ≡ false → s ≡ state → k ≡ seat
    seats none same =
        let mine = own_state xs cpu state how w.entry.of.seat seat none w.caller_is in
        let theirs =
        own_state xs c s made v.entry.of.seat k (ap is_ap_state same ∙ none) v.caller_is
        in
        let one = one_seats head xs lawful c cpu v.entry.of w.entry.of v.entry.in_flight w.entry.in_flight in
        sym theirs ∙ (one ∙ mine)

    here : is_ap_state state ≡ false → (b : Bool) → eqb s state ≡ b → (b && is_called made) ≡ false
    here none true e = absurd (other (seats none (eqb-true s state e)))
    here none false e = refl

    at : (b : Bool) → is_ap_state state ≡ b → (b && (eqb s state && is_called made)) ≡ false →
        (eqb s state && is_called made) ≡ false
    at true e h = h
    at false e h = here e (eqb s state) refl

calls_on : (head : Head) (xs : List Event) (seat cpu state inst : ℕ) (dir : Dir) (how : How) (k c s i : ℕ) (d : Dir) (made : How) →
    IsLawful head xs → Comes head xs (Call k c s i d made) → k ≢ seat →
    calls_beside (Call seat cpu state inst dir how) (Call k c s i d made) ≡ false →
    Calls head xs seat cpu state inst dir how → Calls head xs k c s i d made →
    Calls head (xs ++ Call k c s i d made ∷ []) seat cpu state inst dir how
calls_on head xs seat cpu state inst dir how k c s i d made lawful h other calm (inl w) (inl v) =
    inl (go (eqb c cpu) refl)
  where
    e1 : Event
    e1 = Call k c s i d made

    hook : (eqb s state && is_called made) ≡ false
    hook = sites_on head xs seat cpu state inst dir how k c s i d made lawful w v other calm

    go : (b : Bool) → eqb c cpu ≡ b → InWalk head (xs ++ e1 ∷ []) seat cpu state inst dir how
    go true q =
        let v1 = subst (λ z. InWalk head xs k z s i d made) (eqb-true c cpu q) v in
        absurd (other (sym (seat_is seat k cpu cpu state s inst i dir d how made
        (one_entry head xs seat k cpu state s inst i dir d how made w v1))))
    go false q =
        beside head xs seat cpu state inst dir how e1 (owners head xs lawful) h other
        (same_by head seat cpu state xs e1 refl (rw q refl) refl refl (rw hook refl) (λ a. a)) (armed_push cpu xs e1 ∙ rw q refl) w
calls_on head xs seat cpu state inst dir how k c s i d made lawful h other calm (inl w) (inr q) =
    absurd (none_some q.entry.of
    (sym (walk_kept head xs cpu w.entry.of lawful w.entry.in_flight).no_registration ∙ q.entry.in_flight))
calls_on head xs seat cpu state inst dir how k c s i d made lawful h other calm (inr r) (inl v) =
    absurd (none_some r.entry.of
    (sym (walk_kept head xs c v.entry.of lawful v.entry.in_flight).no_registration ∙ r.entry.in_flight))
calls_on head xs seat cpu state inst dir how k c s i d made lawful h other calm (inr r) (inr q) =
    absurd (other (sym (seat_is seat k cpu c state s inst i dir d how made
    (one_registration_entry head xs seat k cpu c state s inst i dir d how made r q))))

-- a walk that begins is of a processor that has none in flight
begins_on : (head : Head) (xs : List Event) (seat cpu state inst : ℕ) (dir : Dir) (how : How) (k c from to : ℕ) → Owners xs →
    Comes head xs (WalkBegin k c from to) → k ≢ seat → Calls head xs seat cpu state inst dir how →
    Calls head (xs ++ WalkBegin k c from to ∷ []) seat cpu state inst dir how
begins_on head xs seat cpu state inst dir how k c from to own h other (inl w) = inl (go (eqb c cpu) refl)
  where
    e1 : Event
    e1 = WalkBegin k c from to

    go : (b : Bool) → eqb c cpu ≡ b → InWalk head (xs ++ e1 ∷ []) seat cpu state inst dir how
    go true q =
        let none = begins_still head xs k c from to own h in
        let same = ap (λ z. walk z xs) (eqb-true c cpu q) in
        absurd (none_some w.entry.of (sym none ∙ (same ∙ w.entry.in_flight)))
    go false q =
        beside head xs seat cpu state inst dir how e1 own h other
        (same_by head seat cpu state xs e1 (rw q refl) (rw q refl) refl refl refl (λ a. a)) (armed_push cpu xs e1) w
begins_on head xs seat cpu state inst dir how k c from to own h other (inr r) =
    absurd (true≢false (sym (ap is_some r.entry.in_flight) ∙ (walks_alone xs h.no_wait own.batch_alone).1))

-- one that ends is another
ends_on : (head : Head) (xs : List Event) (seat cpu state inst : ℕ) (dir : Dir) (how : How) (k c : ℕ) (answer : Answer) →
    IsLawful head xs → Comes head xs (WalkEnd k c answer) → k ≢ seat → Calls head xs seat cpu state inst dir how →
    Calls head (xs ++ WalkEnd k c answer ∷ []) seat cpu state inst dir how
ends_on head xs seat cpu state inst dir how k c answer lawful h other (inl w) = inl (go (eqb c cpu) refl)
  where
    e1 : Event
    e1 = WalkEnd k c answer

    go : (b : Bool) → eqb c cpu ≡ b → InWalk head (xs ++ e1 ∷ []) seat cpu state inst dir how
    go true q =
        let moved = subst (λ z. WalkEntry head xs z state inst dir how) (sym (eqb-true c cpu q)) w.entry in
        absurd (walk_ended head xs k c state inst dir how answer moved h)
    go false q =
        beside head xs seat cpu state inst dir how e1 (owners head xs lawful) h other
        (same_by head seat cpu state xs e1 (rw q refl) refl refl refl refl (λ a. a)) (armed_push cpu xs e1) w
ends_on head xs seat cpu state inst dir how k c answer lawful h other (inr r) =
    absurd (none_some h.of ((sym ((registration_kept head xs r.entry.of lawful r.entry.in_flight).no_walk c)) ∙ h.in_flight))

pub calls_stay : (head : Head) (xs : List Event) (seat cpu state inst : ℕ) (dir : Dir) (how : How) (e : Event) →
    IsLawful head xs → Calls head xs seat cpu state inst dir how → Comes head xs e → seat_of e ≢ seat →
    (is_some (walk cpu xs) && arms cpu e) ≡ false → calls_beside (Call seat cpu state inst dir how) e ≡ false →
    Calls head (xs ++ e ∷ []) seat cpu state inst dir how
calls_stay head xs seat cpu state inst dir how (Admit k role) lawful calls h other calm lone =
    quietly head xs seat cpu state inst dir how (Admit k role) (owners head xs lawful) h other
    (same_by head seat cpu state xs (Admit k role) refl refl refl refl refl (admits_on head xs cpu seat k role h.can_sit)) refl (armed_push cpu xs (Admit k role)) calls
calls_stay head xs seat cpu state inst dir how (Leave k) lawful calls h other calm lone =
    quietly head xs seat cpu state inst dir how (Leave k) (owners head xs lawful) h other
    (same_by head seat cpu state xs (Leave k) refl refl refl refl refl (leaves_on xs cpu seat k other)) refl (armed_push cpu xs (Leave k)) calls
calls_stay head xs seat cpu state inst dir how (Armed k c value) lawful calls h other calm lone =
    goes_on head xs (Armed k c value) seat cpu state inst dir how (owners head xs lawful) h other
    (same_by head seat cpu state xs (Armed k c value) refl refl refl refl refl (λ a. a))
    (registration_entries_push xs (Armed k c value))
    (λ w is. armed_push cpu xs (Armed k c value) ∙ arms_on cpu k c (armed cpu xs) _ (walk cpu xs) w is calm) calls
calls_stay head xs seat cpu state inst dir how (Call k c s i d made) lawful calls h other calm lone =
    calls_on head xs seat cpu state inst dir how k c s i d made lawful h other lone calls h
calls_stay head xs seat cpu state inst dir how (WalkBegin k c from to) lawful calls h other calm lone =
    begins_on head xs seat cpu state inst dir how k c from to (owners head xs lawful) h other calls
calls_stay head xs seat cpu state inst dir how (WalkEnd k c answer) lawful calls h other calm lone =
    ends_on head xs seat cpu state inst dir how k c answer lawful h other calls
calls_stay head xs seat cpu state inst dir how (RegBegin k s op) lawful calls h other calm lone =
    absurd (no_registration_begins head xs seat cpu state inst dir how k s op calls h)
calls_stay head xs seat cpu state inst dir how (RegEnd k answer) lawful calls h other calm lone =
    absurd (no_registration_ends head xs seat cpu state inst dir how k answer lawful calls h)
calls_stay head xs seat cpu state inst dir how e lawful calls h other calm lone =
    quietly head xs seat cpu state inst dir how e (owners head xs lawful) h other
    (same_by head seat cpu state xs e refl refl refl refl refl (λ a. a)) refl (armed_push cpu xs e) calls

-- what is due stays due
pub due_stays : (head : Head) (xs : List Event) (seat : ℕ) (c e : Event) → IsLawful head xs → due_entry head xs seat ≡ Some c →
    Stands head xs e → seat_of e ≢ seat → arms_walker xs c e ≡ false → calls_beside c e ≡ false →
    due_entry head (xs ++ e ∷ []) seat ≡ Some c
due_stays head xs seat c e lawful due stands other calm lone = go c (due_stands head xs seat c due) calm lone
  where
    go : (c : Event) → Stands head xs c × (is_call c ≡ true) × (seat_of c ≡ seat) → arms_walker xs c e ≡ false →
        calls_beside c e ≡ false → due_entry head (xs ++ e ∷ []) seat ≡ Some c
    go (Call k cpu state inst dir how) h calm lone =
        let apart : seat_of e ≢ k = λ is. other (is ∙ h.2) in
        due_gives head (xs ++ e ∷ []) seat (Call k cpu state inst dir how) (lawful_more head xs e lawful stands)
        (calls_stay head xs k cpu state inst dir how e lawful h.0.0 stands.0 apart calm lone, refl) refl h.2
    go d h calm lone = absurd (true≢false (sym h.1))

-- and it is all that is due of its processor
due_same : (head : Head) (xs : List Event) (seat other : ℕ) (c d : Event) → IsLawful head xs →
    ((w v : Walk) → walk (cpu_of c) xs ≡ Some w → walk (cpu_of d) xs ≡ Some v → cpu_of c ≡ cpu_of d) →
    due_entry head xs seat ≡ Some c → due_entry head xs other ≡ Some d → c ≡ d
due_same head xs seat other c d lawful one a b = go c d one (due_stands head xs seat c a) (due_stands head xs other d b)
  where
    go : (c d : Event) → ((w v : Walk) → walk (cpu_of c) xs ≡ Some w → walk (cpu_of d) xs ≡ Some v → cpu_of c ≡ cpu_of d) →
        Stands head xs c × (is_call c ≡ true) × (seat_of c ≡ seat) →
        Stands head xs d × (is_call d ≡ true) × (seat_of d ≡ other) → c ≡ d
    go (Call k cpu state inst dir how) (Call j c' s i d h) one a b =
        one_calls head xs k j cpu c' state s inst i dir d how h lawful one a.0.0 b.0.0
    go (Call k cpu state inst dir how) d one a b = absurd (true≢false (sym b.1))
    go c d one a b = absurd (true≢false (sym a.1))

pub due_one : (head : Head) (xs : List Event) (seat other : ℕ) (c d : Event) → IsLawful head xs → due_entry head xs seat ≡ Some c →
    due_entry head xs other ≡ Some d → cpu_of c ≡ cpu_of d → c ≡ d
due_one head xs seat other c d lawful a b same = due_same head xs seat other c d lawful (λ w v p q. same) a b

-- but in an upmany it is all that is due
pub due_alone : (head : Head) (xs : List Event) (seat other : ℕ) (c d : Event) → IsLawful head xs → due_entry head xs seat ≡ Some c →
    due_entry head xs other ≡ Some d → held_by is_upmany (operation xs) ≡ false → c ≡ d
due_alone head xs seat other c d lawful a b single =
    due_same head xs seat other c d lawful
    (λ w v p q. (owners head xs lawful).one_walk (cpu_of c) (cpu_of d) w v p q single) a b

-- the entry that is due can come
pub due_calls : (head : Head) (xs : List Event) (j k cpu state inst : ℕ) (dir : Dir) (how : How) →
    due_entry head xs j ≡ Some (Call k cpu state inst dir how) → Calls head xs k cpu state inst dir how × (k ≡ j)
due_calls head xs j k cpu state inst dir how due =
    let h = due_stands head xs j (Call k cpu state inst dir how) due in (h.0.0, h.2)

-- by a seat that is in
caller_in : (head : Head) (xs : List Event) (seat cpu state inst : ℕ) (dir : Dir) (how : How) → IsLawful head xs →
    Calls head xs seat cpu state inst dir how → (role : Role) × (role_of seat xs ≡ Some role)
caller_in head xs seat cpu state inst dir how lawful (inl w) =
    go (called_by (is_made_by_ap state how) (ap_seat cpu xs) w.entry.of.seat seat w.caller_is)
  where
    o : Owners xs
    o = owners head xs lawful

    go : (w.entry.of.seat ≡ seat) ⊎ (ap_seat cpu xs ≡ Some seat) → (role : Role) × (role_of seat xs ≡ Some role)
    go (inl s) =
        let p = o.walk_op cpu w.entry.of w.entry.in_flight in
        (Client, subst (λ z. role_of z xs ≡ Some Client) (p.2 ∙ s) (o.op_client p.0 p.1))
    go (inr a) = (Ap cpu, o.ap_role cpu seat a)
caller_in head xs seat cpu state inst dir how lawful (inr r) =
    go (called_by (is_made_by_ap state how) (ap_seat cpu xs) r.entry.of.seat seat r.caller_is)
  where
    o : Owners xs
    o = owners head xs lawful

    go : (r.entry.of.seat ≡ seat) ⊎ (ap_seat cpu xs ≡ Some seat) → (role : Role) × (role_of seat xs ≡ Some role)
    go (inl s) = (Client, subst (λ z. role_of z xs ≡ Some Client) s (o.reg_client r.entry.of r.entry.in_flight))
    go (inr a) = (Ap cpu, o.ap_role cpu seat a)

-- which is not the next that is admitted
pub caller_below : (head : Head) (xs : List Event) (seat cpu state inst : ℕ) (dir : Dir) (how : How) → IsLawful head xs →
    Calls head xs seat cpu state inst dir how → seat < admits xs
caller_below head xs seat cpu state inst dir how lawful h =
    let r = caller_in head xs seat cpu state inst dir how lawful h in (owners head xs lawful).seats_below seat r.0 r.1

-- it is one of a walk where no registration is in flight
pub walk_or_registration : (head : Head) (xs : List Event) (seat cpu state inst : ℕ) (dir : Dir) (how : How) → IsLawful head xs →
    Calls head xs seat cpu state inst dir how → is_some (walk cpu xs) ≡ is_none (registration xs)
walk_or_registration head xs seat cpu state inst dir how lawful (inl w) =
    let none = (walk_kept head xs cpu w.entry.of lawful w.entry.in_flight).no_registration in
    ap is_some w.entry.in_flight ∙ sym (ap is_none none)
walk_or_registration head xs seat cpu state inst dir how lawful (inr r) =
    let none = (registration_kept head xs r.entry.of lawful r.entry.in_flight).no_walk cpu in
    ap is_some none ∙ sym (ap is_none r.entry.in_flight)
