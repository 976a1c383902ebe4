-- What is under way can come, and the entry that is due from a seat is exactly the Call of it that stands.
use Rattle.std.proofs.Common.{◌≡◌, ℕ, Bool, true, false, ◌&&◌, cond, eqb, is_some, Option, Some, None, List, refl, ap, sym, ◌∙◌, inl, inr, ◌⊎◌, subst}
use Rattle.std.specs.Prelude.{option_to_list, filter_map, ◌↔◌}
use Rattle.std.proofs.lemmas.Bool.{true≢false, eqb-true, eq-eqb, and_parts}
use Rattle.hp_states.proofs.Basics.{none_some, same_some}
use Rattle.hp_states.specs.declared.dir.Dir.{Dir}
use Rattle.hp_event.specs.declared.how.How.{How}
use Rattle.hp_event.specs.declared.op.Op.{Op}
use Rattle.hp_event.specs.declared.head.Head.{Head}
use Rattle.hp_event.specs.declared.event.Event.{Event}
use Rattle.hp_event.specs.declared.event.Event.TheVariants.{Call}
use Rattle.hp_model.specs.Events.{seat_of, is_call, is_registration_op, BelongsTo}
use Rattle.hp_model.specs.Walks.{Walk, walk, walking}
use Rattle.hp_model.specs.Registrations.{Registration, registration}
use Rattle.hp_model.specs.MapLock.{is_map_op}
use Rattle.hp_model.specs.StandsCalls.{InWalk, InRegistration, Calls}
use Rattle.hp_model.specs.Lawful.{Stands, IsLawful}
use Rattle.hp_model.specs.UnderWay.{next_of_walk, next_of_registration, in_turn, event_in_turn, under_way}
use Rattle.hp_model.specs.BatchTurn.{has_turn}
use Rattle.hp_model.specs.NextEvent.{due_entry}
use Rattle.hp_model.proofs.InFlight.{walking_is}
use Rattle.hp_model.proofs.OneNext.{one_next}
use Rattle.hp_model.proofs.WalkGives as by_walk
use Rattle.hp_model.proofs.Errands.{Given}
use Rattle.hp_model.proofs.WalkGives.{walk_given}
use Rattle.hp_model.proofs.RegistrationGives as by_registration
use Rattle.hp_model.proofs.RegistrationGives.{registration_given}
use Rattle.hp_model.proofs.Members.{Has, has_left, has_right, has_either, has_map, of_map, of_listed, has_listed, found, not_found}

-- what is under way can come
pub data UnderWay (head : Head) (xs : List Event) (e : Event) : Type 0 where
  of_walk : (c : ℕ) (w : Walk) → walk c xs ≡ Some w → Given head xs w.seat is_map_op e → UnderWay head xs e
  of_registration : (r : Registration) → registration xs ≡ Some r → Given head xs r.seat is_registration_op e → UnderWay head xs e

walk_way : (head : Head) (xs : List Event) (c : ℕ) (e : Event) (o : Option Walk) → walk c xs ≡ o →
    has_turn head xs (seat_of e) c ≡ true → next_of_walk head xs c o ≡ Some e → UnderWay head xs e
walk_way head xs c e None at t h = absurd (none_some e h)
walk_way head xs c e (Some w) at t h = of_walk c w at (walk_given head xs c w e at t h)

-- what is given in turn
turn_given : (head : Head) (xs : List Event) (c : ℕ) (e : Event) (o : Option Event) → in_turn head xs c o ≡ Some e →
    (o ≡ Some e) × (has_turn head xs (seat_of e) c ≡ true)
turn_given head xs c e None h = absurd (none_some e h)
turn_given head xs c e (Some x) h = go (has_turn head xs (seat_of x) c) refl h
  where
    go : (b : Bool) → has_turn head xs (seat_of x) c ≡ b → cond b (Some x) None ≡ Some e →
        (Some x ≡ Some e) × (has_turn head xs (seat_of e) c ≡ true)
    go true t g = (g, rw (same_some x e g) at t)
    go false t g = absurd (none_some e g)

registration_way : (head : Head) (xs : List Event) (e : Event) (o : Option Registration) → registration xs ≡ o →
    next_of_registration head xs o ≡ Some e → UnderWay head xs e
registration_way head xs e None at h = absurd (none_some e h)
registration_way head xs e (Some r) at h = of_registration r at (registration_given head xs r e at h)

pub under_comes : (head : Head) (xs : List Event) (e : Event) → Has (under_way head xs) e → UnderWay head xs e
unfolding under_way
under_comes head xs e h =
    go (has_either (filter_map (event_in_turn head xs) (walking xs)) (option_to_list (next_of_registration head xs (registration xs))) e h)
  where
    go : Has (filter_map (event_in_turn head xs) (walking xs)) e
        ⊎ Has (option_to_list (next_of_registration head xs (registration xs))) e → UnderWay head xs e
    go (inl m) =
        let f = of_map (event_in_turn head xs) (walking xs) e m in
        let g = turn_given head xs f.0 e (next_of_walk head xs f.0 (walk f.0 xs)) f.1 in
        walk_way head xs f.0 e (walk f.0 xs) refl g.1 g.0
    go (inr m) = registration_way head xs e (registration xs) refl (of_listed (next_of_registration head xs (registration xs)) e m)

some_is : {A : Type 0} (o : Option A) (x : A) → o ≡ Some x → is_some o ≡ true
some_is o x h = rw h refl

pub walk_under : (head : Head) (xs : List Event) (c : ℕ) (w : Walk) (e : Event) → walk c xs ≡ Some w →
    has_turn head xs (seat_of e) c ≡ true → next_of_walk head xs c (walk c xs) ≡ Some e → Has (under_way head xs) e
unfolding under_way
walk_under head xs c w e at t h =
    has_left (filter_map (event_in_turn head xs) (walking xs)) (option_to_list (next_of_registration head xs (registration xs))) e
    (has_map (event_in_turn head xs) (walking xs) c e (walking_is c xs ∙ some_is (walk c xs) w at) (ap (in_turn head xs c) h ∙ rw t refl))

pub registration_under : (head : Head) (xs : List Event) (e : Event) → next_of_registration head xs (registration xs) ≡ Some e →
    Has (under_way head xs) e
unfolding under_way
registration_under head xs e h =
    has_right (filter_map (event_in_turn head xs) (walking xs)) (option_to_list (next_of_registration head xs (registration xs))) e
    (has_listed (next_of_registration head xs (registration xs)) e h)

pub stands_given : (head : Head) (xs : List Event) (e : Event) → UnderWay head xs e → Stands head xs e
stands_given head xs e (of_walk c w at g) = let n = g.takes_none in (g.comes, rw n refl)
stands_given head xs e (of_registration r at g) = let n = g.takes_none in (g.comes, rw n refl)

pub call_belongs : (op : Op) (e : Event) → is_call e ≡ true → BelongsTo op e
call_belongs op (Call seat cpu state inst dir how) h = tt
call_belongs op e h = absurd (true≢false (sym h))

-- every entry that stands is under way
pub entry_under : (head : Head) (xs : List Event) (e : Event) → Stands head xs e → is_call e ≡ true → Has (under_way head xs) e
entry_under head xs (Call seat cpu state inst dir how) h c = go h.0
  where
    go : InWalk head xs seat cpu state inst dir how ⊎ InRegistration head xs seat cpu state inst dir how →
        Has (under_way head xs) (Call seat cpu state inst dir how)
    go (inl w) = walk_under head xs cpu w.entry.of _ w.entry.in_flight w.turn (by_walk.gives_entry head xs seat cpu state inst dir how w)
    go (inr r) = registration_under head xs _ (by_registration.gives_entry head xs seat cpu state inst dir how r)
entry_under head xs e h c = absurd (true≢false (sym c))

-- what is due from a seat
pub due_stands : (head : Head) (xs : List Event) (k : ℕ) (e : Event) → due_entry head xs k ≡ Some e →
    Stands head xs e × (is_call e ≡ true) × (seat_of e ≡ k)
unfolding due_entry
due_stands head xs k e h =
    let f = found (λ e. is_call e && eqb (seat_of e) k) (under_way head xs) e h in
    let p = and_parts (is_call e) (eqb (seat_of e) k) f.0 in
    (stands_given head xs e (under_comes head xs e f.1), p.0, eqb-true (seat_of e) k p.1)

due_none : (head : Head) (xs : List Event) (k : ℕ) (e : Event) → Stands head xs e → is_call e ≡ true → seat_of e ≡ k →
    due_entry head xs k ≡ None → ⊥
unfolding due_entry
due_none head xs k e h c s f =
    let self = eq-eqb (seat_of e) k s in
    not_found (λ e. is_call e && eqb (seat_of e) k) (under_way head xs) e f (entry_under head xs e h c) (rw (c, self) refl)

pub due_gives : (head : Head) (xs : List Event) (k : ℕ) (e : Event) → IsLawful head xs → Stands head xs e → is_call e ≡ true →
    seat_of e ≡ k → due_entry head xs k ≡ Some e
due_gives head xs k e lawful h c s = go (due_entry head xs k) refl
  where
    go : (o : Option Event) → due_entry head xs k ≡ o → due_entry head xs k ≡ Some e
    go None f = absurd (due_none head xs k e h c s f)
    go (Some g) f =
        let d = due_stands head xs k g f in
        f ∙ ap Some (one_next head xs Op.Lock g e lawful d.0 h (d.2 ∙ sym s) (call_belongs Op.Lock g d.1) (call_belongs Op.Lock e c))

pub due_exactly : (head : Head) (xs : List Event) (k : ℕ) (e : Event) → IsLawful head xs →
    (due_entry head xs k ≡ Some e) ↔ (Stands head xs e × (is_call e ≡ true) × (seat_of e ≡ k))
due_exactly head xs k e lawful = (due_stands head xs k e, λ h. due_gives head xs k e lawful h.0 h.1 h.2)

-- nothing is due where no entry of the seat can come
pub due_nothing : (head : Head) (xs : List Event) (k : ℕ) →
    (due_entry head xs k ≡ None)
    ↔ ((cpu state inst : ℕ) (dir : Dir) (how : How) → Calls head xs k cpu state inst dir how → ⊥)
due_nothing head xs k = (
  λ n cpu state inst dir how c. due_none head xs k (Call k cpu state inst dir how) (c, refl) refl refl n,
  λ h. go (due_entry head xs k) refl h,
)
  where
    made : (e : Event) → Stands head xs e → is_call e ≡ true → seat_of e ≡ k →
        ((cpu state inst : ℕ) (dir : Dir) (how : How) → Calls head xs k cpu state inst dir how → ⊥) → ⊥
    made (Call seat cpu state inst dir how) s c e h =
        h cpu state inst dir how (subst (λ z. Calls head xs z cpu state inst dir how) e s.0)
    made e s c q h = true≢false (sym c)

    go : (o : Option Event) → due_entry head xs k ≡ o →
        ((cpu state inst : ℕ) (dir : Dir) (how : How) → Calls head xs k cpu state inst dir how → ⊥) → o ≡ None
    go None f h = refl
    go (Some e) f h = let d = due_stands head xs k e f in absurd (made e d.0 d.1 d.2 h)
