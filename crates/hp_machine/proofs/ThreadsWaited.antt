-- For whose thread the client of what is under way waits: its next entry is that thread's, and nobody else waits so.
use Rattle.std.proofs.Common.{◌≡◌, ℕ, Bool, true, false, cond, eqb, is_some, ◌↔◌, Option, Some, None, List, [], ◌∷◌, ◌⊎◌, inl, inr, refl, ap, sym, subst, ◌∙◌}
use Rattle.std.specs.Prelude.{option_map, option_to_list}
use Rattle.std.proofs.lemmas.Bool.{true≢false, false≢true, eqb-true, eq-eqb}
use Rattle.hp_model.proofs.EntryStays.{walk_kept}
use Rattle.hp_states.proofs.Basics.{none_some, same_some}
use Rattle.hp_event.specs.declared.op.Op.TheVariants as op
use Rattle.hp_event.specs.declared.head.Head.{Head}
use Rattle.hp_event.specs.declared.event.Event.{Event}
use Rattle.hp_event.specs.declared.event.Event.TheVariants.{Call}
use Rattle.hp_model.specs.ApTurn.{IsEntryOf, IsApTurn}
use Rattle.hp_model.specs.Batch.{is_upmany}
use Rattle.hp_model.specs.BatchTurn.{lowest_walking}
use Rattle.hp_model.specs.Events.{seat_of}
use Rattle.hp_model.specs.Lawful.{IsLawful}
use Rattle.hp_model.specs.Lists.{among}
use Rattle.hp_model.specs.MapLock.{Operation, operation}
use Rattle.hp_model.specs.Registrations.{Registration, registration}
use Rattle.hp_model.specs.Seats.{ap_seat, role_of}
use Rattle.hp_model.specs.Suspend.{held_by}
use Rattle.hp_model.specs.UnderWay.{next_of_registration, under_way}
use Rattle.hp_model.specs.Walks.{Walk, walk, walking}
use Rattle.hp_model.proofs.InFlight.{walking_is, none_walking}
use Rattle.hp_model.proofs.OneNext.{owners}
use Rattle.hp_model.proofs.OneRegistration.{same_registration_entry}
use Rattle.hp_model.proofs.Owners.{Owners}
use Rattle.hp_model.proofs.Stages.{ap_no_client}
use Rattle.hp_model.proofs.RegistrationGives.{gives_by_caller}
use Rattle.hp_model.proofs.Induction.{kept}
use Rattle.hp_model.proofs.Kept.{RegistrationKept}
use Rattle.hp_account.specs.declared.under_way.NextStep.{NextStep}
use Rattle.hp_account.specs.declared.under_way.NextStep.TheVariants as coming
use Rattle.hp_account.specs.NextStep.{IsComing, IsInFlightOf, IsByThread, end_event, waits_by}
use Rattle.hp_account.specs.Entries.{entry_event}
use Rattle.hp_machine.proofs.BatchSaid.{waits_for_lowest}
use Rattle.hp_machine.proofs.BusyNext.{found}
use Rattle.hp_machine.proofs.HolderRests.{holder_busy, held_up_rests}

-- ---- whose next entry is a thread's

-- while a registration is in flight nothing walks
no_walks : (head : Head) (es : List Event) (r : Registration) → IsLawful head es → registration es ≡ Some r → walking es ≡ []
no_walks head es r lawful at =
    let k : RegistrationKept head r es = rw at at (kept head es lawful).registration_kept in none_walking es k.no_walk

-- it is the client of what is under way
same_client : (head : Head) (es : List Event) (k c client : ℕ) → IsLawful head es → IsApTurn head es k c → IsInFlightOf es client →
    client ≡ k
same_client head es k c client lawful t flies = go t.entry flies
  where
    own : Owners es
    own = owners head es lawful

    go : IsEntryOf head es k c t.state t.inst t.dir t.how → IsInFlightOf es client → client ≡ k
    go (inl e) (inl f) =
        let p = own.walk_op c e.0.of e.0.in_flight in
        let q = own.walk_op f.0 f.1 f.2 in
        let one : q.0 ≡ p.0 = same_some q.0 p.0 (sym q.1 ∙ p.1) in
        sym f.3 ∙ (sym q.2 ∙ (ap (λ z. z.seat) one ∙ (p.2 ∙ e.1)))
    go (inl e) (inr f) =
        absurd (false≢true (sym (ap (among c) f.3) ∙ (walking_is c es ∙ ap is_some e.0.in_flight)))
    go (inr e) (inl f) = absurd (none_some e.0.of (sym (walk_kept head es f.0 f.1 lawful f.2).no_registration ∙ e.0.in_flight))
    go (inr e) (inr f) = sym f.2 ∙ (ap (λ z. z.seat) (same_some f.0 e.0.of (sym f.1 ∙ e.0.in_flight)) ∙ e.1)

-- it waits for one thread at most
pub one_wait : (head : Head) (es : List Event) (k c d : ℕ) → IsLawful head es → IsApTurn head es k c → IsApTurn head es k d → c ≡ d
one_wait head es k c d lawful t u = go t.entry u.entry
  where
    own : Owners es
    own = owners head es lawful

    walks : (o : Operation) → operation es ≡ Some o → o.seat ≡ k → (v w : Walk) → walk c es ≡ Some v → walk d es ≡ Some w →
        (b : Bool) → is_upmany o.op ≡ b → c ≡ d
    walks o held s v w at there true up =
        let lowest : (n : ℕ) → IsApTurn head es k n → lowest_walking head es ≡ Some n =
        λ n turn. waits_for_lowest head es o n held up (subst (λ z. IsApTurn head es z n) (sym s) turn) in
        same_some c d (sym (lowest c t) ∙ lowest d u)
    walks o held s v w at there false up = own.one_walk c d v w at there (ap (held_by is_upmany) held ∙ up)

    go : IsEntryOf head es k c t.state t.inst t.dir t.how → IsEntryOf head es k d u.state u.inst u.dir u.how → c ≡ d
    go (inl e) (inl f) =
        let p = own.walk_op c e.0.of e.0.in_flight in
        walks p.0 p.1 (p.2 ∙ e.1) e.0.of f.0.of e.0.in_flight f.0.in_flight (is_upmany p.0.op) refl
    go (inl e) (inr f) = absurd (none_some f.0.of (sym (walk_kept head es c e.0.of lawful e.0.in_flight).no_registration ∙ f.0.in_flight))
    go (inr e) (inl f) = absurd (none_some e.0.of (sym (walk_kept head es d f.0.of lawful f.0.in_flight).no_registration ∙ e.0.in_flight))
    go (inr e) (inr f) =
        (same_registration_entry head es c d t.state u.state t.inst u.inst t.dir u.dir t.how u.how e.0 f.0).0

-- and has no event of its own meanwhile
no_own : (head : Head) (es : List Event) (k c : ℕ) (x : Event) → IsLawful head es → IsApTurn head es k c → under_way head es ≡ x ∷ [] →
    seat_of x ≡ k → ⊥
unfolding under_way
no_own head es k c x lawful t only by = go t.entry
  where
    own : Owners es
    own = owners head es lawful

    held : (o : Operation) → operation es ≡ Some o → o.seat ≡ k → ⊥
    held o at s =
        let mine = eq-eqb (seat_of x) o.seat (by ∙ sym s) in
        none_some x (sym (held_up_rests head es o c op.Lock lawful at (subst (λ z. IsApTurn head es z c) (sym s) t))
        ∙ found head es o.seat op.Lock x (holder_busy es o at) only mine)

    same_event : (y : Event) → y ∷ [] ≡ x ∷ [] → y ≡ x
    same_event y h = cc

    not_none : [] ≡ x ∷ [] → ⊥
    not_none h = cc

    thread : (r : Registration) → registration es ≡ Some r → r.seat ≡ k → (v : Option ℕ) → ap_seat c es ≡ v →
        option_to_list (option_map (λ j. Call j c t.state t.inst t.dir t.how) v) ≡ x ∷ [] → ⊥
    thread r at s None a h = not_none h
    thread r at s (Some j) a h =
        let e = same_event (Call j c t.state t.inst t.dir t.how) h in
        let mine : j ≡ r.seat = ap seat_of e ∙ (by ∙ sym s) in
        ap_no_client es c j own a (ap (λ z. role_of z es) mine ∙ own.reg_client r at)

    go : IsEntryOf head es k c t.state t.inst t.dir t.how → ⊥
    go (inl e) = let p = own.walk_op c e.0.of e.0.in_flight in held p.0 p.1 (p.2 ∙ e.1)
    go (inr e) =
        let still = no_walks head es e.0.of lawful e.0.in_flight in
        let made = t.by_thread in
        let given : next_of_registration head es (registration es) ≡ option_map (λ j. Call j c t.state t.inst t.dir t.how) (ap_seat c es) =
        gives_by_caller head es c t.state t.inst t.dir t.how e.0 ∙ rw made refl in
        let listed : option_to_list (option_map (λ j. Call j c t.state t.inst t.dir t.how) (ap_seat c es)) ≡ x ∷ [] =
        ap option_to_list (sym given) ∙ (sym (rw still refl) ∙ only) in
        thread e.0.of e.0.in_flight e.1 (ap_seat c es) refl listed

-- ---- what the account answers
pub coming_waits : (head : Head) (es : List Event) (what : NextStep) → IsLawful head es → IsComing head es what → (k c : ℕ) →
    IsApTurn head es k c ↔ (waits_by k what ≡ Some c)
coming_waits head es (coming.Entry client cpu None) lawful is k c = (there, λ h. back (eqb client k) refl h)
  where
    there : IsApTurn head es k c → waits_by k (coming.Entry client cpu None) ≡ Some c
    there t =
        let s = same_client head es k c client lawful t is.of_client in
        let own = eq-eqb client k s in
        rw own (ap Some (one_wait head es k cpu c lawful (subst (λ z. IsApTurn head es z cpu) s is.turn) t))

    back : (b : Bool) → eqb client k ≡ b → cond b (Some cpu) None ≡ Some c → IsApTurn head es k c
    back true own h =
        subst (λ z. IsApTurn head es z c) (eqb-true client k own)
        (subst (λ z. IsApTurn head es client z) (same_some cpu c h) is.turn)
    back false own h = absurd (none_some c h)
coming_waits head es (coming.Entry client cpu (Some x)) lawful is k c = (there, λ h. back (eqb client k) (eqb x.seat k) refl refl h)
  where
    there : IsApTurn head es k c → waits_by k (coming.Entry client cpu (Some x)) ≡ Some c
    there t = go (eqb x.seat k) refl is.made_by
      where
        s : client ≡ k
        s = same_client head es k c client lawful t is.of_client

        none : x.seat ≡ k → ⊥
        none own = no_own head es k c (entry_event head es x) lawful t is.only own

        go : (b : Bool) → eqb x.seat k ≡ b → (x.seat ≡ client) ⊎ IsByThread head es client cpu x.seat →
            waits_by k (coming.Entry client cpu (Some x)) ≡ Some c
        go true m by = absurd (none (eqb-true x.seat k m))
        go false m (inl own) = absurd (none (own ∙ s))
        go false m (inr b) =
            let own = eq-eqb client k s in
            rw (own, m) (ap Some (one_wait head es k cpu c lawful (subst (λ z. IsApTurn head es z cpu) s b.turn) t))

    back : (b m : Bool) → eqb client k ≡ b → eqb x.seat k ≡ m → cond b (cond m None (Some cpu)) None ≡ Some c → IsApTurn head es k c
    back false m own made h = absurd (none_some c h)
    back true true own made h = absurd (none_some c h)
    back true false own made h = by is.made_by
      where
        by : (x.seat ≡ client) ⊎ IsByThread head es client cpu x.seat → IsApTurn head es k c
        by (inl e) = absurd (true≢false (sym (eq-eqb x.seat k (e ∙ eqb-true client k own)) ∙ made))
        by (inr e) =
            subst (λ z. IsApTurn head es z c) (eqb-true client k own)
            (subst (λ z. IsApTurn head es client z) (same_some cpu c h) e.turn)
coming_waits head es (coming.End e) lawful is k c = (
  λ t. absurd (no_own head es k c (end_event e) lawful t is.only (same_client head es k c (seat_of (end_event e)) lawful t is.of_client)),
  λ h. absurd (none_some c h),
)
