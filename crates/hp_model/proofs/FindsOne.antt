-- Where a processor's thread has to make the next entry, the client's operation has no event, isn't answered LogFull
-- and waits for nothing else. So a turn finds one of the four.
use Rattle.std.proofs.Common.{◌≡◌, ℕ, ◌<◌, Bool, true, false, cond, Some, None, List, [], ◌∷◌, refl, ap, sym, ◌∙◌, subst, inl, inr, ◌⊎◌, arith}
use Rattle.std.proofs.lemmas.Bool.{true≢false, false≢true}
use Rattle.hp_states.proofs.Basics.{none_some}
use Rattle.hp_event.specs.declared.op.Op.{Op}
use Rattle.hp_event.specs.declared.how.How.{How}
use Rattle.hp_event.specs.declared.event.Role.TheVariants.{Client}
use Rattle.hp_event.specs.declared.head.Head.{Head}
use Rattle.hp_event.specs.declared.event.Event.{Event}
use Rattle.hp_event.specs.declared.event.Event.TheVariants.{Admit, Leave, WalkBegin, Call, WalkEnd, OpEnd, RegEnd}
use Rattle.hp_model.specs.Events.{seat_of, BelongsTo}
use Rattle.hp_model.specs.Lists.{is_empty, occurs}
use Rattle.hp_model.specs.Walks.{Walk, walk, is_walking}
use Rattle.hp_model.specs.Suspend.{held_by}
use Rattle.hp_model.specs.Sequence.{walks, next, is_between}
use Rattle.hp_model.specs.Batch.{is_upmany, batch, unbegun}
use Rattle.hp_model.specs.BatchTurn.{has_turn}
use Rattle.hp_model.specs.Registrations.{registration}
use Rattle.hp_model.specs.MapLock.{Operation, operation}
use Rattle.hp_model.specs.Seats.{role_of, ap_seat, is_busy, IsFree}
use Rattle.hp_model.specs.SeatWaits.{wait_of_holder, wait}
use Rattle.hp_model.specs.Waits.{Wait, wait_to_begin}
use Rattle.hp_model.specs.Caller.{is_made_by_ap, caller}
use Rattle.hp_model.specs.StandsCalls.{WalkEntry, InWalk, InRegistration}
use Rattle.hp_model.specs.StandsOperations.{WalkEnds, IsOver, IsCut}
use Rattle.hp_model.specs.Lawful.{Comes, IsLawful}
use Rattle.hp_model.specs.Pending.{Pending, IsAllowed}
use Rattle.hp_model.specs.ApTurn.{IsEntryOf, IsApTurn}
use Rattle.hp_model.specs.Turns.{FindsOne}
use Rattle.hp_model.proofs.InFlight.{walk_none}
use Rattle.hp_model.proofs.Kept.{WalkKept}
use Rattle.hp_model.proofs.OneEntry.{one_walk_entry, walk_ended}
use Rattle.hp_model.proofs.OneRegistration.{same_registration_entry, registration_ended}
use Rattle.hp_model.proofs.Owners.{Owners, alone_at}
use Rattle.hp_model.proofs.BatchLemmas.{next_to_begin}
use Rattle.hp_model.proofs.TurnLemmas.{turn_is, held_up_parts}
use Rattle.hp_model.proofs.Stages.{ap_no_client}
use Rattle.hp_model.proofs.SomeMoves.{Facts, facts}
use Rattle.hp_model.proofs.OneFate.{not_walker, not_registrar, holder_waits, stands_not_full, waits_still}

-- where a thread has to make the next entry, who makes it is the thread
thread_makes : (cpu state state' : ℕ) (how how' : How) (j client : ℕ) (xs : List Event) → state ≡ state' → how ≡ how' →
    is_made_by_ap state' how' ≡ true → caller xs cpu state how client ≡ Some j → ap_seat cpu xs ≡ Some j
thread_makes cpu state state' how how' j client xs s h m by =
    let made : is_made_by_ap state how ≡ true = rw (s, h) m in rw made at by

-- whose next entry is a thread's has an operation in flight
pub thread_busy : (head : Head) (xs : List Event) (k cpu : ℕ) → Owners xs → IsApTurn head xs k cpu → IsFree xs k → ⊥
thread_busy head xs k cpu o t f = go t.entry
  where
    go : IsEntryOf head xs k cpu t.state t.inst t.dir t.how → ⊥
    go (inl e) = not_walker xs k cpu e.0.of o f e.0.in_flight e.1
    go (inr e) = not_registrar xs k e.0.of f e.0.in_flight e.1

-- and is on a walk or on a registration, not between walks
thread_at_rest : (head : Head) (xs : List Event) (k cpu : ℕ) (a : Operation) → Owners xs → IsApTurn head xs k cpu →
    operation xs ≡ Some a → a.seat ≡ k → is_walking xs ≡ false → ⊥
thread_at_rest head xs k cpu a o t at s still = go t.entry
  where
    go : IsEntryOf head xs k cpu t.state t.inst t.dir t.how → ⊥
    go (inl e) = none_some e.0.of (sym (walk_none xs still cpu) ∙ e.0.in_flight)
    go (inr e) = o.apart a e.0.of at e.0.in_flight (s ∙ sym e.1)

-- and, of an upmany that walks, has no walk left to begin and no turn
thread_between : (head : Head) (xs : List Event) (k cpu c to : ℕ) (a : Operation) → Owners xs → IsApTurn head xs k cpu →
    operation xs ≡ Some a → a.seat ≡ k → is_between a.op xs ≡ true → next head xs a.before a.op ≡ walks c to → ⊥
thread_between head xs k cpu c to a o t at s b n = go (is_upmany a.op) refl
  where
    left : (cs : List ℕ) → unbegun (batch head a.before a.op) xs ≡ cs → is_empty cs ≡ true → 0 < occurs c cs → ⊥
    left [] e h i = omega (arith, i)
    left (d ∷ ds) e h i = true≢false (sym h)

    go : (u : Bool) → is_upmany a.op ≡ u → ⊥
    go true u =
        let h = (held_up_parts head xs a k cpu at s u t.held_up).0 in
        left (unbegun (batch head a.before a.op) xs) refl (rw at at h) (next_to_begin head xs a.before a.op c to u n)
    go false u = thread_at_rest head xs k cpu a o t at s (alone_at (is_upmany a.op) (is_walking xs) b u)

-- so no event of the seat is made in turn, but where it is no upmany's
thread_turns : (head : Head) (xs : List Event) (k cpu c : ℕ) (a : Operation) → IsApTurn head xs k cpu → operation xs ≡ Some a →
    a.seat ≡ k → is_upmany a.op ≡ true → has_turn head xs k c ≡ true → ⊥
thread_turns head xs k cpu c a t at s u h =
    let n = (held_up_parts head xs a k cpu at s u t.held_up).1 in
    let i = turn_is head xs a k c at s u h in
    false≢true (rw i at n)

walks_not_registers : (head : Head) (xs : List Event) (c : ℕ) (w : Walk) → Facts head xs → walk c xs ≡ Some w → registration xs ≡ None
walks_not_registers head xs c w f at = let k : WalkKept head c w xs = rw at at (f.kept.at c).kept in k.no_registration

-- so no event of it comes next
pub thread_still : (head : Head) (xs : List Event) (k cpu : ℕ) (op : Op) (e : Event) → Facts head xs → role_of k xs ≡ Some Client →
    IsApTurn head xs k cpu → seat_of e ≡ k → Comes head xs e → BelongsTo op e → ⊥
thread_still head xs k cpu op (WalkBegin seat c from to) f client t by h b =
    thread_between head xs k cpu c to h.of f.owners t h.held (h.seat_is ∙ by) h.between h.gives
thread_still head xs k cpu op (OpEnd seat answer) f client t by h b = go h
  where
    go : IsOver head xs seat answer ⊎ IsCut head xs seat answer → ⊥
    go (inl v) = thread_at_rest head xs k cpu v.of f.owners t v.held (v.seat_is ∙ by) v.no_walk
    go (inr c) =
        thread_between head xs k cpu c.cpu c.to c.begins.of f.owners t c.begins.held (c.begins.seat_is ∙ by) c.begins.between
        c.begins.gives
thread_still head xs k cpu op (WalkEnd seat c answer) f client t by h b = go t.entry
  where
    go : IsEntryOf head xs k cpu t.state t.inst t.dir t.how → ⊥
    go (inl e) =
        let q = f.owners.walk_op c h.of h.in_flight in single e q.0 q.1 (q.2 ∙ (h.seat_is ∙ by)) (is_upmany q.0.op) refl
      where
        single : (e : (z : WalkEntry head xs cpu t.state t.inst t.dir t.how) × (z.of.seat ≡ k)) (a : Operation) →
            operation xs ≡ Some a → a.seat ≡ k → (b : Bool) → is_upmany a.op ≡ b → ⊥
        single e a at s true u = thread_turns head xs k cpu c a t at s u (rw by at h.turn)
        single e a at s false u =
            let same : c ≡ cpu = f.owners.one_walk c cpu h.of e.0.of h.in_flight e.0.in_flight (ap (held_by is_upmany) at ∙ u) in
            walk_ended head xs seat cpu t.state t.inst t.dir t.how answer e.0 (subst (λ z. WalkEnds head xs seat z answer) same h)
    go (inr e) = none_some e.0.of (sym (walks_not_registers head xs c h.of f h.in_flight) ∙ e.0.in_flight)
thread_still head xs k cpu op (RegEnd seat answer) f client t by h b = go t.entry
  where
    go : IsEntryOf head xs k cpu t.state t.inst t.dir t.how → ⊥
    go (inl e) = none_some h.of (sym (walks_not_registers head xs cpu e.0.of f e.0.in_flight) ∙ h.in_flight)
    go (inr e) = registration_ended head xs seat cpu t.state t.inst t.dir t.how answer e.0 h
thread_still head xs k cpu op (Call seat c state inst dir how) f client t by h b = go h t.entry
  where
    no_thread : ap_seat c xs ≡ Some seat → ⊥
    no_thread a = ap_no_client xs c seat f.owners a (rw by client)

    go : InWalk head xs seat c state inst dir how ⊎ InRegistration head xs seat c state inst dir how →
        IsEntryOf head xs k cpu t.state t.inst t.dir t.how → ⊥
    go (inl v) (inl e) =
        let q = f.owners.walk_op cpu e.0.of e.0.in_flight in single v e q.0 q.1 (q.2 ∙ e.1) (is_upmany q.0.op) refl
      where
        single : InWalk head xs seat c state inst dir how →
            (e : (z : WalkEntry head xs cpu t.state t.inst t.dir t.how) × (z.of.seat ≡ k)) (a : Operation) →
            operation xs ≡ Some a → a.seat ≡ k → (b : Bool) → is_upmany a.op ≡ b → ⊥
        single v e a at s true u = thread_turns head xs k cpu c a t at s u (rw by at v.turn)
        single v e a at s false u =
            let same : cpu ≡ c =
            f.owners.one_walk cpu c e.0.of v.entry.of e.0.in_flight v.entry.in_flight (ap (held_by is_upmany) at ∙ u)
            in
            let w = subst (λ z. WalkEntry head xs z t.state t.inst t.dir t.how) same e.0 in
            let s = one_walk_entry head xs c state t.state inst t.inst dir t.dir how t.how v.entry w in
            no_thread (thread_makes c state t.state how t.how seat v.entry.of.seat xs s.state_same s.how_same t.by_thread v.caller_is)
    go (inl v) (inr e) = none_some e.0.of (sym (walks_not_registers head xs c v.entry.of f v.entry.in_flight) ∙ e.0.in_flight)
    go (inr v) (inl e) = none_some v.entry.of (sym (walks_not_registers head xs cpu e.0.of f e.0.in_flight) ∙ v.entry.in_flight)
    go (inr v) (inr e) =
        let s = (same_registration_entry head xs c cpu state t.state inst t.inst dir t.dir how t.how v.entry e.0).1 in
        no_thread (thread_makes c state t.state how t.how seat v.entry.of.seat xs s.state_same s.how_same t.by_thread v.caller_is)
thread_still head xs k cpu op (Admit seat role) f client t by h b = b
thread_still head xs k cpu op (Leave seat) f client t by h b = b
thread_still head xs k cpu op e f client t by h b = thread_busy head xs k cpu f.owners t (rw by at h.free)

-- nor does it wait for anything else
thread_waits : (head : Head) (xs : List Event) (k cpu : ℕ) (op : Op) (w : Wait) → Facts head xs → role_of k xs ≡ Some Client →
    IsApTurn head xs k cpu → wait head xs k op ≡ Some w → ⊥
thread_waits head xs k cpu op w f client t at = go (is_busy k xs) refl at
  where
    go : (busy : Bool) → is_busy k xs ≡ busy → cond busy (wait_of_holder head xs k (operation xs)) (wait_to_begin xs op) ≡ Some w → ⊥
    go true e h =
        let v = holder_waits head xs k w h in
        thread_between head xs k cpu v.cpu v.to v.of f.owners t v.held v.seat_is v.between v.gives
    go false e h = thread_busy head xs k cpu f.owners t (record { client = client; idle = e })

pub finds_one : (head : Head) (xs : List Event) (p : Pending) → IsLawful head xs → IsAllowed head xs p → FindsOne head xs p
finds_one head xs p lawful a =
    let f = facts head xs lawful in
    record {
      event_full = λ e full. stands_not_full head xs p.seat p.op e.0 lawful e.1 e.2 e.3 full;
      event_waits = λ e w. waits_still head xs p.seat p.op w.0 e.0 lawful a.client w.1 w.2 e.1.0 e.2 e.3;
      event_thread = λ e t. thread_still head xs p.seat t.0 p.op e.0 f a.client t.1 e.2 e.1.0 e.3;
      full_waits = λ full w.
          waits_still head xs p.seat p.op w.0 full.first lawful a.client w.1 w.2 full.kept_out.0 full.by full.of;
      full_thread = λ full t. thread_busy head xs p.seat t.0 f.owners t.1 full.free;
      waits_thread = λ w t. thread_waits head xs p.seat t.0 p.op w.0 f a.client t.1 w.2;
    }
