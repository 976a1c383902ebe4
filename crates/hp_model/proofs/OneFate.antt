-- An operation that waits has no event that can come next, and one whose event stands isn't answered LogFull.
use Rattle.std.proofs.Common.{◌≡◌, ℕ, Bool, true, false, ◌&&◌, cond, eqb, is_some, Option, Some, None, List, refl, ap, sym, ◌∙◌, inl, inr, ◌⊎◌}
use Rattle.std.proofs.lemmas.Bool.{true≢false, eqb-true, and_parts}
use Rattle.hp_states.proofs.Basics.{none_some, not_equal, same_some}
use Rattle.hp_event.specs.declared.op.Op.{Op}
use Rattle.hp_event.specs.declared.how.How.{How}
use Rattle.hp_states.specs.declared.dir.Dir.{Dir}
use Rattle.hp_event.specs.declared.event.Role.TheVariants.{Client}
use Rattle.hp_event.specs.declared.head.Head.{Head}
use Rattle.hp_event.specs.declared.event.Event.{Event}
use Rattle.hp_event.specs.declared.event.Event.TheVariants.{Admit, Leave, WalkBegin, Call, WalkEnd, OpEnd, RegEnd}
use Rattle.hp_model.specs.Events.{seat_of, BelongsTo}
use Rattle.hp_model.specs.Walks.{Walk, walk, is_walking}
use Rattle.hp_model.specs.Registrations.{Registration, registration}
use Rattle.hp_model.specs.MapLock.{Operation, operation}
use Rattle.hp_model.specs.Seats.{role_of, ap_seat, is_busy, IsFree}
use Rattle.hp_model.specs.Sequence.{Next, walks, ends, nothing, next, is_between}
use Rattle.hp_model.specs.Waits.{Wait, wait_to_walk, wait_to_begin}
use Rattle.hp_model.specs.SeatWaits.{wait_before, wait_of_holder, wait}
use Rattle.hp_model.specs.Refusals.{refusal, Passes}
use Rattle.hp_model.specs.Caller.{is_made_by_ap}
use Rattle.hp_model.specs.StandsCalls.{InWalk, InRegistration}
use Rattle.hp_model.specs.StandsOperations.{WalkBegins, IsOver, IsCut}
use Rattle.hp_model.specs.Lawful.{Comes, Stands, IsLawful}
use Rattle.hp_model.specs.Full.{IsFull}
use Rattle.hp_model.specs.Batch.{is_upmany}
use Rattle.hp_model.proofs.InFlight.{walk_none}
use Rattle.hp_model.proofs.WaitLemmas.{later_walk}
use Rattle.hp_model.proofs.BatchLemmas.{walking_begun}
use Rattle.hp_model.proofs.Owners.{Owners, alone_at, idle_op, idle_reg}
use Rattle.hp_model.proofs.Stages.{IsFirst, first_is, called_by, ap_no_client}
use Rattle.hp_model.proofs.OneNext.{owners}
use Rattle.hp_model.proofs.Operations.{not_walk}

-- who has an operation in flight isn't free
pub not_holder : (xs : List Event) (k : ℕ) (o : Operation) → IsFree xs k → operation xs ≡ Some o → o.seat ≡ k → ⊥
not_holder xs k o f at s = not_equal o.seat k (idle_op xs k o f.idle at) s

pub not_registrar : (xs : List Event) (k : ℕ) (r : Registration) → IsFree xs k → registration xs ≡ Some r → r.seat ≡ k → ⊥
not_registrar xs k r f at s = not_equal r.seat k (idle_reg xs k r f.idle at) s

pub not_walker : (xs : List Event) (k c : ℕ) (w : Walk) → Owners xs → IsFree xs k → walk c xs ≡ Some w → w.seat ≡ k → ⊥
not_walker xs k c w o f at s = let p = o.walk_op c w at in not_holder xs k p.0 f p.1 (p.2 ∙ s)

no_entry : (head : Head) (xs : List Event) (k c state inst : ℕ) (dir : Dir) (how : How) → Owners xs → IsFree xs k →
    InWalk head xs k c state inst dir how ⊎ InRegistration head xs k c state inst dir how → ⊥
no_entry head xs k c state inst dir how o f (inl w) = go (called_by (is_made_by_ap state how) (ap_seat c xs) w.entry.of.seat k w.caller_is)
  where
    go : (w.entry.of.seat ≡ k) ⊎ (ap_seat c xs ≡ Some k) → ⊥
    go (inl s) = not_walker xs k c w.entry.of o f w.entry.in_flight s
    go (inr a) = ap_no_client xs c k o a f.client
no_entry head xs k c state inst dir how o f (inr r) = go (called_by (is_made_by_ap state how) (ap_seat c xs) r.entry.of.seat k r.caller_is)
  where
    go : (r.entry.of.seat ≡ k) ⊎ (ap_seat c xs ≡ Some k) → ⊥
    go (inl s) = not_registrar xs k r.entry.of f r.entry.in_flight s
    go (inr a) = ap_no_client xs c k o a f.client

pub first_only : (head : Head) (xs : List Event) (op : Op) (e : Event) → Owners xs → IsFree xs (seat_of e) → BelongsTo op e →
    Comes head xs e → IsFirst head xs (seat_of e) op e
first_only head xs op (WalkBegin seat cpu from to) o f b h = absurd (not_holder xs seat h.of f h.held h.seat_is)
first_only head xs op (OpEnd seat answer) o f b h = absurd (go h)
  where
    go : IsOver head xs seat answer ⊎ IsCut head xs seat answer → ⊥
    go (inl w) = not_holder xs seat w.of f w.held w.seat_is
    go (inr c) = not_holder xs seat c.begins.of f c.begins.held c.begins.seat_is
first_only head xs op (WalkEnd seat cpu answer) o f b h = absurd (not_walker xs seat cpu h.of o f h.in_flight h.seat_is)
first_only head xs op (RegEnd seat answer) o f b h = absurd (not_registrar xs seat h.of f h.in_flight h.seat_is)
first_only head xs op (Call seat cpu state inst dir how) o f b h = absurd (no_entry head xs seat cpu state inst dir how o f h)
first_only head xs op (Admit seat role) o f b h = elim b [ ]
first_only head xs op (Leave seat) o f b h = elim b [ ]
first_only head xs op e o f b h = first_is head xs op e b h refl

-- an operation whose event stands isn't answered LogFull
pub stands_not_full : (head : Head) (xs : List Event) (k : ℕ) (op : Op) (e : Event) → IsLawful head xs → Stands head xs e →
    seat_of e ≡ k → BelongsTo op e → IsFull head xs k op → ⊥
stands_not_full head xs k op e lawful h by b full =
    let o = owners head xs lawful in
    let one = first_only head xs op e o (rw by full.free) b h.0 in
    let other = first_only head xs op full.first o (rw full.by full.free) full.of full.kept_out.0 in
    let same : e ≡ full.first = one.event_is ∙ (rw (by, full.by) refl ∙ sym other.event_is) in
    true≢false (sym h.1 ∙ (rw same full.kept_out.1))

-- a free seat that waits
free_waits : (head : Head) (xs : List Event) (op : Op) (w : Wait) (e : Event) → Owners xs → IsFree xs (seat_of e) →
    refusal head xs (seat_of e) op ≡ None → wait_to_begin xs op ≡ Some w → Comes head xs e → BelongsTo op e → ⊥
free_waits head xs op w e o f none at h b = go (first_only head xs op e o f b h).passes
  where
    go : Passes head xs (seat_of e) op ⊎ ((errno : ℕ) × (refusal head xs (seat_of e) op ≡ Some errno)) → ⊥
    go (inl p) = true≢false (sym (ap is_some at) ∙ p.not_waiting)
    go (inr r) = none_some r.0 (sym none ∙ r.1)

-- the holder of the map lock that waits: its next step is a walk that something keeps out
pub record HolderWaits (head : Head) (xs : List Event) (k : ℕ) : Type 0 where
  pub of : Operation
  pub held : operation xs ≡ Some of
  pub seat_is : of.seat ≡ k
  pub between : is_between of.op xs ≡ true
  pub cpu : ℕ
  pub to : ℕ
  pub gives : next head xs of.before of.op ≡ walks cpu to
  pub waits : is_some (wait_to_walk xs) ≡ true

pub holder_waits : (head : Head) (xs : List Event) (k : ℕ) (w : Wait) → wait_of_holder head xs k (operation xs) ≡ Some w → HolderWaits head xs k
holder_waits head xs k w h = go (operation xs) refl h
  where
    after : (o : Operation) → operation xs ≡ Some o → o.seat ≡ k → is_between o.op xs ≡ true → (n : Next) →
        next head xs o.before o.op ≡ n → wait_before xs n ≡ Some w → HolderWaits head xs k
    after o at s still (walks c to) e h =
        record { of = o; held = at; seat_is = s; between = still; cpu = c; to = to; gives = e; waits = ap is_some h }
    after o at s still (ends answer) e h = absurd (none_some w h)
    after o at s still nothing e h = absurd (none_some w h)

    held : (o : Operation) → operation xs ≡ Some o → (b : Bool) → (eqb o.seat k && is_between o.op xs) ≡ b →
        cond b (wait_before xs (next head xs o.before o.op)) None ≡ Some w → HolderWaits head xs k
    held o at true e h =
        let p = and_parts (eqb o.seat k) (is_between o.op xs) e in
        after o at (eqb-true o.seat k p.0) p.1 (next head xs o.before o.op) refl h
    held o at false e h = absurd (none_some w h)

    go : (o : Option Operation) → operation xs ≡ o → wait_of_holder head xs k o ≡ Some w → HolderWaits head xs k
    go None e h = absurd (none_some w h)
    go (Some o) e h = held o e (eqb o.seat k && is_between o.op xs) refl h

no_walk_begins : (head : Head) (xs : List Event) (seat cpu from to : ℕ) → WalkBegins head xs seat cpu from to →
    is_some (wait_to_walk xs) ≡ true → ⊥
no_walk_begins head xs seat cpu from to h w =
    true≢false (sym w ∙ ap is_some h.no_wait)

-- who waits before a walk has none in flight: an upmany waits before its first alone
waits_at_rest : (head : Head) (xs : List Event) (k c : ℕ) (v : Walk) → Owners xs → HolderWaits head xs k → walk c xs ≡ Some v → ⊥
waits_at_rest head xs k c v o w at = go (is_upmany w.of.op) refl
  where
    go : (b : Bool) → is_upmany w.of.op ≡ b → ⊥
    go true u = true≢false (sym w.waits ∙ ap is_some (later_walk xs (walking_begun xs w.of c v o w.held u at)))
    go false u = none_some v (sym (walk_none xs (alone_at (is_upmany w.of.op) (is_walking xs) w.between u) c) ∙ at)

holder_still : (head : Head) (xs : List Event) (k : ℕ) (op : Op) (e : Event) → Owners xs → HolderWaits head xs k →
    role_of k xs ≡ Some Client → is_busy k xs ≡ true → seat_of e ≡ k → Comes head xs e → BelongsTo op e → ⊥
holder_still head xs k op (WalkBegin seat cpu from to) o w client busy by h b = no_walk_begins head xs seat cpu from to h w.waits
holder_still head xs k op (OpEnd seat answer) o w client busy by h b = go h
  where
    go : IsOver head xs seat answer ⊎ IsCut head xs seat answer → ⊥
    go (inl v) =
        let same : v.of ≡ w.of = same_some v.of w.of (sym v.held ∙ w.held) in
        not_walk answer w.cpu w.to (sym (rw same at v.gives) ∙ w.gives)
    go (inr c) = no_walk_begins head xs seat c.cpu c.from c.to c.begins w.waits
holder_still head xs k op (WalkEnd seat cpu answer) o w client busy by h b =
    waits_at_rest head xs k cpu h.of o w h.in_flight
holder_still head xs k op (RegEnd seat answer) o w client busy by h b =
    o.apart w.of h.of w.held h.in_flight (w.seat_is ∙ sym (h.seat_is ∙ by))
holder_still head xs k op (Call seat cpu state inst dir how) o w client busy by h b = go h
  where
    go : InWalk head xs seat cpu state inst dir how ⊎ InRegistration head xs seat cpu state inst dir how → ⊥
    go (inl v) = waits_at_rest head xs k cpu v.entry.of o w v.entry.in_flight
    go (inr r) = maker (called_by (is_made_by_ap state how) (ap_seat cpu xs) r.entry.of.seat seat r.caller_is)
      where
        maker : (r.entry.of.seat ≡ seat) ⊎ (ap_seat cpu xs ≡ Some seat) → ⊥
        maker (inl s) = o.apart w.of r.entry.of w.held r.entry.in_flight (w.seat_is ∙ sym (s ∙ by))
        maker (inr a) = ap_no_client xs cpu seat o a (rw by client)
holder_still head xs k op (Admit seat role) o w client busy by h b = b
holder_still head xs k op (Leave seat) o w client busy by h b = b
holder_still head xs k op e o w client busy by h b = true≢false (sym busy ∙ (rw by at h.free.idle))

-- an operation that isn't refused and waits has no event that can come next
pub waits_still : (head : Head) (xs : List Event) (k : ℕ) (op : Op) (w : Wait) (e : Event) → IsLawful head xs →
    role_of k xs ≡ Some Client → refusal head xs k op ≡ None → wait head xs k op ≡ Some w → Comes head xs e →
    seat_of e ≡ k → BelongsTo op e → ⊥
waits_still head xs k op w e lawful client none at h by b = go (is_busy k xs) refl at
  where
    o : Owners xs
    o = owners head xs lawful

    go : (busy : Bool) → is_busy k xs ≡ busy → cond busy (wait_of_holder head xs k (operation xs)) (wait_to_begin xs op) ≡ Some w → ⊥
    go true f q = holder_still head xs k op e o (holder_waits head xs k w q) client f by h b
    go false f q =
        let free : IsFree xs (seat_of e) = rw by (record { client = client; idle = f }) in
        free_waits head xs op w e o free (rw by none) q h b
