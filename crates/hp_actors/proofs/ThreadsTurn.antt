-- While the next entry of what a seat has in flight is a thread's to make, a turn of the seat makes nothing.
use Rattle.std.proofs.Common.{◌≡◌, ℕ, Bool, true, false, is_some, Option, Some, None, List, refl, sym, subst, ◌∙◌, inl, inr, ◌↔◌, arith}
use Rattle.std.proofs.lemmas.Bool.{true≢false}
use Rattle.hp_states.proofs.Basics.{none_some}
use Rattle.hp_event.specs.declared.op.Op.{Op}
use Rattle.hp_event.specs.declared.head.Head.{Head}
use Rattle.hp_event.specs.declared.event.Role.TheVariants.{Client}
use Rattle.hp_event.specs.declared.event.Event.{Event}
use Rattle.hp_event.specs.declared.event.Event.TheVariants.{Admit, Leave, Enter, Refused, WalkBegin, Call, WalkEnd, OpEnd, RegBegin, RegEnd, ReadLock, ReadUnlock, Armed, Shown, Wakeup}
use Rattle.hp_model.specs.ApTurn.{IsEntryOf, IsApTurn}
use Rattle.hp_model.specs.Events.{seat_of, BelongsTo, showing}
use Rattle.hp_model.specs.Lawful.{Stands, IsLawful}
use Rattle.hp_model.specs.NextEvent.{next_event, is_full}
use Rattle.hp_model.specs.Seats.{role_of, is_busy}
use Rattle.hp_actors.specs.PassedOver.{MakesNoEvent, WaitsForThread}
use Rattle.hp_model.proofs.FindsOne.{thread_busy, thread_still}
use Rattle.hp_model.proofs.NextStands.{next_stands}
use Rattle.hp_model.proofs.Owners.{Owners}
use Rattle.hp_model.proofs.SomeMoves.{Facts, facts}

-- who has it in flight is a client
its_client : (head : Head) (xs : List Event) (k cpu : ℕ) → Owners xs → IsApTurn head xs k cpu → role_of k xs ≡ Some Client
its_client head xs k cpu o t = go t.entry
  where
    go : IsEntryOf head xs k cpu t.state t.inst t.dir t.how → role_of k xs ≡ Some Client
    go (inl e) =
        let q = o.walk_op cpu e.0.of e.0.in_flight in
        subst (λ z. role_of z xs ≡ Some Client) (q.2 ∙ e.1) (o.op_client q.0 q.1)
    go (inr e) = subst (λ z. role_of z xs ≡ Some Client) e.1 (o.reg_client e.0.of e.0.in_flight)

-- so the seat is busy
its_busy : (head : Head) (xs : List Event) (k cpu : ℕ) → Owners xs → IsApTurn head xs k cpu → is_busy k xs ≡ true
its_busy head xs k cpu o t = go (is_busy k xs) refl
  where
    go : (b : Bool) → is_busy k xs ≡ b → is_busy k xs ≡ true
    go true f = f
    go false f = absurd (thread_busy head xs k cpu o t (record { client = its_client head xs k cpu o t; idle = f }))

-- no event of it stands
none_stands : (head : Head) (xs : List Event) (k cpu : ℕ) (e : Event) → Facts head xs → IsApTurn head xs k cpu → Stands head xs e →
    seat_of e ≡ k → ⊥
none_stands head xs k cpu e f t h by = go e h by
  where
    client : role_of k xs ≡ Some Client
    client = its_client head xs k cpu f.owners t

    still : (op : Op) (e : Event) → Stands head xs e → seat_of e ≡ k → BelongsTo op e → ⊥
    still op e h by b = thread_still head xs k cpu op e f client t by h.0 b

    go : (e : Event) → Stands head xs e → seat_of e ≡ k → ⊥
    go (Admit seat role) h by =
        let a = h.0.seat_is in let b = f.owners.seats_below k Client client in omega (arith, a, b, by)
    go (Leave seat) h by = absurd (true≢false (sym (its_busy head xs k cpu f.owners t) ∙ subst (λ z. is_busy z xs ≡ false) by h.0.idle))
    go (Enter seat asked) h by = still asked (Enter seat asked) h by refl
    go (Refused seat errno asked) h by = still asked (Refused seat errno asked) h by refl
    go (WalkBegin seat c from to) h by = still Op.Thaw (WalkBegin seat c from to) h by refl
    go (Call seat c state inst dir how) h by = still Op.Thaw (Call seat c state inst dir how) h by tt
    go (WalkEnd seat c answer) h by = still Op.Thaw (WalkEnd seat c answer) h by refl
    go (OpEnd seat answer) h by = still Op.Thaw (OpEnd seat answer) h by refl
    go (RegBegin seat state asked) h by = still asked (RegBegin seat state asked) h by refl
    go (RegEnd seat answer) h by = still (Op.Remove 0 (record { nocalls = false; locked = false })) (RegEnd seat answer) h by refl
    go (ReadLock seat) h by = still Op.Lock (ReadLock seat) h by refl
    go (ReadUnlock seat) h by = still Op.Unlock (ReadUnlock seat) h by refl
    go (Armed seat c value) h by = still (Op.Arm c value) (Armed seat c value) h by refl
    go (Shown seat file c value) h by = still (showing file c) (Shown seat file c value) h by refl
    go (Wakeup seat) h by = still Op.Wakeup (Wakeup seat) h by refl

pub makes_nothing : (head : Head) (xs : List Event) (k : ℕ) (op : Op) → IsLawful head xs → WaitsForThread head xs k → MakesNoEvent head xs k op
unfolding is_full
makes_nothing head xs k op lawful w =
    let f = facts head xs lawful in
    let busy = its_busy head xs k w.0 f.owners w.1 in
    record { no_event = go f (next_event head xs k op) refl; not_full = rw busy refl }
  where
    go : Facts head xs → (o : Option Event) → next_event head xs k op ≡ o → o ≡ None
    go f None at = refl
    go f (Some e) at = let s = next_stands head xs k op e at in absurd (none_stands head xs k w.0 e f w.1 s.0 s.1)

-- where one is found
pub found_waits : (head : Head) (xs : List Event) (k : ℕ) (found : Option ℕ) → ((cpu : ℕ) → IsApTurn head xs k cpu ↔ (found ≡ Some cpu)) →
    (is_some found ≡ true) ↔ WaitsForThread head xs k
found_waits head xs k None h = (λ yes. absurd (true≢false (sym yes)), λ w. absurd (none_some w.0 ((h w.0).0 w.1)))
found_waits head xs k (Some cpu) h = (λ yes. (cpu, (h cpu).1 refl), λ w. refl)
