-- The event that comes next of a lock by a client that doesn't read, and of an unlock by one that does.
use Rattle.std.proofs.Common.{◌≡◌, ℕ, Bool, true, false, not, ◌&&◌, cond, is_some, Option, Some, None, List, [], ◌∷◌, ◌++◌, refl, sym, ap, ◌∙◌}
use Rattle.std.proofs.lemmas.Bool.{true≢false, false≢true}
use Rattle.hp_states.specs.declared.limits.TheConstants.{EDEADLK}
use Rattle.hp_states.proofs.Basics.{none_some, same_some}
use Rattle.hp_event.specs.declared.event.Event.{Event}
use Rattle.hp_event.specs.declared.event.Event.TheVariants.{ReadLock, ReadUnlock}
use Rattle.hp_event.specs.declared.event.Role.TheVariants.{Client}
use Rattle.hp_event.specs.declared.head.Head.{Head}
use Rattle.hp_event.specs.declared.op.Op.{Op}
use Rattle.hp_event.specs.declared.op.Op.TheVariants.{Lock, Unlock}
use Rattle.hp_model.specs.Events.{is_call}
use Rattle.hp_model.specs.FirstEvent.{first_event, refused_or_begun, is_client}
use Rattle.hp_model.specs.Lawful.{IsLawful}
use Rattle.hp_model.specs.NextEvent.{next_event, next_in_flight, if_room, is_full, lacks_room, due_entry}
use Rattle.hp_model.specs.Readers.{reading_since, is_reading}
use Rattle.hp_model.specs.Refusals.{refusal}
use Rattle.hp_model.specs.RefusalsAtOnce.{first_that_holds, if_so}
use Rattle.hp_model.specs.Room.{has_room}
use Rattle.hp_model.specs.Seats.{is_busy, role_of}
use Rattle.hp_model.specs.Subsystems.{names_sub}
use Rattle.hp_model.specs.Waits.{is_waiting}
use Rattle.hp_model.proofs.DueGives.{due_stands}
use Rattle.hp_live.specs.Known.{IsOut}
use Rattle.hp_live.proofs.Finishing.{can_ask}
use Rattle.hp_live.proofs.Turning.{due_next}

room_first : (head : Head) (xs : List Event) (o : Option Event) (e : Event) → if_room head xs o ≡ Some e → o ≡ Some e
room_first head xs None e is = is
room_first head xs (Some x) e is = go (has_room head xs x) is
  where
    go : (b : Bool) → cond b (Some x) None ≡ Some e → Some x ≡ Some e
    go true i = i
    go false i = absurd (none_some e i)

-- what comes next of a seat with nothing in flight is its operation's first event
pub idle_next : (head : Head) (xs : List Event) (k : ℕ) (op : Op) → is_busy k xs ≡ false →
    next_event head xs k op ≡ if_room head xs (first_event head xs k op)
unfolding next_event
idle_next head xs k op idle = ap (λ b. cond b (next_in_flight head xs k) (if_room head xs (first_event head xs k op))) idle

-- ---- a lock

lock_not_refused : (head : Head) (xs : List Event) (k : ℕ) → is_busy k xs ≡ false → reading_since k xs ≡ None →
    refusal head xs k Lock ≡ None
lock_not_refused head xs k idle out = at_once (is_waiting xs Lock) (is_reading k xs) (ap is_some out) (is_busy k xs) idle
  where
    at_once : (waits reads : Bool) → reads ≡ false → (busy : Bool) → busy ≡ false →
        cond busy None (first_that_holds ((if_so reads EDEADLK ∷ []) ++ cond waits [] [])) ≡ None
    at_once waits true r busy i = absurd (true≢false r)
    at_once waits false r true i = absurd (true≢false i)
    at_once true false r false i = refl
    at_once false false r false i = refl

lock_first : (head : Head) (xs : List Event) (k : ℕ) (e : Event) → is_busy k xs ≡ false → reading_since k xs ≡ None →
    first_event head xs k Lock ≡ Some e → e ≡ ReadLock k
lock_first head xs k e idle out is = client (is_client (role_of k xs) && names_sub head Lock) is
  where
    begun : (b : Bool) → cond b None (Some (ReadLock k)) ≡ Some e → e ≡ ReadLock k
    begun true i = absurd (none_some e i)
    begun false i = sym (same_some (ReadLock k) e i)

    client : (b : Bool) → cond b (refused_or_begun head xs k Lock (refusal head xs k Lock)) None ≡ Some e → e ≡ ReadLock k
    client true i =
        begun (is_waiting xs Lock)
        (sym (ap (λ (o : Option ℕ). refused_or_begun head xs k Lock o) (lock_not_refused head xs k idle out)) ∙ i)
    client false i = absurd (none_some e i)

-- of a client that has nothing in flight and doesn't read only a ReadLock comes next of a lock
pub lock_next : (head : Head) (xs : List Event) (k : ℕ) (e : Event) → is_busy k xs ≡ false → reading_since k xs ≡ None →
    next_event head xs k Lock ≡ Some e → e ≡ ReadLock k
lock_next head xs k e idle out is =
    lock_first head xs k e idle out (room_first head xs (first_event head xs k Lock) e (sym (idle_next head xs k Lock idle) ∙ is))

-- ---- an unlock

unlock_first : (head : Head) (xs : List Event) (k : ℕ) → role_of k xs ≡ Some Client → is_busy k xs ≡ false → is_reading k xs ≡ true →
    first_event head xs k Unlock ≡ Some (ReadUnlock k)
unlock_first head xs k role idle reads = rw (role, idle, reads) refl

-- of a client that has nothing in flight and reads its ReadUnlock comes next of an unlock
pub unlock_next : (head : Head) (xs : List Event) (k : ℕ) → role_of k xs ≡ Some Client → is_busy k xs ≡ false →
    is_reading k xs ≡ true → next_event head xs k Unlock ≡ Some (ReadUnlock k)
unlock_next head xs k role idle reads =
    idle_next head xs k Unlock idle ∙ ap (λ (o : Option Event). if_room head xs o) (unlock_first head xs k role idle reads)

-- and there is room for it
pub unlock_not_full : (head : Head) (xs : List Event) (k : ℕ) → role_of k xs ≡ Some Client → is_busy k xs ≡ false →
    is_reading k xs ≡ true → is_full head xs k Unlock ≡ true → ⊥
unfolding is_full
unlock_not_full head xs k role idle reads full =
    true≢false
    (sym full ∙ ap (λ b. not b && lacks_room head xs (first_event head xs k Unlock)) idle
    ∙ ap (λ (o : Option Event). lacks_room head xs o) (unlock_first head xs k role idle reads))

-- ---- nothing is lent

-- no entry is due from a client that has nothing in flight and doesn't read
pub idle_due : (head : Head) (xs : List Event) (k : ℕ) → IsLawful head xs → IsOut k xs → is_busy k xs ≡ false → due_entry head xs k ≡ None
idle_due head xs k lawful out idle = none_due (due_entry head xs k) refl
  where
    no_call : (e : Event) → is_call e ≡ true → e ≡ ReadLock k → ⊥
    no_call e call is = false≢true (sym (ap is_call is) ∙ call)

    none_due : (o : Option Event) → due_entry head xs k ≡ o → o ≡ None
    none_due None is = refl
    none_due (Some e) is =
        let asks = can_ask head xs k Lock false out.role idle refl refl in
        absurd
        (no_call e (due_stands head xs k e is).1
        (lock_next head xs k e idle out.not_reading (due_next head xs k Lock e lawful asks.allowed is)))
