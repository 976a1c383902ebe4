-- Who reads after one event more: an answered unlock leaves its seat not reading, and only a lock makes one read.
use Rattle.std.proofs.Common.{◌≡◌, ℕ, Bool, true, false, cond, eqb, is_some, Option, Some, None, List, [], ◌∷◌, ◌++◌, refl, ap, sym, ◌∙◌, subst}
use Rattle.std.proofs.lemmas.Bool.{true≢false, false≢true, eq-eqb}
use Rattle.hp_event.specs.declared.op.Op.{Op}
use Rattle.hp_event.specs.declared.op.Op.TheVariants.{Lock, Unlock}
use Rattle.hp_event.specs.declared.head.Head.{Head}
use Rattle.hp_event.specs.declared.event.Event.{Event}
use Rattle.hp_event.specs.declared.event.Event.TheVariants.{Enter, OpEnd, RegBegin, RegEnd, ReadLock, ReadUnlock}
use Rattle.hp_model.specs.Events.{seat_of, is_answer, BelongsTo}
use Rattle.hp_model.specs.Room.{has_room}
use Rattle.hp_model.specs.Readers.{reading_since, is_reading}
use Rattle.hp_model.specs.Refusals.{refusal}
use Rattle.hp_model.specs.Lawful.{Comes}
use Rattle.hp_model.specs.Full.{IsFull}
use Rattle.hp_model.proofs.Laws.{reading_since_push}
use Rattle.hp_model.proofs.Owners.{Owners}
use Rattle.hp_model.proofs.Stages.{is_first, IsFirst, first_is}
use Rattle.hp_model.proofs.OneFate.{first_only}

-- who reads that isn't this seat, or doesn't begin to
cond_none : (b : Bool) (o : Option (List Event)) → is_some (cond b None o) ≡ true → is_some o ≡ true
cond_none true o h = absurd (false≢true h)
cond_none false o h = h

pub reads_before : (xs : List Event) (k : ℕ) (op : Op) (e : Event) → BelongsTo op e → (op ≡ Lock → ⊥) →
    is_reading k (xs ++ e ∷ []) ≡ true → is_reading k xs ≡ true
reads_before xs k op (ReadLock seat) b n h = absurd (n b)
reads_before xs k op (ReadUnlock seat) b n h =
    cond_none (eqb seat k) (reading_since k xs) (sym (ap is_some (reading_since_push k xs (ReadUnlock seat))) ∙ h)
reads_before xs k op e b n h = sym (ap is_some (reading_since_push k xs e)) ∙ h

pub reads_other : (xs : List Event) (k : ℕ) (e : Event) → eqb (seat_of e) k ≡ false → is_reading k (xs ++ e ∷ []) ≡ true →
    is_reading k xs ≡ true
reads_other xs k (ReadLock seat) n h =
    sym (ap is_some (reading_since_push k xs (ReadLock seat) ∙ ap (λ b. cond b (Some xs) (reading_since k xs)) n)) ∙ h
reads_other xs k (ReadUnlock seat) n h =
    sym (ap is_some (reading_since_push k xs (ReadUnlock seat) ∙ ap (λ b. cond b None (reading_since k xs)) n)) ∙ h
reads_other xs k e n h = sym (ap is_some (reading_since_push k xs e)) ∙ h

pub reads_unless : (xs : List Event) (k : ℕ) (e : Event) → is_answer e ≡ false → is_reading k (xs ++ e ∷ []) ≡ true →
    is_reading k xs ≡ true
reads_unless xs k (ReadLock seat) n h = absurd (true≢false n)
reads_unless xs k (ReadUnlock seat) n h = absurd (true≢false n)
reads_unless xs k e n h = sym (ap is_some (reading_since_push k xs e)) ∙ h

-- a reader's unlock isn't refused, so its first event is its ReadUnlock
unlock_is : (head : Head) (xs : List Event) (k : ℕ) (e : Event) → IsFirst head xs k Unlock e → is_reading k xs ≡ true → e ≡ ReadUnlock k
unlock_is head xs k e first r =
    let i = first.free.idle in
    let none : refusal head xs k Unlock ≡ None = rw (i, r) refl in
    first.event_is ∙ rw none refl

-- an answered unlock
answers_first : (e : Event) → BelongsTo Unlock e → is_answer e ≡ true → is_first e ≡ true
answers_first (Enter seat op) b a = refl
answers_first (RegBegin seat state op) b a = refl
answers_first (OpEnd seat answer) b a = absurd (false≢true b)
answers_first (RegEnd seat answer) b a = absurd (false≢true b)
answers_first e b a = a

pub unlocks : (head : Head) (xs : List Event) (e : Event) → Comes head xs e → BelongsTo Unlock e → is_answer e ≡ true →
    is_reading (seat_of e) (xs ++ e ∷ []) ≡ true → ⊥
unlocks head xs e h b a r =
    let before = reads_before xs (seat_of e) Unlock e b not_lock r in
    let is = unlock_is head xs (seat_of e) e (first_is head xs Unlock e b h (answers_first e b a)) before in
    unlocked (seat_of e) (subst (λ z. is_reading (seat_of e) (xs ++ z ∷ []) ≡ true) is r)
  where
    not_lock : Unlock ≡ Lock → ⊥
    not_lock q = cc

    unlocked : (k : ℕ) → is_reading k (xs ++ ReadUnlock k ∷ []) ≡ true → ⊥
    unlocked k r =
        false≢true
        (sym (ap is_some (reading_since_push k xs (ReadUnlock k) ∙ ap (λ b. cond b None (reading_since k xs)) (eq-eqb k k refl))) ∙ r)

-- and one that has no room
pub full_unlocks : (head : Head) (xs : List Event) (k : ℕ) → Owners xs → IsFull head xs k Unlock → is_reading k xs ≡ true → ⊥
full_unlocks head xs k o f r =
    let first = first_only head xs Unlock f.first o (rw f.by f.free) f.of f.kept_out.0 in
    let is = unlock_is head xs (seat_of f.first) f.first first (rw f.by r) in
    true≢false (subst (λ z. has_room head xs z ≡ false) is f.kept_out.1)
