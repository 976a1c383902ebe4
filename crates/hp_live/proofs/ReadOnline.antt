-- The processors that are online throughout a read section.
use Rattle.std.proofs.Common.{◌≡◌, ◌<◌, ℕ, false, Some, None, Result, OnOk, OnErr, List, [], ◌∷◌, ◌++◌, length, length-append, refl, sym, ap, ◌∙◌, subst, arith}
use Rattle.std.proofs.lemmas.Bool.{eq-eqb}
use Rattle.std.proofs.lemmas.List.{append-nil}
use mathlib.Core.List.{IsPrefix}
use Rattle.hp_states.specs.Sections.{is_online_state}
use Rattle.hp_states.specs.declared.cpu_set.CpuSet.{CpuSet}
use Rattle.hp_event.specs.declared.event.Event.{Event}
use Rattle.hp_event.specs.declared.event.Event.TheVariants.{ReadLock, ReadUnlock}
use Rattle.hp_event.specs.declared.head.Head.{Head}
use Rattle.hp_event.specs.declared.op.Op.{Op}
use Rattle.hp_event.specs.declared.op.Op.TheVariants.{Lock, Unlock}
use Rattle.hp_model.specs.Lawful.{IsLawful}
use Rattle.hp_model.specs.Readers.{reading_since}
use Rattle.hp_model.specs.Seats.{is_busy}
use Rattle.hp_model.specs.Settled.{is_online}
use Rattle.hp_model.proofs.HeadlineProof.{headline}
use Rattle.hp_model.proofs.Laws.{reading_since_push, role_push, settled_push}
use Rattle.hp_turn.proofs.Prefixes.{prefix_shorter}
use Rattle.hp_live.specs.Grew.{Grew}
use Rattle.hp_live.specs.Known.{IsIn, IsOut, IsSamePass, Seated, Stays}
use Rattle.hp_live.specs.ReadSections.{AreOnline, IsOnlineThroughout, IsReader, MakesIn, Reader}
use Rattle.hp_live.proofs.Clients.{in_later, out_later}
use Rattle.hp_live.proofs.Finishing.{ran_idle}
use Rattle.hp_live.proofs.StandsStill.{stands_still}

-- ---- a section

-- that began has gone on since the events before its ReadLock
since_locked : (k : ℕ) (found : List Event) → reading_since k (found ++ ReadLock k ∷ []) ≡ Some found
since_locked k found = let own = eq-eqb k k refl in reading_since_push k found (ReadLock k) ∙ rw own refl

pub locked_reader : (old new : Seated) (set : CpuSet) → IsSamePass old new → IsOut old.seat old.front →
    MakesIn old.head old.seat Lock (ReadLock old.seat) old.front new.front → AreOnline set new.front →
    is_busy new.seat new.front ≡ false → new.lent ≡ None → IsReader new set
locked_reader old new set same out m online idle nothing =
    let there = out_later old.head old.seat old.front m.found m.seen m.lawful out in
    let inside : IsIn old.seat m.found new.front =
    subst (IsIn old.seat m.found) (sym m.new_is)
    (record {
      role = role_push old.seat m.found (ReadLock old.seat) ∙ there.role;
      reading = since_locked old.seat m.found;
    }) in
    record {
      before = m.found;
      inside = subst (λ (n : ℕ). IsIn n m.found new.front) (sym same.seat) inside;
      idle = idle;
      nothing = nothing;
      online_is = λ cpu.
          online cpu ∙ ap (λ (w : List Event). is_online cpu w) m.new_is
          ∙ ap is_online_state (settled_push cpu m.found (ReadLock old.seat));
    }

-- a front of a section has just the processors online that there were before it
online_front : (head : Head) (k : ℕ) (before whole : List Event) (set : CpuSet) → IsLawful head whole →
    reading_since k whole ≡ Some before → AreOnline set before → (front : List Event) → IsPrefix front whole →
    length before < length front → AreOnline set front
online_front head k before whole set lawful reads online front p less cpu =
    online cpu
    ∙ ap is_online_state
    (sym
    (stands_still head k before front p.0 (subst (IsLawful head) (sym p.1) lawful)
    (subst (λ (w : List Event). reading_since k w ≡ Some before) (sym p.1) reads) less cpu))

pub throughout : (r : Reader) → IsReader r.pass r.online → IsLawful r.pass.head r.pass.front → IsOnlineThroughout r r.pass.front
throughout r i lawful =
    record {
      before = i.before;
      reading = i.inside.reading;
      throughout = online_front r.pass.head r.pass.seat i.before r.pass.front r.online lawful i.inside.reading i.online_is;
    }

-- and so has the one at its ReadUnlock
pub unlocked_throughout : (r : Reader) (new : List Event) → IsReader r.pass r.online →
    MakesIn r.pass.head r.pass.seat Unlock (ReadUnlock r.pass.seat) r.pass.front new → IsOnlineThroughout r new
unlocked_throughout r new i m =
    record {
      before = i.before;
      reading = i.inside.reading;
      throughout = λ front p less. at_front front p.0 (p.1 ∙ m.new_is) less;
    }
  where
    e : Event
    e = ReadUnlock r.pass.seat

    inside : IsIn r.pass.seat i.before m.found
    inside = in_later r.pass.head r.pass.seat i.before r.pass.front m.found m.seen m.lawful i.inside

    until : (front : List Event) → IsPrefix front m.found → length i.before < length front → AreOnline r.online front
    until = online_front r.pass.head r.pass.seat i.before m.found r.online m.lawful inside.reading i.online_is

    at_front : (front rest : List Event) → (front ++ rest) ≡ (m.found ++ e ∷ []) → length i.before < length front → AreOnline r.online front
    at_front front [] is less =
        let whole : front ≡ (m.found ++ e ∷ []) = sym (append-nil front) ∙ is in
        subst (λ (w : List Event). AreOnline r.online w) (sym whole)
        (λ cpu.
        i.online_is cpu
        ∙ ap is_online_state
        (sym (((headline r.pass.head m.found m.lawful).readers r.pass.seat i.before inside.reading cpu).1)
        ∙ sym (settled_push cpu m.found e)))
    at_front front (x ∷ rest) is less =
        let n = ap (λ (w : List Event). length w) is in
        let l = length-append front (x ∷ rest) in
        let f = length-append m.found (e ∷ []) in
        until front (prefix_shorter front m.found (m.found ++ e ∷ []) (x ∷ rest, is) (e ∷ [], refl) (omega arith)) less

-- the seat doesn't read then
pub unlocked_out : (old new : Seated) (set : CpuSet) → IsSamePass old new → IsReader old set →
    MakesIn old.head old.seat Unlock (ReadUnlock old.seat) old.front new.front → IsOut new.seat new.front
unlocked_out old new set same i m =
    let there = in_later old.head old.seat i.before old.front m.found m.seen m.lawful i.inside in
    let own = eq-eqb old.seat old.seat refl in
    subst (λ (n : ℕ). IsOut n new.front) (sym same.seat)
    (subst (IsOut old.seat) (sym m.new_is)
    (record {
      role = role_push old.seat m.found (ReadUnlock old.seat) ∙ there.role;
      not_reading = reading_since_push old.seat m.found (ReadUnlock old.seat) ∙ rw own refl;
    }))

-- an operation that is no unlock leaves the pass in its section
pub still_reader : {A E : Type 0} (r : Result A E) (old new : Seated) (set : CpuSet) (op : Op) → IsReader old set → IsSamePass old new →
    (op ≡ Unlock → ⊥) → Stays old.seat op old.front new.front → OnOk r (is_busy new.seat new.front ≡ false) →
    OnErr r (Grew old.seat old.front new.front []) → IsLawful new.head new.front → new.lent ≡ None → IsReader new set
still_reader r old new set op i same other stays ok err lawful nothing =
    record {
      before = i.before;
      inside = subst (λ (n : ℕ). IsIn n i.before new.front) (sym same.seat) (stays.inside i.before other i.inside);
      idle = ran_idle r old new same ok err lawful i.idle;
      nothing = nothing;
      online_is = i.online_is;
    }
