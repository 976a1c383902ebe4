-- What a section of a seat that asks for a read section, or ends one, makes of its front.
use Rattle.std.proofs.Common.{◌≡◌, ⊎_elim, ℕ, true, false, is_some, Option, Some, None, Result, Ok, Err, IfOk, OnErr, List, [], ◌++◌, pos, inl, refl, sym, ap, ◌∙◌, subst, append_assoc}
use Rattle.std.proofs.lemmas.Bool.{true≢false, false≢true}
use Rattle.std.proofs.lemmas.List.{append-nil}
use Rattle.std.proofs.lemmas.List.Elements.{All-nil, All-append}
use Rattle.hp_states.proofs.Basics.{none_some, some_none, same_some, and_false}
use Rattle.hp_states.specs.declared.cpu_set.CpuSet.{CpuSet}
use Rattle.hp_event.specs.declared.answer.Answer.{Answer}
use Rattle.hp_event.specs.declared.answer.Answer.TheVariants.{Ok as Done}
use Rattle.hp_event.specs.declared.event.Event.{Event}
use Rattle.hp_event.specs.declared.event.Event.TheVariants.{Call, ReadLock, ReadUnlock}
use Rattle.hp_event.specs.declared.event.Role.TheVariants.{Client}
use Rattle.hp_event.specs.declared.head.Head.{Head}
use Rattle.hp_event.specs.declared.op.Op.{Op}
use Rattle.hp_event.specs.declared.op.Op.TheVariants.{Lock, Unlock}
use Rattle.hp_locks.specs.declared.why.Why.{Why}
use Rattle.hp_locks.specs.declared.why.Why.TheVariants.{ApTurn, HookOut}
use Rattle.hp_model.specs.Events.{BelongsTo, answer_by}
use Rattle.hp_model.specs.Front.{IsOther, StandsFor}
use Rattle.hp_model.specs.Lawful.{IsLawful}
use Rattle.hp_model.specs.Lent.{arms_walker}
use Rattle.hp_model.specs.NextEvent.{next_event}
use Rattle.hp_model.specs.Readers.{reading_since, is_reading}
use Rattle.hp_model.specs.Seats.{is_busy, role_of}
use Rattle.hp_model.specs.Walks.{walk}
use Rattle.hp_turn.specs.Pass.{Pass}
use Rattle.hp_board.specs.Contents.{Contents, with_event}
use Rattle.hp_board.specs.Loans.{loan, loan_of, WaitsForThread, WaitsToArm}
use Rattle.hp_board.specs.Turns.{IsTurn, IsNotYet, Makes, NextTakesRoom, TakesRoom}
use Rattle.hp_board.specs.declared.turn.Turn.{Turn}
use Rattle.hp_board.specs.declared.turn.Turn.TheVariants.{Made, Answered, NotYet}
use Rattle.hp_live.specs.declared.reading.ReadRefusal.{ReadRefusal}
use Rattle.hp_states.specs.declared.no_memory.NoMemory.{NoMemory}
use Rattle.hp_live.specs.Known.{IsOut, IsSamePass, Seated}
use Rattle.hp_live.specs.ReadSections.{AreOnline, AsksIn, AsksOn, IsReadRefusal, MakesIn, MakesNone}
use Rattle.hp_live.specs.Runs.{AnsweredBy, GoesOn}
use Rattle.hp_live.specs.Steps.{Finds}
use Rattle.hp_live.proofs.Clients.{out_later}
use Rattle.hp_live.proofs.Finding.{Puts, puts_one, puts_none, seen_by, lawful_found}
use Rattle.hp_live.proofs.Growing.{grew_seen}
use Rattle.hp_live.proofs.Idle.{answered_idle}
use Rattle.hp_live.proofs.Others.{busy_later, role_later, since_later}
use Rattle.hp_live.proofs.ReadEvents.{lock_next, unlock_next, unlock_not_full, idle_due}
use Rattle.hp_live.proofs.RunsOn.{same_self, same_on}

-- ---- a turn that asks for a read section

-- makes its ReadLock, where it makes an event, and that answers it
pub lock_made : (k : ℕ) (old new : Contents) (at : ℕ) (answer : Option Answer) → IsOut k old.events → is_busy k old.events ≡ false →
    Makes (next_event old.head old.events k Lock) at answer old new →
    (next_event old.head old.events k Lock ≡ Some (ReadLock k)) × (new ≡ with_event old (ReadLock k)) × (answer ≡ Some (Done (pos 0)))
lock_made k old new at answer out idle m =
    let is = lock_next old.head old.events k m.event idle out.not_reading m.next_is in (
      m.next_is ∙ ap (λ (e : Event). Some e) is,
      m.new_is ∙ ap (λ (e : Event). with_event old e) is,
      sym m.answer_is ∙ ap answer_by is,
    )

-- so it doesn't go on after it
pub lock_ends : (k : ℕ) (old new : Contents) (at : ℕ) → IsOut k old.events → is_busy k old.events ≡ false →
    Makes (next_event old.head old.events k Lock) at None old new → ⊥
lock_ends k old new at out idle m = none_some (Done (pos 0)) (lock_made k old new at None out idle m).2

-- where memory was wanting, it was for that
pub lock_wants : (head : Head) (xs : List Event) (k : ℕ) → IsOut k xs → is_busy k xs ≡ false →
    TakesRoom head xs (next_event head xs k Lock) → next_event head xs k Lock ≡ Some (ReadLock k)
lock_wants head xs k out idle takes = wants (next_event head xs k Lock) refl takes
  where
    wants : (o : Option Event) → next_event head xs k Lock ≡ o → TakesRoom head xs o → next_event head xs k Lock ≡ Some (ReadLock k)
    wants None is t = absurd t
    wants (Some e) is t = is ∙ ap (λ (x : Event). Some x) (lock_next head xs k e idle out.not_reading is)

-- nothing is lent to a client that has nothing in flight and doesn't read
pub idle_loan : (found : Contents) (k : ℕ) → IsLawful found.head found.events → IsOut k found.events → is_busy k found.events ≡ false →
    loan found k ≡ None
idle_loan found k lawful out idle =
    ap (λ (o : Option Event). loan_of o found.lent found.places) (idle_due found.head found.events k lawful out idle)

-- ---- a turn that ends one

-- waits for nothing
unlock_waits : (k : ℕ) (b : Contents) (why : Why) → next_event b.head b.events k Unlock ≡ Some (ReadUnlock k) →
    IsNotYet k Unlock b why → ⊥
unlock_waits k b (HookOut s) is w = ⊎_elim thread arms w
  where
    thread : WaitsForThread b s k Unlock → ⊥
    thread t = some_none (ReadUnlock k) (sym is ∙ t.kept.no_event)

    arms : WaitsToArm b s k Unlock → ⊥
    arms t =
        let o = t.out in
        let same = same_some t.event (ReadUnlock k) (sym t.next_is ∙ is) in
        true≢false
        (sym t.arms ∙ ap (λ (e : Event). arms_walker b.events (Call o.seat o.cpu s o.inst o.dir o.how) e) same
        ∙ and_false (is_some (walk o.cpu b.events)))
unlock_waits k b (ApTurn cpu) is w = some_none (ReadUnlock k) (sym is ∙ w.0.no_event)
unlock_waits k b why is w = some_none (ReadUnlock k) (sym is ∙ w.no_event)

unlock_event : (k : ℕ) (old : Contents) (e : Event) → next_event old.head old.events k Unlock ≡ Some (ReadUnlock k) →
    next_event old.head old.events k Unlock ≡ Some e → e ≡ ReadUnlock k
unlock_event k old e is next = same_some e (ReadUnlock k) (sym next ∙ is)

unlock_ends : (k : ℕ) (old new : Contents) (at : ℕ) → next_event old.head old.events k Unlock ≡ Some (ReadUnlock k) →
    Makes (next_event old.head old.events k Unlock) at None old new → ⊥
unlock_ends k old new at is m =
    some_none (Done (pos 0)) (sym (ap answer_by (unlock_event k old m.event is m.next_is)) ∙ m.answer_is)

-- takes no memory
unlock_wants : (head : Head) (xs : List Event) (k : ℕ) (o : Option Event) → o ≡ Some (ReadUnlock k) → TakesRoom head xs o → ⊥
unlock_wants head xs k o is takes = false≢true (subst (λ (x : Option Event). TakesRoom head xs x) is takes)

-- and makes the ReadUnlock
pub unlock_made : (k : ℕ) (old new : Contents) (result : Result Turn NoMemory) → role_of k old.events ≡ Some Client →
    is_busy k old.events ≡ false → is_reading k old.events ≡ true → IfOk result (IsTurn k Unlock old new) →
    OnErr result (NextTakesRoom old k Unlock) → new ≡ with_event old (ReadUnlock k)
unlock_made k old new result role idle reads turned wanted = made result turned wanted
  where
    next : next_event old.head old.events k Unlock ≡ Some (ReadUnlock k)
    next = unlock_next old.head old.events k role idle reads

    made : (r : Result Turn NoMemory) → IfOk r (IsTurn k Unlock old new) → OnErr r (NextTakesRoom old k Unlock) →
        new ≡ with_event old (ReadUnlock k)
    made (Ok (Made at)) t w = absurd (unlock_ends k old new at next t)
    made (Ok (Answered (Some at) answer)) t w =
        t.new_is ∙ ap (λ (e : Event). with_event old e) (unlock_event k old t.event next t.next_is)
    made (Ok (Answered None answer)) t w = absurd (unlock_not_full old.head old.events k role idle reads t.full)
    made (Ok (NotYet why)) t w = absurd (unlock_waits k old why next t.0)
    made (Err e) t w = absurd (unlock_wants old.head old.events k (next_event old.head old.events k Unlock) next w)

-- ---- a section

pub asks_puts : (k : ℕ) (old new : Contents) (asked : Option (Result CpuSet ReadRefusal)) → AsksOn k old new asked →
    Puts k old.events new.events
asks_puts k old new None s = puts_none k old.events new.events (ap (λ (b : Contents). b.events) s)
asks_puts k old new (Some (Err why)) s = puts_none k old.events new.events (ap (λ (b : Contents). b.events) s.0)
asks_puts k old new (Some (Ok online)) s =
    puts_one k old.events new.events (ReadLock k) (ap (λ (b : Contents). b.events) s.1) (refl, refl)

pub asks_head : (k : ℕ) (old new : Contents) (asked : Option (Result CpuSet ReadRefusal)) → AsksOn k old new asked →
    new.head ≡ old.head
asks_head k old new None s = ap (λ (b : Contents). b.head) s
asks_head k old new (Some (Err why)) s = ap (λ (b : Contents). b.head) s.0
asks_head k old new (Some (Ok online)) s = ap (λ (b : Contents). b.head) s.1

none_in : (p : Pass) (k : ℕ) (found new : Contents) (front : List Event) → Finds p found → p.seat ≡ Some k → new ≡ found →
    front ≡ new.events → MakesNone p.head k p.front front
none_in p k found new front f own same now =
    subst (MakesNone p.head k p.front) (sym (now ∙ ap (λ (b : Contents). b.events) same))
    (record { seen = seen_by p k found.events own f.knew; lawful = lawful_found p found f })

event_in : (p : Pass) (k : ℕ) (op : Op) (e : Event) (found new : Contents) (front : List Event) → Finds p found → p.seat ≡ Some k →
    next_event found.head found.events k op ≡ Some e → new ≡ with_event found e → front ≡ new.events →
    MakesIn p.head k op e p.front front
event_in p k op e found new front f own next made now =
    record {
      found = found.events;
      seen = seen_by p k found.events own f.knew;
      lawful = lawful_found p found f;
      next_is = ap (λ (h : Head). next_event h found.events k op) (sym f.head_is) ∙ next;
      new_is = now ∙ ap (λ (b : Contents). b.events) made;
    }

refused_in : (p : Pass) (k : ℕ) (found new : Contents) (front : List Event) (why : ReadRefusal) → Finds p found → new ≡ found →
    front ≡ new.events → IsReadRefusal found.head k found.events why → IsReadRefusal p.head k front why
refused_in p k found new front why f same now r =
    subst (λ (w : List Event). IsReadRefusal p.head k w why) (sym (now ∙ ap (λ (b : Contents). b.events) same))
    (subst (λ (h : Head). IsReadRefusal h k found.events why) f.head_is r)

pub asks_in : (p : Pass) (k : ℕ) (found new : Contents) (front : List Event) (asked : Option (Result CpuSet ReadRefusal)) →
    Finds p found → p.seat ≡ Some k → AsksOn k found new asked → front ≡ new.events → AsksIn p.head k p.front front asked
asks_in p k found new front None f own s now = none_in p k found new front f own s now
asks_in p k found new front (Some (Err why)) f own s now =
    (none_in p k found new front f own s.0 now, refused_in p k found new front why f s.0 now s.1)
asks_in p k found new front (Some (Ok online)) f own s now = (
  event_in p k Lock (ReadLock k) found new front f own s.0 s.1 now,
  subst (λ (w : List Event). AreOnline online w) (sym now) s.2,
)

pub unlocks_in : (p : Pass) (k : ℕ) (found new : Contents) (front : List Event) → Finds p found → p.seat ≡ Some k →
    next_event found.head found.events k Unlock ≡ Some (ReadUnlock k) → new ≡ with_event found (ReadUnlock k) →
    front ≡ new.events → MakesIn p.head k Unlock (ReadUnlock k) p.front front
unlocks_in p k found new front f own next made now = event_in p k Unlock (ReadUnlock k) found new front f own next made now

pub unlock_puts : (k : ℕ) (old new : Contents) → new ≡ with_event old (ReadUnlock k) → Puts k old.events new.events
unlock_puts k old new is = puts_one k old.events new.events (ReadUnlock k) (ap (λ (b : Contents). b.events) is) (refl, refl)

-- what holds of the pass's front holds of what the section finds

pub out_found : (p : Pass) (k : ℕ) (found : Contents) → Finds p found → p.seat ≡ Some k → IsOut k p.front → IsOut k found.events
out_found p k found f own out =
    out_later p.head k p.front found.events (seen_by p k found.events own f.knew) (lawful_found p found f) out

pub idle_found : (p : Pass) (k : ℕ) (found : Contents) → Finds p found → p.seat ≡ Some k → is_busy k p.front ≡ false →
    is_busy k found.events ≡ false
idle_found p k found f own idle =
    busy_later p.head k false p.front found.events (seen_by p k found.events own f.knew) (lawful_found p found f) idle

pub role_found : (p : Pass) (k : ℕ) (found : Contents) → Finds p found → p.seat ≡ Some k → role_of k p.front ≡ Some Client →
    role_of k found.events ≡ Some Client
role_found p k found f own role =
    role_later p.head k (Some Client) p.front found.events (seen_by p k found.events own f.knew) (lawful_found p found f) role

pub reads_found : (p : Pass) (k : ℕ) (found : Contents) → Finds p found → p.seat ≡ Some k → is_reading k p.front ≡ true →
    is_reading k found.events ≡ true
reads_found p k found f own reads =
    ap is_some
    (since_later p.head k (reading_since k p.front) p.front found.events (seen_by p k found.events own f.knew)
    (lawful_found p found f) refl)
    ∙ reads

-- ---- from section to section

stands_on : (k : ℕ) (a b c : List Event) → StandsFor (Some k) a b → StandsFor (Some k) b c → StandsFor (Some k) a c
stands_on k a b c s t =
    record {
      rest = s.rest ++ t.rest;
      whole = sym (append_assoc a s.rest t.rest) ∙ ap (λ (w : List Event). w ++ t.rest) s.whole ∙ t.whole;
      others = All-append (IsOther (Some k)) s.rest t.rest s.others t.others;
    }

pub stands_self : (k : ℕ) (a : List Event) → StandsFor (Some k) a a
stands_self k a = record { rest = []; whole = append-nil a; others = All-nil (IsOther (Some k)) }

pub none_more : (head : Head) (k : ℕ) (a b c : List Event) → StandsFor (Some k) a b → MakesNone head k b c → MakesNone head k a c
none_more head k a b c s m = record { seen = stands_on k a b c s m.seen; lawful = m.lawful }

pub asks_more : (head : Head) (k : ℕ) (a b c : List Event) (asked : Option (Result CpuSet ReadRefusal)) → StandsFor (Some k) a b →
    AsksIn head k b c asked → AsksIn head k a c asked
asks_more head k a b c None s m = none_more head k a b c s m
asks_more head k a b c (Some (Err why)) s m = (none_more head k a b c s m.0, m.1)
asks_more head k a b c (Some (Ok online)) s m = (
  record {
    found = m.0.found;
    seen = stands_on k a b m.0.found s m.0.seen;
    lawful = m.0.lawful;
    next_is = m.0.next_is;
    new_is = m.0.new_is;
  },
  m.1,
)

-- ---- what the call says of it

pub makes_answered : (head : Head) (k : ℕ) (op : Op) (e : Event) (old new : List Event) (answer : Answer) → MakesIn head k op e old new →
    BelongsTo op e → answer_by e ≡ Some answer → AnsweredBy head k op old new answer
makes_answered head k op e old new answer m belongs answers =
    record {
      earlier = [];
      before = m.found;
      event = e;
      grew = grew_seen k old m.found m.seen;
      lawful = m.lawful;
      goes_on = All-nil (GoesOn op);
      next_is = m.next_is;
      belongs = belongs;
      new_is = m.new_is;
      answers = answers;
    }

-- ---- a seat that asks until it has what it asked for: `start` is the pass as the call was given it, `now` before a section, `next` after

pub record Waited (start now : Seated) : Type 0 where
  pub same : IsSamePass start now
  pub seen : StandsFor (Some start.seat) start.front now.front
  pub out : IsOut now.seat now.front
  pub idle : is_busy now.seat now.front ≡ false

pub waited_self : (start : Seated) → IsOut start.seat start.front → is_busy start.seat start.front ≡ false → Waited start start
waited_self start out idle =
    record { same = same_self start; seen = stands_self start.seat start.front; out = out; idle = idle }

pub waited_more : (start now next : Seated) → Waited start now → IsSamePass now next →
    MakesNone now.head now.seat now.front next.front → Waited start next
waited_more start now next w same m =
    record {
      same = same_on start now next w.same same;
      seen =
          stands_on start.seat start.front now.front next.front w.seen
          (subst (λ (n : ℕ). StandsFor (Some n) now.front next.front) w.same.seat m.seen);
      out =
          subst (λ (n : ℕ). IsOut n next.front) (sym same.seat) (out_later now.head now.seat now.front next.front m.seen m.lawful w.out);
      idle =
          subst (λ (n : ℕ). is_busy n next.front ≡ false) (sym same.seat)
          (busy_later now.head now.seat false now.front next.front m.seen m.lawful w.idle);
    }

pub waited_asks : (start now : Seated) (front : List Event) (asked : Option (Result CpuSet ReadRefusal)) → Waited start now →
    AsksIn now.head now.seat now.front front asked → AsksIn start.head start.seat start.front front asked
waited_asks start now front asked w a =
    asks_more start.head start.seat start.front now.front front asked w.seen
    (subst (λ (h : Head). AsksIn h start.seat now.front front asked) w.same.head
    (subst (λ (n : ℕ). AsksIn now.head n now.front front asked) w.same.seat a))

-- a refused pass is out as before, with nothing in flight
pub refused_out : (old new : Seated) → IsSamePass old new → MakesNone old.head old.seat old.front new.front → IsOut old.seat old.front →
    IsOut new.seat new.front
refused_out old new same m out =
    subst (λ (n : ℕ). IsOut n new.front) (sym same.seat) (out_later old.head old.seat old.front new.front m.seen m.lawful out)

pub refused_idle : (old new : Seated) → IsSamePass old new → MakesNone old.head old.seat old.front new.front →
    is_busy old.seat old.front ≡ false → is_busy new.seat new.front ≡ false
refused_idle old new same m idle =
    subst (λ (n : ℕ). is_busy n new.front ≡ false) (sym same.seat)
    (busy_later old.head old.seat false old.front new.front m.seen m.lawful idle)

-- and one whose operation was answered has nothing in flight
pub made_idle : (old new : Seated) (op : Op) (e : Event) (answer : Answer) → IsSamePass old new →
    MakesIn old.head old.seat op e old.front new.front → BelongsTo op e → answer_by e ≡ Some answer →
    is_busy new.seat new.front ≡ false
made_idle old new op e answer same m belongs answers =
    subst (λ (n : ℕ). is_busy n new.front ≡ false) (sym same.seat)
    (answered_idle old.head old.seat op old.front new.front answer
    (inl (makes_answered old.head old.seat op e old.front new.front answer m belongs answers)))
