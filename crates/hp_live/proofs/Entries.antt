-- Sections of a thread's seat.
use Rattle.std.proofs.Common.{◌≡◌, ℕ, true, Some, None, List, [], ◌∷◌, ◌++◌, refl, sym, ap, ◌∙◌, subst}
use Rattle.std.proofs.lemmas.Bool.{false≢true}
use Rattle.std.proofs.lemmas.List.Elements.{All-nil, All-cons, All-append}
use Rattle.hp_event.specs.declared.head.Head.{Head}
use Rattle.hp_event.specs.declared.event.Event.{Event}
use Rattle.hp_event.specs.declared.event.Event.TheVariants.{Admit, Leave, ReadLock, ReadUnlock}
use Rattle.hp_locks.specs.declared.why.Why.TheVariants.{Idle, HookOut}
use Rattle.hp_model.specs.Events.{is_call}
use Rattle.hp_model.specs.Front.{StandsFor}
use Rattle.hp_model.specs.NextEvent.{due_entry}
use Rattle.hp_model.specs.Readers.{reading_since, reading_since_step}
use Rattle.hp_model.specs.Seats.{role_of, role_step}
use Rattle.hp_model.proofs.DueGives.{due_stands}
use Rattle.hp_model.proofs.Laws.{role_push, reading_since_push}
use Rattle.hp_turn.specs.Pass.{Pass}
use Rattle.hp_board.specs.Contents.{Contents}
use Rattle.hp_board.specs.Loans.{loan}
use Rattle.hp_board.specs.Turns.{IsServed}
use Rattle.hp_board.specs.declared.turn.Turn.{Turn}
use Rattle.hp_board.specs.declared.turn.Turn.TheVariants.{Made, NotYet}
use Rattle.hp_live.specs.declared.step.Step.{Step}
use Rattle.hp_live.specs.declared.step.Stepped.{Stepped}
use Rattle.hp_live.specs.declared.step.Stepped.TheVariants as did
use Rattle.hp_live.specs.declared.step.Step.TheVariants.{Turned, Lent}
use Rattle.hp_live.specs.Known.{IsSamePass, IsThread, Seated}
use Rattle.hp_live.specs.Runs.{EnteredIn}
use Rattle.hp_live.specs.Sections.{Adds, ServedOn}
use Rattle.hp_live.specs.Steps.{ServesOn, ServesIn, lent_by}
use Rattle.hp_live.specs.Threads.{IsCall, Enters, Rests}
use Rattle.hp_machine.specs.Clients.{clients}
use Rattle.hp_live.proofs.Coming.{thread_told}
use Rattle.hp_live.proofs.Finding.{Puts, puts_one, puts_none, seen_by, lawful_found}
use Rattle.hp_live.proofs.Growing.{grew_self, grew_seen, grew_on, grew_event}
use Rattle.hp_live.proofs.Turning.{own_due}

pub served_on : (k : ℕ) (old new : Contents) (turn : Turn) → IsServed k old new turn → ServedOn old.head k old.events new.events turn
served_on k old new (Made at) t =
    record {
      event = t.event;
      next_is = t.next_is;
      new_is = ap (λ (b : Contents). b.events) t.new_is;
      place_is = t.place_is;
      answer_is = t.answer_is;
    }
served_on k old new (NotYet Idle) t = (t.0, ap (λ (b : Contents). b.events) t.1)
served_on k old new (NotYet (HookOut s)) t = ap (λ (b : Contents). b.events) t.1
served_on k old new turn t = absurd t

served_head : (k : ℕ) (old new : Contents) (turn : Turn) → IsServed k old new turn → new.head ≡ old.head
served_head k old new (Made at) t = ap (λ (b : Contents). b.head) t.new_is
served_head k old new (NotYet Idle) t = ap (λ (b : Contents). b.head) t.1
served_head k old new (NotYet (HookOut s)) t = ap (λ (b : Contents). b.head) t.1
served_head k old new turn t = absurd t

served_puts : (head : Head) (k : ℕ) (old new : List Event) (turn : Turn) → ServedOn head k old new turn → Puts k old new
served_puts head k old new (Made at) t = puts_one k old new t.event t.new_is (own_due head old k t.event t.next_is)
served_puts head k old new (NotYet Idle) t = puts_none k old new t.1
served_puts head k old new (NotYet (HookOut s)) t = puts_none k old new t
served_puts head k old new turn t = absurd t

-- ---- a step

pub serve_puts : {H : Type 0} (k : ℕ) (old new : Contents) (step : Step H) → ServesOn k old new step → Puts k old.events new.events
serve_puts k old new (Turned turn) s = served_puts old.head k old.events new.events turn (served_on k old new turn s.1)
serve_puts k old new (Lent a) s = puts_none k old.events new.events s.2

pub serve_head : {H : Type 0} (k : ℕ) (old new : Contents) (step : Step H) → ServesOn k old new step → new.head ≡ old.head
serve_head k old new (Turned turn) s = served_head k old new turn s.1
serve_head k old new (Lent a) s = s.1

pub serve_lends : {H : Type 0} (k : ℕ) (old new : Contents) (step : Step H) → ServesOn k old new step → loan new k ≡ lent_by step
serve_lends k old new (Turned turn) s = s.2
serve_lends k old new (Lent a) s = s.3

-- ---- entries, one after another

pub enters_self : (k : ℕ) (front : List Event) → Enters k front front
enters_self k front = record { entries = []; grew = grew_self k front; are_calls = All-nil IsCall }

pub enters_seen : (k : ℕ) (old found : List Event) → StandsFor (Some k) old found → Enters k old found
enters_seen k old found seen = record { entries = []; grew = grew_seen k old found seen; are_calls = All-nil IsCall }

pub enters_on : (k : ℕ) (a b c : List Event) → Enters k a b → Enters k b c → Enters k a c
enters_on k a b c s t =
    record {
      entries = s.entries ++ t.entries;
      grew = grew_on k a b c s.entries t.entries s.grew t.grew;
      are_calls = All-append IsCall s.entries t.entries s.are_calls t.are_calls;
    }

enters_one : (head : Head) (k : ℕ) (found new : List Event) (at : ℕ) → Adds (due_entry head found k) at None found new → Enters k found new
enters_one head k found new at a =
    let s = due_stands head found k a.event a.next_is in
    subst (Enters k found) (sym a.new_is)
    (record {
      entries = a.event ∷ [];
      grew = grew_event k found a.event s.2;
      are_calls = All-cons IsCall a.event [] s.1 (All-nil IsCall);
    })

enters_turn : (head : Head) (k : ℕ) (found new : List Event) (turn : Turn) → ServedOn head k found new turn → Enters k found new
enters_turn head k found new (Made at) s = enters_one head k found new at s
enters_turn head k found new (NotYet Idle) s = subst (Enters k found) (sym s.1) (enters_self k found)
enters_turn head k found new (NotYet (HookOut state)) s = subst (Enters k found) (sym s) (enters_self k found)
enters_turn head k found new turn s = absurd s

enters_step : {H : Type 0} (k : ℕ) (old new : Contents) (step : Step H) → ServesOn k old new step → Enters k old.events new.events
enters_step k old new (Turned turn) s = enters_turn old.head k old.events new.events turn (served_on k old new turn s.1)
enters_step k old new (Lent a) s = subst (Enters k old.events) (sym s.2) (enters_self k old.events)

-- what a section of a thread's seat makes of its front
pub serves_enters : {H : Type 0} (p after : Pass) (k : ℕ) (step : Step H) → p.seat ≡ Some k → ServesIn k p after step →
    Enters k p.front after.front
serves_enters p after k step own s =
    subst (Enters k p.front) (sym s.to.seen.front_is)
    (enters_on k p.front s.found.events s.to.new.events
    (enters_seen k p.front s.found.events (seen_by p k s.found.events own s.finds.knew)) (enters_step k s.found s.to.new step s.to.serves))

-- the hook that a seat carried came home
pub entered_enters : (head : Head) (k : ℕ) (old new : List Event) (stepped : Stepped) → EnteredIn head k old new stepped →
    Enters k old new
entered_enters head k old new (did.Turned (Made at)) e =
    enters_on k old e.found new (enters_seen k old e.found e.seen) (enters_one head k e.found new at e.entered)
entered_enters head k old new stepped e = absurd e

-- from section to section: `start` is the pass as it was taken up, `now` before a section, `next` after it

pub enters_more : (start now next : Seated) → IsSamePass start now → Enters start.seat start.front now.front →
    Enters now.seat now.front next.front → Enters start.seat start.front next.front
enters_more start now next same e more =
    enters_on start.seat start.front now.front next.front e
    (subst (λ (n : ℕ). Enters n now.front next.front) same.seat more)

pub thread_more : (now next : Seated) → IsSamePass now next → IsThread now.seat next.front → IsThread next.seat next.front
thread_more now next same t = subst (λ (n : ℕ). IsThread n next.front) (sym same.seat) t

pub rests_as : (start now : Seated) (front : List Event) → IsSamePass start now → Rests now.head now.seat front →
    Rests start.head start.seat front
rests_as start now front same r =
    subst (λ (h : Head). Rests h start.seat front) same.head (subst (λ (n : ℕ). Rests now.head n front) same.seat r)

-- where nothing was due and no client is in
pub serves_rests : {H : Type 0} (p after : Pass) (k : ℕ) (step : Step H) → ServesIn k p after step → step ≡ Turned (NotYet Idle) →
    clients after.front ≡ 0 → Rests p.head k after.front
serves_rests p after k step s is none =
    let on = subst (ServesOn k s.found s.to.new) is s.to.serves in
    let front : after.front ≡ s.found.events = s.to.seen.front_is ∙ ap (λ (b : Contents). b.events) on.1.1 in
    record {
      no_client = none;
      none_due =
          ap (λ (w : List Event). due_entry p.head w k) front
          ∙ ap (λ (h : Head). due_entry h s.found.events k) (sym s.finds.head_is) ∙ on.1.0;
    }

-- ---- the seat stays in

entry_role : (xs : List Event) (e : Event) (k : ℕ) → is_call e ≡ true → role_step k (role_of k xs) xs e ≡ role_of k xs
entry_role xs (Admit seat role) k is = absurd (false≢true is)
entry_role xs (Leave seat) k is = absurd (false≢true is)
entry_role xs e k is = refl

entry_reads : (xs : List Event) (e : Event) (k : ℕ) → is_call e ≡ true →
    reading_since_step k (reading_since k xs) xs e ≡ reading_since k xs
entry_reads xs (ReadLock seat) k is = absurd (false≢true is)
entry_reads xs (ReadUnlock seat) k is = absurd (false≢true is)
entry_reads xs e k is = refl

pub thread_entry : (head : Head) (k : ℕ) (xs new : List Event) (at : ℕ) → Adds (due_entry head xs k) at None xs new → IsThread k xs → IsThread k new
thread_entry head k xs new at a t =
    let s = due_stands head xs k a.event a.next_is in
    subst (IsThread k) (sym a.new_is)
    (record {
      cpu = t.cpu;
      role = role_push k xs a.event ∙ entry_role xs a.event k s.1 ∙ t.role;
      not_reading = reading_since_push k xs a.event ∙ entry_reads xs a.event k s.1 ∙ t.not_reading;
    })

pub thread_turn : (head : Head) (k : ℕ) (found new : List Event) (turn : Turn) → ServedOn head k found new turn → IsThread k found → IsThread k new
thread_turn head k found new (Made at) s t = thread_entry head k found new at s t
thread_turn head k found new (NotYet Idle) s t = subst (IsThread k) (sym s.1) t
thread_turn head k found new (NotYet (HookOut state)) s t = subst (IsThread k) (sym s) t
thread_turn head k found new turn s t = absurd s

thread_step : {H : Type 0} (k : ℕ) (old new : Contents) (step : Step H) → ServesOn k old new step → IsThread k old.events →
    IsThread k new.events
thread_step k old new (Turned turn) s t = thread_turn old.head k old.events new.events turn (served_on k old new turn s.1) t
thread_step k old new (Lent a) s t = subst (IsThread k) (sym s.2) t

pub serves_thread : {H : Type 0} (p after : Pass) (k : ℕ) (step : Step H) → p.seat ≡ Some k → ServesIn k p after step →
    IsThread k p.front → IsThread k after.front
serves_thread p after k step own s t =
    subst (IsThread k) (sym s.to.seen.front_is)
    (thread_step k s.found s.to.new step s.to.serves
    (thread_told p.head k p.front s.found.events (seen_by p k s.found.events own s.finds.knew) (lawful_found p s.found s.finds) t))

pub entered_thread : (head : Head) (k : ℕ) (old new : List Event) (stepped : Stepped) → EnteredIn head k old new stepped →
    IsThread k old → IsThread k new
entered_thread head k old new (did.Turned (Made at)) e t =
    thread_entry head k e.found new at e.entered (thread_told head k old e.found e.seen e.lawful t)
entered_thread head k old new stepped e t = absurd e
