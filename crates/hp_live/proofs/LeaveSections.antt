-- Sections in which a seat leaves.
use Rattle.std.proofs.Common.{◌≡◌, ℕ, false, Option, Some, None, IfSome, IfNone, List, [], ◌∷◌, ◌++◌, refl, ap, ◌∙◌}
use Rattle.hp_event.specs.declared.event.Event.{Event}
use Rattle.hp_event.specs.declared.event.Event.TheVariants.{Leave}
use Rattle.hp_model.specs.Lawful.{Stands}
use Rattle.hp_model.specs.NextEvent.{due_entry}
use Rattle.hp_model.specs.Seats.{is_busy}
use Rattle.hp_turn.specs.Pass.{Pass}
use Rattle.hp_board.specs.Contents.{Contents, with_event}
use Rattle.hp_live.specs.declared.step.Step.{Step}
use Rattle.hp_live.specs.Known.{IsOut, IsThread}
use Rattle.hp_live.specs.Sections.{LeavesIn}
use Rattle.hp_live.specs.Steps.{Finds, ServesOn, ServesIn, HasSeen}
use Rattle.hp_live.proofs.Clients.{out_later}
use Rattle.hp_live.proofs.Coming.{thread_told}
use Rattle.hp_live.proofs.Finding.{Puts, puts_one, seen_by, lawful_found}
use Rattle.hp_live.proofs.Leaves.{client_leaves, thread_leaves}
use Rattle.hp_live.proofs.Others.{busy_later}
use Rattle.hp_live.proofs.Entries.{serve_puts, serve_head}

-- a client's seat may leave where its front says so
pub may_leave : (p : Pass) (k : ℕ) (found : Contents) → Finds p found → p.seat ≡ Some k → IsOut k p.front → is_busy k p.front ≡ false →
    Stands found.head found.events (Leave k)
may_leave p k found f own out idle =
    let seen = seen_by p k found.events own f.knew in
    let lawful = lawful_found p found f in
    client_leaves found.head found.events k f.board.lawful (out_later p.head k p.front found.events seen lawful out)
    (busy_later p.head k false p.front found.events seen lawful idle)

pub leave_puts : (k : ℕ) (old new : List Event) → new ≡ old ++ Leave k ∷ [] → Puts k old new
leave_puts k old new is = puts_one k old new (Leave k) is (refl, refl)

pub leaves_in : (p after : Pass) (k : ℕ) (found new : Contents) → Finds p found → p.seat ≡ Some k → new ≡ with_event found (Leave k) →
    after.front ≡ new.events → LeavesIn p.head k p.front after.front
leaves_in p after k found new f own left now =
    record {
      found = found.events;
      seen = seen_by p k found.events own f.knew;
      lawful = lawful_found p found f;
      new_is = now ∙ ap (λ (b : Contents). b.events) left;
    }

-- a thread's seat from which nothing is due may leave
pub thread_may_leave : (p : Pass) (k : ℕ) (found : Contents) → Finds p found → p.seat ≡ Some k → IsThread k p.front →
    due_entry found.head found.events k ≡ None → Stands found.head found.events (Leave k)
thread_may_leave p k found f own t none =
    let there = thread_told p.head k p.front found.events (seen_by p k found.events own f.knew) (lawful_found p found f) t in
    thread_leaves found.head found.events k there.cpu f.board.lawful there.role there.not_reading none

-- a step of a seat that leaves where nothing is due
abbrev pub LeftOr : {H : Type 0} → (k : ℕ) → (old new : Contents) → Option (Step H) → Type 0
LeftOr k old new None = new ≡ with_event old (Leave k)
LeftOr k old new (Some step) = ServesOn k old new step

pub left_or : {H : Type 0} (k : ℕ) (old new : Contents) (step : Option (Step H)) → IfNone step (new ≡ with_event old (Leave k)) →
    IfSome step (ServesOn k old new) → LeftOr k old new step
left_or k old new None left serves = left
left_or k old new (Some step) left serves = serves

pub left_puts : {H : Type 0} (k : ℕ) (old new : Contents) (step : Option (Step H)) → LeftOr k old new step → Puts k old.events new.events
left_puts k old new None s = leave_puts k old.events new.events (ap (λ (b : Contents). b.events) s)
left_puts k old new (Some step) s = serve_puts k old new step s

pub left_head : {H : Type 0} (k : ℕ) (old new : Contents) (step : Option (Step H)) → LeftOr k old new step → new.head ≡ old.head
left_head k old new None s = ap (λ (b : Contents). b.head) s
left_head k old new (Some step) s = serve_head k old new step s

pub left_leaves : {H : Type 0} (p after : Pass) (k : ℕ) (found new : Contents) (step : Option (Step H)) → Finds p found → p.seat ≡ Some k →
    IfNone step (new ≡ with_event found (Leave k)) → after.front ≡ new.events → IfNone step (LeavesIn p.head k p.front after.front)
left_leaves p after k found new None f own left now = leaves_in p after k found new f own left now
left_leaves p after k found new (Some step) f own left now = tt

pub left_serves : {H : Type 0} (p after : Pass) (k : ℕ) (found new : Contents) (step : Option (Step H)) → Finds p found →
    IfSome step (ServesOn k found new) → HasSeen after new → IfSome step (ServesIn k p after)
left_serves p after k found new None f serves seen = tt
left_serves p after k found new (Some step) f serves seen =
    record { found = found; finds = f; to = record { new = new; serves = serves; seen = seen } }
