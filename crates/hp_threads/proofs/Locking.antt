-- An actor begins a read section.
use Rattle.std.proofs.Common.{◌≡◌, ℕ, true, false, pos, List, [], refl, sym, subst, inl, inr}
use Rattle.hp_event.specs.declared.answer.Answer.TheVariants.{Ok as Done, LogFull}
use Rattle.hp_event.specs.declared.event.Event.{Event}
use Rattle.hp_event.specs.declared.head.Head.{Head}
use Rattle.hp_event.specs.declared.op.Op.{Op}
use Rattle.hp_event.specs.declared.op.Op.TheVariants.{Lock, Unlock}
use Rattle.hp_model.specs.NextEvent.{is_full}
use Rattle.hp_model.specs.Seats.{is_busy}
use Rattle.hp_live.specs.Grew.{Grew}
use Rattle.hp_live.specs.Known.{IsSamePass, Seated}
use Rattle.hp_live.specs.Runs.{AnsweredBy}
use Rattle.hp_live.proofs.Growing.{grew_self, grew_on}
use Rattle.hp_live.proofs.RunsOn.{same_self, same_on}
use Rattle.hp_live.specs.ReadSections.{Reader}
use Rattle.hp_threads.specs.declared.standing.Standing.{Standing}
use Rattle.hp_threads.specs.declared.standing.Standing.TheVariants.{Inside}
use Rattle.hp_threads.specs.Acting.{IsDone}
use Rattle.hp_threads.specs.Standings.{pass_of}

-- a pass that has none of its own events past the one that was given, and nothing in flight
pub record Waits (start now : Seated) : Type 0 where
  pub same : IsSamePass start now
  pub idle : is_busy now.seat now.front ≡ false
  pub none : Grew start.seat start.front now.front []

pub waits_self : (start : Seated) → is_busy start.seat start.front ≡ false → Waits start start
waits_self start idle = record { same = same_self start; idle = idle; none = grew_self start.seat start.front }

grew_as : (start now : Seated) (new made : List Event) → IsSamePass start now → Grew now.seat now.front new made →
    Grew start.seat now.front new made
grew_as start now new made same g = subst (λ (k : ℕ). Grew k now.front new made) same.seat g

pub waits_more : (start now next : Seated) → Waits start now → IsSamePass now next → is_busy next.seat next.front ≡ false →
    Grew now.seat now.front next.front [] → Waits start next
waits_more start now next w same idle none =
    record {
      same = same_on start now next w.same same;
      idle = idle;
      none = grew_on start.seat start.front now.front next.front [] [] w.none (grew_as start now next.front [] w.same none);
    }

answered_at : (head h : Head) (k j : ℕ) (op : Op) (old new : List Event) → h ≡ head → j ≡ k → AnsweredBy h j op old new (Done (pos 0)) →
    AnsweredBy head k op old new (Done (pos 0))
answered_at head h k j op old new e f d =
    subst (λ (x : ℕ). AnsweredBy head x op old new (Done (pos 0))) f
    (subst (λ (x : Head). AnsweredBy x j op old new (Done (pos 0))) e d)

-- an operation that is answered by an event
pub done_by : (head : Head) (k : ℕ) (op : Op) (old new : List Event) → AnsweredBy head k op old new (Done (pos 0)) → IsDone head k op old new
done_by head k op old new a = record { answer = Done (pos 0); answered = inl a }

pub locked_done : (start now : Seated) (new : List Event) → Waits start now →
    AnsweredBy now.head now.seat Lock now.front new (Done (pos 0)) → IsDone start.head start.seat Lock start.front new
locked_done start now new w a =
    let b = answered_at start.head now.head start.seat now.seat Lock now.front new w.same.head w.same.seat a in
    done_by start.head start.seat Lock start.front new
    (record {
      earlier = b.earlier;
      before = b.before;
      event = b.event;
      grew = grew_on start.seat start.front now.front b.before [] b.earlier w.none b.grew;
      lawful = b.lawful;
      goes_on = b.goes_on;
      next_is = b.next_is;
      belongs = b.belongs;
      new_is = b.new_is;
      answers = b.answers;
    })

pub full_done : (start now next : Seated) → Waits start now → Grew now.seat now.front next.front [] →
    is_full now.head next.front now.seat Lock ≡ true → IsDone start.head start.seat Lock start.front next.front
full_done start now next w none full =
    record {
      answer = LogFull;
      answered =
          inr (record {
            grew = grew_on start.seat start.front now.front next.front [] [] w.none (grew_as start now next.front [] w.same none);
            full =
                subst (λ (k : ℕ). is_full start.head next.front k Lock ≡ true) w.same.seat
                (subst (λ (h : Head). is_full h next.front now.seat Lock ≡ true) w.same.head full);
            answer_is = refl;
          });
    }

-- an unlock in a read section
pub unlocked_done : {H : Type 0} (standing : Standing H) (read : Reader) (asked : Op) (new : List Event) → standing ≡ Inside read →
    asked ≡ Unlock → AnsweredBy read.pass.head read.pass.seat Unlock read.pass.front new (Done (pos 0)) →
    IsDone (pass_of standing).head (pass_of standing).seat asked (pass_of standing).front new
unlocked_done {H} standing read asked new is op a =
    subst (λ (s : Standing H). IsDone (pass_of s).head (pass_of s).seat asked (pass_of s).front new) (sym is)
    (subst (λ (o : Op). IsDone read.pass.head read.pass.seat o read.pass.front new) (sym op)
    (done_by read.pass.head read.pass.seat Unlock read.pass.front new a))
