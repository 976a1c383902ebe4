-- Each admission stands.
use Rattle.std.proofs.Common.{◌≡◌, arith, List, [], ◌∷◌, ◌++◌, ap, sym, subst, ◌∙◌}
use Rattle.hp_event.specs.declared.event.Event.{Event}
use Rattle.hp_event.specs.declared.event.Event.TheVariants.{Admit}
use Rattle.hp_event.specs.declared.event.Role.TheVariants.{Client, Ap}
use Rattle.hp_event.specs.declared.head.Head.{Head}
use Rattle.hp_board.specs.Contents.{Contents}
use Rattle.hp_model.specs.Lawful.{Stands}
use Rattle.hp_model.specs.Admissions.{ap_admits}
use Rattle.hp_model.specs.Seats.{admits}
use Rattle.hp_actors.proofs.Admissions.{seated, present_below, seated_none, ap_stands, ap_next, client_stands, clients_admitted, seated_more}
use Rattle.hp_actors.proofs.seating.seat_all.Goals as goal

pub admit_thread-requires : goal.admit_thread-requires
admit_thread-requires g c = λ there.
    let i = c.loop-cpu.invariant in
    let s = ap_stands c.args.head.now c.args.clients c.loop-cpu.cpu c.requires.head c.requires.few c.loop-cpu-test.true there in
    subst (λ (h : Head). Stands h c.loop-cpu.board.events (Admit (admits c.loop-cpu.board.events) (Ap c.loop-cpu.cpu))) (sym i.head)
    (subst (λ (es : List Event). Stands c.args.head.now es (Admit (admits es) (Ap c.loop-cpu.cpu))) (sym i.events) s)

pub loop-cpu-preserved : goal.loop-cpu-preserved
loop-cpu-preserved g c =
    let i = c.loop-cpu.invariant in
    let e = c.in_ok-admit_thread.ensures in
    record {
      head = e.head ∙ i.head;
      events =
          ap_next c.args.head.now c.args.clients c.loop-cpu.cpu c.loop-cpu.board.events c.admit_thread.new.board.events
          c.requires.head c.requires.few c.loop-cpu-test.true i.events e.there e.absent;
      places = e.places ∙ i.places;
    }

pub admit-requires : goal.admit-requires
admit-requires g c =
    let i = c.loop.invariant in
    let s = client_stands c.args.head.now c.args.clients c.loop.counter c.requires.head c.requires.few c.loop-test.true in
    subst (λ (h : Head). Stands h c.loop.board.events (Admit (admits c.loop.board.events) Client)) (sym i.head)
    (subst (λ (es : List Event). Stands c.args.head.now es (Admit (admits es) Client)) (sym i.events) s)

pub loop-preserved : goal.loop-preserved
loop-preserved g c =
    let i = c.loop.invariant in
    let e = c.in_ok-admit.ensures in
    record {
      head = ap (λ b. b.head) e ∙ i.head;
      events =
          ap (λ b. b.events) e
          ∙ (ap (λ es. es ++ Admit (admits es) Client ∷ []) i.events
          ∙ (ap (λ k. seated c.args.head.now c.loop.counter ++ Admit k Client ∷ [])
          (clients_admitted c.args.head.now c.args.clients c.loop.counter c.requires.head c.requires.few c.loop-test.true)
          ∙ sym (seated_more c.args.head.now c.loop.counter)));
      places = ap (λ (b : Contents). b.places) e ∙ i.places;
    }

pub loop-init : goal.loop-init
loop-init g c =
    let i = c.loop-cpu.invariant in
    let all : c.loop-cpu.cpu ≡ c.args.head.now.possible = omega arith in
    record {
      head = i.head;
      events = i.events ∙ (ap (λ n. ap_admits 0 (present_below c.args.head.now n)) all ∙ seated_none c.args.head.now);
      places = i.places;
    }
