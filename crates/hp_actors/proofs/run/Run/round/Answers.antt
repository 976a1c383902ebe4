-- Each seat has its turn.
use Rattle.std.proofs.Common.{◌≡◌, ◌+◌, ◌-◌, ap, sym, subst, length, arith, ◌∙◌}
use Rattle.hp_model.specs.Lists.{numbers}
use Rattle.hp_model.specs.Processors.{present}
use Rattle.hp_model.specs.ScriptTurns.{after_turns, turn}
use Rattle.hp_actors.specs.Positions.{Position}
use Rattle.hp_actors.proofs.HooksTurned.{keeps_on, keeps_same}
use Rattle.hp_actors.proofs.Later.{later_on, later_one, turn_later}
use Rattle.hp_actors.proofs.RoundLaws.{seat_more, threads_answer}
use Rattle.hp_actors.proofs.run.Run.round.Goals as goal

pub loop-seat-preserved-then-actor_waits : goal.loop-seat-preserved-then-actor_waits
loop-seat-preserved-then-actor_waits g c =
    let i = c.loop-seat.invariant in
    let q = c.loop-seat.self in
    let same : length (present q.head) + (c.loop-seat.seat - c.actors_seats-first.result.0) ≡ c.loop-seat.seat =
    let heads = i.head ∙ sym (ap (λ p. p.head) c.serve_threads.ensures.progress) in
    let first = ap (λ h. length (present h)) heads ∙ sym c.actors_seats-first.ensures.first in
    omega (arith, first) in
    let still : q.progress ≡ turn q.head q.actors q.progress c.loop-seat.seat =
    subst (λ n. q.progress ≡ turn q.head q.actors q.progress n) same (sym (c.actor_waits.ensures c.if-actor_waits.true)) in
    record {
      head = i.head;
      actors = i.actors;
      turned = seat_more c.args.self.now c.loop-seat.self c.loop-seat.self c.loop-seat.seat i.head i.actors i.turned still;
      made = i.made;
      kept = i.kept;
    }

pub loop-seat-preserved : goal.loop-seat-preserved
loop-seat-preserved g c =
    let i = c.loop-seat.invariant in
    let e = c.in_ok-turn.ensures.ok in
    record {
      head = ap (λ p. p.head) e ∙ i.head;
      actors = ap (λ p. p.actors) e ∙ i.actors;
      turned = seat_more c.args.self.now c.loop-seat.self c.turn.new.self c.loop-seat.seat i.head i.actors i.turned (ap (λ p. p.progress) e);
      made =
          later_on c.args.self.now c.loop-seat.self c.turn.new.self i.made (later_one c.loop-seat.self c.turn.new.self c.loop-seat.seat e);
      kept = keeps_on c.args.self.now c.loop-seat.self c.turn.new.self i.kept c.turn.ensures.kept;
    }

pub loop-seat-init : goal.loop-seat-init
loop-seat-init g c =
    let e = c.serve_threads.ensures.progress in
    record {
      head = ap (λ p. p.head) e;
      actors = ap (λ p. p.actors) e;
      turned =
          ap (λ p. p.progress) e
          ∙ ap (λ n. after_turns c.args.self.now.head c.args.self.now.actors c.args.self.now.progress (numbers n))
          (sym (c.actors_seats-first.ensures.first ∙ ap (λ (p : Position). length (present p.head)) e));
      made = c.serve_threads.ensures.made;
      kept =
          keeps_same c.args.self.now c.serve_threads.new.self
          (ap (λ (p : Position). p.progress.answers) e
          ∙ threads_answer c.args.self.now.head c.args.self.now.actors c.args.self.now.progress (length (present c.args.self.now.head))
          (omega arith)) (ap (λ p. p.hooks) e);
    }

pub returns-in_err-turn-clause-made : goal.returns-in_err-turn-clause-made
returns-in_err-turn-clause-made g c =
    later_on c.args.self.now c.loop-seat.self c.turn.new.self c.loop-seat.invariant.made
    (turn_later c.turn.result c.loop-seat.self c.turn.new.self c.loop-seat.seat c.turn.ensures.ok c.turn.ensures.err)
