-- The draws that are left make the rest of them all.
use Rattle.std.proofs.Common.{◌≡◌, ℕ, ◌+◌, ◌-◌, ◌∷◌, ap, sym, subst, ◌∙◌, arith}
use Rattle.hp_model.specs.Draws.{draws, state_after}
use Rattle.hp_model.specs.ScriptTurns.{after_turns}
use Rattle.hp_actors.proofs.HooksTurned.{keeps_on}
use Rattle.hp_actors.proofs.Later.{later_on, later_one, turn_later}
use Rattle.hp_actors.proofs.Turning.{turn_left, draws_left, no_draws, all_made, some_present}
use Rattle.hp_actors.proofs.run.Run.play_drawn.Goals as goal

pub draw-seat-requires : goal.draw-seat-requires
draw-seat-requires g c =
    let some = some_present c.args.self.now.head c.sound.ensures.script.head_is in omega (arith, some, c.loop.invariant.seats)

pub loop-preserved-then-still_waits : goal.loop-preserved-then-still_waits
loop-preserved-then-still_waits g c =
    let i = c.loop.invariant in
    let still = sym (c.still_waits.ensures c.if-still_waits.true) in
    let m : ℕ = c.actors_seats-seats.result.1 in
    let rest = draws m c.draw-seat.new.self.state (c.args.turns - (c.loop.counter + 1)) in
    let next : draws m c.loop.draws.state (c.args.turns - c.loop.counter) ≡ c.draw-seat.result ∷ rest =
    draws_left m c.loop.draws.state c.args.turns c.loop.counter c.loop-test.true
    ∙ (ap (λ k. k ∷ draws m (state_after c.loop.draws.state) (c.args.turns - (c.loop.counter + 1))) (sym c.draw-seat.ensures.drawn)
    ∙ ap (λ x. c.draw-seat.result ∷ draws m x (c.args.turns - (c.loop.counter + 1))) (sym c.draw-seat.ensures.state)) in
    record {
      head = i.head;
      actors = i.actors;
      seats = i.seats;
      left =
          turn_left c.args.self.now c.loop.self c.loop.self c.draw-seat.result rest
          (after_turns c.args.self.now.head c.args.self.now.actors c.args.self.now.progress (draws m c.args.seed c.args.turns))
          i.head i.actors
          (ap (after_turns c.args.self.now.head c.args.self.now.actors c.loop.self.progress) (sym next) ∙ i.left) still;
      made = i.made;
      kept = i.kept;
    }

pub loop-preserved : goal.loop-preserved
loop-preserved g c =
    let i = c.loop.invariant in
    let e = c.in_ok-turn.ensures.ok in
    let m : ℕ = c.actors_seats-seats.result.1 in
    let rest = draws m c.draw-seat.new.self.state (c.args.turns - (c.loop.counter + 1)) in
    let next : draws m c.loop.draws.state (c.args.turns - c.loop.counter) ≡ c.draw-seat.result ∷ rest =
    draws_left m c.loop.draws.state c.args.turns c.loop.counter c.loop-test.true
    ∙ (ap (λ k. k ∷ draws m (state_after c.loop.draws.state) (c.args.turns - (c.loop.counter + 1))) (sym c.draw-seat.ensures.drawn)
    ∙ ap (λ x. c.draw-seat.result ∷ draws m x (c.args.turns - (c.loop.counter + 1))) (sym c.draw-seat.ensures.state)) in
    record {
      head = ap (λ p. p.head) e ∙ i.head;
      actors = ap (λ p. p.actors) e ∙ i.actors;
      seats = i.seats;
      left =
          turn_left c.args.self.now c.loop.self c.turn.new.self c.draw-seat.result rest
          (after_turns c.args.self.now.head c.args.self.now.actors c.args.self.now.progress (draws m c.args.seed c.args.turns))
          i.head i.actors
          (ap (after_turns c.args.self.now.head c.args.self.now.actors c.loop.self.progress) (sym next) ∙ i.left) (ap (λ p. p.progress) e);
      made = later_on c.args.self.now c.loop.self c.turn.new.self i.made (later_one c.loop.self c.turn.new.self c.draw-seat.result e);
      kept = keeps_on c.args.self.now c.loop.self c.turn.new.self i.kept c.turn.ensures.kept;
    }

pub returns-clause-ok : goal.returns-clause-ok
returns-clause-ok g c =
    let i = c.loop.invariant in
    let m : ℕ = c.actors_seats-seats.result.1 in
    subst (λ (k : ℕ).
    c.loop.self.progress
    ≡ after_turns c.args.self.now.head c.args.self.now.actors c.args.self.now.progress (draws k c.args.seed c.args.turns)) i.seats
    (all_made c.args.self.now.head c.args.self.now.actors c.loop.self.progress
    (after_turns c.args.self.now.head c.args.self.now.actors c.args.self.now.progress (draws m c.args.seed c.args.turns))
    (draws m c.loop.draws.state (c.args.turns - c.loop.counter)) (no_draws m c.loop.draws.state c.args.turns c.loop.counter c.loop-test.false) i.left)

pub returns-in_err-turn-clause-made : goal.returns-in_err-turn-clause-made
returns-in_err-turn-clause-made g c =
    later_on c.args.self.now c.loop.self c.turn.new.self c.loop.invariant.made
    (turn_later c.turn.result c.loop.self c.turn.new.self c.draw-seat.result c.turn.ensures.ok c.turn.ensures.err)
