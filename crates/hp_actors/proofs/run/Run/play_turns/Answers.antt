-- The turns that are left make the rest of them all.
use Rattle.std.proofs.Common.{drop, ap, sym, refl, ◌∙◌, ◌+◌, slice_index_or}
use Rattle.hp_model.specs.ScriptTurns.{after_turns}
use Rattle.hp_actors.proofs.HooksTurned.{keeps_on}
use Rattle.hp_actors.proofs.Later.{later_on, later_one, turn_later}
use Rattle.hp_actors.proofs.Turning.{turn_left, seats_left, none_left, all_made}
use Rattle.hp_actors.proofs.run.Run.play_turns.Goals as goal

pub loop-seat-preserved-then-still_waits : goal.loop-seat-preserved-then-still_waits
loop-seat-preserved-then-still_waits g c =
    let i = c.loop-seat.invariant in
    let seat = slice_index_or c.args.seats.now c.loop-seat.seat-index 0 in
    let still = sym (c.still_waits.ensures c.if-still_waits.true) in
    let whole = after_turns c.args.self.now.head c.args.self.now.actors c.args.self.now.progress c.args.seats.now in
    record {
      head = i.head;
      actors = i.actors;
      left =
          turn_left c.args.self.now c.loop-seat.self c.loop-seat.self seat (drop (c.loop-seat.seat-index + 1) c.args.seats.now) whole
          i.head i.actors
          (ap (after_turns c.args.self.now.head c.args.self.now.actors c.loop-seat.self.progress)
          (sym (seats_left c.args.seats.now c.loop-seat.seat-index seat c.loop-seat-test.true refl))
          ∙ i.left) still;
      made = i.made;
      kept = i.kept;
    }

pub loop-seat-preserved : goal.loop-seat-preserved
loop-seat-preserved g c =
    let i = c.loop-seat.invariant in
    let e = c.in_ok-turn.ensures.ok in
    let whole = after_turns c.args.self.now.head c.args.self.now.actors c.args.self.now.progress c.args.seats.now in
    record {
      head = ap (λ p. p.head) e ∙ i.head;
      actors = ap (λ p. p.actors) e ∙ i.actors;
      left =
          turn_left c.args.self.now c.loop-seat.self c.turn.new.self (slice_index_or c.args.seats.now c.loop-seat.seat-index 0)
          (drop (c.loop-seat.seat-index + 1) c.args.seats.now) whole i.head i.actors
          (ap (after_turns c.args.self.now.head c.args.self.now.actors c.loop-seat.self.progress)
          (sym (seats_left c.args.seats.now c.loop-seat.seat-index (slice_index_or c.args.seats.now c.loop-seat.seat-index 0) c.loop-seat-test.true refl))
          ∙ i.left) (ap (λ p. p.progress) e);
      made =
          later_on c.args.self.now c.loop-seat.self c.turn.new.self i.made
          (later_one c.loop-seat.self c.turn.new.self (slice_index_or c.args.seats.now c.loop-seat.seat-index 0) e);
      kept = keeps_on c.args.self.now c.loop-seat.self c.turn.new.self i.kept c.turn.ensures.kept;
    }

pub returns-clause-ok : goal.returns-clause-ok
returns-clause-ok g c =
    let i = c.loop-seat.invariant in
    all_made c.args.self.now.head c.args.self.now.actors c.loop-seat.self.progress
    (after_turns c.args.self.now.head c.args.self.now.actors c.args.self.now.progress c.args.seats.now)
    (drop c.loop-seat.seat-index c.args.seats.now) (none_left c.args.seats.now c.loop-seat.seat-index c.loop-seat-test.false) i.left

pub returns-in_err-turn-clause-made : goal.returns-in_err-turn-clause-made
returns-in_err-turn-clause-made g c =
    later_on c.args.self.now c.loop-seat.self c.turn.new.self c.loop-seat.invariant.made
    (turn_later c.turn.result c.loop-seat.self c.turn.new.self (slice_index_or c.args.seats.now c.loop-seat.seat-index 0)
    c.turn.ensures.ok c.turn.ensures.err)
