use Rattle.std.proofs.Common.{◌≡◌}
use Rattle.hp_model.specs.Admissions.{ap_admits}
use Rattle.hp_actors.proofs.Admissions.{present_below, seated}
use Rattle.hp_actors.proofs.seating.seat_all.Given as goal

abbrev pub invariant-loop-cpu : goal.invariant-loop-cpu
invariant-loop-cpu g l =
    record {
      head : l.board.head ≡ l.fn.head;
      events : l.board.events ≡ ap_admits 0 (present_below l.fn.head l.cpu);
      places : l.board.places ≡ l.fn.board.places;
    }

abbrev pub invariant-loop : goal.invariant-loop
invariant-loop g l =
    record {
      head : l.board.head ≡ l.fn.head;
      events : l.board.events ≡ seated l.fn.head l.counter;
      places : l.board.places ≡ l.fn.board.places;
    }
