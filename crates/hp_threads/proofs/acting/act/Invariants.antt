use Rattle.std.proofs.Common.{◌≡◌, false, None, All, map}
use Rattle.std.specs.Vec.Iter.{into_iter_items}
use Rattle.hp_actors.specs.Positions.{op_of}
use Rattle.hp_model.specs.Seats.{is_busy}
use Rattle.hp_threads.specs.Jobs.{IsReady}
use Rattle.hp_threads.specs.Standings.{is_inside, pass_of}
use Rattle.hp_threads.proofs.Playing.{Played}
use Rattle.hp_threads.proofs.acting.act.Given as goal

abbrev pub invariant-loop-ask : goal.invariant-loop-ask
invariant-loop-ask g l =
    record {
      can_next : (goal.iterator-loop-ask g).can_next l.ask-iterator;
      is_finite : (goal.iterator-loop-ask g).is_finite l.ask-iterator;
      idle : is_busy (pass_of l.standing).seat (pass_of l.standing).front ≡ false;
      nothing : (pass_of l.standing).lent ≡ None;
      ready : All (IsReady l.fn.job.pass.head) (into_iter_items l.ask-iterator);
      played :
          Played l.fn.job.pass (map op_of l.fn.job.asks.items) (map op_of (into_iter_items l.ask-iterator)) (pass_of l.standing)
          (is_inside l.standing);
    }
