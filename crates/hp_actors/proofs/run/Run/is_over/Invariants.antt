use Rattle.std.proofs.Common.{◌≡◌, true, map}
use Rattle.hp_model.specs.ScriptRun.{answered_below}
use Rattle.hp_actors.specs.Positions.{ops_of, answered_of}
use Rattle.hp_actors.proofs.run.Run.is_over.Given as goal

abbrev pub invariant-loop-actor : goal.invariant-loop-actor
invariant-loop-actor g l =
    record {
      ops : map ops_of l.actor-items ≡ l.self.actors;
      answers : map answered_of l.actor-items ≡ l.self.progress.answers;
      done : answered_below l.self.actors l.self.progress.answers l.actor-index ≡ true;
    }
