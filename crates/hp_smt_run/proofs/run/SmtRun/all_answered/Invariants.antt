use Rattle.std.proofs.Common.{◌≡◌, true, map}
use Rattle.hp_model.specs.ScriptRun.{answered_below}
use Rattle.hp_actors.specs.Positions.{answered_of}
use Rattle.hp_smt_run.specs.Playing.{ops_in}
use Rattle.hp_smt_run.proofs.run.SmtRun.all_answered.Given as goal

abbrev pub invariant-loop-actor : goal.invariant-loop-actor
invariant-loop-actor g l =
    record {
      items : l.actor-items ≡ l.self.actors.items;
      done : answered_below (ops_in l.self) (map answered_of l.self.actors.items) l.actor-index ≡ true;
    }
