use Rattle.std.proofs.Common.{◌-◌}
use Rattle.hp_actors.specs.Hooks.{IsLater}
use Rattle.hp_actors.proofs.RoundLaws.{IsServed}
use Rattle.hp_actors.proofs.run.Run.serve_threads.Given as goal

abbrev pub invariant-loop-cpu : goal.invariant-loop-cpu
invariant-loop-cpu g l =
    record {
      served : IsServed l.fn.self l.self l.from;
      made : IsLater l.fn.self l.self;
    }

abbrev pub decreases-loop-cpu : goal.decreases-loop-cpu
decreases-loop-cpu g l = l.fn.self.head.possible - l.from
