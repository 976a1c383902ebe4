use Rattle.hp_smt_run.specs.Hooks.{IsMadeLater}
use Rattle.hp_smt_run.proofs.Rounds.{HasRounds, left_of}
use Rattle.hp_smt_run.proofs.run.SmtRun.play.Given as goal

abbrev pub invariant-loop-alloc : goal.invariant-loop-alloc
invariant-loop-alloc g l =
    record {
      rounds : HasRounds l.fn.self l.self;
      made : IsMadeLater g.H.Hook.counts l.fn.self l.self;
    }

abbrev pub decreases-loop-alloc : goal.decreases-loop-alloc
decreases-loop-alloc g l = left_of l.self
