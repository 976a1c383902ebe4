use Rattle.std.proofs.Common.{◌+◌}
use Rattle.hp_smt_run.specs.Hooks.{IsMadeLater}
use Rattle.hp_smt_run.proofs.Turned.{IsPartly}
use Rattle.hp_smt_run.proofs.run.SmtRun.round.Given as goal

abbrev pub invariant-loop-seat : goal.invariant-loop-seat
invariant-loop-seat g l =
    record {
      partly : IsPartly l.fn.self l.self l.seat;
      made : IsMadeLater g.H.Hook.counts l.fn.self l.self;
    }

abbrev pub invariant-loop-place : goal.invariant-loop-place
invariant-loop-place g l =
    record {
      partly : IsPartly l.fn.self l.self (l.fn.self.seats + l.place);
      made : IsMadeLater g.H.Hook.counts l.fn.self l.self;
    }
