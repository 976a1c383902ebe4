-- Rounds until it is over make it the run.
use Rattle.std.proofs.Common.{sym, ◌∙◌}
use Rattle.hp_smt_run.proofs.HooksTurned.{made_same, made_on}
use Rattle.hp_smt_run.proofs.Rounds.{nearer, no_round, next_round, played_by}
use Rattle.hp_smt_run.proofs.run.SmtRun.play.Goals as goal

pub loop-alloc-init : goal.loop-alloc-init
loop-alloc-init g c = record {
  rounds = no_round c.args.self.now c.requires.playing c.requires.start;
  made = made_same g.H.Hook.counts c.args.self.now;
}

pub loop-alloc-smaller : goal.loop-alloc-smaller
loop-alloc-smaller g c =
    nearer c.loop-alloc.self c.round.new.self c.loop-alloc.invariant.rounds.playing (sym c.is_over.ensures ∙ c.loop-alloc-test.true)
    c.in_ok-round.ensures.rounded

pub loop-alloc-preserved : goal.loop-alloc-preserved
loop-alloc-preserved g c =
    let i = c.loop-alloc.invariant in
    record {
      rounds =
          next_round c.args.self.now c.loop-alloc.self c.round.new.self i.rounds (sym c.is_over.ensures ∙ c.loop-alloc-test.true)
          c.in_ok-round.ensures.rounded;
      made =
          made_on g.H.Hook.counts c.args.self.now c.loop-alloc.self c.round.new.self i.rounds.same i.made c.in_ok-round.ensures.made;
    }

pub returns-clause-played : goal.returns-clause-played
returns-clause-played g c =
    played_by c.args.self.now c.loop-alloc.self c.loop-alloc.invariant.rounds (sym c.is_over.ensures ∙ c.loop-alloc-test.false)
