use Rattle.hp_smt_run.proofs.HooksTurned.{thread_under}
use Rattle.hp_smt_run.proofs.Turned.{thread_turned}
use Rattle.hp_smt_run.proofs.run.SmtRun.serve.Goals as goal

pub returns-clause-turned : goal.returns-clause-turned
returns-clause-turned g c =
    thread_turned c.args.seat c.args.self.now c.serve.new.self c.serve.result c.requires.playing c.sound.ensures.kept.home
    c.requires.thread c.serve.ensures c.sound-2.ensures.primaries

pub returns-clause-hooks : goal.returns-clause-hooks
returns-clause-hooks g c = thread_under g.H.Hook.counts c.args.seat c.args.self.now c.requires.playing c.requires.thread
