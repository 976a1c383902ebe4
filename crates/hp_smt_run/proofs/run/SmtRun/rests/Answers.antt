use Rattle.hp_smt_run.specs.Playing.{ops_in, state_of}
use Rattle.hp_smt_run.proofs.Resting.{no_operation, no_registration}
use Rattle.hp_smt_run.proofs.Rounds.{kept_of}
use Rattle.hp_smt_run.proofs.run.SmtRun.rests.Goals as goal

pub returns-clause-operation : goal.returns-clause-operation
returns-clause-operation g c =
    let run = c.args.self.now in
    no_operation run.smt.board.head (ops_in run) run.want (state_of run) (kept_of run c.requires.playing) c.requires.over

pub returns-clause-registration : goal.returns-clause-registration
returns-clause-registration g c =
    let run = c.args.self.now in
    no_registration run.smt.board.head (ops_in run) run.want (state_of run) (kept_of run c.requires.playing) c.requires.over
