use Rattle.std.proofs.Common.{◌∙◌, ap}
use Rattle.hp_states.specs.CpuSets.{has}
use Rattle.hp_board.specs.Contents.{Contents}
use Rattle.hp_board.proofs.Below.{too_high}
use Rattle.hp_board.proofs.board.Board.is_lent.Goals as goal

pub returns-else-cpu-lt-MAX_CPU_SET : goal.returns-else-cpu-lt-MAX_CPU_SET
returns-else-cpu-lt-MAX_CPU_SET g c =
    too_high c.self.inside.machine c.args.cpu c.sound.ensures.lawful c.self.invariant.out c.if-cpu-lt-MAX_CPU_SET.false
    ∙ ap (λ (b : Contents). has b.lent c.args.cpu) c.self.view_is
