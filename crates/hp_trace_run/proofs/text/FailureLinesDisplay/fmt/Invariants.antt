use Rattle.std.proofs.Common.{take}
use Rattle.std.specs.Fmt.{HasWritten, IsPlainFormatter}
use Rattle.std.specs.List.{flat_map}
use Rattle.hp_trace_run.specs.Texts.{failure_line}
use Rattle.hp_trace_run.proofs.text.FailureLinesDisplay.fmt.Given as goal

abbrev pub invariant-loop-failure : goal.invariant-loop-failure
invariant-loop-failure g l =
    IsPlainFormatter l.initial.f → HasWritten g.W.Write.write_str_gives l.initial.f (flat_map failure_line (take l.failure-index l.self.failures.items)) l.f
