use Rattle.std.proofs.Common.{◌≡◌, ◌++◌, take}
use Rattle.std.specs.List.{flat_map}
use Rattle.hp_smt_run.specs.Playing.{written_as}
use Rattle.hp_play.specs.ControlText.{write_line}
use Rattle.hp_play.proofs.control_text.append_control_text.Given as goal

abbrev pub invariant-loop-written : goal.invariant-loop-written
invariant-loop-written l =
    l.out.items ≡ l.initial.out.items ++ flat_map (λ w. write_line (written_as w)) (take l.written-index l.writes)
