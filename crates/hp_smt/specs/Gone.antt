-- What a write makes of a turn of the machine for its own operation. This project's own.
use Rattle.std.specs.Prelude.{ℕ, if◌then◌else◌, Some, None}
use Rattle.hp_states.specs.declared.cpu_set.CpuSet.{CpuSet}
use Rattle.hp_board.specs.declared.turn.Turn.{Turn}
use Rattle.hp_board.specs.declared.turn.Turn.TheVariants.{Made, Answered, NotYet}
use Rattle.hp_smt.specs.Writes.{under, at_rest, taking_of, mode_before, recorded_after, is_done}
use Rattle.hp_smt.specs.declared.setting.Gone.{Gone}
use Rattle.hp_smt.specs.declared.setting.Write.{Write}

abbrev pub gone_by : CpuSet → Write → (cpu : ℕ) → Turn → Gone
gone_by recorded w c (Made at) = record { setting = under recorded (taking_of w (Some c)); turn = Made at }
gone_by recorded w c (NotYet why) = record { setting = under recorded w; turn = NotYet why }
gone_by recorded w c (Answered (Some at) a) =
    if is_done a
    then record { setting = under (recorded_after w.want recorded c) (taking_of w None); turn = Made at }
    else record { setting = at_rest (mode_before w) recorded; turn = Answered (Some at) a }
gone_by recorded w c (Answered None a) = record { setting = at_rest (mode_before w) recorded; turn = Answered None a }
