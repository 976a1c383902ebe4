-- What contracts see of SMT control: the machine, the threads of a core, and the setting. This project's own.
use Rattle.std.specs.Prelude.{ℕ, Option, Some, None}
use Rattle.hp_event.specs.declared.event.Event.{Event}
use Rattle.hp_board.specs.Contents.{Contents, with_event}
use Rattle.hp_smt.specs.Writes.{Step}
use Rattle.hp_smt.specs.declared.setting.Setting.{Setting}

pub record Controlled : Type 0 where
  pub board : Contents
  pub threads : ℕ
  pub setting : Setting

-- the machine after an event, if one was made
abbrev pub after_event : Contents → Option Event → Contents
after_event b None = b
after_event b (Some e) = with_event b e

-- what a turn of a write leaves
abbrev pub after_step : Controlled → Step → Controlled
after_step s step =
    record { board = after_event s.board step.event; threads = s.threads; setting = step.setting }
