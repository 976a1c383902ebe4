-- The modes of SMT control, what a write makes of them, and the operation of its own by which it goes on. After `cpu_smt_control` of
-- `kernel/cpu.c`; the mode of a write on its way is this project's own.
use Rattle.std.specs.Prelude.{ℕ, Bool, true, false}
use Rattle.hp_event.specs.declared.op.Op.{Op}
use Rattle.hp_event.specs.declared.op.Op.TheVariants.{Up, Down}
use Rattle.hp_smt.specs.declared.mode.Control.{Control}
use Rattle.hp_smt.specs.declared.mode.Control.TheVariants.{On, Off, ForceOff}
use Rattle.hp_smt.specs.declared.mode.Mode.{Mode}
use Rattle.hp_smt.specs.declared.mode.Mode.TheVariants as mode

abbrev pub is_on : Mode → Bool
is_on mode.On = true
is_on _ = false

abbrev pub is_force_off : Mode → Bool
is_force_off mode.ForceOff = true
is_force_off _ = false

-- no sibling is online
abbrev pub is_off : Mode → Bool
is_off mode.Off = true
is_off mode.ForceOff = true
is_off _ = false

-- a write is taking the siblings down
abbrev pub is_closing : Mode → Bool
is_closing (mode.Closing force) = true
is_closing _ = false

abbrev pub wants_on : Control → Bool
wants_on On = true
wants_on _ = false

-- whether a write is of the mode that there is
abbrev pub is_mode_of : Control → Mode → Bool
is_mode_of On mode.On = true
is_mode_of Off mode.Off = true
is_mode_of ForceOff mode.ForceOff = true
is_mode_of _ _ = false

-- the mode from the turn on at which a write begins
abbrev pub begun_mode : Control → Mode
begun_mode On = mode.On
begun_mode Off = mode.Closing false
begun_mode ForceOff = mode.Closing true

-- and once it has answered Ok(0)
abbrev pub ended_mode : Control → Mode
ended_mode On = mode.On
ended_mode Off = mode.Off
ended_mode ForceOff = mode.ForceOff

-- what a write does with a processor
abbrev pub own_op : Control → (cpu : ℕ) → Op
own_op On c = Up c
own_op _ c = Down c
