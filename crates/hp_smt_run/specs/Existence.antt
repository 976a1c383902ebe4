-- That a script has a run under SMT control. This project's own.
use Rattle.std.specs.Prelude.{ℕ, ◌+◌, ◌≤◌, List, length}
use Rattle.hp_event.specs.declared.op.Op.{Op}
use Rattle.hp_event.specs.declared.head.Head.{Head}
use Rattle.hp_model.specs.Processors.{present}
use Rattle.hp_model.specs.Scripts.{IsScript}
use Rattle.hp_smt.specs.Run.{SmtState, IsSmtRun}
use Rattle.hp_smt.specs.declared.mode.Control.{Control}
use Rattle.hp_states.specs.declared.limits.TheConstants.{MAX_SEATS}

-- a script that can be played and leaves a seat for the client that writes has a run
abbrev pub HasSmtRun : Head → (threads : ℕ) → Control → (actors : List (List Op)) → Type 0
HasSmtRun head n want actors =
    IsScript head actors → length (present head) + length actors + 1 ≤ MAX_SEATS → (at : SmtState) × IsSmtRun head n actors want at
