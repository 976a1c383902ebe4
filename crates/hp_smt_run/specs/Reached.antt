-- How far a run under SMT control is after turns of some seats. This project's own.
use Rattle.std.specs.Prelude.{◌≡◌, ℕ, List, fold}
use Rattle.hp_event.specs.declared.op.Op.{Op}
use Rattle.hp_event.specs.declared.head.Head.{Head}
use Rattle.hp_smt.specs.Run.{SmtState, smt_turn, smt_start}
use Rattle.hp_smt.specs.declared.mode.Control.{Control}

-- turns of some seats made it, from the start on
abbrev pub IsReached : Head → (threads : ℕ) → (actors : List (List Op)) → Control → SmtState → Type 0
IsReached head n actors want at = (seats : List ℕ) × (at ≡ fold (smt_turn head n actors want) (smt_start head actors) seats)
