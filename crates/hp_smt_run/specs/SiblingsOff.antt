-- Throughout a run under SMT control, while the mode is Off or ForceOff, every processor that is online is a primary. After
-- `cpuhp_smt_disable` of `kernel/cpu.c`; that it is so after each turn is this project's own.
use Rattle.std.specs.Prelude.{◌≡◌, ℕ, ◌+◌, ◌<◌, true, List, ◌++◌, length, fold}
use Rattle.hp_event.specs.declared.head.Head.{Head}
use Rattle.hp_event.specs.declared.op.Op.{Op}
use Rattle.hp_model.specs.Lists.{numbers}
use Rattle.hp_model.specs.Processors.{present}
use Rattle.hp_smt.specs.Modes.{is_off}
use Rattle.hp_smt.specs.Run.{SmtState, smt_turn, after_smt_rounds}
use Rattle.hp_smt.specs.Shut.{ArePrimaries}
use Rattle.hp_smt.specs.declared.mode.Control.{Control}

-- so far
abbrev pub SiblingsAreOff : (threads : ℕ) → SmtState → Type 0
SiblingsAreOff n at = is_off at.setting.mode ≡ true → ArePrimaries n at.run.events

-- before turns of these seats, and after each of them
abbrev pub SiblingsStayOff : Head → (threads : ℕ) → (actors : List (List Op)) → Control → SmtState → (seats : List ℕ) → Type 0
SiblingsStayOff head n actors want at seats =
    (front rest : List ℕ) → front ++ rest ≡ seats → SiblingsAreOff n (fold (smt_turn head n actors want) at front)

-- in each of so many rounds
abbrev pub SiblingsStayOffFor : Head → (threads : ℕ) → (actors : List (List Op)) → Control → (rounds : ℕ) → Type 0
SiblingsStayOffFor head n actors want rounds =
    (r : ℕ) → r < rounds →
    SiblingsStayOff head n actors want (after_smt_rounds head n actors want r) (numbers (length (present head) + length actors + 1))
