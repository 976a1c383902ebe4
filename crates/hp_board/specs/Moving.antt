-- Some seat can move: a client's turn for its operation, or a thread's, makes an event or answers. This project's own.
use Rattle.std.specs.Prelude.{◌≡◌, ◌⊎◌, ℕ, Bool, true, false, Some, List, Contains}
use Rattle.hp_model.specs.Pending.{Pending}
use Rattle.hp_model.specs.Seats.{ap_seat}
use Rattle.hp_board.specs.Contents.{Contents}
use Rattle.hp_board.specs.Turns.{IsTurn, IsServed}
use Rattle.hp_board.specs.declared.turn.Turn.{Turn}
use Rattle.hp_board.specs.declared.turn.Turn.TheVariants.{NotYet}

-- whether a turn waits for nothing
abbrev pub moves : Turn → Bool
moves (NotYet why) = false
moves _ = true

abbrev pub ClientMoves : Contents → List Pending → Type 0
ClientMoves b pending =
    (p : Pending) × Contains pending p × ((new : Contents) (turn : Turn) → IsTurn p.seat p.op b new turn → moves turn ≡ true)

abbrev pub ThreadMoves : Contents → Type 0
ThreadMoves b =
    (cpu seat : ℕ) × (ap_seat cpu b.events ≡ Some seat)
    × ((new : Contents) (turn : Turn) → IsServed seat b new turn → moves turn ≡ true)

abbrev pub SomeMoves : Contents → List Pending → Type 0
SomeMoves b pending = ClientMoves b pending ⊎ ThreadMoves b
