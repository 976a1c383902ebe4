-- The numbers of operations, by the places of their events. This project's own.
use Rattle.std.specs.Prelude.{◌≡◌, ℕ, List, [], ◌∷◌, ◌++◌}
use Rattle.hp_event.specs.declared.event.Event.{Event}
use Rattle.hp_model.specs.OperationNumber.{operation_number}

-- of some events that follow others
abbrev pub numbers_behind : (before : List Event) → List Event → List ℕ
numbers_behind before [] = []
numbers_behind before (e ∷ es) = operation_number before e ∷ numbers_behind (before ++ e ∷ []) es

-- of each event the number of its operation, at the event's place
abbrev pub AreNumbers : List Event → List ℕ → Type 0
AreNumbers events numbers = numbers ≡ numbers_behind [] events
