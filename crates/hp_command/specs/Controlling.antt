-- The words of SMT control. This project's own.
use Rattle.std.specs.Prelude.{◌≡◌, ℕ, ◌≤◌, List, [], ◌∷◌, codes, decimal}
use Rattle.hp_command.specs.declared.controlling.ControlMode.{ControlMode}
use Rattle.hp_command.specs.declared.controlling.ControlMode.TheVariants.{Off, ForceOff}
use Rattle.hp_command.specs.declared.controlling.Controlling.{Controlling}

-- the threads of a core
abbrev pub AreThreads : (n : ℕ) → Type 0
AreThreads n = (2 ≤ n) × (n ≤ 8)

abbrev pub SaysThreads : (word : List ℕ) → (n : ℕ) → Type 0
SaysThreads word n = (word ≡ decimal n) × AreThreads n

abbrev pub SaysNoThreads : (word : List ℕ) → Type 0
SaysNoThreads word = (n : ℕ) → SaysThreads word n → ⊥

-- the mode that is written
abbrev pub mode_word : ControlMode → List ℕ
mode_word Off = codes "off"
mode_word ForceOff = codes "forceoff"

-- the words are the digits of the threads, and the mode
pub record AreControlling (words : List (List ℕ)) (c : Controlling) : Type 0 where
  pub spelled : words ≡ decimal c.threads ∷ mode_word c.mode ∷ []
  pub within : AreThreads c.threads

abbrev pub AreNoControlling : (words : List (List ℕ)) → Type 0
AreNoControlling words = (c : Controlling) → AreControlling words c → ⊥
