-- The commands, and the words that ask for them. This project's own.
use Rattle.std.specs.Prelude.{◌≡◌, ℕ, ◌≤◌, List, [], ◌∷◌, ◌++◌, codes, decimal}
use Rattle.hp_work.specs.declared.limits.TheConstants.{LAST_FOLLOWED}
use Rattle.hp_run.specs.declared.command.Command.{Command}
use Rattle.hp_run.specs.declared.command.Command.TheVariants.{Run, Work}

abbrev pub usage_line : List ℕ
usage_line = codes "usage: hpd run|work STATE" ++ 10 ∷ []

-- queues can follow a state
abbrev pub CanBeFollowed : (state : ℕ) → Type 0
CanBeFollowed s = (1 ≤ s) × (s ≤ LAST_FOLLOWED)

-- a word says such a state
abbrev pub SaysState : (word : List ℕ) → (state : ℕ) → Type 0
SaysState word s = (word ≡ decimal s) × CanBeFollowed s

-- and it says none
abbrev pub SaysNoState : (word : List ℕ) → Type 0
SaysNoState word = (state : ℕ) → SaysState word state → ⊥

-- the words are those of a command
abbrev pub AskFor : Command → (words : List (List ℕ)) → Type 0
AskFor Run words = words ≡ codes "run" ∷ []
AskFor (Work s) words = (words ≡ codes "work" ∷ decimal s ∷ []) × CanBeFollowed s

-- or those of none
abbrev pub AskForNothing : (words : List (List ℕ)) → Type 0
AskForNothing words = (command : Command) → AskFor command words → ⊥

-- the words ask for some command
pub record AskForSome (words : List (List ℕ)) : Type 0 where
  pub command : Command
  pub asked : AskFor command words

-- a command can be done: where it follows a state, queues can follow that
abbrev pub CanBeDone : Command → Type 0
CanBeDone Run = Unit {0}
CanBeDone (Work s) = CanBeFollowed s
