-- The commands, by the words that ask for them. This project's own.
use Rattle.std.specs.Prelude.{◌≡◌, ◌≢◌, ◌⊎◌, ℕ, List, [], ◌∷◌, codes}
use Rattle.hp_command.specs.Options.{AreOptions, CanBeOptions}
use Rattle.hp_command.specs.Controlling.{AreControlling}
use Rattle.hp_command.specs.Counting.{AreCounting}
use Rattle.hp_command.specs.declared.command.Command.{Command}
use Rattle.hp_command.specs.declared.command.Command.TheVariants.{Play, States, Report, Replay, Migrate, Gen, Bench, Count, Smt}

-- the first word of a command
abbrev pub word_of : Command → List ℕ
word_of Play = codes "play"
word_of States = codes "states"
word_of Report = codes "report"
word_of Replay = codes "replay"
word_of Migrate = codes "migrate"
word_of (Gen options) = codes "gen"
word_of (Bench options) = codes "bench"
word_of (Count counting) = codes "count"
word_of (Smt controlling) = codes "smt"

-- the words behind it: options for a generated script, a state and a batch for a count, threads and a mode for SMT control, and none else
abbrev pub AreRest : Command → (rest : List (List ℕ)) → Type 0
AreRest (Gen options) rest = AreOptions rest options
AreRest (Bench options) rest = AreOptions rest options
AreRest (Count counting) rest = AreCounting rest counting
AreRest (Smt controlling) rest = AreControlling rest controlling
AreRest _ rest = rest ≡ []

-- the words, after the program's name, are those of the command
pub record IsCommand (words : List (List ℕ)) (command : Command) : Type 0 where
  pub rest : List (List ℕ)
  pub begins : words ≡ word_of command ∷ rest
  pub goes_on : AreRest command rest

-- the first word is that of a command which takes options, and the others can be options
pub record HasOptions (words : List (List ℕ)) : Type 0 where
  pub rest : List (List ℕ)
  pub begins : (words ≡ codes "gen" ∷ rest) ⊎ (words ≡ codes "bench" ∷ rest)
  pub can_be : CanBeOptions rest

-- the words are those of no command
abbrev pub AreNoCommand : (words : List (List ℕ)) → Type 0
AreNoCommand words = (command : Command) → IsCommand words command → ⊥

-- and of one at most
abbrev pub AreOneCommand : (words : List (List ℕ)) → Type 0
AreOneCommand words = (one other : Command) → IsCommand words one → IsCommand words other → one ≡ other

-- a word isn't that of a command without options
abbrev pub IsNoLoneCommand : (word : List ℕ) → Type 0
IsNoLoneCommand word =
    (word ≢ codes "play") × (word ≢ codes "states") × (word ≢ codes "report") × (word ≢ codes "replay") × (word ≢ codes "migrate")
