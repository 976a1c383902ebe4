-- The texts that are found of the options, before they are read as numbers. This project's own.
use Rattle.std.specs.Prelude.{ℕ, List}
use Rattle.std.specs.Option.{option_copied}
use Rattle.hp_command.specs.declared.options.Options.{Options}
use Rattle.hp_command.specs.declared.texts.Texts.{Texts}
use Rattle.hp_command.specs.Options.{AreSaid, AreWordsOfBoth}

-- the words are those of the two options with these texts
abbrev pub AreTextsIn : (words : List (List ℕ)) → Texts → Type 0
AreTextsIn words texts = AreWordsOfBoth words (option_copied texts.seed) (option_copied texts.size)

-- the texts say the options
abbrev pub SayOptions : Texts → Options → Type 0
SayOptions texts options = AreSaid (option_copied texts.seed) (option_copied texts.size) options

abbrev pub SayNoOptions : Texts → Type 0
SayNoOptions texts = (options : Options) → SayOptions texts options → ⊥
