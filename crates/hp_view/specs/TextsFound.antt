-- The texts that are found of the options, before they are read as numbers. This project's own.
use Rattle.std.specs.Prelude.{ℕ, List}
use Rattle.std.specs.Option.{option_copied}
use Rattle.hp_view.specs.declared.asked.Asked.{Asked}
use Rattle.hp_view.specs.declared.texts.Texts.{Texts}
use Rattle.hp_view.specs.Options.{AreWordsOfBoth, Says}

-- the words are those of the two options with these texts
abbrev pub AreTextsIn : (words : List (List ℕ)) → Texts → Type 0
AreTextsIn words texts = AreWordsOfBoth words (option_copied texts.start) (option_copied texts.stop)

-- the texts say this
pub record SayAsked (texts : Texts) (asked : Asked) : Type 0 where
  pub start_is : Says (option_copied texts.start) asked.start
  pub stop_is : Says (option_copied texts.stop) asked.stop

abbrev pub SayNothing : Texts → Type 0
SayNothing texts = (asked : Asked) → SayAsked texts asked → ⊥
