-- The options of the program: which words they are, and what they say. This project's own.
use Rattle.std.specs.Prelude.{◌≡◌, ◌⊎◌, ℕ, ◌<◌, ◌^◌, Option, Some, None, List, ◌++◌, codes, decimal}
use Rattle.hp_command.specs.Options.{AreWordsOf, BeginsPlain}
use Rattle.hp_view.specs.declared.asked.Asked.{Asked}

-- the words are those of the two options, each at most once and in any order
pub record AreWordsOfBoth (words : List (List ℕ)) (start stop : Option (List ℕ)) : Type 0 where
  pub start_words : List (List ℕ)
  pub stop_words : List (List ℕ)
  pub of_start : AreWordsOf (codes "--from") start start_words
  pub of_stop : AreWordsOf (codes "--to") stop stop_words
  pub any_order : (words ≡ start_words ++ stop_words) ⊎ (words ≡ stop_words ++ start_words)

-- the words are those of no options whose texts begin with another byte than a dash
abbrev pub HaveNoPlainTexts : (words : List (List ℕ)) → Type 0
HaveNoPlainTexts words =
    (start stop : Option (List ℕ)) → AreWordsOfBoth words start stop → BeginsPlain start → BeginsPlain stop → ⊥

-- the number of 64 bits that a text is the digits of, and none where there is no text
abbrev pub Says : (text : Option (List ℕ)) → Option ℕ → Type 0
Says None None = Unit {0}
Says (Some text) (Some n) = (n < 2 ^ 64) × (text ≡ decimal n)
Says _ _ = ⊥

-- the words are options that say these numbers
pub record IsAsked (words : List (List ℕ)) (asked : Asked) : Type 0 where
  pub start : Option (List ℕ)
  pub stop : Option (List ℕ)
  pub spelled : AreWordsOfBoth words start stop
  pub start_is : Says start asked.start
  pub stop_is : Says stop asked.stop

abbrev pub AsksNothing : (words : List (List ℕ)) → Type 0
AsksNothing words = (asked : Asked) → IsAsked words asked → ⊥

-- words ask for one window at most
abbrev pub AsksOnce : (words : List (List ℕ)) → Type 0
AsksOnce words = (one other : Asked) → IsAsked words one → IsAsked words other → one ≡ other
