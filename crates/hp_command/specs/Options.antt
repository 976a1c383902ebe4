-- The options of a command: which words they are, and what they say. This project's own.
use Rattle.std.specs.Prelude.{◌≡◌, ◌≢◌, ◌⊎◌, ⊤, ℕ, ◌≤◌, ◌<◌, ◌^◌, Option, Some, None, false, List, [], ◌∷◌, ◌++◌, length, codes, decimal}
use Rattle.std.specs.List.{list_any}
use Rattle.std.specs.Str.{bytes_eq}
use Rattle.hp_states.specs.declared.limits.TheConstants.{MAX_GENERATED_SIZE}
use Rattle.hp_command.specs.declared.options.Options.{Options}

-- the words of an option: none where it is left out; else its name and then its text, as two words or, with `=` between
-- them, as one
abbrev pub AreWordsOf : (name : List ℕ) → (text : Option (List ℕ)) → (words : List (List ℕ)) → Type 0
AreWordsOf name None words = words ≡ []
AreWordsOf name (Some text) words = (words ≡ name ∷ text ∷ []) ⊎ (words ≡ (name ++ (codes "=" ++ text)) ∷ [])

-- the words are those of the two options, each at most once and in any order
pub record AreWordsOfBoth (words : List (List ℕ)) (seed size : Option (List ℕ)) : Type 0 where
  pub seed_words : List (List ℕ)
  pub size_words : List (List ℕ)
  pub of_seed : AreWordsOf (codes "--seed") seed seed_words
  pub of_size : AreWordsOf (codes "--size") size size_words
  pub any_order : (words ≡ seed_words ++ size_words) ⊎ (words ≡ size_words ++ seed_words)

-- words can be those of two options: there are at most four, and none is two dashes
pub record CanBeOptions (words : List (List ℕ)) : Type 0 where
  pub few : length words ≤ 4
  pub none_ends : list_any (λ word. bytes_eq word (codes "--")) words ≡ false

-- a text that is there begins with another byte than a dash
abbrev pub BeginsPlain : (text : Option (List ℕ)) → Type 0
BeginsPlain None = ⊤
BeginsPlain (Some []) = ⊥
BeginsPlain (Some (byte ∷ bytes)) = byte ≢ 45

-- the words are those of no options whose texts do
abbrev pub HaveNoPlainTexts : (words : List (List ℕ)) → Type 0
HaveNoPlainTexts words =
    (seed size : Option (List ℕ)) → AreWordsOfBoth words seed size → BeginsPlain seed → BeginsPlain size → ⊥

-- the number that a text is the digits of, and the default where there is no text
abbrev pub Says : (default : ℕ) → (text : Option (List ℕ)) → ℕ → Type 0
Says default None n = n ≡ default
Says default (Some text) n = text ≡ decimal n

-- a text says no number of 64 bits
abbrev pub SaysNoNumber : (default : ℕ) → (text : Option (List ℕ)) → Type 0
SaysNoNumber default text = (n : ℕ) → n < 2 ^ 64 → Says default text n → ⊥

-- these texts say the options
pub record AreSaid (seed size : Option (List ℕ)) (options : Options) : Type 0 where
  pub seed_is : Says 1 seed options.seed
  pub size_is : Says 100 size options.size
  pub seed_fits : options.seed < 2 ^ 64
  pub size_within : (1 ≤ options.size) × (options.size ≤ MAX_GENERATED_SIZE)

-- the words are options that say these numbers
pub record AreOptions (words : List (List ℕ)) (options : Options) : Type 0 where
  pub seed : Option (List ℕ)
  pub size : Option (List ℕ)
  pub spelled : AreWordsOfBoth words seed size
  pub said : AreSaid seed size options

abbrev pub AreNoOptions : (words : List (List ℕ)) → Type 0
AreNoOptions words = (options : Options) → AreOptions words options → ⊥
