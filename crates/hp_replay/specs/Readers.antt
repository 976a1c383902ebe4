-- Readers of words. A field is one word. A tail is all the words that are left: a field and the tail behind it, or
-- one of several rows by its first word, or the end. This project's own.
use Rattle.std.specs.Prelude.{ℕ, if◌then◌else◌, List, [], ◌∷◌, Option, Some, None}
use Rattle.std.specs.Option.{option_map}
use Rattle.std.specs.Str.{bytes_eq}

abbrev pub Field : Type 0 → Type 0
Field A = List ℕ → Option A

abbrev pub Tail : Type 0 → Type 0
Tail X = List (List ℕ) → Option X

-- the tail that a field's value asks for
abbrev pub goes_on : {A X : Type 0} → Option A → (A → Tail X) → Tail X
goes_on None tail ws = None
goes_on (Some a) tail ws = tail a ws

-- a field, and the tail behind it
infixl 10 ◌>>=◌
abbrev pub ◌>>=◌ : {A X : Type 0} → Field A → (A → Tail X) → Tail X
◌>>=◌ field tail [] = None
◌>>=◌ field tail (w ∷ ws) = goes_on (field w) tail ws

-- no word is left
abbrev pub done : {X : Type 0} → X → Tail X
done x [] = Some x
done x (w ∷ ws) = None

-- what a tail says, as a part of something else
abbrev pub mapped : {A X : Type 0} → (A → X) → Tail A → Tail X
mapped make tail ws = option_map make (tail ws)

-- the rows of a table: a first word, and what stands behind it
pub record Row (X : Type 0) : Type 0 where
  pub word : List ℕ
  pub tail : List (List ℕ) → Option X

abbrev pub row : {X : Type 0} → List ℕ → Tail X → Row X
row word tail = record { word = word; tail = tail }

-- the row of this word
abbrev pub row_of : {X : Type 0} → List (Row X) → (word : List ℕ) → Tail X
row_of [] w ws = None
row_of (r ∷ rs) w ws = if bytes_eq w r.word then r.tail ws else row_of rs w ws

abbrev pub one_of : {X : Type 0} → List (Row X) → Tail X
one_of rows [] = None
one_of rows (w ∷ ws) = row_of rows w ws
