-- Readers of words. A field is one word; a tail is all the words that are left: a field and the tail behind it, or the
-- end. This project's own.
use Rattle.std.specs.Prelude.{ℕ, ◌==◌, if◌then◌else◌, List, [], ◌∷◌, Option, Some, None, ℤ}
use Rattle.std.specs.Result.{result_ok}
use Rattle.std.specs.Str.{bytes_eq}
use Rattle.hp_text.specs.Numbers as text

abbrev pub Field : Type 0 → Type 0
Field A = List ℕ → Option A

abbrev pub Tail : Type 0 → Type 0
Tail X = List (List ℕ) → Option X

-- the tail that a field's value asks for
abbrev pub goes_on : {A X : Type 0} → Option A → (A → Tail X) → Tail X
goes_on None tail ws = None
goes_on (Some a) tail ws = tail a ws

-- a field, and the tail behind it
infixl 10 ◌>>=◌
abbrev pub ◌>>=◌ : {A X : Type 0} → Field A → (A → Tail X) → Tail X
◌>>=◌ field tail [] = None
◌>>=◌ field tail (w ∷ ws) = goes_on (field w) tail ws

-- no word is left
abbrev pub done : {X : Type 0} → X → Tail X
done x [] = Some x
done x (w ∷ ws) = None

-- what the first word says
abbrev pub first_says : {A : Type 0} → (List ℕ → Option A) → List (List ℕ) → Option A
first_says field [] = None
first_says field (w ∷ ws) = field w

-- ---- fields

-- this very word
abbrev pub exactly : (text : List ℕ) → Field (Unit {0})
exactly text word = if bytes_eq word text then Some tt else None

-- a number of the type u32
abbrev pub number : Field ℕ
number word = result_ok (text.number word)

-- a signed number of the type i32
abbrev pub integer : Field ℤ
integer word = result_ok (text.integer word)

-- a word without the zeros that stand in front of another byte
abbrev pub bare : List ℕ → List ℕ
bare [] = []
bare (b ∷ []) = b ∷ []
bare (b ∷ c ∷ cs) = if b == 48 then bare (c ∷ cs) else b ∷ c ∷ cs

-- a number of the type u32 that may have zeros in front
abbrev pub padded : Field ℕ
padded word = number (bare word)
