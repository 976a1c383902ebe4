-- What readers of words say: a field is one word, a tail is all the words that are left. Words say nothing where any
-- part of them isn't of the form; else, where a number in them is out of its range. This project's own.
use Rattle.std.specs.Prelude.{ℕ, List, [], ◌∷◌, Option, Some, None, Result, Ok, Err}
use Rattle.hp_text.specs.declared.unread.Unread.{Unread}
use Rattle.hp_text.specs.declared.unread.Unread.TheVariants.{NotOfForm, OutOfRange}

abbrev pub Reading : Type 0 → Type 0
Reading A = Result A Unread

abbrev pub Field : Type 0 → Type 0
Field A = List ℕ → Result A Unread

abbrev pub Tail : Type 0 → Type 0
Tail A = List (List ℕ) → Result A Unread

-- what a reading says, as a part of something else
abbrev pub said : {A B : Type 0} → (make : A → B) → Reading A → Reading B
said make (Ok a) = Ok (make a)
said make (Err unread) = Err unread

-- what two readings say together: the form of both comes before the range of either
abbrev pub both : {A B : Type 0} → Reading A → Reading B → Reading (A × B)
both (Ok a) (Ok b) = Ok (a, b)
both (Ok a) (Err unread) = Err unread
both (Err NotOfForm) second = Err NotOfForm
both (Err OutOfRange) (Ok b) = Err OutOfRange
both (Err OutOfRange) (Err unread) = Err unread

-- no word is left
abbrev pub done : {A : Type 0} → A → Tail A
done a [] = Ok a
done a (w ∷ ws) = Err NotOfForm

-- one word is left
abbrev pub alone : {A : Type 0} → Field A → Tail A
alone field [] = Err NotOfForm
alone field (w ∷ []) = field w
alone field (w ∷ v ∷ ws) = Err NotOfForm

-- a word and those behind it
abbrev pub in_front : {A B : Type 0} → Field A → Tail B → Tail (A × B)
in_front field tail [] = Err NotOfForm
in_front field tail (w ∷ ws) = both (field w) (tail ws)

-- a word that has a form alone, and no range
abbrev pub of_form : {A : Type 0} → Option A → Reading A
of_form (Some a) = Ok a
of_form None = Err NotOfForm

-- each word that is left
abbrev pub each : {A : Type 0} → Field A → Tail (List A)
each field [] = Ok []
each field (w ∷ ws) = said (λ x. x.0 ∷ x.1) (both (field w) (each field ws))

-- one word or more
abbrev pub some : {A : Type 0} → Field A → Tail (List A)
some field [] = Err NotOfForm
some field (w ∷ ws) = each field (w ∷ ws)
