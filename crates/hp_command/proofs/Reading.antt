-- Words are those of two texts at most: a reading from the first word on finds the texts of them. This project's own.
use Rattle.std.proofs.Common.{◌≡◌, ℕ, Option, Some, None, List, [], ◌∷◌, ◌++◌, option_map, inl, inr, codes, refl, sym, ap, subst, ◌∙◌}
use Rattle.std.specs.Prelude.{◌==◌, if◌then◌else◌}
use Rattle.std.specs.Str.{bytes_eq}
use Rattle.hp_command.specs.Options.{AreWordsOf, AreWordsOfBoth}

abbrev pub Word : Type 0
Word = List ℕ

-- what stands behind this front
abbrev pub behind : (front word : Word) → Option Word
behind [] word = Some word
behind (f ∷ fs) [] = None
behind (f ∷ fs) (b ∷ bs) = if b == f then behind fs bs else None

-- the first word, and those behind it
abbrev pub first : List Word → Option (Word × List Word)
first [] = None
first (word ∷ words) = Some (word, words)

-- the text of the option in front, and the words behind the option
abbrev pub taken : (name : Word) → List Word → Option (Word × List Word)
taken name [] = None
taken name (word ∷ words) =
    if bytes_eq word name then first words else option_map (λ text. (text, words)) (behind (name ++ codes "=") word)

abbrev pub or_left_out : List Word → Option (Word × List Word) → Option Word × List Word
or_left_out words None = (None, words)
or_left_out words (Some p) = (Some p.0, p.1)

-- the same, where the option may be left out
abbrev pub optional : (name : Word) → List Word → Option Word × List Word
optional name words = or_left_out words (taken name words)

-- two texts, where no word is left
abbrev pub at_end : Option Word → Option Word → List Word → Option (Option Word × Option Word)
at_end one other [] = Some (one, other)
at_end one other (word ∷ words) = None

-- the texts of two options in this order
abbrev pub in_order : (one other : Word) → List Word → Option (Option Word × Option Word)
in_order one other words =
    let a = optional one words in let b = optional other a.1 in at_end a.0 b.0 b.1

abbrev pub or_swapped : Option (Option Word × Option Word) → Option (Option Word × Option Word) → Option (Option Word × Option Word)
or_swapped (Some p) q = Some p
or_swapped None q = option_map (λ p. (p.1, p.0)) q

-- the texts of the seed and of the size
abbrev pub texts_of : List Word → Option (Option Word × Option Word)
texts_of words =
    or_swapped (in_order (codes "--seed") (codes "--size") words) (in_order (codes "--size") (codes "--seed") words)

-- ---- what is read of the words of the two options

abbrev Read : (words : List Word) (seed size : Option Word) → Type 0
Read words seed size = texts_of words ≡ Some (seed, size)

read_seed_first : (seed size : Option Word) (a b : List Word) → AreWordsOf (codes "--seed") seed a → AreWordsOf (codes "--size") size b → Read (a ++ b) seed size
read_seed_first None None a b ea eb = rw (ea, eb) refl
read_seed_first None (Some z) a b ea (inl eb) = rw (ea, eb) refl
read_seed_first None (Some z) a b ea (inr eb) = rw (ea, eb) refl
read_seed_first (Some s) None a b (inl ea) eb = rw (ea, eb) refl
read_seed_first (Some s) None a b (inr ea) eb = rw (ea, eb) refl
read_seed_first (Some s) (Some z) a b (inl ea) (inl eb) = rw (ea, eb) refl
read_seed_first (Some s) (Some z) a b (inl ea) (inr eb) = rw (ea, eb) refl
read_seed_first (Some s) (Some z) a b (inr ea) (inl eb) = rw (ea, eb) refl
read_seed_first (Some s) (Some z) a b (inr ea) (inr eb) = rw (ea, eb) refl

read_size_first : (seed size : Option Word) (a b : List Word) → AreWordsOf (codes "--seed") seed a → AreWordsOf (codes "--size") size b → Read (b ++ a) seed size
read_size_first None None a b ea eb = rw (ea, eb) refl
read_size_first None (Some z) a b ea (inl eb) = rw (ea, eb) refl
read_size_first None (Some z) a b ea (inr eb) = rw (ea, eb) refl
read_size_first (Some s) None a b (inl ea) eb = rw (ea, eb) refl
read_size_first (Some s) None a b (inr ea) eb = rw (ea, eb) refl
read_size_first (Some s) (Some z) a b (inl ea) (inl eb) = rw (ea, eb) refl
read_size_first (Some s) (Some z) a b (inl ea) (inr eb) = rw (ea, eb) refl
read_size_first (Some s) (Some z) a b (inr ea) (inl eb) = rw (ea, eb) refl
read_size_first (Some s) (Some z) a b (inr ea) (inr eb) = rw (ea, eb) refl

are_read : (words : List Word) (seed size : Option Word) → AreWordsOfBoth words seed size → Read words seed size
are_read words seed size h =
    elim h.any_order [
      | inl e ↦ subst (λ (ws : List Word). Read ws seed size) (sym e) (read_seed_first seed size h.seed_words h.size_words h.of_seed h.of_size)
      | inr e ↦ subst (λ (ws : List Word). Read ws seed size) (sym e) (read_size_first seed size h.seed_words h.size_words h.of_seed h.of_size)
    ]

pub record SameTexts (s z s' z' : Option Word) : Type 0 where
  pub seed : s ≡ s'
  pub size : z ≡ z'

-- words are those of two texts at most
pub same_texts : (words : List Word) (s z s' z' : Option Word) → AreWordsOfBoth words s z → AreWordsOfBoth words s' z' → SameTexts s z s' z'
same_texts words s z s' z' a b =
    let both : ◌≡◌ {A = Option (Option Word × Option Word)} (Some (s, z)) (Some (s', z')) = sym (are_read words s z a) ∙ are_read words s' z' b in
    let pair : ◌≡◌ {A = Option Word × Option Word} (s, z) (s', z') = cc in
    record { seed = ap (λ (p : Option Word × Option Word). p.0) pair; size = ap (λ (p : Option Word × Option Word). p.1) pair }
