-- Words are those of two texts at most: a reading from the first word on finds the texts of them. This project's own.
use Rattle.std.proofs.Common.{◌≡◌, Option, Some, None, List, ◌++◌, inl, inr, codes, refl, sym, ap, subst, ◌∙◌}
use Rattle.hp_command.specs.Options.{AreWordsOf}
use Rattle.hp_command.proofs.Reading.{Word, in_order, or_swapped}
use Rattle.hp_view.specs.Options.{AreWordsOfBoth}

-- the texts of the first and of the last number
abbrev pub texts_of : List Word → Option (Option Word × Option Word)
texts_of words =
    or_swapped (in_order (codes "--from") (codes "--to") words) (in_order (codes "--to") (codes "--from") words)

-- ---- what is read of the words of the two options

abbrev Read : (words : List Word) (start stop : Option Word) → Type 0
Read words start stop = texts_of words ≡ Some (start, stop)

read_start_first : (start stop : Option Word) (a b : List Word) → AreWordsOf (codes "--from") start a → AreWordsOf (codes "--to") stop b → Read (a ++ b) start stop
read_start_first None None a b ea eb = rw (ea, eb) refl
read_start_first None (Some z) a b ea (inl eb) = rw (ea, eb) refl
read_start_first None (Some z) a b ea (inr eb) = rw (ea, eb) refl
read_start_first (Some s) None a b (inl ea) eb = rw (ea, eb) refl
read_start_first (Some s) None a b (inr ea) eb = rw (ea, eb) refl
read_start_first (Some s) (Some z) a b (inl ea) (inl eb) = rw (ea, eb) refl
read_start_first (Some s) (Some z) a b (inl ea) (inr eb) = rw (ea, eb) refl
read_start_first (Some s) (Some z) a b (inr ea) (inl eb) = rw (ea, eb) refl
read_start_first (Some s) (Some z) a b (inr ea) (inr eb) = rw (ea, eb) refl

read_stop_first : (start stop : Option Word) (a b : List Word) → AreWordsOf (codes "--from") start a → AreWordsOf (codes "--to") stop b → Read (b ++ a) start stop
read_stop_first None None a b ea eb = rw (ea, eb) refl
read_stop_first None (Some z) a b ea (inl eb) = rw (ea, eb) refl
read_stop_first None (Some z) a b ea (inr eb) = rw (ea, eb) refl
read_stop_first (Some s) None a b (inl ea) eb = rw (ea, eb) refl
read_stop_first (Some s) None a b (inr ea) eb = rw (ea, eb) refl
read_stop_first (Some s) (Some z) a b (inl ea) (inl eb) = rw (ea, eb) refl
read_stop_first (Some s) (Some z) a b (inl ea) (inr eb) = rw (ea, eb) refl
read_stop_first (Some s) (Some z) a b (inr ea) (inl eb) = rw (ea, eb) refl
read_stop_first (Some s) (Some z) a b (inr ea) (inr eb) = rw (ea, eb) refl

are_read : (words : List Word) (start stop : Option Word) → AreWordsOfBoth words start stop → Read words start stop
are_read words start stop h =
    elim h.any_order [
      | inl e ↦ subst (λ (ws : List Word). Read ws start stop) (sym e) (read_start_first start stop h.start_words h.stop_words h.of_start h.of_stop)
      | inr e ↦ subst (λ (ws : List Word). Read ws start stop) (sym e) (read_stop_first start stop h.start_words h.stop_words h.of_start h.of_stop)
    ]

pub record SameTexts (s z s' z' : Option Word) : Type 0 where
  pub start : s ≡ s'
  pub stop : z ≡ z'

-- words are those of two texts at most
pub same_texts : (words : List Word) (s z s' z' : Option Word) → AreWordsOfBoth words s z → AreWordsOfBoth words s' z' → SameTexts s z s' z'
same_texts words s z s' z' a b =
    let both : ◌≡◌ {A = Option (Option Word × Option Word)} (Some (s, z)) (Some (s', z')) = sym (are_read words s z a) ∙ are_read words s' z' b in
    let pair : ◌≡◌ {A = Option Word × Option Word} (s, z) (s', z') = cc in
    record { start = ap (λ (p : Option Word × Option Word). p.0) pair; stop = ap (λ (p : Option Word × Option Word). p.1) pair }
