-- What clap sees of a word: a long name, and the text behind its first `=`.
use Rattle.std.proofs.Common.{◌≡◌, ℕ, zero, suc, Bool, true, false, cond, eqb, Option, Some, None, [], ◌∷◌, ◌++◌, refl, sym, ap, ◌∙◌, arith}
use Rattle.std.specs.Option.{option_and_then}
use Rattle.std.proofs.lemmas.Bool.{eqb-true}
use Rattle.std.proofs.lemmas.Bool.Decides.{nat_tests}
use Rattle.std.proofs.lemmas.Grind.{common_steps}
use Rattle.clap.specs.Lexer.{long_of, long_of_rest, name_and_value, strip_byte}
use Rattle.clap.proofs.CutLemmas.{Lacks}
use Rattle.clap.proofs.LexerLemmas.{name_and_value-at, name_and_value-without}
use Rattle.hp_command.proofs.Reading.{Word}

-- a name, and a text behind `=` where there is one
abbrev pub joined : (name : Word) → Option Word → Word
joined name None = name
joined name (Some text) = name ++ 61 ∷ text

-- ---- the first `=`

data Cut (text : Word) : Type 0 where
  without : Lacks 61 text → Cut text
  at : (front back : Word) → text ≡ front ++ 61 ∷ back → Lacks 61 front → Cut text

lacks_none : Lacks 61 []
lacks_none i lt = absurd (omega arith)

lacks_more : (b : ℕ) (bs : Word) → (b ≡ 61 → ⊥) → Lacks 61 bs → Lacks 61 (b ∷ bs)
lacks_more b bs other h zero lt = other
lacks_more b bs other h (suc i) lt = h i (grind (arith, common_steps))

cut_more : (b : ℕ) (bs : Word) → (b ≡ 61 → ⊥) → Cut bs → Cut (b ∷ bs)
cut_more b bs other (without h) = without (lacks_more b bs other h)
cut_more b bs other (at front back e h) = at (b ∷ front) back (ap (λ (w : Word). b ∷ w) e) (lacks_more b front other h)

cut_by : (b : ℕ) (bs : Word) (t : Bool) → eqb b 61 ≡ t → Cut bs → Cut (b ∷ bs)
cut_by b bs true e rest = at [] bs (ap (λ (c : ℕ). c ∷ bs) (eqb-true b 61 e)) lacks_none
cut_by b bs false e rest = cut_more b bs (grind (arith, nat_tests)) rest

cut : (text : Word) → Cut text
cut [] = without lacks_none
cut (b ∷ bs) = cut_by b bs (eqb b 61) refl (cut bs)

parts_by : (text : Word) → Cut text → text ≡ joined (name_and_value text).0 (name_and_value text).1
parts_by text (without h) = sym (ap (λ (p : Word × Option Word). joined p.0 p.1) (name_and_value-without text h))
parts_by text (at front back e h) =
    e ∙ sym (ap (λ (p : Word × Option Word). joined p.0 p.1) (ap name_and_value e ∙ name_and_value-at front back h))

-- ---- long names

some_same : (p q : Word × Option Word) → Some p ≡ Some q → p ≡ q
some_same p q e = cc

rest_is : (rest : Word) (p : Word × Option Word) → long_of_rest rest ≡ Some p → rest ≡ joined p.0 p.1
rest_is [] p e = absurd cc
rest_is (b ∷ bs) p e =
    parts_by (b ∷ bs) (cut (b ∷ bs)) ∙ ap (λ (q : Word × Option Word). joined q.0 q.1) (some_same (name_and_value (b ∷ bs)) p e)

strip_is : (word rest : Word) → strip_byte 45 word ≡ Some rest → word ≡ 45 ∷ rest
strip_is [] rest e = absurd cc
strip_is (b ∷ bs) rest e = go (eqb b 45) refl e
  where
    go : (t : Bool) → eqb b 45 ≡ t → cond t (Some bs) None ≡ Some rest → b ∷ bs ≡ 45 ∷ rest
    go true t e = let same : b ≡ 45 = eqb-true b 45 t in let more : bs ≡ rest = cc in cc
    go false t e = absurd cc

long_by : (word : Word) (one : Option Word) (p : Word × Option Word) → strip_byte 45 word ≡ one →
    option_and_then long_of_rest (option_and_then (strip_byte 45) one) ≡ Some p → word ≡ 45 ∷ 45 ∷ joined p.0 p.1
long_by word None p e h = absurd cc
long_by word (Some one) p e h = go (strip_byte 45 one) refl h
  where
    go : (two : Option Word) → strip_byte 45 one ≡ two → option_and_then long_of_rest two ≡ Some p → word ≡ 45 ∷ 45 ∷ joined p.0 p.1
    go None f h = absurd cc
    go (Some two) f h = strip_is word one e ∙ ap (λ (w : Word). 45 ∷ w) (strip_is one two f ∙ ap (λ (w : Word). 45 ∷ w) (rest_is two p h))

-- a word with a long name is two dashes, the name and the text
pub long_is : (word : Word) (p : Word × Option Word) → long_of word ≡ Some p → word ≡ 45 ∷ 45 ∷ joined p.0 p.1
long_is word p e = long_by word (strip_byte 45 word) p refl e
