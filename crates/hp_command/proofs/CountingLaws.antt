-- The words of a count say one state and one batch.
use Rattle.std.proofs.Common.{◌≡◌, ℕ, ◌<◌, ◌^◌, decimal, List, [], ◌∷◌, sym, ◌∙◌, arith}
use Rattle.std.proofs.lemmas.Fmt.{decimal_injective}
use Rattle.hp_command.specs.Counting.{IsUpTo, SaysUpTo, AreCounting}
use Rattle.hp_command.specs.declared.counting.Counting.{Counting}
use Rattle.hp_command.proofs.Reading.{Word}

-- a word of which the number is out of range says no other
pub none_up_to : (most n : ℕ) (word : Word) → most < 2 ^ 32 → n < 2 ^ 64 → word ≡ decimal n → (IsUpTo most n → ⊥) →
    (m : ℕ) → SaysUpTo most word m → ⊥
none_up_to most n word small fits e out m says =
    let up = says.1 in
    let same : n ≡ m = decimal_injective n m fits (omega arith) (sym e ∙ says.0) in
    out (rw same says.1)

pub two_words : (a b c d : Word) → a ∷ b ∷ [] ≡ c ∷ d ∷ [] → (a ≡ c) × (b ≡ d)
two_words a b c d e = (cc, cc)

fields_same : (a b : Counting) → a.state ≡ b.state → a.batch ≡ b.batch → a ≡ b
fields_same a b state batch i = record { state = state i; batch = batch i }

pub same_counting : (a b : Counting) (r r' : List Word) → AreCounting r a → AreCounting r' b → r ≡ r' → a ≡ b
same_counting a b r r' ha hb e =
    let w = two_words (decimal a.state) (decimal a.batch) (decimal b.state) (decimal b.batch) (sym ha.spelled ∙ (e ∙ hb.spelled)) in
    let sa = ha.state_within in
    let sb = hb.state_within in
    let ba = ha.batch_within in
    let bb = hb.batch_within in
    fields_same a b (decimal_injective a.state b.state (omega arith) (omega arith) w.0)
    (decimal_injective a.batch b.batch (omega arith) (omega arith) w.1)
