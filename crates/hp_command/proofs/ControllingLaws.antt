-- The words of SMT control say it alone.
use Rattle.std.proofs.Common.{◌≡◌, ℕ, ◌<◌, ◌^◌, decimal, List, refl, sym, ◌∙◌, arith}
use Rattle.std.proofs.lemmas.Fmt.{decimal_injective}
use Rattle.hp_command.specs.Controlling.{AreThreads, SaysThreads, mode_word, AreControlling}
use Rattle.hp_command.specs.declared.controlling.ControlMode.{ControlMode}
use Rattle.hp_command.specs.declared.controlling.ControlMode.TheVariants.{Off, ForceOff}
use Rattle.hp_command.specs.declared.controlling.Controlling.{Controlling}
use Rattle.hp_command.proofs.CountingLaws.{two_words}
use Rattle.hp_command.proofs.Reading.{Word}

-- a word of which the number is out of range says no threads
pub none_said : (n : ℕ) (word : Word) → n < 2 ^ 64 → word ≡ decimal n → (AreThreads n → ⊥) → (m : ℕ) → SaysThreads word m → ⊥
none_said n word fits e out m says =
    let up = says.1 in
    let same : n ≡ m = decimal_injective n m fits (omega arith) (sym e ∙ says.0) in
    out (rw same says.1)

-- the words of the two modes differ
pub one_mode : (a b : ControlMode) → mode_word a ≡ mode_word b → a ≡ b
one_mode Off Off e = refl
one_mode ForceOff ForceOff e = refl
one_mode Off ForceOff e = absurd (cc)
one_mode ForceOff Off e = absurd (cc)

fields_same : (a b : Controlling) → a.threads ≡ b.threads → a.mode ≡ b.mode → a ≡ b
fields_same a b threads mode i = record { threads = threads i; mode = mode i }

pub same_controlling : (a b : Controlling) (r r' : List Word) → AreControlling r a → AreControlling r' b → r ≡ r' → a ≡ b
same_controlling a b r r' ha hb e =
    let w = two_words (decimal a.threads) (mode_word a.mode) (decimal b.threads) (mode_word b.mode) (sym ha.spelled ∙ (e ∙ hb.spelled)) in
    let ta = ha.within in
    let tb = hb.within in
    fields_same a b (decimal_injective a.threads b.threads (omega arith) (omega arith) w.0) (one_mode a.mode b.mode w.1)
