-- The words of options ask for one window at most, and a number begins with a digit.
use Rattle.std.proofs.Common.{◌≡◌, ℕ, Option, Some, None, IfNone, List, refl, sym, ap, subst, ◌∙◌}
use Rattle.std.proofs.lemmas.Fmt.{decimal_injective}
use Rattle.std.specs.Option.{option_copied}
use Rattle.hp_command.specs.Options.{BeginsPlain}
use Rattle.hp_command.proofs.OptionLaws.{number_begins}
use Rattle.hp_command.proofs.Reading.{Word}
use Rattle.hp_view.specs.declared.asked.Asked.{Asked}
use Rattle.hp_view.specs.declared.texts.Texts.{Texts}
use Rattle.hp_view.specs.Options.{Says, IsAsked, AsksNothing}
use Rattle.hp_view.specs.TextsFound.{AreTextsIn, SayNothing}
use Rattle.hp_view.proofs.Reading.{same_texts}

same_some : (m n : ℕ) → m ≡ n → Some m ≡ Some n
same_some m n e = ap (λ (x : ℕ). Some x) e

pub same_number : (text : Option Word) (m n : Option ℕ) → Says text m → Says text n → m ≡ n
same_number None None None a b = refl
same_number None None (Some n) a b = absurd b
same_number None (Some m) n a b = absurd a
same_number (Some text) None n a b = absurd a
same_number (Some text) (Some m) None a b = absurd b
same_number (Some text) (Some m) (Some n) a b = same_some m n (decimal_injective m n a.0 b.0 (sym a.1 ∙ b.1))

pub begins : (text : Option Word) (n : Option ℕ) → Says text n → BeginsPlain text
begins None n h = tt
begins (Some text) None h = absurd h
begins (Some text) (Some n) h = number_begins 0 (Some text) n h.0 h.1

fields_same : (a b : Asked) → a.start ≡ b.start → a.stop ≡ b.stop → a ≡ b
fields_same a b start stop i = record { start = start i; stop = stop i }

pub same_asked : (words : List Word) (a b : Asked) → IsAsked words a → IsAsked words b → a ≡ b
same_asked words a b ha hb =
    let t = same_texts words ha.start ha.stop hb.start hb.stop ha.spelled hb.spelled in
    fields_same a b (same_number hb.start a.start b.start (subst (λ (x : Option Word). Says x a.start) t.start ha.start_is) hb.start_is)
    (same_number hb.stop a.stop b.stop (subst (λ (x : Option Word). Says x a.stop) t.stop ha.stop_is) hb.stop_is)

-- texts that say nothing are those of words that ask for nothing
pub not_asked : (words : List Word) (texts : Texts) → AreTextsIn words texts → SayNothing texts → AsksNothing words
not_asked words texts found none asked h =
    let t = same_texts words h.start h.stop (option_copied texts.start) (option_copied texts.stop) h.spelled found in
    none asked (record {
      start_is = subst (λ (x : Option Word). Says x asked.start) t.start h.start_is;
      stop_is = subst (λ (x : Option Word). Says x asked.stop) t.stop h.stop_is;
    })

pub none_so : {A : Type 0} (o : Option A) (P Q : Type 0) → (P → Q) → IfNone o P → IfNone o Q
none_so None P Q f h = f h
none_so (Some x) P Q f h = h
