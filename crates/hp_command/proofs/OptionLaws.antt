-- The words of options say one seed and one size.
use Rattle.std.proofs.Common.{◌≡◌, ℕ, zero, suc, ◌<◌, ◌≤◌, ◌^◌, decimal, Option, Some, None, List, [], ◌∷◌, length, get_or, sym, ap, subst, ◌∙◌, arith}
use Rattle.std.proofs.lemmas.Fmt.{decimal_injective, decimal_digit, decimal_nonempty, first_decimal}
use Rattle.hp_states.specs.declared.limits.TheConstants.{MAX_GENERATED_SIZE}
use Rattle.hp_command.specs.Options.{AreWordsOfBoth, AreOptions, AreSaid, BeginsPlain, Says}
use Rattle.hp_command.specs.declared.options.Options.{Options}
use Rattle.hp_command.proofs.Reading.{Word, same_texts}

pub same_number : (default : ℕ) (text : Option Word) (m n : ℕ) → m < 2 ^ 64 → n < 2 ^ 64 → Says default text m → Says default text n → m ≡ n
same_number default None m n lm ln a b = a ∙ sym b
same_number default (Some text) m n lm ln a b = decimal_injective m n lm ln (sym a ∙ b)

pub no_seed : (s z : Option Word) (options : Options) → ((n : ℕ) → n < 2 ^ 64 → Says 1 s n → ⊥) → AreSaid s z options → ⊥
no_seed s z options none h = none options.seed h.seed_fits h.seed_is

pub no_size : (s z : Option Word) (options : Options) → ((n : ℕ) → n < 2 ^ 64 → Says 100 z n → ⊥) → AreSaid s z options → ⊥
no_size s z options none h = none options.size (omega arith) h.size_is

pub size_is : (s z : Option Word) (n : ℕ) (options : Options) → n < 2 ^ 64 → Says 100 z n → AreSaid s z options → (1 ≤ n) × (n ≤ MAX_GENERATED_SIZE)
size_is s z n options small says h =
    let same : options.size ≡ n = same_number 100 z options.size n (omega arith) small h.size_is says in
    (omega (arith, same, h.size_within), omega (arith, same, h.size_within))

-- ---- numbers begin with a digit

first_digit : (n : ℕ) (b : ℕ) (bs : Word) → n < 2 ^ 64 → b ∷ bs ≡ decimal n → b ≡ 45 → ⊥
first_digit zero b bs small e dash =
    let one : decimal 0 ≡ 48 ∷ [] = decimal_digit 0 (omega arith) in
    let same : b ∷ bs ≡ 48 ∷ [] = e ∙ one in
    let first : b ≡ 48 = ap (λ (w : Word). get_or w 0 0) same in
    absurd (omega arith)
first_digit (suc n) b bs small e dash =
    let high : 48 < get_or (decimal (suc n)) 0 0 = first_decimal (suc n) (omega arith) small in
    let first : b ≡ get_or (decimal (suc n)) 0 0 = ap (λ (w : Word). get_or w 0 0) e in
    absurd (omega (arith, first, high, dash))

pub number_begins : (default : ℕ) (text : Option Word) (n : ℕ) → n < 2 ^ 64 → Says default text n → BeginsPlain text
number_begins default None n small h = tt
number_begins default (Some []) n small h = absurd (omega (arith, ap length h, decimal_nonempty n small))
number_begins default (Some (b ∷ bs)) n small h = first_digit n b bs small h

-- ---- the options of words

pub not_read : (words : List Word) (s z : Option Word) (options : Options) → AreWordsOfBoth words s z →
    ((o : Options) → AreSaid s z o → ⊥) → AreOptions words options → ⊥
not_read words s z options both none h =
    let t = same_texts words h.seed h.size s z h.spelled both in
    none options (subst (λ (p : Option Word). AreSaid s p options) t.size (subst (λ (p : Option Word). AreSaid p h.size options) t.seed h.said))

fields_same : (a b : Options) → a.seed ≡ b.seed → a.size ≡ b.size → a ≡ b
fields_same a b seed size i = record { seed = seed i; size = size i }

-- words are those of one seed and one size at most
pub same_options : (words : List Word) (a b : Options) → AreOptions words a → AreOptions words b → a ≡ b
same_options words a b ha hb =
    let t = same_texts words ha.seed ha.size hb.seed hb.size ha.spelled hb.spelled in
    let seed : a.seed ≡ b.seed = same_number 1 hb.seed a.seed b.seed ha.said.seed_fits hb.said.seed_fits (subst (λ (text : Option Word). Says 1 text a.seed) t.seed ha.said.seed_is) hb.said.seed_is in
    let size : a.size ≡ b.size = same_number 100 hb.size a.size b.size (omega arith) (omega arith) (subst (λ (text : Option Word). Says 100 text a.size) t.size ha.said.size_is) hb.said.size_is in
    fields_same a b seed size
