-- Names, choices, and numbers or stars have no spaces and newlines.
use Rattle.std.proofs.Common.{◌≡◌, ℕ, ◌^◌, ◌<◌, ◌≤◌, Bool, true, false, eqb, List, [], ◌∷◌, Option, Some, None, refl, subst, arith}
use Rattle.std.specs.Prelude.{IfSome}
use Rattle.std.specs.List.{list_all}
use Rattle.std.proofs.lemmas.Bool.{ne_eqb, and_parts}
use Rattle.std.proofs.lemmas.List.Sums.{list_all-from_AllPass}
use Rattle.hp_model.specs.Words.{name_word, any_word, calls_word, kind_word}
use Rattle.hp_model.specs.Heads.{IsName, is_name_byte}
use Rattle.hp_replay.proofs.LineLaws.{is_free, decimal_free}

pub any_free : (high : ℕ) (o : Option ℕ) → high < 2 ^ 64 → IfSome o (λ n. n ≤ high) → is_free (any_word o) ≡ true
any_free high None lt h = refl
any_free high (Some n) lt h = decimal_free n (omega (arith, h, lt))

bytes_free : (n : List ℕ) → list_all is_name_byte n ≡ true → is_free n ≡ true
bytes_free [] h = refl
bytes_free (b ∷ bs) h =
    let p = and_parts (is_name_byte b) (list_all is_name_byte bs) h in
    let no_newline : eqb b 10 ≡ false = ne_eqb b 10 (λ s. let x : is_name_byte 10 ≡ true = subst (λ (c : ℕ). is_name_byte c ≡ true) s p.0 in cc) in
    let no_space : eqb b 32 ≡ false = ne_eqb b 32 (λ s. let x : is_name_byte 32 ≡ true = subst (λ (c : ℕ). is_name_byte c ≡ true) s p.0 in cc) in
    rw (no_newline, no_space) (bytes_free bs p.1)

pub name_free : (n : List ℕ) → IsName n → is_free (name_word n) ≡ true
name_free [] h = refl
name_free (b ∷ bs) h = bytes_free (b ∷ bs) (list_all-from_AllPass is_name_byte (b ∷ bs) h.bytes)

pub calls_free : (up down : Bool) → is_free (calls_word up down) ≡ true
calls_free true true = refl
calls_free true false = refl
calls_free false true = refl
calls_free false false = refl

pub kind_free : (m : Bool) → is_free (kind_word m) ≡ true
kind_free true = refl
kind_free false = refl
