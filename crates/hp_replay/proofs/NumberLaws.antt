-- A number that a journal's word says is the number that is spelled, and what is spelled is read again.
use Rattle.std.proofs.Common.{◌≡◌, ℕ, ◌^◌, List, Some, Ok, Err, refl, ap, arith}
use Rattle.std.specs.Prelude.{ℤ, Result}
use Rattle.std.specs.Result.{result_ok}
use Rattle.std.specs.Fmt.{decimal, signed_decimal}
use Rattle.hp_text.specs.Fits.{IsU32, IsI32}
use Rattle.hp_text.specs.Numbers as text
use Rattle.hp_text.proofs.NumberLaws as laws
use Rattle.hp_replay.specs.Numbers.{number, integer}

pub ok_is : {A E : Type 0} (r : Result A E) (a : A) → result_ok r ≡ Some a → r ≡ Ok a
ok_is (Ok b) a e = cc
ok_is (Err u) a e = absurd cc

pub number_takes : (w : List ℕ) (n : ℕ) → number w ≡ Some n → (w ≡ decimal n) × IsU32 n
number_takes w n e = laws.below_takes (2 ^ 32) w n (omega arith) (ok_is (text.number w) n e)

pub number_again : (n : ℕ) → IsU32 n → number (decimal n) ≡ Some n
number_again n lt = ap (λ r. result_ok r) (laws.below_again (2 ^ 32) n (decimal n) (omega arith) lt refl)

pub integer_takes : (w : List ℕ) (z : ℤ) → integer w ≡ Some z → (w ≡ signed_decimal z) × IsI32 z
integer_takes w z e = laws.integer_takes w z (ok_is (text.integer w) z e)

pub integer_again : (z : ℤ) → IsI32 z → integer (signed_decimal z) ≡ Some z
integer_again z fits = ap (λ r. result_ok r) (laws.integer_again z (signed_decimal z) fits refl)
