-- The line of a number at the front of a buffer, and what it says.
use Rattle.std.proofs.Common.{◌≡◌, ◌∙◌, ℕ, suc, ◌<◌, ◌^◌, ℤ, pos, negsuc, true, false, List, [], ◌∷◌, ◌++◌, length, drop, get_or, slice_set, refl, sym, ap, append_assoc, arith, length-append, FitsSigned, w32}
use Rattle.std.proofs.Math.Seq.{drop-cons, set-append_seam}
use Rattle.std.specs.Fmt.{decimal}
use Rattle.std.specs.Str.Parse.{IsNumeral, digits_value}
use Rattle.std.proofs.lemmas.Fmt.{decimal_is_IsNumeral, length-decimal-le}
use Rattle.hp_files.specs.Numbers.{IsNumberText, negative_if, number_line}

pub line_at_front : (text bytes : List ℕ) → length text < length bytes →
    slice_set (text ++ drop (length text) bytes) (length text) 10
    ≡ (text ++ 10 ∷ []) ++ drop (length (text ++ 10 ∷ [])) bytes
line_at_front text bytes room =
    let behind : drop (length text) bytes ≡ get_or bytes (length text) 0 ∷ drop (suc (length text)) bytes = drop-cons bytes (length text) 0 room in
    let next : length (text ++ 10 ∷ []) ≡ suc (length text) = omega (arith, length-append text (10 ∷ [])) in
    rw behind
    (set-append_seam text (get_or bytes (length text) 0) (drop (suc (length text)) bytes) 10
    ∙ ap (λ (n : ℕ). text ++ (10 ∷ drop n bytes)) (sym next)
    ∙ sym (append_assoc text (10 ∷ []) (drop (length (text ++ 10 ∷ [])) bytes)))

said : (n : ℕ) → n < 10 ^ 10 → IsNumeral 10 (decimal n) × (digits_value 10 (decimal n) ≡ n)
said n small = decimal_is_IsNumeral n (omega (arith, small))

pub reads_back : (number : ℤ) → FitsSigned w32 number → IsNumberText (number_line number) number
reads_back (pos n) fits =
    let small : n < 10 ^ 10 = omega (arith, fits) in
    record {
      is_negative = false;
      digits = decimal n;
      is_ended = true;
      bytes_are = refl;
      said = record {
        are_digits = (said n small).0;
        at_most_ten = length-decimal-le 10 n (omega arith) small (omega (arith, small));
        number_is = ap (λ (m : ℕ). pos m) (sym (said n small).1);
        fits = fits;
      };
    }
reads_back (negsuc n) fits =
    let small : suc n < 10 ^ 10 = omega (arith, fits) in
    record {
      is_negative = true;
      digits = decimal (suc n);
      is_ended = true;
      bytes_are = refl;
      said = record {
        are_digits = (said (suc n) small).0;
        at_most_ten = length-decimal-le 10 (suc n) (omega arith) small (omega (arith, small));
        number_is = ap (λ (m : ℕ). negative_if true (pos m)) (sym (said (suc n) small).1);
        fits = fits;
      };
    }
