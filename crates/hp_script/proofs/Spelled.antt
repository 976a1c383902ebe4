-- Names that end with a number, and how long a line is.
use Rattle.std.proofs.Common.{◌≡◌, ℕ, ◌+◌, ◌^◌, ◌<◌, ◌≤◌, true, ◌&&◌, leb, List, [], ◌∷◌, ◌++◌, length, refl, ◌∙◌, arith}
use Rattle.std.specs.Fmt.{decimal}
use Rattle.std.specs.List.{list_all}
use Rattle.std.proofs.lemmas.Bool.{and_parts, and_from, or_left, or_right, le-leb}
use Rattle.std.proofs.lemmas.Fmt.{length-decimal-le}
use Rattle.std.proofs.lemmas.List.{length-append}
use Rattle.std.proofs.lemmas.List.Folds.{list_all-append}
use Rattle.hp_states.specs.declared.limits.TheConstants.{MAX_NAME_LEN}
use Rattle.hp_states.specs.Names.{is_name_byte}
use Rattle.hp_model.specs.Words.{spaced, line}
use Rattle.hp_text.specs.Numbers.{is_digit}
use Rattle.hp_text.specs.Choices.{is_name}
use Rattle.hp_text.proofs.NumberLaws.{decimal_written}
use Rattle.hp_script.proofs.CleanLines.{is_graphic, is_clean, digits_graphic}

digits_named : (w : List ℕ) → list_all is_digit w ≡ true → list_all is_name_byte w ≡ true
digits_named [] h = refl
digits_named (b ∷ bs) h =
    let p = and_parts (is_digit b) (list_all is_digit bs) h in
    and_from (is_name_byte b) (list_all is_name_byte bs)
    (or_right (leb 97 b && leb b 122) _ (or_right (leb 65 b && leb b 90) _ (or_left (is_digit b) _ p.0)))
    (digits_named bs p.1)

pub record IsTitle (word : List ℕ) : Type 0 where
  pub named : is_name word ≡ true
  pub clean : is_clean word ≡ true
  pub short : length word ≤ 10

pub title : (b : ℕ) (bs : List ℕ) (n : ℕ) → list_all is_name_byte (b ∷ bs) ≡ true → list_all is_graphic (b ∷ bs) ≡ true → length (b ∷ bs) ≤ 8 → n < 100
    → IsTitle ((b ∷ bs) ++ decimal n)
title b bs n named graphic short lt =
    let w = decimal_written n (omega (arith, lt)) in
    let few : length (decimal n) ≤ 2 = length-decimal-le 2 n (omega arith) (omega (arith, lt)) (omega (arith, lt)) in
    let all = length-append (b ∷ bs) (decimal n) in
    let some : leb 1 (length ((b ∷ bs) ++ decimal n)) ≡ true = le-leb 1 (length ((b ∷ bs) ++ decimal n)) (omega arith) in
    let long : leb (length ((b ∷ bs) ++ decimal n)) MAX_NAME_LEN ≡ true = le-leb (length ((b ∷ bs) ++ decimal n)) MAX_NAME_LEN (omega (arith, few, all, short)) in
    record {
      named = and_from _ _ some (and_from _ _ long (list_all-append is_name_byte (b ∷ bs) (decimal n) ∙ and_from (list_all is_name_byte (b ∷ bs)) (list_all is_name_byte (decimal n)) named (digits_named (decimal n) w.digits)));
      clean = list_all-append is_graphic (b ∷ bs) (decimal n) ∙ and_from (list_all is_graphic (b ∷ bs)) (list_all is_graphic (decimal n)) graphic (digits_graphic (decimal n) w.digits);
      short = omega (arith, few, all, short);
    }

-- ---- how long a line is

abbrev pub total : List (List ℕ) → ℕ
total [] = 0
total (w ∷ ws) = length w + total ws + 1

spaced_length : (ws : List (List ℕ)) → length (spaced ws) ≡ total ws
spaced_length [] = refl
spaced_length (w ∷ ws) = omega (arith, length-append w (spaced ws), spaced_length ws)

pub line_length : (w : List ℕ) (ws : List (List ℕ)) → length (line (w ∷ ws)) ≡ length w + total ws + 1
line_length w ws = omega (arith, length-append (w ++ spaced ws) (10 ∷ []), length-append w (spaced ws), spaced_length ws)
