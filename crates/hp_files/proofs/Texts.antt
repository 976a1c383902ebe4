-- What is read is what was written: a text that says a number has one minus or none, one run of digits, and one newline or none.
use Rattle.std.proofs.Common.{◌≡◌, ◌∙◌, ℕ, suc, ◌-◌, ℤ, Bool, true, false, nat_eq, List, [], ◌∷◌, ◌++◌, length, take, drop, get_or, refl, sym, ap, subst, append_assoc, arith, length-append}
use Rattle.std.specs.Prelude.{Result, Ok, Err, IfOk, IfErr}
use Rattle.std.specs.Int.{IsInRange}
use Rattle.std.proofs.lemmas.List.{append-nil}
use Rattle.std.proofs.lemmas.List.{drop_all, take-append-drop}
use Rattle.std.proofs.Math.Seq.{drop-cons, get_or-append_seam, take-append_seam}
use Rattle.std.proofs.lemmas.Str.Parse.{digit_at}
use Rattle.std.specs.Str.Parse.{IsNumeral}
use Rattle.hp_files.specs.Numbers.{IsNumberText, DigitsSay, minus_if, newline_if, without_newline}

trimmed : (front : List ℕ) (e : Bool) → nat_eq (get_or front (length front - 1) 0) 10 ≡ false →
    without_newline (front ++ newline_if e) ≡ front
trimmed front true plain =
    let end : length (front ++ 10 ∷ []) - 1 ≡ length front = omega (arith, length-append front (10 ∷ [])) in
    rw (end, get_or-append_seam front 10 [] 0) (take-append_seam front (10 ∷ []))
trimmed front false plain = rw (append-nil front, plain) refl

no_newline : (b : ℕ) → IsInRange 48 57 b → nat_eq b 10 ≡ false
no_newline b digit = grind (arith, digit)

no_minus : (b : ℕ) → IsInRange 48 57 b → nat_eq b 45 ≡ false
no_minus b digit = grind (arith, digit)

last_is_digit : (s : Bool) (digits : List ℕ) → IsNumeral 10 digits →
    nat_eq (get_or (minus_if s ++ digits) (length (minus_if s ++ digits) - 1) 0) 10 ≡ false
last_is_digit true digits numeral =
    let at : suc (length digits) - 1 ≡ suc (length digits - 1) = omega (arith, numeral.0) in
    rw at (no_newline (get_or digits (length digits - 1) 0) (digit_at digits (length digits - 1) numeral.1 (omega (arith, numeral.0))))
last_is_digit false digits numeral =
    no_newline (get_or digits (length digits - 1) 0) (digit_at digits (length digits - 1) numeral.1 (omega (arith, numeral.0)))

one_minus : (s t : Bool) (digits others : List ℕ) → IsNumeral 10 digits → minus_if s ++ digits ≡ minus_if t ++ others →
    t ≡ nat_eq (get_or (minus_if s ++ digits) 0 0) 45 → (s ≡ t) × (digits ≡ others)
one_minus true true digits others numeral same first = (refl, ap (λ (l : List ℕ). drop 1 l) same)
one_minus true false digits others numeral same first = absurd cc
one_minus false true digits others numeral same first =
    let digit : nat_eq (get_or digits 0 0) 45 ≡ false = no_minus (get_or digits 0 0) (digit_at digits 0 numeral.1 numeral.0) in
    absurd cc
one_minus false false digits others numeral same first = (refl, same)

pieces : (bytes : List ℕ) (e : Bool) → nat_eq (get_or bytes (length bytes - 1) 0) 10 ≡ e →
    bytes ≡ without_newline bytes ++ newline_if e
pieces [] true last = absurd cc
pieces (b ∷ bs) true last =
    let bytes : List ℕ = b ∷ bs in
    let n : ℕ = length bytes - 1 in
    let behind : drop n bytes ≡ get_or bytes n 0 ∷ drop (suc n) bytes = drop-cons bytes n 0 (omega arith) in
    let none : drop (suc n) bytes ≡ [] = drop_all (suc n) bytes (omega arith) in
    let ten : get_or bytes n 0 ≡ 10 = grind (arith, last) in
    rw last
    (sym (take-append-drop n bytes) ∙ ap (λ (l : List ℕ). take n bytes ++ l) (behind ∙ rw (none, ten) refl))
pieces bytes false last = rw last (sym (append-nil bytes))

pub text_of : (bytes line digits : List ℕ) (s : Bool) (v : ℤ) → line ≡ without_newline bytes → line ≡ minus_if s ++ digits →
    DigitsSay s digits v → IsNumberText bytes v
text_of bytes line digits s v cut parts say =
    let e : Bool = nat_eq (get_or bytes (length bytes - 1) 0) 10 in
    record {
      is_negative = s;
      digits = digits;
      is_ended = e;
      bytes_are = pieces bytes e refl ∙ ap (λ (l : List ℕ). l ++ newline_if e) (sym cut ∙ parts) ∙ append_assoc (minus_if s) digits (newline_if e);
      said = say;
    }

say_same : (s t : Bool) (digits others : List ℕ) (v : ℤ) → (s ≡ t) × (digits ≡ others) → DigitsSay s digits v → DigitsSay t others v
say_same s t digits others v same say =
    subst (λ (b : Bool). DigitsSay b others v) same.0 (subst (λ (l : List ℕ). DigitsSay s l v) same.1 say)

pub said_by : (bytes line digits : List ℕ) (s : Bool) (v : ℤ) → line ≡ without_newline bytes → line ≡ minus_if s ++ digits →
    s ≡ nat_eq (get_or line 0 0) 45 → IsNumberText bytes v → DigitsSay s digits v
said_by bytes line digits s v cut parts first text =
    let front : List ℕ = minus_if text.is_negative ++ text.digits in
    let whole : bytes ≡ front ++ newline_if text.is_ended = text.bytes_are ∙ sym (append_assoc (minus_if text.is_negative) text.digits (newline_if text.is_ended)) in
    let same : line ≡ front =
    cut ∙ ap (λ (l : List ℕ). without_newline l) whole
    ∙ trimmed front text.is_ended (last_is_digit text.is_negative text.digits text.said.are_digits) in
    say_same text.is_negative s text.digits digits v
    (one_minus text.is_negative s text.digits digits text.said.are_digits (sym same ∙ parts) (first ∙ ap (λ (l : List ℕ). nat_eq (get_or l 0 0) 45) same))
    text.said

pub all_ok : {E : Type 0} (r : Result ℤ E) (P Q : ℤ → Type 0) → ((v : ℤ) → P v → Q v) → IfOk r P → IfOk r Q
all_ok (Ok v) P Q more h = more v h
all_ok (Err e) P Q more h = tt

pub all_err : {E : Type 0} (r : Result ℤ E) (P Q : ℤ → Type 0) → ((v : ℤ) → Q v → P v) →
    IfErr r (λ _. (v : ℤ) → P v → ⊥) → IfErr r (λ _. (v : ℤ) → Q v → ⊥)
all_err (Ok v) P Q less h = tt
all_err (Err e) P Q less h = λ v q. h v (less v q)
