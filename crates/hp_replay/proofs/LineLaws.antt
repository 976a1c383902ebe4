-- The words of a line are those that it is spelled of, and words without spaces and newlines are those of their line.
use Rattle.std.proofs.Common.{◌≡◌, ℕ, suc, ◌^◌, ◌<◌, ◌≤◌, Bool, true, false, cond, not, ◌&&◌, eqb, leb, List, [], ◌∷◌, Some, refl, sym, ap, subst, ◌∙◌, arith}
use Rattle.std.specs.Prelude.{ℤ, pos, negsuc}
use Rattle.std.specs.Fmt.{decimal, signed_decimal}
use Rattle.std.specs.Option.{option_map}
use Rattle.std.specs.List.{onto_first}
use Rattle.std.proofs.lemmas.Bool.{eqb-true, ne_eqb, and_parts, leb-true, not-true}
use Rattle.hp_states.proofs.Basics.{map_some, same_some}
use Rattle.hp_model.specs.Words.{line}
use Rattle.hp_text.specs.Numbers.{is_digit, are_digits}
use Rattle.hp_replay.specs.Fits.{IsI32}
use Rattle.hp_replay.specs.LineWords.{ended, words_at}
use Rattle.hp_text.proofs.NumberLaws.{decimal_written}

-- the line has a first word, and is spelled of its words
pub record IsLineOf (l : List ℕ) (ws : List (List ℕ)) : Type 0 where
  pub first : List ℕ
  pub others : List (List ℕ)
  pub words_are : ws ≡ first ∷ others
  pub whole : l ≡ line ws

abbrev Takes : List ℕ → Type 0
Takes l = (ws : List (List ℕ)) → words_at l ≡ Some ws → IsLineOf l ws

after_newline : (bs : List ℕ) (ws : List (List ℕ)) → ended bs ≡ Some ws → IsLineOf (10 ∷ bs) ws
after_newline [] ws e =
    subst (λ (vs : List (List ℕ)). IsLineOf (10 ∷ []) vs) (same_some ([] ∷ []) ws e) (record { first = []; others = []; words_are = refl; whole = refl })
after_newline (b ∷ bs) ws e = absurd cc

after_space : (bs : List ℕ) (ws : List (List ℕ)) → Takes bs → option_map (λ vs. [] ∷ vs) (words_at bs) ≡ Some ws → IsLineOf (32 ∷ bs) ws
after_space bs ws more e =
    let m = map_some (λ (vs : List (List ℕ)). [] ∷ vs) (words_at bs) ws e in
    let p = more m.0 m.1 in
    let is : ws ≡ [] ∷ p.first ∷ p.others = sym m.2 ∙ ap (λ (vs : List (List ℕ)). [] ∷ vs) p.words_are in
    let bytes : bs ≡ line (p.first ∷ p.others) = p.whole ∙ ap line p.words_are in
    subst (λ (vs : List (List ℕ)). IsLineOf (32 ∷ bs) vs) (sym is)
    (record { first = []; others = p.first ∷ p.others; words_are = refl; whole = ap (λ (x : List ℕ). 32 ∷ x) bytes })

after_byte : (b : ℕ) (bs : List ℕ) (ws : List (List ℕ)) → Takes bs → option_map (onto_first b) (words_at bs) ≡ Some ws → IsLineOf (b ∷ bs) ws
after_byte b bs ws more e =
    let m = map_some (onto_first b) (words_at bs) ws e in
    let p = more m.0 m.1 in
    let is : ws ≡ (b ∷ p.first) ∷ p.others = sym m.2 ∙ ap (onto_first b) p.words_are in
    let bytes : bs ≡ line (p.first ∷ p.others) = p.whole ∙ ap line p.words_are in
    subst (λ (vs : List (List ℕ)). IsLineOf (b ∷ bs) vs) (sym is)
    (record { first = b ∷ p.first; others = p.others; words_are = refl; whole = ap (λ (x : List ℕ). b ∷ x) bytes })

by_space : (b : ℕ) (bs : List ℕ) (ws : List (List ℕ)) (t : Bool) → eqb b 32 ≡ t → Takes bs →
    cond t (option_map (λ vs. [] ∷ vs) (words_at bs)) (option_map (onto_first b) (words_at bs)) ≡ Some ws → IsLineOf (b ∷ bs) ws
by_space b bs ws true t more e =
    let same : b ≡ 32 = eqb-true b 32 t in
    subst (λ (c : ℕ). IsLineOf (c ∷ bs) ws) (sym same) (after_space bs ws more e)
by_space b bs ws false t more e = after_byte b bs ws more e

by_newline : (b : ℕ) (bs : List ℕ) (ws : List (List ℕ)) (t : Bool) → eqb b 10 ≡ t → Takes bs →
    cond t (ended bs) (cond (eqb b 32) (option_map (λ vs. [] ∷ vs) (words_at bs)) (option_map (onto_first b) (words_at bs))) ≡ Some ws → IsLineOf (b ∷ bs) ws
by_newline b bs ws true t more e =
    let same : b ≡ 10 = eqb-true b 10 t in
    subst (λ (c : ℕ). IsLineOf (c ∷ bs) ws) (sym same) (after_newline bs ws e)
by_newline b bs ws false t more e = by_space b bs ws (eqb b 32) refl more e

pub words_take : (l : List ℕ) (ws : List (List ℕ)) → words_at l ≡ Some ws → IsLineOf l ws
unfolding words_at
words_take [] ws e = absurd cc
words_take (b ∷ bs) ws e = by_newline b bs ws (eqb b 10) refl (λ vs h. words_take bs vs h) e

-- ---- words without spaces and newlines

abbrev pub is_free : List ℕ → Bool
is_free [] = true
is_free (b ∷ bs) = not (eqb b 10) && (not (eqb b 32) && is_free bs)

abbrev pub all_free : List (List ℕ) → Bool
all_free [] = true
all_free (w ∷ ws) = is_free w && all_free ws

pub words_again : (w : List ℕ) (ws : List (List ℕ)) → is_free w ≡ true → all_free ws ≡ true → words_at (line (w ∷ ws)) ≡ Some (w ∷ ws)
unfolding words_at
words_again [] [] f g = refl
words_again [] (v ∷ vs) f g =
    let p = and_parts (is_free v) (all_free vs) g in
    let more : words_at (line (v ∷ vs)) ≡ Some (v ∷ vs) = words_again v vs p.0 p.1 in
    rw more refl
words_again (b ∷ bs) ws f g =
    let p = and_parts (not (eqb b 10)) (not (eqb b 32) && is_free bs) f in
    let q = and_parts (not (eqb b 32)) (is_free bs) p.1 in
    let no_newline : eqb b 10 ≡ false = not-true (eqb b 10) p.0 in
    let no_space : eqb b 32 ≡ false = not-true (eqb b 32) q.0 in
    let more : words_at (line (bs ∷ ws)) ≡ Some (bs ∷ ws) = words_again bs ws q.1 g in
    rw (no_newline, no_space, more) refl

digits_free : (w : List ℕ) → are_digits w ≡ true → is_free w ≡ true
digits_free [] h = refl
digits_free (b ∷ bs) h =
    let p = and_parts (is_digit b) (are_digits bs) h in
    let q = and_parts (leb 48 b) (leb b 57) p.0 in
    let low : 48 ≤ b = leb-true 48 b q.0 in
    let no_newline : eqb b 10 ≡ false = ne_eqb b 10 (λ s. omega (arith, low, s)) in
    let no_space : eqb b 32 ≡ false = ne_eqb b 32 (λ s. omega (arith, low, s)) in
    rw (no_newline, no_space) (digits_free bs p.1)

pub decimal_free : (n : ℕ) → n < 2 ^ 64 → is_free (decimal n) ≡ true
decimal_free n lt = digits_free (decimal n) (decimal_written n lt).digits

pub signed_free : (z : ℤ) → IsI32 z → is_free (signed_decimal z) ≡ true
signed_free (pos n) lt = decimal_free n (omega arith)
signed_free (negsuc n) lt = decimal_free (suc n) (omega arith)
