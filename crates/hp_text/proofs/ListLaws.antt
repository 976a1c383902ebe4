-- Lists of numbers: what is read is spelled by the words, and what is spelled is read again.
use Rattle.std.proofs.Common.{◌≡◌, ℕ, ◌+◌, ◌^◌, ◌<◌, ◌≤◌, Bool, true, false, cond, List, [], ◌∷◌, map, Ok, Err, refl, ap, subst, ◌∙◌, arith}
use Rattle.std.specs.Prelude.{codes, decimal}
use Rattle.std.specs.Str.{bytes_eq}
use Rattle.hp_model.specs.Words.{list_words}
use Rattle.hp_model.proofs.Rising.{Rise}
use Rattle.hp_text.specs.Numbers.{number}
use Rattle.hp_text.specs.Readings.{done, both, each}
use Rattle.hp_text.specs.Lists.{number_list_or_dash}
use Rattle.hp_text.proofs.NumberLaws.{below_takes, below_again}
use Rattle.hp_text.proofs.Readings.{same_ok, both_ok, said_ok, done_takes}
use Rattle.hp_text.proofs.SubLaws.{same_word, decimal_other}

pub each_takes : (ws : List (List ℕ)) (ns : List ℕ) → each number ws ≡ Ok ns → ws ≡ map decimal ns
each_takes [] ns e = ap (λ (x : List ℕ). map decimal x) (same_ok [] ns e)
each_takes (w ∷ ws) ns e =
    let m = said_ok (λ x. x.0 ∷ x.1) (both (number w) (each number ws)) ns e in
    let b = both_ok (number w) (each number ws) m.0 m.1 in
    let first = (below_takes (2 ^ 32) w m.0.0 (omega arith) b.0).0 in
    let others = each_takes ws m.0.1 b.1 in
    let here : w ∷ ws ≡ decimal m.0.0 ∷ map decimal m.0.1 = cc in
    here ∙ ap (λ (x : List ℕ). map decimal x) m.2

pub each_again : (low limit : ℕ) (ns : List ℕ) → limit ≤ 2 ^ 32 → Rise low limit ns → each number (map decimal ns) ≡ Ok ns
each_again low limit [] le h = refl
each_again low limit (n ∷ ns) le h =
    let first : number (decimal n) ≡ Ok n = below_again (2 ^ 32) n (decimal n) (omega arith) (omega (arith, h.1, le)) refl in
    rw (first, each_again (n + 1) limit ns le h.2) refl

some_words : (w : List ℕ) (ws : List (List ℕ)) (ns : List ℕ) → w ∷ ws ≡ map decimal ns → w ∷ ws ≡ list_words (map decimal ns)
some_words w ws [] e = absurd cc
some_words w ws (n ∷ ns) e = e

by_dash : (w : List ℕ) (ws : List (List ℕ)) (ns : List ℕ) (t : Bool) → bytes_eq w (codes "-") ≡ t → cond t (done [] ws) (each number (w ∷ ws)) ≡ Ok ns → w ∷ ws ≡ list_words (map decimal ns)
by_dash w ws ns true t e =
    let d = done_takes [] ns ws e in
    let here : w ∷ ws ≡ codes "-" ∷ [] = let a = same_word w (codes "-") t in let b = d.0 in cc in
    subst (λ (x : List ℕ). w ∷ ws ≡ list_words (map decimal x)) d.1 here
by_dash w ws ns false t e = some_words w ws ns (each_takes (w ∷ ws) ns e)

pub dash_takes : (ws : List (List ℕ)) (ns : List ℕ) → number_list_or_dash ws ≡ Ok ns → ws ≡ list_words (map decimal ns)
unfolding number_list_or_dash
dash_takes [] ns e = absurd cc
dash_takes (w ∷ ws) ns e = by_dash w ws ns (bytes_eq w (codes "-")) refl e

pub dash_again : (low limit : ℕ) (ns : List ℕ) → limit ≤ 2 ^ 32 → Rise low limit ns → number_list_or_dash (list_words (map decimal ns)) ≡ Ok ns
unfolding number_list_or_dash
dash_again low limit [] le h = refl
dash_again low limit (n ∷ ns) le h =
    let no_dash : bytes_eq (decimal n) (codes "-") ≡ false = decimal_other n (codes "-") (omega (arith, h.1, le)) refl in
    let again : each number (decimal n ∷ map decimal ns) ≡ Ok (n ∷ ns) = each_again low limit (n ∷ ns) le h in
    rw no_dash again
