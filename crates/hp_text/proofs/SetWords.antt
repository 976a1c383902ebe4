-- The words of a set of processors are the numbers that it lists.
use Rattle.std.proofs.Common.{◌≡◌, ℕ, ◌+◌, Bool, true, false, not, cond, ◌&&◌, leb, ltb, List, [], ◌∷◌, map, Ok, Err, refl, sym, ap, subst, ◌∙◌, arith}
use Rattle.std.specs.Fmt.{decimal}
use Rattle.std.specs.List.{list_all}
use Rattle.std.proofs.lemmas.Bool.{leb-true, le-leb, ltb-true, lt-ltb, and_parts, and_from}
use Rattle.hp_states.specs.declared.cpu_set.CpuSet.{CpuSet}
use Rattle.hp_model.specs.Lists.{is_empty}
use Rattle.hp_model.specs.Listed.{listed}
use Rattle.hp_model.specs.SetOf.{set_of, IsSet}
use Rattle.hp_model.proofs.Rising.{Rise}
use Rattle.hp_model.proofs.SetLemmas.{set_fits, listed_of, listed_rises, of_listed}
use Rattle.hp_text.specs.declared.unread.Unread.TheVariants.{NotOfForm, OutOfRange}
use Rattle.hp_text.specs.Numbers.{is_number, value}
use Rattle.hp_text.specs.Sets.{rise_from, if_rising, set}
use Rattle.hp_text.proofs.NumberLaws.{number_is, decimal_written}
use Rattle.hp_text.proofs.Readings.{IsTail, same_ok}

-- ---- numbers that rise, by the test and as a fact

pub rises : (low limit : ℕ) (ns : List ℕ) → rise_from low limit ns ≡ true → Rise low limit ns
rises low limit [] e = tt
rises low limit (n ∷ ns) e =
    let p = and_parts (leb low n && ltb n limit) (rise_from (n + 1) limit ns) e in
    let q = and_parts (leb low n) (ltb n limit) p.0 in
    (leb-true low n q.0, ltb-true n limit q.1, rises (n + 1) limit ns p.1)

pub tested : (low limit : ℕ) (ns : List ℕ) → Rise low limit ns → rise_from low limit ns ≡ true
tested low limit [] h = refl
tested low limit (n ∷ ns) h =
    and_from (leb low n && ltb n limit) (rise_from (n + 1) limit ns)
    (and_from (leb low n) (ltb n limit) (le-leb low n h.0) (lt-ltb n limit h.1)) (tested (n + 1) limit ns h.2)

-- ---- numbers below 256 in words

spelled : (low : ℕ) (ws : List (List ℕ)) → list_all is_number ws ≡ true → Rise low 256 (map value ws) → ws ≡ map decimal (map value ws)
spelled low [] form h = refl
spelled low (w ∷ ws) form h =
    let p = and_parts (is_number w) (list_all is_number ws) form in
    let first : w ≡ decimal (value w) = number_is w p.0 (omega (arith, h.1)) in
    let others : ws ≡ map decimal (map value ws) = spelled (value w + 1) ws p.1 h.2 in
    let whole : w ∷ ws ≡ decimal (value w) ∷ map decimal (map value ws) = cc in whole

record AreWritten (ns : List ℕ) : Type 0 where
  form : list_all is_number (map decimal ns) ≡ true
  values : map value (map decimal ns) ≡ ns

written : (low : ℕ) (ns : List ℕ) → Rise low 256 ns → AreWritten ns
written low [] h = record { form = refl; values = refl }
written low (n ∷ ns) h =
    let first = decimal_written n (omega (arith, h.1)) in
    let others = written (n + 1) ns h.2 in
    record {
      form = and_from (is_number (decimal n)) (list_all is_number (map decimal ns)) first.form others.form;
      values = let a = first.value_is in let b = others.values in cc;
    }

-- ---- sets

-- a set as the code holds it, of one processor or more
abbrev pub IsSome : CpuSet → Type 0
IsSome s = IsSet s × (not (is_empty (listed s)) ≡ true)

some_read : (w : List ℕ) (ws : List (List ℕ)) → not (is_empty (map value (w ∷ ws))) ≡ true
some_read w ws = refl

judged : (w : List ℕ) (ws : List (List ℕ)) (s : CpuSet) (t : Bool) → list_all is_number (w ∷ ws) ≡ true → rise_from 0 256 (map value (w ∷ ws)) ≡ t →
    cond t (Ok (set_of (map value (w ∷ ws)))) (Err OutOfRange) ≡ Ok s → (w ∷ ws ≡ map decimal (listed s)) × IsSome s
judged w ws s true form rise e =
    let up : Rise 0 256 (map value (w ∷ ws)) = rises 0 256 (map value (w ∷ ws)) rise in
    let lists : listed (set_of (map value (w ∷ ws))) ≡ map value (w ∷ ws) = listed_of (map value (w ∷ ws)) up in
    subst (λ (x : CpuSet). (w ∷ ws ≡ map decimal (listed x)) × IsSome x) (same_ok (set_of (map value (w ∷ ws))) s e) (
      spelled 0 (w ∷ ws) form up ∙ ap (λ (ns : List ℕ). map decimal ns) (sym lists),
      (set_fits (map value (w ∷ ws)), ap (λ (ns : List ℕ). not (is_empty ns)) lists),
    )
judged w ws s false form rise e = absurd cc

of_form : (w : List ℕ) (ws : List (List ℕ)) (s : CpuSet) (t : Bool) → list_all is_number (w ∷ ws) ≡ t →
    cond (not t) (Err NotOfForm) (if_rising (map value (w ∷ ws))) ≡ Ok s → (w ∷ ws ≡ map decimal (listed s)) × IsSome s
of_form w ws s true form e = judged w ws s (rise_from 0 256 (map value (w ∷ ws))) form refl e
of_form w ws s false form e = absurd cc

set_takes : (ws : List (List ℕ)) (s : CpuSet) → set ws ≡ Ok s → (ws ≡ map decimal (listed s)) × IsSome s
unfolding set
set_takes [] s e = absurd cc
set_takes (w ∷ ws) s e = of_form w ws s (list_all is_number (w ∷ ws)) refl e

pub set_is : IsTail set (λ s. map decimal (listed s)) IsSome
set_is = record { takes = set_takes }

numbers_again : (ns : List ℕ) → Rise 0 256 ns → not (is_empty ns) ≡ true → set (map decimal ns) ≡ Ok (set_of ns)
unfolding set
numbers_again [] h some = absurd cc
numbers_again (n ∷ ns) h some =
    let w = written 0 (n ∷ ns) h in
    let form = w.form in
    let rise : rise_from 0 256 (map value (map decimal (n ∷ ns))) ≡ true = ap (rise_from 0 256) w.values ∙ tested 0 256 (n ∷ ns) h in
    rw (form, rise) (ap (λ (ms : List ℕ). Ok (set_of ms)) w.values)

pub set_again : (s : CpuSet) → IsSome s → set (map decimal (listed s)) ≡ Ok s
set_again s h = numbers_again (listed s) (listed_rises s) h.1 ∙ ap (λ (t : CpuSet). Ok t) (of_listed s h.0)
