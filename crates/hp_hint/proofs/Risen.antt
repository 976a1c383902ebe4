-- Numbers that rise, by the word of each at a time.
use Rattle.std.proofs.Common.{◌≡◌, ℕ, zero, suc, ◌+◌, ◌^◌, ◌<◌, ◌≤◌, Bool, true, false, cond, not, ◌&&◌, ltb, leb, List, [], ◌∷◌, map, Ok, Err, refl, sym, ap, ◌∙◌, subst, add-one, arith}
use Rattle.std.specs.Prelude.{codes}
use Rattle.std.specs.List.{list_all}
use Rattle.std.proofs.lemmas.Bool.{ltb-true, ltb-false, lt-ltb, le-leb, and_from}
use Rattle.hp_states.proofs.Basics.{and_false}
use Rattle.hp_model.specs.Lists.{is_empty}
use Rattle.hp_model.specs.Listed.{listed}
use Rattle.hp_model.specs.SetOf.{set_of}
use Rattle.hp_model.proofs.SetLemmas.{listed_of}
use Rattle.hp_text.proofs.SetWords.{rises}
use Rattle.hp_text.specs.declared.unread.Unread.{Unread}
use Rattle.hp_text.specs.declared.unread.Unread.TheVariants.{NotOfForm, OutOfRange}
use Rattle.hp_text.specs.Readings.{Reading, said, both, each}
use Rattle.hp_text.specs.Numbers.{is_number, value, if_below, number_below, at_least, number_from, number}
use Rattle.hp_text.specs.Sets.{rise_from, if_rising, set}
use Rattle.hp_text.specs.Lists.{number_list}
use Rattle.hp_hint.specs.declared.measure.Measure.{Measure}
use Rattle.hp_hint.specs.declared.measure.Measure.TheVariants as measure
use Rattle.hp_hint.specs.declared.field.Field.TheVariants.{Cpu}
use Rattle.hp_hint.specs.Forms.{CanGoOn, IsGood, is_formed, says, measured, fits, are_several, is_between, are_rising, risen}
use Rattle.hp_hint.proofs.Good.{short, bad, onto}

-- ---- as hp_script reads them: the numbers of a list

number_is : (w : List ℕ) (t u : Bool) → is_number w ≡ t → ltb (value w) (2 ^ 32) ≡ u → number w ≡ cond t (cond u (Ok (value w)) (Err OutOfRange)) (Err NotOfForm)
unfolding number_below
number_is w t u e f = rw (e, f) refl

one_more : (low limit n : ℕ) (a b : Bool) → leb low n ≡ a → ltb n limit ≡ b → (r : Reading (List ℕ))
    → says (rise_from low limit) (said (λ x. x.0 ∷ x.1) (both (Ok n) r)) ≡ ((a && b) && says (rise_from (n + 1) limit) r)
one_more low limit n true true e f (Ok ns) = rw (e, f) refl
one_more low limit n true false e f (Ok ns) = rw (e, f) refl
one_more low limit n false b e f (Ok ns) = rw e refl
one_more low limit n a b e f (Err unread) = sym (and_false (a && b))

out_more : (low limit : ℕ) (r : Reading (List ℕ)) → says (rise_from low limit) (said (λ x. x.0 ∷ x.1) (both (Err OutOfRange) r)) ≡ false
out_more low limit (Ok ns) = refl
out_more low limit (Err unread) = refl

between_is : (low limit : ℕ) (w : List ℕ) (t a b : Bool) → is_number w ≡ t → leb low (value w) ≡ a → ltb (value w) limit ≡ b → is_between low limit w ≡ (t && (a && b))
between_is low limit w t a b e f h = rw (e, f, h) refl

each_rises : (low limit : ℕ) → limit < 2 ^ 32 → (ws : List (List ℕ)) → says (rise_from low limit) (each number ws) ≡ are_rising low limit ws
each_rises low limit small [] = refl
each_rises low limit small (w ∷ ws) = by (is_number w) (ltb (value w) (2 ^ 32)) (leb low (value w)) (ltb (value w) limit) refl refl refl refl (each_rises (value w + 1) limit small ws)
  where
    tail : Reading (List ℕ)
    tail = each number ws

    by : (t u a b : Bool) → is_number w ≡ t → ltb (value w) (2 ^ 32) ≡ u → leb low (value w) ≡ a → ltb (value w) limit ≡ b
        → says (rise_from (value w + 1) limit) tail ≡ are_rising (value w + 1) limit ws
        → says (rise_from low limit) (said (λ x. x.0 ∷ x.1) (both (number w) tail)) ≡ (is_between low limit w && are_rising (value w + 1) limit ws)
    by true true a b e f g h more =
        ap (λ (r : Reading ℕ). says (rise_from low limit) (said (λ x. x.0 ∷ x.1) (both r tail))) (number_is w true true e f)
        ∙ one_more low limit (value w) a b g h tail
        ∙ ap (λ t. (a && b) && t) more
        ∙ sym (ap (λ t. t && are_rising (value w + 1) limit ws) (between_is low limit w true a b e g h))
    by true false a true e f g h more = let le = ltb-false (value w) (2 ^ 32) f in let lt = ltb-true (value w) limit h in absurd (omega (arith, le, lt, small))
    by true false a false e f g h more =
        ap (λ (r : Reading ℕ). says (rise_from low limit) (said (λ x. x.0 ∷ x.1) (both r tail))) (number_is w true false e f)
        ∙ out_more low limit tail
        ∙ sym (ap (λ t. t && are_rising (value w + 1) limit ws) (between_is low limit w true a false e g h ∙ and_false a))
    by false u a b e f g h more =
        ap (λ (r : Reading ℕ). says (rise_from low limit) (said (λ x. x.0 ∷ x.1) (both r tail))) (number_is w false u e f)
        ∙ sym (ap (λ t. t && are_rising (value w + 1) limit ws) (between_is low limit w false a b e g h))

-- ---- the words of a number, however large

formed_number : (w : List ℕ) → is_formed (number w) ≡ is_number w
unfolding number_below
formed_number w = by (is_number w) (ltb (value w) (2 ^ 32)) refl refl
  where
    by : (t u : Bool) → is_number w ≡ t → ltb (value w) (2 ^ 32) ≡ u → is_formed (cond (is_number w) (if_below (2 ^ 32) (value w)) (Err NotOfForm)) ≡ is_number w
    by true true e f = rw (e, f) refl
    by true false e f = rw (e, f) refl
    by false u e f = rw e refl

said_formed : (a : Reading ℕ) (b : Reading (List ℕ)) → is_formed (said (λ x. x.0 ∷ x.1) (both a b)) ≡ (is_formed a && is_formed b)
said_formed (Ok a) (Ok b) = refl
said_formed (Ok a) (Err NotOfForm) = refl
said_formed (Ok a) (Err OutOfRange) = refl
said_formed (Err NotOfForm) b = refl
said_formed (Err OutOfRange) (Ok b) = refl
said_formed (Err OutOfRange) (Err NotOfForm) = refl
said_formed (Err OutOfRange) (Err OutOfRange) = refl

each_formed : (ws : List (List ℕ)) → is_formed (each number ws) ≡ list_all (fits measure.Form Cpu) ws
each_formed [] = refl
each_formed (w ∷ ws) = said_formed (number w) (each number ws) ∙ ap (λ t. is_formed (number w) && t) (each_formed ws)

pub absent_same : (m : Measure) (limit : ℕ) → limit < 2 ^ 32 → (ws : List (List ℕ)) → measured m (rise_from 1 limit) (number_list ws) ≡ risen m 1 limit ws
absent_same measure.Form limit small [] = refl
absent_same measure.Form limit small (w ∷ ws) = each_formed (w ∷ ws)
absent_same (measure.Ranges p) limit small [] = refl
absent_same (measure.Ranges p) limit small (w ∷ ws) = each_rises 1 limit small (w ∷ ws)

-- ---- the numbers of a set

all_numbers : (ws : List (List ℕ)) → list_all is_number ws ≡ list_all (fits measure.Form Cpu) ws
all_numbers [] = refl
all_numbers (w ∷ ws) = ap (λ t. t && list_all is_number ws) (sym (formed_number w)) ∙ ap (λ t. fits measure.Form Cpu w && t) (all_numbers ws)

map_rises : (low limit : ℕ) (ws : List (List ℕ)) → (list_all is_number ws && rise_from low limit (map value ws)) ≡ are_rising low limit ws
map_rises low limit [] = refl
map_rises low limit (w ∷ ws) = by (is_number w) (leb low (value w)) (ltb (value w) limit) refl refl refl (map_rises (value w + 1) limit ws)
  where
    by : (t a b : Bool) → is_number w ≡ t → leb low (value w) ≡ a → ltb (value w) limit ≡ b
        → (list_all is_number ws && rise_from (value w + 1) limit (map value ws)) ≡ are_rising (value w + 1) limit ws
        → (list_all is_number (w ∷ ws) && rise_from low limit (value w ∷ map value ws)) ≡ (is_between low limit w && are_rising (value w + 1) limit ws)
    by true true true e f h more = rw (e, f, h) more
    by true true false e f h more = rw (e, f, h) (and_false (list_all is_number ws))
    by true false b e f h more = rw (e, f) (and_false (list_all is_number ws))
    by false a b e f h more = rw e refl

some_rising : (n : ℕ) (ns : List ℕ) → says (λ s. not (is_empty (listed s))) (if_rising (n ∷ ns)) ≡ rise_from 0 256 (n ∷ ns)
some_rising n ns = by (rise_from 0 256 (n ∷ ns)) refl
  where
    by : (t : Bool) → rise_from 0 256 (n ∷ ns) ≡ t → says (λ s. not (is_empty (listed s))) (cond t (Ok (set_of (n ∷ ns))) (Err OutOfRange)) ≡ t
    by true e = ap (λ (x : List ℕ). not (is_empty x)) (listed_of (n ∷ ns) (rises 0 256 (n ∷ ns) e))
    by false e = refl

formed_rising : (ns : List ℕ) → is_formed (if_rising ns) ≡ true
formed_rising ns = by (rise_from 0 256 ns) refl
  where
    by : (t : Bool) → rise_from 0 256 ns ≡ t → is_formed (if_rising ns) ≡ true
    by true e = rw e refl
    by false e = rw e refl

set_formed : (ws : List (List ℕ)) → is_formed (set ws) ≡ are_several measure.Form Cpu ws
unfolding set
set_formed [] = refl
set_formed (w ∷ ws) = by (list_all is_number (w ∷ ws)) refl ∙ all_numbers (w ∷ ws)
  where
    by : (t : Bool) → list_all is_number (w ∷ ws) ≡ t → is_formed (set (w ∷ ws)) ≡ list_all is_number (w ∷ ws)
    by true e = rw e (formed_rising (map value (w ∷ ws)))
    by false e = rw e refl

set_rises : (ws : List (List ℕ)) → says (λ s. not (is_empty (listed s))) (set ws) ≡ (not (is_empty ws) && are_rising 0 256 ws)
unfolding set
set_rises [] = refl
set_rises (w ∷ ws) = by (list_all is_number (w ∷ ws)) refl
  where
    by : (t : Bool) → list_all is_number (w ∷ ws) ≡ t
        → says (λ s. not (is_empty (listed s))) (cond (not t) (Err NotOfForm) (if_rising (map value (w ∷ ws)))) ≡ are_rising 0 256 (w ∷ ws)
    by true e = some_rising (value w) (map value ws) ∙ ap (λ t. t && rise_from 0 256 (map value (w ∷ ws))) (sym e) ∙ map_rises 0 256 (w ∷ ws)
    by false e = ap (λ t. t && rise_from 0 256 (map value (w ∷ ws))) (sym e) ∙ map_rises 0 256 (w ∷ ws)

-- what stands behind `upmany`
pub set_same : (m : Measure) (ws : List (List ℕ)) → measured m (λ s. not (is_empty (listed s))) (set ws) ≡ risen m 0 256 ws
set_same measure.Form ws = set_formed ws
set_same (measure.Ranges p) ws = set_rises ws

-- ---- how many of the words rise

-- what a word says as the next number
pub next_number : (low limit n : ℕ) (w : List ℕ) → limit < 2 ^ 32 → Ok n ≡ number_from low limit w → (is_between low limit w ≡ true) × (value w ≡ n)
unfolding number_below
next_number low limit n w small said = by (is_number w) (ltb (value w) limit) (leb low (value w)) refl refl refl said
  where
    by : (t b a : Bool) → is_number w ≡ t → ltb (value w) limit ≡ b → leb low (value w) ≡ a → Ok n ≡ at_least low (cond (is_number w) (if_below limit (value w)) (Err NotOfForm))
        → (is_between low limit w ≡ true) × (value w ≡ n)
    by true true true e f h said = (rw (e, f, h) refl, let s = rw (e, f, h) at said in let t : value w ≡ n = cc in t)
    by true true false e f h said = let s = rw (e, f, h) at said in absurd cc
    by true false a e f h said = let s = rw (e, f) at said in absurd cc
    by false b a e f h said = let s = rw e at said in absurd cc

pub no_number : (low limit : ℕ) (w : List ℕ) (u : Unread) → Err u ≡ number_from low limit w → is_between low limit w ≡ false
unfolding number_below
no_number low limit w u said = by (is_number w) (ltb (value w) limit) (leb low (value w)) refl refl refl said
  where
    by : (t b a : Bool) → is_number w ≡ t → ltb (value w) limit ≡ b → leb low (value w) ≡ a → Err u ≡ at_least low (cond (is_number w) (if_below limit (value w)) (Err NotOfForm))
        → is_between low limit w ≡ false
    by true true true e f h said = let s = rw (e, f, h) at said in absurd cc
    by true true false e f h said = rw (e, f, h) refl
    by true false a e f h said = rw (e, f) (and_false (leb low (value w)))
    by false b a e f h said = rw e refl

pub rising_none : (low limit : ℕ) → IsGood (are_rising low limit) [] 0
rising_none low limit = short (are_rising low limit) ([], refl)

pub rising_bad : (low limit : ℕ) (w : List ℕ) (ws : List (List ℕ)) → is_between low limit w ≡ false → IsGood (are_rising low limit) (w ∷ ws) 0
rising_bad low limit w ws e = bad (are_rising low limit) w ws (λ vs. ap (λ t. t && are_rising (value w + 1) limit vs) e) ([], refl)

pub rising_onto : (low limit next : ℕ) (w : List ℕ) (ws : List (List ℕ)) (n : ℕ) → is_between low limit w ≡ true → value w + 1 ≡ next → IsGood (are_rising next limit) ws n
    → IsGood (are_rising low limit) (w ∷ ws) (suc n)
rising_onto low limit next w ws n e is good =
    onto (are_rising low limit) (are_rising next limit) w ws n (λ vs. ap (λ t. t && are_rising (value w + 1) limit vs) e ∙ ap (λ (k : ℕ). are_rising k limit vs) is) good

one_between : (low limit : ℕ) → low ≤ 1 → 1 < limit → is_between low limit (codes "1") ≡ true
one_between low limit le lt = and_from (leb low 1) (ltb 1 limit) (le-leb low 1 le) (lt-ltb 1 limit lt)

some_can : (p low limit : ℕ) → low ≤ 1 → 1 < limit → CanGoOn (risen (measure.Ranges p) low limit) []
some_can p low limit le lt = (codes "1" ∷ [], ap (λ t. t && true) (one_between low limit le lt))

-- one of them or more
pub some_good : (p low limit : ℕ) (ws : List (List ℕ)) (n : ℕ) → low ≤ 1 → 1 < limit → IsGood (are_rising low limit) ws n → IsGood (risen (measure.Ranges p) low limit) ws n
some_good p low limit [] n le lt good =
    let few = good.few in
    let none : 0 ≡ n = omega (arith, few) in
    subst (λ (k : ℕ). IsGood (risen (measure.Ranges p) low limit) [] k) none (short (risen (measure.Ranges p) low limit) (some_can p low limit le lt))
some_good p low limit (w ∷ ws) zero le lt good =
    bad (risen (measure.Ranges p) low limit) w ws (λ vs. good.lost (omega arith) vs) (some_can p low limit le lt)
some_good p low limit (w ∷ ws) (suc n) le lt good =
    record { few = good.few; goes_on = good.goes_on; lost = λ below rest. rw add-one (rw add-one at (good.lost below rest)) }
