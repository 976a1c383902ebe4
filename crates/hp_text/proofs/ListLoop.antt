-- Numbers read one by one: those so far, in front of what the other words say, are what all words say; and numbers that
-- rise, tested one by one.
use Rattle.std.proofs.Common.{◌≡◌, ℕ, ◌^◌, Bool, true, false, cond, ◌&&◌, List, [], ◌∷◌, ◌++◌, map, Option, Some, None, Ok, Err, refl, sym, ap, subst, ◌∙◌, append_assoc}
use Rattle.std.specs.Prelude.{Result, decimal}
use Rattle.std.specs.Borrow.{Bor}
use Rattle.std.specs.Option.{option_map}
use Rattle.std.specs.List.{list_all}
use Rattle.std.proofs.lemmas.List.{append-nil}
use Rattle.hp_text.specs.declared.unread.Unread.{Unread}
use Rattle.hp_text.specs.declared.unread.Unread.TheVariants.{NotOfForm, OutOfRange}
use Rattle.hp_text.specs.Words.{first_of, others_of}
use Rattle.hp_text.specs.Numbers.{is_number, value, if_below, number_below, number}
use Rattle.hp_text.specs.Readings.{Reading, said, both, each}
use Rattle.hp_text.specs.Sets.{out_of_range}

-- a word that was taken, in front of those behind it
abbrev pub with_next : Option (Bor (List ℕ)) → List (List ℕ) → List (List ℕ)
with_next None ws = []
with_next (Some w) ws = w.now ∷ ws

pub taken_back : (next : Option (Bor (List ℕ))) (ws rest : List (List ℕ)) → option_map (λ w. w.now) next ≡ first_of ws → rest ≡ others_of ws → with_next next rest ≡ ws
taken_back None [] rest e f = refl
taken_back None (w ∷ ws) rest e f = absurd cc
taken_back (Some b) [] rest e f = absurd cc
taken_back (Some b) (w ∷ ws) rest e f = cc

-- so far these numbers
abbrev pub behind : (numbers : List ℕ) → Reading (List ℕ) → Reading (List ℕ)
behind numbers r = said (λ (ns : List ℕ). numbers ++ ns) r

one_behind : (numbers : List ℕ) (n : ℕ) (r : Reading (List ℕ)) → behind (numbers ++ n ∷ []) r ≡ behind numbers (said (λ x. x.0 ∷ x.1) (both (Ok n) r))
one_behind numbers n (Ok ns) = ap (λ (xs : List ℕ). Ok xs) (append_assoc numbers (n ∷ []) ns)
one_behind numbers n (Err u) = refl

pub begun : (r : Reading (List ℕ)) → behind [] r ≡ r
begun (Ok ns) = refl
begun (Err u) = refl

pub one_more : (numbers : List ℕ) (n : ℕ) (w : List ℕ) (ws : List (List ℕ)) → Ok n ≡ number w → behind (numbers ++ n ∷ []) (each number ws) ≡ behind numbers (each number (w ∷ ws))
one_more numbers n w ws e =
    one_behind numbers n (each number ws)
    ∙ ap (λ (r : Reading ℕ). behind numbers (said (λ x. x.0 ∷ x.1) (both r (each number ws)))) e

pub no_number : (numbers : List ℕ) (w : List ℕ) (ws : List (List ℕ)) → Err NotOfForm ≡ number w → ◌≡◌ {A = Reading (List ℕ)} (Err NotOfForm) (behind numbers (each number (w ∷ ws)))
no_number numbers w ws e = ap (λ (r : Reading ℕ). behind numbers (said (λ x. x.0 ∷ x.1) (both r (each number ws)))) e

-- ---- behind a number that is out of its range

-- what words say by their form: of a form, one may still be out of its range
abbrev IsBy : (form : Bool) → Reading (List ℕ) → Type 0
IsBy true r = r ≡ Err NotOfForm → ⊥
IsBy false r = r ≡ Err NotOfForm

by_size : (m : ℕ) (t : Bool) → ◌≡◌ {A = Result ℕ Unread} (cond t (Ok m) (Err OutOfRange)) (Err NotOfForm) → ⊥
by_size m true e = absurd cc
by_size m false e = absurd cc

numeral : (w : List ℕ) → is_number w ≡ true → number w ≡ Err NotOfForm → ⊥
unfolding number_below
numeral w form e = let f : if_below (2 ^ 32) (value w) ≡ Err NotOfForm = rw form at e in by_size (value w) _ f

no_numeral : (w : List ℕ) → is_number w ≡ false → number w ≡ Err NotOfForm
unfolding number_below
no_numeral w form = rw form refl

both_formed : (r : Reading ℕ) (s : Reading (List ℕ)) → (r ≡ Err NotOfForm → ⊥) → (s ≡ Err NotOfForm → ⊥) → said (λ x. x.0 ∷ x.1) (both r s) ≡ Err NotOfForm → ⊥
both_formed (Ok n) (Ok ns) a b e = absurd cc
both_formed (Ok n) (Err u) a b e = b e
both_formed (Err NotOfForm) s a b e = a refl
both_formed (Err OutOfRange) (Ok ns) a b e = absurd cc
both_formed (Err OutOfRange) (Err u) a b e = b e

first_unformed : (r : Reading ℕ) (s : Reading (List ℕ)) → r ≡ Err NotOfForm → said (λ x. x.0 ∷ x.1) (both r s) ≡ Err NotOfForm
first_unformed (Ok n) s e = absurd cc
first_unformed (Err NotOfForm) s e = refl
first_unformed (Err OutOfRange) s e = absurd cc

others_unformed : (r : Reading ℕ) (s : Reading (List ℕ)) → s ≡ Err NotOfForm → said (λ x. x.0 ∷ x.1) (both r s) ≡ Err NotOfForm
others_unformed (Ok n) (Err u) e = e
others_unformed (Err NotOfForm) s e = refl
others_unformed (Err OutOfRange) (Err u) e = e
others_unformed (Ok n) (Ok ns) e = absurd cc
others_unformed (Err OutOfRange) (Ok ns) e = absurd cc

by_first : (w : List ℕ) (ws : List (List ℕ)) (t u : Bool) → is_number w ≡ t → IsBy u (each number ws) → IsBy (t && u) (each number (w ∷ ws))
by_first w ws true true form is = both_formed (number w) (each number ws) (numeral w form) is
by_first w ws true false form is = others_unformed (number w) (each number ws) is
by_first w ws false u form is = first_unformed (number w) (each number ws) (no_numeral w form)

by_form : (ws : List (List ℕ)) → IsBy (list_all is_number ws) (each number ws)
by_form [] = λ e. absurd cc
by_form (w ∷ ws) = by_first w ws (is_number w) (list_all is_number ws) refl (by_form ws)

left_out : (t : Bool) (r : Reading (List ℕ)) → IsBy t r → both {A = ℕ} (Err OutOfRange) r ≡ Err (cond t OutOfRange NotOfForm)
left_out true (Ok ns) is = refl
left_out true (Err NotOfForm) is = absurd (is refl)
left_out true (Err OutOfRange) is = refl
left_out false (Ok ns) is = absurd cc
left_out false (Err u) is = let same : u ≡ NotOfForm = cc in ap (λ (v : Unread). Err v) same

-- the form of the others decides
pub past : (numbers : List ℕ) (w : List ℕ) (ws : List (List ℕ)) → Err OutOfRange ≡ number w → ◌≡◌ {A = Reading (List ℕ)} (Err (out_of_range ws)) (behind numbers (each number (w ∷ ws)))
past numbers w ws e =
    ap (λ (r : Reading (ℕ × List ℕ)). behind numbers (said (λ x. x.0 ∷ x.1) r)) (sym (left_out (list_all is_number ws) (each number ws) (by_form ws)))
    ∙ ap (λ (r : Reading ℕ). behind numbers (said (λ x. x.0 ∷ x.1) (both r (each number ws)))) e

pub all_read : (numbers : List ℕ) → ◌≡◌ {A = Reading (List ℕ)} (Ok numbers) (behind numbers (Ok []))
all_read numbers = ap (λ (xs : List ℕ). Ok xs) (sym (append-nil numbers))
