-- The places of a window, one by one.
use Rattle.std.proofs.Common.{◌≡◌, ℕ, zero, suc, ◌+◌, ◌<◌, ◌≤◌, Bool, true, false, leb, cond, List, [], ◌∷◌, ◌++◌, filter, refl, ap, sym, ◌∙◌, arith, add-one}
use Rattle.std.proofs.lemmas.List.{append-nil}
use Rattle.std.proofs.lemmas.List.Elements.{filter-append}
use Rattle.std.proofs.lemmas.Bool.Decides.{nat_tests}
use Rattle.hp_model.specs.Lists.{numbers}
use Rattle.hp_timeline.specs.Windows.{places_between}

is_from : (a k : ℕ) → a ≤ k → leb a k ≡ true
is_from a k h = grind (arith, nat_tests)

is_before : (a k : ℕ) → k < a → leb a k ≡ false
is_before a k h = grind (arith, nat_tests)

pub places_more : (a k : ℕ) → a ≤ k → places_between a (k + 1) ≡ places_between a k ++ k ∷ []
places_more a k h = rw (add-one, filter-append) (rw (is_from a k h) refl)

none_below : (a k : ℕ) → k ≤ a → places_between a k ≡ []
none_below a zero h = refl
none_below a (suc k) h = rw filter-append (rw (none_below a k (omega arith), is_before a k (omega arith)) refl)

pub places_none : (a : ℕ) → places_between a a ≡ []
places_none a = none_below a a (omega arith)
