-- Marks of items that were seen.
use Rattle.std.proofs.Common.{◌≡◌, ◌⊎◌, inl, inr, ℕ, zero, suc, ◌+◌, ◌<◌, ◌≤◌, ◌==◌, Bool, true, false, not, cond, ltb, List, [], ◌∷◌, length, get_or, take, sym, ap, ◌∙◌, arith, refl}
use Rattle.std.proofs.Math.Bool.{beq}
use Rattle.std.specs.List.{list_any}
use Rattle.hp_states.proofs.Basics.{not_true}
use Rattle.std.proofs.lemmas.Bool.{eq-eqb, lt-ltb, ltb-true, ltb-false, true≢false, false≢true}
use Rattle.std.proofs.lemmas.List.{take_all}
use Rattle.std.proofs.lemmas.List.Sums.{count_by_more_no, count_by_more_yes, sum_by-take-le}
use Rattle.hp_caches.specs.Contents.{times, IsEachOnce}

-- what is marked of so many items is what stands among the first of them
abbrev pub Marks : List ℕ → (place : ℕ) → List Bool → Type 0
Marks items place seen = (item : ℕ) → times item (take place items) ≡ cond (get_or seen item false) 1 0

one_more : (items : List ℕ) (k x : ℕ) (b : Bool) → k < length items → (get_or items k 0 == x) ≡ b →
    times x (take (k + 1) items) ≡ times x (take k items) + cond b 1 0
one_more items k x true h is = count_by_more_yes (λ m. m == x) items k 0 h is
one_more items k x false h is = let e = count_by_more_no (λ m. m == x) items k 0 h is in omega (arith, e)

-- an item that has no place, or was marked, stands too often
pub not_once : (items : List ℕ) (k item count : ℕ) (seen : List Bool) → k < length items → item ≡ get_or items k 0 → length seen ≡ count →
    Marks items k seen → (length seen ≤ item) ⊎ (get_or seen item false ≡ true) → IsEachOnce count items → ⊥
not_once items k item count seen h is len marks refused once =
    let more = one_more items k item true h (eq-eqb _ _ (sym is)) in
    let some = sum_by-take-le (λ m. cond (m == item) 1 0) items (k + 1) in
    let at_least : times item (take k items) + 1 ≤ times item items = omega (arith, more, some) in
    by_case (ltb item count) refl (once item) at_least refused
  where
    by_case : (b : Bool) → ltb item count ≡ b → times item items ≡ cond (ltb item count) 1 0 → times item (take k items) + 1 ≤ times item items →
        (length seen ≤ item) ⊎ (get_or seen item false ≡ true) → ⊥
    by_case true e all some (inl out) = let below = ltb-true item count e in omega (arith, below, len, out)
    by_case true e all some (inr marked) =
        let one : times item items ≡ 1 = all ∙ ap (λ b. cond b 1 0) e in
        let was : times item (take k items) ≡ 1 = marks item ∙ ap (λ b. cond b 1 0) marked in
        omega (arith, some, one, was)
    by_case false e all some out = let none : times item items ≡ 0 = all ∙ ap (λ b. cond b 1 0) e in omega (arith, some, none)

-- all places are marked, or some isn't
all_marked : (seen : List Bool) → list_any (λ y. beq y false) seen ≡ false → (x : ℕ) → x < length seen → get_or seen x false ≡ true
all_marked [] none x h = absurd (omega (arith, h))
all_marked (true ∷ seen) none zero h = refl
all_marked (true ∷ seen) none (suc x) h = all_marked seen none x (omega (arith, h))
all_marked (false ∷ seen) none x h = absurd (true≢false none)

none_unmarked : (seen : List Bool) → ((x : ℕ) → x < length seen → get_or seen x false ≡ true) → list_any (λ y. beq y false) seen ≡ false
none_unmarked [] all = refl
none_unmarked (true ∷ seen) all = none_unmarked seen (λ x h. all (suc x) (omega (arith, h)))
none_unmarked (false ∷ seen) all = absurd (false≢true (all zero (omega arith)))

no_place : (seen : List Bool) (x : ℕ) → length seen ≤ x → get_or seen x false ≡ false
no_place [] x h = refl
no_place (y ∷ seen) zero h = absurd (omega (arith, h))
no_place (y ∷ seen) (suc x) h = no_place seen x (omega (arith, h))

is_marked : (b : Bool) (n : ℕ) → n ≡ cond b 1 0 → n ≡ 1 → b ≡ true
is_marked true n e one = refl
is_marked false n e one = absurd (omega (arith, e, one))

-- at the end each item stands once just where no place is left unmarked
pub each_marked : (items : List ℕ) (k count : ℕ) (seen : List Bool) (left : Bool) → length items ≤ k → length seen ≡ count → Marks items k seen →
    left ≡ list_any (λ y. beq y false) seen → (not left ≡ true → IsEachOnce count items) × (IsEachOnce count items → not left ≡ true)
each_marked items k count seen left over len marks is = (to, fro)
  where
    times_is : (x : ℕ) → times x items ≡ cond (get_or seen x false) 1 0
    times_is x = ap (times x) (sym (take_all k items over)) ∙ marks x

    by_case : (x : ℕ) (b : Bool) → ltb x count ≡ b → list_any (λ y. beq y false) seen ≡ false → times x items ≡ cond (ltb x count) 1 0
    by_case x true e none =
        let below = ltb-true x count e in
        times_is x ∙ ap (λ b. cond b 1 0) (all_marked seen none x (omega (arith, below, len))) ∙ sym (ap (λ b. cond b 1 0) e)
    by_case x false e none =
        let above = ltb-false x count e in
        times_is x ∙ ap (λ b. cond b 1 0) (no_place seen x (omega (arith, above, len))) ∙ sym (ap (λ b. cond b 1 0) e)

    to : not left ≡ true → IsEachOnce count items
    to none x = by_case x (ltb x count) refl (sym is ∙ not_true left none)

    one : IsEachOnce count items → (x : ℕ) → x < length seen → get_or seen x false ≡ true
    one once x h =
        let below : ltb x count ≡ true = lt-ltb x count (omega (arith, h, len)) in
        is_marked (get_or seen x false) (times x items) (times_is x) (once x ∙ ap (λ b. cond b 1 0) below)

    fro : IsEachOnce count items → not left ≡ true
    fro once = ap not (is ∙ none_unmarked seen (one once))
