-- How often an item stands in lists, after each change of them; and how many items they have.
use Rattle.std.proofs.Common.{◌≡◌, ◌≢◌, ℕ, ◌+◌, ◌<◌, ◌≤◌, Bool, cond, eqb, List, [], ◌∷◌, ◌++◌, length, sym, ap, ◌∙◌, arith}
use Rattle.std.proofs.Math.ListN.{set}
use Rattle.std.proofs.lemmas.List.{get_or-set_other, length-set, length-append}
use Rattle.std.proofs.lemmas.List.Sums.{sum_by-set, sum_by-append, sum_by-cons}
use Rattle.std.specs.List.{sum_by}
use Rattle.hp_work.specs.Lists.{list, times, times_in, pushed, rest, popped, moved}

-- ---- how often an item stands in a list

abbrev pub one_if : Bool → ℕ
one_if b = cond b 1 0

pub times_append : (n : ℕ) (xs ys : List ℕ) → times n (xs ++ ys) ≡ times n xs + times n ys
times_append n xs ys = sum_by-append (λ m. one_if (eqb m n)) xs ys

pub times_cons : (n x : ℕ) (xs : List ℕ) → times n (x ∷ xs) ≡ one_if (eqb x n) + times n xs
times_cons n x xs = sum_by-cons (λ m. one_if (eqb m n)) x xs

-- ---- and in lists

pub in_set : (n p : ℕ) (ys : List ℕ) (ls : List (List ℕ)) → p < length ls →
    times_in n (set ls p ys) + times n (list ls p) ≡ times_in n ls + times n ys
in_set n p ys ls h = sum_by-set (times n) ls p ys [] h

pub in_pushed : (n p k : ℕ) (ls : List (List ℕ)) → p < length ls →
    times_in n (pushed p k ls) ≡ times_in n ls + one_if (eqb k n)
in_pushed n p k ls h =
    let s = in_set n p (list ls p ++ k ∷ []) ls h in
    let t = times_append n (list ls p) (k ∷ []) in
    let o = times_cons n k [] in
    omega (arith, s, t, o)

pub in_moved : (n a b : ℕ) (ls : List (List ℕ)) → a ≢ b → a < length ls → b < length ls →
    times_in n (moved a b ls) ≡ times_in n ls
in_moved n a b ls ne ha hb =
    let out = in_set n a [] ls ha in
    let other : list (set ls a []) b ≡ list ls b = get_or-set_other ls a b [] [] (λ e. ne (sym e)) in
    let into = in_set n b (list ls b ++ list ls a) (set ls a []) (let l = length-set ls a [] in omega (arith, l, hb)) in
    let both = times_append n (list ls b) (list ls a) in
    let same : times n (list (set ls a []) b) ≡ times n (list ls b) = ap (times n) other in
    omega (arith, out, into, both, same)

pub in_popped : (n p : ℕ) (ls : List (List ℕ)) → p < length ls → times_in n (popped p ls) ≤ times_in n ls
in_popped n p ls h =
    let s = in_set n p (rest (list ls p)) ls h in
    let f = fewer (list ls p) in
    omega (arith, s, f)
  where
    fewer : (xs : List ℕ) → times n (rest xs) ≤ times n xs
    fewer [] = omega arith
    fewer (x ∷ xs) = let c = times_cons n x xs in omega (arith, c)

-- an item of one list stands in no other, where none stands twice
pub in_no_other : (n p q : ℕ) (ls : List (List ℕ)) → p < length ls → q ≢ p → times_in n ls ≤ 1 → 0 < times n (list ls p) →
    q < length ls → times n (list ls q) ≡ 0
in_no_other n p q ls h ne most one hq =
    let s = in_set n p [] ls h in
    let t = in_set n q [] (set ls p []) (let l = length-set ls p [] in omega (arith, l, hq)) in
    let same : times n (list (set ls p []) q) ≡ times n (list ls q) = ap (times n) (get_or-set_other ls p q [] [] ne) in
    omega (arith, s, t, same, most, one)

-- one list has an item no more often than all have it
pub in_one : (n p : ℕ) (ls : List (List ℕ)) → p < length ls → times n (list ls p) ≤ times_in n ls
in_one n p ls h = let s = in_set n p [] ls h in omega (arith, s)

-- ---- how many items there are

pub many_set : (p : ℕ) (ys : List ℕ) (ls : List (List ℕ)) → p < length ls →
    sum_by length (set ls p ys) + length (list ls p) ≡ sum_by length ls + length ys
many_set p ys ls h = sum_by-set length ls p ys [] h

pub many_pushed : (p k : ℕ) (ls : List (List ℕ)) → p < length ls → sum_by length (pushed p k ls) ≡ sum_by length ls + 1
many_pushed p k ls h =
    let s = many_set p (list ls p ++ k ∷ []) ls h in
    let t = length-append (list ls p) (k ∷ []) in
    omega (arith, s, t)

pub many_moved : (a b : ℕ) (ls : List (List ℕ)) → a ≢ b → a < length ls → b < length ls →
    sum_by length (moved a b ls) ≡ sum_by length ls
many_moved a b ls ne ha hb =
    let out = many_set a [] ls ha in
    let same : length (list (set ls a []) b) ≡ length (list ls b) = ap length (get_or-set_other ls a b [] [] (λ e. ne (sym e))) in
    let into = many_set b (list ls b ++ list ls a) (set ls a []) (let l = length-set ls a [] in omega (arith, l, hb)) in
    let both = length-append (list ls b) (list ls a) in
    omega (arith, out, into, both, same)

pub many_popped : (p m : ℕ) (ls : List (List ℕ)) → p < length ls → length (list ls p) ≡ m + 1 →
    sum_by length (popped p ls) + 1 ≡ sum_by length ls
many_popped p m ls h l =
    let s = many_set p (rest (list ls p)) ls h in
    let f = fewer (list ls p) m l in
    omega (arith, s, f)
  where
    fewer : (xs : List ℕ) (m : ℕ) → length xs ≡ m + 1 → length (rest xs) + 1 ≡ length xs
    fewer [] m e = absurd (omega (arith, e))
    fewer (x ∷ xs) m e = omega arith

pub length_moved : (a b : ℕ) (ls : List (List ℕ)) → length (moved a b ls) ≡ length ls
length_moved a b ls = length-set (set ls a []) b (list ls b ++ list ls a) ∙ length-set ls a []
