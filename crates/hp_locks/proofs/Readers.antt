-- Where a seat doesn't read, fewer read than there are seats.
use Rattle.std.proofs.Common.{◌≡◌, ℕ, zero, suc, ◌+◌, ◌<◌, ◌≤◌, Bool, true, false, cond, List, [], ◌∷◌, length, get_or, arith}
use Rattle.std.proofs.lemmas.Bool.{true≢false}
use Rattle.std.proofs.lemmas.List.Sums.{sum_by-cons}
use Rattle.hp_locks.specs.Holders.{readers_in}

none_more : (xs : List Bool) → readers_in xs ≤ length xs
none_more [] = omega arith
none_more (x ∷ xs) =
    let c = sum_by-cons (λ b. cond b 1 0) x xs in let h = none_more xs in go x c h
  where
    go : (b : Bool) → readers_in (x ∷ xs) ≡ cond b 1 0 + readers_in xs → readers_in xs ≤ length xs → readers_in (x ∷ xs) ≤ suc (length xs)
    go true c h = omega (arith, c, h)
    go false c h = omega (arith, c, h)

pub one_more : (xs : List Bool) (k : ℕ) → k < length xs → get_or xs k false ≡ false → readers_in xs + 1 ≤ length xs
one_more [] k h e = absurd (omega (arith, h))
one_more (x ∷ xs) zero h e =
    let c = sum_by-cons (λ b. cond b 1 0) x xs in let n = none_more xs in go x e c
  where
    go : (b : Bool) → b ≡ false → readers_in (x ∷ xs) ≡ cond b 1 0 + readers_in xs → readers_in (x ∷ xs) + 1 ≤ suc (length xs)
    go true e c = absurd (true≢false e)
    go false e c = let n = none_more xs in omega (arith, c, n)
one_more (x ∷ xs) (suc k) h e =
    let c = sum_by-cons (λ b. cond b 1 0) x xs in let n = one_more xs k (omega (arith, h)) e in go x c n
  where
    go : (b : Bool) → readers_in (x ∷ xs) ≡ cond b 1 0 + readers_in xs → readers_in xs + 1 ≤ length xs → readers_in (x ∷ xs) + 1 ≤ suc (length xs)
    go true c n = omega (arith, c, n)
    go false c n = omega (arith, c, n)
