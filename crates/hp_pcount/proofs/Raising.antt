-- What the code makes of a part and of the base as something is added, in numbers of 64 and of 128 bits.
use Rattle.std.proofs.Common.{◌≡◌, ℕ, ◌+◌, ◌<◌, ◌≤◌, FitsSigned, w32, w64, to_z, of_z, arith}
use Rattle.std.specs.Prelude.{ℤ, pos, ◌+ℤ◌, unsigned_abs}
use Rattle.std.specs.Int.{w128}
use Rattle.std.proofs.Math.ListN.{set}
use Rattle.hp_states.specs.declared.limits.TheConstants.{MAX_CPU_SET}
use Rattle.hp_pcount.specs.Tally.{Tally, IsTally, part}
use Rattle.hp_pcount.specs.Changes.{raised, batched}
use Rattle.hp_pcount.proofs.Sums.{base_more, part_more, sum_64, size_32, size_sum}
use Rattle.hp_pcount.proofs.Tallies.{total_fits, full_made, rest_made}

-- the sum of a part and what is added
unfoldable pub sum_of : (p r : ℤ) → ℤ
sum_of p r = to_z w64 (of_z w64 (to_z w64 (of_z w64 p) +ℤ to_z w64 (of_z w64 r)))

-- the sum of the base and that
unfoldable pub base_of : (base s : ℤ) → ℤ
base_of base s = to_z w128 (of_z w128 (to_z w128 (of_z w128 base) +ℤ to_z w128 (of_z w128 s)))

module _ (t : Tally) (c : ℕ) (by r : ℤ) (h : IsTally t) (below : c < MAX_CPU_SET) (fits : FitsSigned w32 by) (e : r ≡ to_z w32 (of_z w32 by)) where
  small : unsigned_abs (part t c) ≤ 1000000
  small = let w = h.within c in let b = h.batch_is in omega arith

  pub sum_is : sum_of (part t c) r ≡ part t c +ℤ by
  unfolding sum_of
  sum_is = rw (part_more (part t c) by r e fits small) (sum_64 (part t c) by fits small)

  pub full_by_code : (s : ℤ) (a : ℕ) → a ≡ unsigned_abs (sum_of (part t c) r) → t.batch ≤ a → s ≡ sum_of (part t c) r →
      record t { base = base_of t.base s; parts = set t.parts c (pos 0); adds = t.adds + 1 } ≡ batched c (raised c by t)
  unfolding sum_of base_of
  full_by_code s a g f k =
      let inner = part_more (part t c) by r e fits small in
      let y = size_32 by fits in
      let z = size_sum (part t c) by in
      let sm = small in
      let fit = total_fits t h in
      let m : t.batch ≤ unsigned_abs (part t c +ℤ by) = rw (← sum_is) (rw g at f) in
      full_made t c by (base_of t.base s) h.parts_are below m
      (base_more t.base (part t c +ℤ by) s (rw (← inner) k) (omega arith) (omega arith))

  pub rest_by_code : (a : ℕ) → a ≡ unsigned_abs (sum_of (part t c) r) → a < t.batch →
      record t { parts = set t.parts c (sum_of (part t c) r); adds = t.adds + 1 } ≡ batched c (raised c by t)
  rest_by_code a g f =
      rw (sum_is) (rest_made t c by h.parts_are below (rw (← sum_is) (rw g at f)))
