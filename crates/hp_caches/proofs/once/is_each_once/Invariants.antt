use Rattle.std.specs.Prelude.{◌≡◌, ℕ, false, cond, length, slice_index_or, take}
use Rattle.hp_caches.specs.Contents.{times}
use Rattle.hp_caches.proofs.once.is_each_once.Given as goal

abbrev pub invariant-loop-place : goal.invariant-loop-place
invariant-loop-place l =
    record {
      all : length l.seen.items ≡ l.count;
      marks : (item : ℕ) → times item (take l.place l.items) ≡ cond (slice_index_or l.seen.items item false) 1 0;
    }
