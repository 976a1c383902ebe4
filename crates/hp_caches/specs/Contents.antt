-- What contracts see of a stock: the caches by the number of their processor, the shared list, what was taken, and what was put, each in
-- its order. This project's own.
use Rattle.std.specs.Prelude.{◌≡◌, ◌==◌, ℕ, ◌+◌, false, List, [], ◌++◌, count_by, sum_by, slice_index_or, cond, nat_lt}
use Rattle.std.specs.List.{flat_map}
use Rattle.hp_caches.specs.declared.cache.Cache.{Cache}

pub record Contents : Type 0 where
  pub caches : List Cache
  pub list : List ℕ
  pub taken : List ℕ
  pub put : List ℕ

-- a cache that is closed and empty, and the cache of a processor: such a one where there is none
abbrev pub shut : Cache
shut = record { is_open = false; items = [] }

abbrev pub cache : Contents → (cpu : ℕ) → Cache
cache s n = slice_index_or s.caches n shut

-- all items: what was taken, the list, and the caches in rising number
abbrev pub items_of : Cache → List ℕ
items_of c = c.items

abbrev pub all : Contents → List ℕ
all s = s.taken ++ (s.list ++ flat_map items_of s.caches)

-- how often an item stands in a list
abbrev pub times : (item : ℕ) → List ℕ → ℕ
times n xs = count_by (λ m. m == n) xs

-- each item below a count stands exactly once, and nothing else does
abbrev pub IsEachOnce : (count : ℕ) → List ℕ → Type 0
IsEachOnce count xs = (item : ℕ) → times item xs ≡ cond (nat_lt item count) 1 0

-- however items are weighed, all of them together weigh as much as what was put
abbrev pub Balances : Contents → Type 0
Balances s = (weight : ℕ → ℕ) →
    sum_by weight s.put ≡ sum_by weight s.taken + (sum_by weight s.list + sum_by (λ (c : Cache). sum_by weight c.items) s.caches)
