-- What each call makes of a stock. This project's own.
use Rattle.std.specs.Prelude.{◌≡◌, ℕ, true, false, Bool, List, [], ◌∷◌, ◌++◌, drop, replicate, slice_set}
use Rattle.hp_caches.specs.declared.cache.Cache.{Cache}
use Rattle.hp_caches.specs.declared.stock.PutError.{PutError}
use Rattle.hp_caches.specs.declared.stock.PutError.TheVariants.{Closed, NoMemory}
use Rattle.hp_caches.specs.Contents.{Contents, cache, shut}

-- so many caches, closed and empty, and no item was put
abbrev pub empty : (cpus : ℕ) → Contents
empty n = record { caches = replicate n shut; list = []; taken = []; put = [] }

-- the cache of a processor is another
abbrev pub caches_with : (cpu : ℕ) → Cache → Contents → List Cache
caches_with n c s = slice_set s.caches n c

-- it is open, and has what it had
abbrev pub opened : (cpu : ℕ) → Contents → Contents
opened n s = record {
  caches = caches_with n (record { is_open = true; items = (cache s n).items }) s;
  list = s.list;
  taken = s.taken;
  put = s.put;
}

-- it is closed, and what was in it stands behind the list
abbrev pub closed : (cpu : ℕ) → Contents → Contents
closed n s = record {
  caches = caches_with n shut s;
  list = s.list ++ (cache s n).items;
  taken = s.taken;
  put = s.put;
}

-- an item is put into it, behind the others
abbrev pub put_into : (cpu item : ℕ) → Contents → Contents
put_into n x s = record {
  caches = caches_with n (record { is_open = (cache s n).is_open; items = (cache s n).items ++ x ∷ [] }) s;
  list = s.list;
  taken = s.taken;
  put = s.put ++ x ∷ [];
}

-- its first item is taken
abbrev pub taken_from : (cpu item : ℕ) → Contents → Contents
taken_from n x s = record {
  caches = caches_with n (record { is_open = (cache s n).is_open; items = drop 1 (cache s n).items }) s;
  list = s.list;
  taken = s.taken ++ x ∷ [];
  put = s.put;
}

-- why an item isn't put: exactly where the cache is closed the cause is that
abbrev pub IsPutError : Bool → PutError → Type 0
IsPutError is_open Closed = is_open ≡ false
IsPutError is_open NoMemory = is_open ≡ true
