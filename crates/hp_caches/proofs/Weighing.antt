-- What items weigh together, and how often one stands, after each change of a stock.
use Rattle.std.proofs.Common.{◌≡◌, ℕ, zero, suc, ◌+◌, ◌<◌, ◌≤◌, ◌==◌, cond, List, [], ◌∷◌, ◌++◌, length, get_or, sym, ◌∙◌, arith, refl}
use Rattle.std.proofs.Math.ListN.{set}
use Rattle.std.proofs.lemmas.List.Sums.{sum_by-set, sum_by-append, sum_by-cons}
use Rattle.std.specs.List.{flat_map, sum_by}
use Rattle.hp_caches.specs.declared.cache.Cache.{Cache}
use Rattle.hp_caches.specs.Contents.{Contents, Balances, all, cache, items_of, shut, times, IsEachOnce}

abbrev pub weigh : (ℕ → ℕ) → Cache → ℕ
weigh w c = sum_by w c.items

abbrev pub in_caches : (ℕ → ℕ) → List Cache → ℕ
in_caches w cs = sum_by (weigh w) cs

-- a cache is another
pub set_weighs : (w : ℕ → ℕ) (cs : List Cache) (n : ℕ) (c : Cache) → n < length cs →
    in_caches w (set cs n c) + sum_by w (get_or cs n shut).items ≡ in_caches w cs + sum_by w c.items
set_weighs w cs n c h = sum_by-set (weigh w) cs n c shut h

-- all that is in caches
pub flat_weighs : (w : ℕ → ℕ) (cs : List Cache) → sum_by w (flat_map items_of cs) ≡ in_caches w cs
flat_weighs w [] = refl
flat_weighs w (c ∷ cs) =
    let one = sum_by-append w c.items (flat_map items_of cs) in
    let more = flat_weighs w cs in
    let both = sum_by-cons (weigh w) c cs in
    omega (arith, one, more, both)

pub all_weigh : (w : ℕ → ℕ) (s : Contents) → sum_by w (all s) ≡ sum_by w s.taken + (sum_by w s.list + in_caches w s.caches)
all_weigh w s =
    let one = sum_by-append w s.taken (s.list ++ flat_map items_of s.caches) in
    let two = sum_by-append w s.list (flat_map items_of s.caches) in
    let more = flat_weighs w s.caches in
    omega (arith, one, two, more)

-- each item stands among all as often as it was put
pub as_put : (s : Contents) → Balances s → (item : ℕ) → times item (all s) ≡ times item s.put
as_put s balances item =
    let w : ℕ → ℕ = λ m. cond (m == item) 1 0 in
    all_weigh w s ∙ sym (balances w)

-- so each of so many stands there exactly once just where each was put once
pub each_once : (s : Contents) → Balances s → (count : ℕ) →
    (IsEachOnce count (all s) → IsEachOnce count s.put) × (IsEachOnce count s.put → IsEachOnce count (all s))
each_once s balances count = (
  λ once item. sym (as_put s balances item) ∙ once item,
  λ once item. as_put s balances item ∙ once item,
)

ones : (xs : List ℕ) → sum_by (λ _. 1) xs ≡ length xs
ones [] = refl
ones (x ∷ xs) = let more = ones xs in let one = sum_by-cons (λ (_ : ℕ). 1) x xs in omega (arith, one, more)

-- a list and a cache have no more items than were put
pub few : (s : Contents) (n : ℕ) → Balances s → length s.list + length (cache s n).items ≤ length s.put
few s n balances =
    let all = balances (λ _. 1) in
    let list = ones s.list in
    let items = ones (cache s n).items in
    let put = ones s.put in
    let one : sum_by (λ _. 1) (cache s n).items ≤ in_caches (λ _. 1) s.caches = get_or-le (weigh (λ _. 1)) s.caches n refl in
    omega (arith, all, list, items, put, one)
  where
    get_or-le : (f : Cache → ℕ) (cs : List Cache) (n : ℕ) → f shut ≡ 0 → f (get_or cs n shut) ≤ sum_by f cs
    get_or-le f [] n none = omega (arith, none)
    get_or-le f (c ∷ cs) zero none = let both = sum_by-cons f c cs in omega (arith, both)
    get_or-le f (c ∷ cs) (suc n) none = let both = sum_by-cons f c cs in let more = get_or-le f cs n none in omega (arith, both, more)
