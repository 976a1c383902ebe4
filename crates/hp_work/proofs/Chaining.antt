-- Lists by place, and which keys are theirs: what stays of all but one that is changed, the items of one, and lists at the start.
use Rattle.std.proofs.Common.{◌≡◌, ◌≢◌, ◌⊎◌, inl, inr, ℕ, zero, suc, ◌+◌, ◌<◌, ◌≤◌, List, [], ◌∷◌, ◌++◌, length, Option, Some, map, replicate, refl, sym, ap, subst, ◌∙◌, append_assoc, arith}
use Rattle.std.specs.Prelude.{All, IsSome, is_some}
use Rattle.std.specs.List.{sum_by}
use Rattle.std.proofs.lemmas.List.Sums.{sum_by-cons}
use Rattle.std.proofs.Math.ListN.{set, get_or-map}
use Rattle.std.proofs.lemmas.Bool.{cases_eq}
use Rattle.std.proofs.lemmas.List.{map-append, length-map, length-set, length-replicate, ext_get_or, get_or-set_same, get_or-set_other, get_or-replicate}
use Rattle.std.proofs.lemmas.List.Elements.{All-nil, All-head, All-tail, All-from_get_or}
use Rattle.slab.specs.Slab.{Slab, get, slab_len}
use Rattle.hp_work.specs.declared.chains.Node.{Node}
use Rattle.hp_work.specs.declared.chains.Chain.{Chain}
use Rattle.hp_work.specs.declared.chains.TheConstants.{LISTS}
use Rattle.hp_work.specs.declared.limits.TheConstants.{MAX_ITEMS}
use Rattle.hp_work.specs.Lists.{list, times, times_in}
use Rattle.hp_work.specs.Chained.{item_in, next_in, keys_from, key_behind, keys_of, item_at, items_of, lists_of, no_items, chain_at, IsChain, IsChained}
use Rattle.hp_work.proofs.Counting.{one_if, times_append, in_one, in_no_other, many_set}
use Rattle.hp_work.proofs.Links.{length_items, keys_last, Same, list_same, chain_same, one_here, away}

-- a number that isn't 0 is one more than another
pub one_more : (m : ℕ) → m ≢ 0 → (n : ℕ) × (m ≡ suc n)
one_more zero h = absurd (h refl)
one_more (suc n) h = (n, refl)

-- ---- the lists by place

pub list_at : (s : Slab Node) (chains : List Chain) (p : ℕ) → list (lists_of s chains) p ≡ items_of s (chain_at chains p)
list_at s chains p = get_or-map (items_of s) chains p no_items

pub many_at : (s : Slab Node) (chains : List Chain) (p : ℕ) → length (list (lists_of s chains) p) ≡ (chain_at chains p).many
many_at s chains p = ap length (list_at s chains p) ∙ length_items s (chain_at chains p)

pub lists_many : (s : Slab Node) (chains : List Chain) → length (lists_of s chains) ≡ length chains
lists_many s chains = length-map chains (items_of s)

pub empty_at : (s : Slab Node) (chains : List Chain) (p : ℕ) → (chain_at chains p).many ≡ 0 → list (lists_of s chains) p ≡ []
empty_at s chains p e = list_at s chains p ∙ ap (λ n. map (item_at s) (keys_from s n (chain_at chains p).first)) e

module _ (s t : Slab Node) (chains : List Chain) (p : ℕ) (c : Chain) (h : p < length chains)
    (same : (q : ℕ) → q < length chains → q ≢ p → Same s t (keys_of s (chain_at chains q))) where
  pub changed_lists : lists_of t (set chains p c) ≡ set (lists_of s chains) p (items_of t c)
  changed_lists =
      ext_get_or [] (lists_of t (set chains p c)) (set (lists_of s chains) p (items_of t c))
      (lists_many t (set chains p c) ∙ (length-set chains p c ∙ sym (length-set (lists_of s chains) p (items_of t c) ∙ lists_many s chains)))
      (λ q l. go q (let m = lists_many t (set chains p c) in let n = length-set chains p c in omega (arith, l, m, n)) (cases_eq q p))
    where
      go : (q : ℕ) → q < length chains → (q ≡ p) ⊎ (q ≢ p) →
          list (lists_of t (set chains p c)) q ≡ list (set (lists_of s chains) p (items_of t c)) q
      go q l (inl e) =
          subst (λ r. list (lists_of t (set chains p c)) r ≡ list (set (lists_of s chains) p (items_of t c)) r) (sym e)
          (list_at t (set chains p c) p
          ∙ (ap (items_of t) (get_or-set_same chains p c no_items h)
          ∙ sym (get_or-set_same (lists_of s chains) p (items_of t c) [] (let m = lists_many s chains in omega (arith, m, h)))))
      go q l (inr e) =
          list_at t (set chains p c) q
          ∙ (ap (items_of t) (get_or-set_other chains p q c no_items e)
          ∙ (list_same s t (chain_at chains q) (same q l e)
          ∙ (sym (list_at s chains q) ∙ sym (get_or-set_other (lists_of s chains) p q (items_of t c) [] e))))

  pub changed_each : IsChain t c → All (IsChain s) chains → All (IsChain t) (set chains p c)
  changed_each is each =
      All-from_get_or (IsChain t) (set chains p c) no_items
      (λ q l. go q (let n = length-set chains p c in omega (arith, l, n)) (cases_eq q p))
    where
      go : (q : ℕ) → q < length chains → (q ≡ p) ⊎ (q ≢ p) → IsChain t (chain_at (set chains p c) q)
      go q l (inl e) =
          subst (λ r. IsChain t (chain_at (set chains p c) r)) (sym e)
          (subst (IsChain t) (sym (get_or-set_same chains p c no_items h)) is)
      go q l (inr e) =
          subst (IsChain t) (sym (get_or-set_other chains p q c no_items e))
          (chain_same s t (chain_at chains q) (same q l e) (each q no_items l))

-- what a call made: these lists, linked
pub record Made (t : Slab Node) (chains : List Chain) (ls : List (List ℕ)) : Type 0 where
  pub lists_are : lists_of t chains ≡ ls
  pub chained : IsChained t chains

pub made_of : (t : Slab Node) (chains : List Chain) (ls : List (List ℕ)) → lists_of t chains ≡ ls → length chains ≡ LISTS → All (IsChain t) chains →
    ((n : ℕ) → times_in n ls ≤ 1) → slab_len t ≡ sum_by length ls → sum_by length ls ≤ MAX_ITEMS → MAX_ITEMS ≤ t.capacity → Made t chains ls
made_of t chains ls e l each once there few room = record {
  lists_are = e;
  chained = record {
    lists_are = l;
    each = each;
    once = λ n. subst (λ xs. times_in n xs ≤ 1) (sym e) (once n);
    all_there = there ∙ ap (sum_by length) (sym e);
    few = subst (λ xs. sum_by length xs ≤ MAX_ITEMS) (sym e) few;
    room = room;
  };
}

-- ---- keys of one list, and of others

some_at_last : (s : Slab Node) (n k : ℕ) → All (λ j. IsSome (get s j)) (keys_from s (suc n) k) → IsSome (get s (key_behind s n k))
some_at_last s zero k h = All-head (λ j. IsSome (get s j)) k [] h
some_at_last s (suc n) k h =
    some_at_last s n (next_in (get s k)) (All-tail (λ j. IsSome (get s j)) k (keys_from s (suc n) (next_in (get s k))) h)

module _ (s : Slab Node) (c : Chain) (n : ℕ) (is : IsChain s c) (some : c.many ≡ suc n) where
  abbrev keys_are : All (λ j. IsSome (get s j)) (keys_from s (suc n) c.first)
  keys_are = subst (λ x. All (λ j. IsSome (get s j)) (keys_from s x c.first)) some is.there

  pub last_some : IsSome (get s c.last)
  last_some = subst (λ j. IsSome (get s j)) (is.last_is n some) (some_at_last s n c.first keys_are)

  pub first_some : IsSome (get s c.first)
  first_some = All-head (λ j. IsSome (get s j)) c.first (keys_from s n (next_in (get s c.first))) keys_are

  pub last_stands : items_of s c ≡ map (item_at s) (keys_from s n c.first) ++ item_at s c.last ∷ []
  last_stands =
      ap (λ x. map (item_at s) (keys_from s x c.first)) some
      ∙ (ap (map (item_at s)) (keys_last s n c.first)
      ∙ (map-append (item_at s) (keys_from s n c.first) (key_behind s n c.first ∷ [])
      ∙ ap (λ j. map (item_at s) (keys_from s n c.first) ++ item_at s j ∷ []) (is.last_is n some)))

  pub first_stands : items_of s c ≡ item_at s c.first ∷ map (item_at s) (keys_from s n (next_in (get s c.first)))
  first_stands = ap (λ x. map (item_at s) (keys_from s x c.first)) some

  module _ (once : (m : ℕ) → times m (items_of s c) ≤ 1) where
    pub away_front : All (λ j. j ≢ c.last) (keys_from s n c.first)
    away_front =
        away s c.last (keys_from s n c.first)
        (let l = item_at s c.last in
        let front = map (item_at s) (keys_from s n c.first) in
        let e : times l (items_of s c) ≡ times l (front ++ l ∷ []) = ap (times l) last_stands in
        let a = times_append l front (l ∷ []) in
        let o = one_here l [] in
        let most = once l in
        omega (arith, e, a, o, most))

    pub away_rest : All (λ j. j ≢ c.first) (keys_from s n (next_in (get s c.first)))
    away_rest =
        away s c.first (keys_from s n (next_in (get s c.first)))
        (let f = item_at s c.first in
        let more = map (item_at s) (keys_from s n (next_in (get s c.first))) in
        let e : times f (items_of s c) ≡ times f (f ∷ more) = ap (times f) first_stands in
        let o = one_here f more in
        let most = once f in
        omega (arith, e, o, most))

  pub last_counts : 0 < times (item_at s c.last) (items_of s c)
  last_counts =
      let l = item_at s c.last in
      let front = map (item_at s) (keys_from s n c.first) in
      let e : times l (items_of s c) ≡ times l (front ++ l ∷ []) = ap (times l) last_stands in
      let a = times_append l front (l ∷ []) in
      let o = one_here l [] in
      omega (arith, e, a, o)

  pub first_counts : 0 < times (item_at s c.first) (items_of s c)
  first_counts =
      let f = item_at s c.first in
      let more = map (item_at s) (keys_from s n (next_in (get s c.first))) in
      let e : times f (items_of s c) ≡ times f (f ∷ more) = ap (times f) first_stands in
      let o = one_here f more in
      omega (arith, e, o)

module _ (s : Slab Node) (chains : List Chain) (is : IsChained s chains) where
  abbrev ls : List (List ℕ)
  ls = lists_of s chains

  pub below : (p : ℕ) → p < LISTS → p < length ls
  below p h = let l = lists_many s chains in let m = is.lists_are in omega (arith, l, m, h)

  pub chain_is : (p : ℕ) → p < LISTS → IsChain s (chain_at chains p)
  chain_is p h = is.each p no_items (let m = is.lists_are in omega (arith, m, h))

  pub once_at : (p : ℕ) → p < LISTS → (m : ℕ) → times m (items_of s (chain_at chains p)) ≤ 1
  once_at p h m =
      let o = in_one m p ls (below p h) in
      let most = is.once m in
      let e : times m (list ls p) ≡ times m (items_of s (chain_at chains p)) = ap (times m) (list_at s chains p) in
      omega (arith, o, most, e)

  pub away_other : (p q l : ℕ) → p < LISTS → q < LISTS → q ≢ p → 0 < times (item_at s l) (items_of s (chain_at chains p)) →
      All (λ j. j ≢ l) (keys_of s (chain_at chains q))
  away_other p q l hp hq ne h =
      away s l (keys_of s (chain_at chains q))
      (ap (times (item_at s l)) (sym (list_at s chains q))
      ∙ in_no_other (item_at s l) p q ls (below p hp) ne (is.once (item_at s l))
      (let e : times (item_at s l) (list ls p) ≡ times (item_at s l) (items_of s (chain_at chains p)) =
      ap (times (item_at s l)) (list_at s chains p) in
      omega (arith, e, h)) (below q hq))

  pub few_at : (p : ℕ) → p < LISTS → (chain_at chains p).many ≤ MAX_ITEMS
  few_at p h =
      let m = many_at s chains p in
      let s = many_set p [] ls (below p h) in
      let f = is.few in
      omega (arith, m, s, f)

  pub few_both : (a b : ℕ) → a < LISTS → b < LISTS → a ≢ b → (chain_at chains a).many + (chain_at chains b).many ≤ MAX_ITEMS
  few_both a b ha hb ne =
      let m = many_at s chains a in
      let n = many_at s chains b in
      let x = many_set a [] ls (below a ha) in
      let y = many_set b [] (set ls a []) (let l = length-set ls a [] in let k = below b hb in omega (arith, l, k)) in
      let e : length (list (set ls a []) b) ≡ length (list ls b) = ap length (get_or-set_other ls a b [] [] (λ f. ne (sym f))) in
      let f = is.few in
      omega (arith, m, n, x, y, e, f)

-- ---- the items of one, in order

pub one_further : (s : Slab Node) (xs ys : List ℕ) (n m k : ℕ) (node : Node) → m ≡ suc n → get s k ≡ Some node →
    xs ++ map (item_at s) (keys_from s m k) ≡ ys → (xs ++ node.item ∷ []) ++ map (item_at s) (keys_from s n node.next) ≡ ys
one_further s xs ys n m k node e found so_far =
    append_assoc xs (node.item ∷ []) (map (item_at s) (keys_from s n node.next))
    ∙ (ap (λ o. xs ++ item_in o ∷ map (item_at s) (keys_from s n (next_in o))) (sym found)
    ∙ (ap (λ x. xs ++ map (item_at s) (keys_from s x k)) (sym e) ∙ so_far))

pub there_further : (s : Slab Node) (n m k : ℕ) (node : Node) → m ≡ suc n → get s k ≡ Some node →
    All (λ j. IsSome (get s j)) (keys_from s m k) → All (λ j. IsSome (get s j)) (keys_from s n node.next)
there_further s n m k node e found there =
    subst (λ o. All (λ j. IsSome (get s j)) (keys_from s n (next_in o))) found
    (All-tail (λ j. IsSome (get s j)) k (keys_from s n (next_in (get s k))) (subst (λ x. All (λ j. IsSome (get s j)) (keys_from s x k)) e there))

pub there_next : (s : Slab Node) (n m k : ℕ) → m ≡ suc n → All (λ j. IsSome (get s j)) (keys_from s m k) → IsSome (get s k)
there_next s n m k e there =
    All-head (λ j. IsSome (get s j)) k (keys_from s n (next_in (get s k))) (subst (λ x. All (λ j. IsSome (get s j)) (keys_from s x k)) e there)

-- ---- at the start

none_in : (f : List ℕ → ℕ) (n : ℕ) → f [] ≡ 0 → sum_by f (replicate n []) ≡ 0
none_in f zero e = refl
none_in f (suc n) e = let c = sum_by-cons f [] (replicate n []) in let m = none_in f n e in omega (arith, c, m, e)

map_none : (s : Slab Node) (n : ℕ) → lists_of s (replicate n no_items) ≡ replicate n []
map_none s zero = refl
map_none s (suc n) = ap (λ xs. [] ∷ xs) (map_none s n)

pub made_none : (s : Slab Node) → s.slots ≡ [] → MAX_ITEMS ≤ s.capacity → Made s (replicate LISTS no_items) (replicate LISTS [])
made_none s e room =
    made_of s (replicate LISTS no_items) (replicate LISTS []) (map_none s LISTS) (length-replicate LISTS no_items)
    (All-from_get_or (IsChain s) (replicate LISTS no_items) no_items
    (λ q l. subst (IsChain s)
    (sym (get_or-replicate LISTS q no_items no_items (let m = length-replicate LISTS no_items in omega (arith, m, l)))) no_chain))
    (λ n. let z = none_in (times n) LISTS refl in omega (arith, z))
    (let z = none_in length LISTS refl in let none : slab_len s ≡ 0 = ap slots_many e in none ∙ sym z)
    (let z = none_in length LISTS refl in omega (arith, z)) room
  where
    slots_many : List (Option Node) → ℕ
    slots_many xs = sum_by (λ o. one_if (is_some o)) xs

    no_chain : IsChain s no_items
    no_chain = record { there = All-nil (λ j. IsSome (get s j)); last_is = λ before f. absurd (omega (arith, f)) }
