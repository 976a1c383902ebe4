-- What stays of a list where other items change, and what a link joins.
use Rattle.std.proofs.Common.{◌≡◌, ◌≢◌, ◌⊎◌, inl, inr, ℕ, zero, suc, ◌+◌, false, eqb, List, [], ◌∷◌, ◌++◌, length, Option, Some, None, map, refl, sym, ap, subst, ◌∙◌, zero-add, arith}
use Rattle.std.specs.Prelude.{All, IsSome}
use Rattle.std.proofs.lemmas.Bool.{cases_eq, eq-eqb}
use Rattle.std.proofs.lemmas.List.{map-append, length-map}
use Rattle.std.proofs.lemmas.List.Elements.{All-nil, All-cons, All-head, All-tail, All-append}
use Rattle.std.proofs.lemmas.List.Sums.{sum_by-set}
use Rattle.std.specs.Prelude.{is_some}
use Rattle.slab.specs.Slab.{Slab, get, slab_len}
use Rattle.slab.proofs.SlabLemmas.{Updates-with_value, ContainsKey-within}
use Rattle.hp_work.specs.declared.chains.Node.{Node}
use Rattle.hp_work.specs.declared.chains.Chain.{Chain}
use Rattle.hp_work.specs.Lists.{times}
use Rattle.hp_work.specs.Chained.{item_in, next_in, keys_from, key_behind, keys_of, item_at, items_of, IsChain, relinked, linked}
use Rattle.hp_work.proofs.Counting.{one_if, times_cons}

-- ---- the keys of a list

pub length_keys : (s : Slab Node) (n k : ℕ) → length (keys_from s n k) ≡ n
length_keys s zero k = refl
length_keys s (suc n) k = ap suc (length_keys s n (next_in (get s k)))

pub length_items : (s : Slab Node) (c : Chain) → length (items_of s c) ≡ c.many
length_items s c = length-map (keys_of s c) (item_at s) ∙ length_keys s c.many c.first

pub keys_plus : (s : Slab Node) (n m k : ℕ) → keys_from s (n + m) k ≡ keys_from s n k ++ keys_from s m (key_behind s n k)
keys_plus s zero m k = ap (λ x. keys_from s x k) (zero-add m)
keys_plus s (suc n) m k =
    let e : suc n + m ≡ suc (n + m) = omega arith in
    ap (λ x. keys_from s x k) e ∙ ap (λ ks. k ∷ ks) (keys_plus s n m (next_in (get s k)))

pub behind_plus : (s : Slab Node) (n m k : ℕ) → key_behind s (n + m) k ≡ key_behind s m (key_behind s n k)
behind_plus s zero m k = ap (λ x. key_behind s x k) (zero-add m)
behind_plus s (suc n) m k =
    let e : suc n + m ≡ suc (n + m) = omega arith in
    ap (λ x. key_behind s x k) e ∙ behind_plus s n m (next_in (get s k))

pub behind_next : (s : Slab Node) (n k : ℕ) → key_behind s (suc n) k ≡ next_in (get s (key_behind s n k))
behind_next s zero k = refl
behind_next s (suc n) k = behind_next s n (next_in (get s k))

pub keys_last : (s : Slab Node) (n k : ℕ) → keys_from s (suc n) k ≡ keys_from s n k ++ key_behind s n k ∷ []
keys_last s zero k = refl
keys_last s (suc n) k = ap (λ ks. k ∷ ks) (keys_last s n (next_in (get s k)))

-- ---- what stays

-- a slab has the same at some keys as another
abbrev pub Same : (s t : Slab Node) → List ℕ → Type 0
Same s t ks = All (λ j. get t j ≡ get s j) ks

pub keys_same : (s t : Slab Node) (n k : ℕ) → Same s t (keys_from s n k) → keys_from t n k ≡ keys_from s n k
keys_same s t zero k h = refl
keys_same s t (suc n) k h =
    let one : get t k ≡ get s k = All-head (λ j. get t j ≡ get s j) k (keys_from s n (next_in (get s k))) h in
    ap (λ ks. k ∷ ks)
    (ap (λ o. keys_from t n (next_in o)) one
    ∙ keys_same s t n (next_in (get s k)) (All-tail (λ j. get t j ≡ get s j) k (keys_from s n (next_in (get s k))) h))

pub behind_same : (s t : Slab Node) (n k : ℕ) → Same s t (keys_from s n k) → key_behind t n k ≡ key_behind s n k
behind_same s t zero k h = refl
behind_same s t (suc n) k h =
    let one : get t k ≡ get s k = All-head (λ j. get t j ≡ get s j) k (keys_from s n (next_in (get s k))) h in
    ap (λ o. key_behind t n (next_in o)) one
    ∙ behind_same s t n (next_in (get s k)) (All-tail (λ j. get t j ≡ get s j) k (keys_from s n (next_in (get s k))) h)

pub items_same : (s t : Slab Node) (ks : List ℕ) → Same s t ks → map (item_at t) ks ≡ map (item_at s) ks
items_same s t [] h = refl
items_same s t (k ∷ ks) h =
    let one : get t k ≡ get s k = All-head (λ j. get t j ≡ get s j) k ks h in
    let item : item_at t k ≡ item_at s k = ap item_in one in
    let more : map (item_at t) ks ≡ map (item_at s) ks = items_same s t ks (All-tail (λ j. get t j ≡ get s j) k ks h) in
    ap (λ x. x ∷ map (item_at t) ks) item ∙ ap (λ xs. item_at s k ∷ xs) more

pub there_same : (s t : Slab Node) (ks : List ℕ) → Same s t ks → All (λ k. IsSome (get s k)) ks → All (λ k. IsSome (get t k)) ks
there_same s t ks h w = λ i d l. subst (λ o. IsSome o) (sym (h i d l)) (w i d l)

-- the last key of some keys is the same too
pub last_same : (s t : Slab Node) (n k : ℕ) → Same s t (keys_from s (suc n) k) → key_behind t n k ≡ key_behind s n k
last_same s t zero k h = refl
last_same s t (suc n) k h =
    let one : get t k ≡ get s k = All-head (λ j. get t j ≡ get s j) k (keys_from s (suc n) (next_in (get s k))) h in
    ap (λ o. key_behind t n (next_in o)) one
    ∙ last_same s t n (next_in (get s k)) (All-tail (λ j. get t j ≡ get s j) k (keys_from s (suc n) (next_in (get s k))) h)

pub list_same : (s t : Slab Node) (c : Chain) → Same s t (keys_of s c) → items_of t c ≡ items_of s c
list_same s t c h = ap (map (item_at t)) (keys_same s t c.many c.first h) ∙ items_same s t (keys_of s c) h

pub chain_same : (s t : Slab Node) (c : Chain) → Same s t (keys_of s c) → IsChain s c → IsChain t c
chain_same s t c h is = record {
  there =
      subst (All (λ k. IsSome (get t k))) (sym (keys_same s t c.many c.first h)) (there_same s t (keys_of s c) h is.there);
  last_is = λ before e.
      last_same s t before c.first (subst (λ n. Same s t (keys_from s n c.first)) e h) ∙ is.last_is before e;
}

-- ---- which keys are others

pub one_here : (x : ℕ) (xs : List ℕ) → times x (x ∷ xs) ≡ 1 + times x xs
one_here x xs =
    let c = times_cons x x xs in
    let o : one_if (eqb x x) ≡ 1 = ap one_if (eq-eqb x x refl) in
    omega (arith, c, o)

-- none of some keys is one whose item stands at none of them
pub away : (s : Slab Node) (l : ℕ) (ks : List ℕ) → times (item_at s l) (map (item_at s) ks) ≡ 0 → All (λ j. j ≢ l) ks
away s l [] h = All-nil (λ j. j ≢ l)
away s l (k ∷ ks) h =
    let c = times_cons (item_at s l) (item_at s k) (map (item_at s) ks) in
    All-cons (λ j. j ≢ l) k ks
    (λ e.
    let o = one_here (item_at s l) (map (item_at s) ks) in
    let same : times (item_at s l) (item_at s k ∷ map (item_at s) ks) ≡ times (item_at s l) (item_at s l ∷ map (item_at s) ks) =
    ap (λ j. times (item_at s l) (item_at s j ∷ map (item_at s) ks)) e in
    absurd (omega (arith, o, same, h)))
    (away s l ks (omega (arith, c, h)))

-- a key with nothing is none of those with an item
pub vacant_away : (s : Slab Node) (l : ℕ) (ks : List ℕ) → get s l ≡ None → All (λ k. IsSome (get s k)) ks → All (λ j. j ≢ l) ks
vacant_away s l ks e w = λ i d h f.
    let some = w i d h in
    let none : is_some (get s l) ≡ false = ap is_some e in
    let same = ap (λ j. is_some (get s j)) f in
    cc

pub same_away : (s t : Slab Node) (l : ℕ) (ks : List ℕ) → ((j : ℕ) → j ≢ l → get t j ≡ get s j) → All (λ j. j ≢ l) ks → Same s t ks
same_away s t l ks h w = λ i d b. h _ (w i d b)

-- ---- a link

-- a slab differs from another by one link alone
pub record IsLinked (s t : Slab Node) (l k : ℕ) : Type 0 where
  pub others : (j : ℕ) → j ≢ l → get t j ≡ get s j
  pub there : IsSome (get t l)
  pub item : item_at t l ≡ item_at s l
  pub next : next_in (get t l) ≡ k
  pub len : slab_len t ≡ slab_len s
  pub capacity : t.capacity ≡ s.capacity

pub linked_is : (s : Slab Node) (l k : ℕ) → IsSome (get s l) → IsLinked s (linked l k s) l k
linked_is s l k some = go (get s l) refl
  where
    go : (o : Option Node) → get s l ≡ o → IsLinked s (relinked l k o s) l k
    go None e = absurd (let none : is_some (get s l) ≡ false = ap is_some e in cc)
    go (Some node) e =
        let up = Updates-with_value s l (record node { next = k }) some in
        let b = ContainsKey-within s l some in
        record {
          others = up.others;
          there = ap is_some up.changed;
          item = ap item_in up.changed ∙ sym (ap item_in e);
          next = ap next_in up.changed;
          len =
              let sums = sum_by-set (λ (o : Option Node). one_if (is_some o)) s.slots l (Some (record node { next = k })) None b in
              let was : one_if (is_some (get s l)) ≡ 1 = ap one_if some in
              omega (arith, sums, was);
          capacity = refl;
        }

-- a link behind a list joins some keys to it
module _ (s t : Slab Node) (k n m z : ℕ) (c : Chain) (link : IsLinked s t c.last k) (is : IsChain s c) (some : c.many ≡ suc n)
    (apart : All (λ j. j ≢ c.last) (keys_from s n c.first)) (behind : All (λ j. j ≢ c.last) (keys_from s (suc m) k))
    (there : All (λ j. IsSome (get s j)) (keys_from s (suc m) k)) (end : key_behind s m k ≡ z) where
  abbrev joined : Chain
  joined = record { first = c.first; last = z; many = c.many + suc m }

  front : Same s t (keys_from s n c.first)
  front = same_away s t c.last (keys_from s n c.first) link.others apart

  back : Same s t (keys_from s (suc m) k)
  back = same_away s t c.last (keys_from s (suc m) k) link.others behind

  last_there : key_behind t n c.first ≡ c.last
  last_there = behind_same s t n c.first front ∙ is.last_is n some

  next_there : key_behind t (suc n) c.first ≡ k
  next_there = behind_next t n c.first ∙ (ap (λ j. next_in (get t j)) last_there ∙ link.next)

  first_keys : keys_from t (suc n) c.first ≡ keys_of s c
  first_keys =
      keys_last t n c.first
      ∙ (ap (λ j. keys_from t n c.first ++ j ∷ []) (last_there ∙ sym (is.last_is n some))
      ∙ (ap (λ ks. ks ++ key_behind s n c.first ∷ []) (keys_same s t n c.first front)
      ∙ (sym (keys_last s n c.first) ∙ ap (λ x. keys_from s x c.first) (sym some))))

  pub joined_keys : keys_of t joined ≡ keys_of s c ++ keys_from s (suc m) k
  joined_keys =
      ap (λ x. keys_from t (x + suc m) c.first) some
      ∙ (keys_plus t (suc n) (suc m) c.first
      ∙ (ap (λ ks. ks ++ keys_from t (suc m) (key_behind t (suc n) c.first)) first_keys
      ∙ ap (λ ks. keys_of s c ++ ks) (ap (keys_from t (suc m)) next_there ∙ keys_same s t (suc m) k back)))

  items_kept : (ks : List ℕ) → map (item_at t) ks ≡ map (item_at s) ks
  items_kept [] = refl
  items_kept (j ∷ js) = ap (λ x. x ∷ map (item_at t) js) (one (cases_eq j c.last)) ∙ ap (λ xs. item_at s j ∷ xs) (items_kept js)
    where
      one : (j ≡ c.last) ⊎ (j ≢ c.last) → item_at t j ≡ item_at s j
      one (inl e) = ap (item_at t) e ∙ (link.item ∙ ap (item_at s) (sym e))
      one (inr e) = ap item_in (link.others j e)

  some_kept : (j : ℕ) → IsSome (get s j) → IsSome (get t j)
  some_kept j w = go (cases_eq j c.last)
    where
      go : (j ≡ c.last) ⊎ (j ≢ c.last) → IsSome (get t j)
      go (inl e) = subst (λ i. IsSome (get t i)) (sym e) link.there
      go (inr e) = subst (λ o. IsSome o) (sym (link.others j e)) w

  pub joined_items : items_of t joined ≡ items_of s c ++ map (item_at s) (keys_from s (suc m) k)
  joined_items =
      ap (map (item_at t)) joined_keys
      ∙ (items_kept (keys_of s c ++ keys_from s (suc m) k) ∙ map-append (item_at s) (keys_of s c) (keys_from s (suc m) k))

  pub joined_chain : IsChain t joined
  joined_chain = record {
    there =
        subst (All (λ j. IsSome (get t j))) (sym joined_keys)
        (λ i d l. some_kept _ (All-append (λ j. IsSome (get s j)) (keys_of s c) (keys_from s (suc m) k) is.there there i d l));
    last_is = λ before e.
        let b : before ≡ suc n + m = omega (arith, e, some) in
        ap (λ x. key_behind t x c.first) b
        ∙ (behind_plus t (suc n) m c.first ∙ (ap (key_behind t m) next_there ∙ (last_same s t m k back ∙ end)));
  }
