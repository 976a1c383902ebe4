-- What is made of the lists where an item is put, the front of one is taken, and one is moved behind another.
use Rattle.std.proofs.Common.{◌≡◌, ◌≢◌, ◌⊎◌, inl, inr, ℕ, zero, suc, ◌+◌, ◌-◌, ◌<◌, ◌≤◌, Bool, true, false, eqb, List, [], ◌∷◌, ◌++◌, length, Some, None, map, refl, sym, ap, subst, ◌∙◌, arith}
use Rattle.std.specs.Prelude.{All, IsSome, is_some, slice_get}
use Rattle.std.specs.List.{sum_by}
use Rattle.std.proofs.Math.ListN.{set}
use Rattle.std.proofs.lemmas.Bool.{cases_eq, ne_eqb}
use Rattle.std.proofs.lemmas.List.{length-set, get_or-set_same, get_or-set_other, set-get_or, append-nil}
use Rattle.std.proofs.lemmas.List.Elements.{All-nil, All-cons, All-tail}
use Rattle.slab.specs.Slab.{Slab, get, slab_len, Updates}
use Rattle.hp_work.specs.declared.chains.Node.{Node}
use Rattle.hp_work.specs.declared.chains.Chain.{Chain}
use Rattle.hp_work.specs.declared.chains.TheConstants.{LISTS}
use Rattle.hp_work.specs.declared.limits.TheConstants.{MAX_ITEMS}
use Rattle.hp_work.specs.Lists.{list, times, times_in, pushed, rest, popped, moved}
use Rattle.hp_work.specs.Chained.{item_in, next_in, keys_from, key_behind, keys_of, item_at, items_of, lists_of, no_items, chain_at, IsChain, IsChained, linked}
use Rattle.hp_work.proofs.Counting.{one_if, in_pushed, in_moved, in_popped, many_pushed, many_moved, many_popped}
use Rattle.hp_work.proofs.Links.{Same, list_same, chain_same, vacant_away, same_away, IsLinked, linked_is, joined_items, joined_chain}
use Rattle.hp_work.proofs.Chaining.{Made, away_front, away_other, away_rest, below, chain_is, changed_each, changed_lists, empty_at, first_counts, first_stands, last_counts, last_some, list_at, made_of, many_at, once_at, one_more}

-- ---- an item is put

module _ (s t : Slab Node) (chains : List Chain) (p item k : ℕ) (is : IsChained s chains) (h : p < LISTS)
    (room : sum_by length (lists_of s chains) < MAX_ITEMS) (nowhere : times_in item (lists_of s chains) ≡ 0) (vacant : get s k ≡ None)
    (up : Updates s t k (Some (record { item = item; next = 0 }))) (len : slab_len t ≡ slab_len s + 1) (cap : t.capacity ≡ s.capacity) where
  there_at : (q : ℕ) → q < LISTS → All (λ j. j ≢ k) (keys_of s (chain_at chains q))
  there_at q b = vacant_away s k (keys_of s (chain_at chains q)) vacant (chain_is s chains is q b).there

  kept : (q : ℕ) → q < LISTS → Same s t (keys_of s (chain_at chains q))
  kept q b = same_away s t k (keys_of s (chain_at chains q)) up.others (there_at q b)

  item_is : item_at t k ≡ item
  item_is = ap item_in up.changed

  made_put : (u : Slab Node) (c : Chain) → slab_len u ≡ slab_len t → u.capacity ≡ t.capacity →
      ((q : ℕ) → q < length chains → q ≢ p → Same s u (keys_of s (chain_at chains q))) →
      items_of u c ≡ list (lists_of s chains) p ++ item ∷ [] → IsChain u c → Made u (set chains p c) (pushed p item (lists_of s chains))
  made_put u c l e same items chain =
      let b : p < length chains = let m = is.lists_are in omega (arith, m, h) in
      let m = many_pushed p item (lists_of s chains) (below s chains is p h) in
      let all = is.all_there in
      let cap_s = is.room in
      made_of u (set chains p c) (pushed p item (lists_of s chains))
      (changed_lists s u chains p c b same ∙ ap (set (lists_of s chains) p) items) (length-set chains p c ∙ is.lists_are)
      (changed_each s u chains p c b same chain is.each) once (omega (arith, l, len, m, all)) (omega (arith, m, room)) (omega (arith, e, cap, cap_s))
    where
      once : (n : ℕ) → times_in n (pushed p item (lists_of s chains)) ≤ 1
      once n = go (cases_eq item n)
        where
          more : times_in n (pushed p item (lists_of s chains)) ≡ times_in n (lists_of s chains) + one_if (eqb item n)
          more = in_pushed n p item (lists_of s chains) (below s chains is p h)

          one : (b : Bool) → one_if b ≤ 1
          one true = omega arith
          one false = omega arith

          go : (item ≡ n) ⊎ (item ≢ n) → times_in n (pushed p item (lists_of s chains)) ≤ 1
          go (inl e) =
              let none : times_in n (lists_of s chains) ≡ 0 = subst (λ i. times_in i (lists_of s chains) ≡ 0) e nowhere in
              let o = one (eqb item n) in
              omega (arith, more, none, o)
          go (inr e) =
              let most = is.once n in
              let o : one_if (eqb item n) ≡ 0 = ap one_if (ne_eqb item n e) in
              omega (arith, more, most, o)

  pub pushed_first : (chain_at chains p).many ≡ 0 →
      Made t (set chains p (record { first = k; last = k; many = 1 })) (pushed p item (lists_of s chains))
  pushed_first none =
      made_put t (record { first = k; last = k; many = 1 }) refl refl (λ q b _. kept q (let m = is.lists_are in omega (arith, m, b)))
      (ap (λ x. x ∷ []) item_is ∙ ap (λ xs. xs ++ item ∷ []) (sym (empty_at s chains p none)))
      (record {
        there = All-cons (λ j. IsSome (get t j)) k [] (ap is_some up.changed) (All-nil (λ j. IsSome (get t j)));
        last_is = λ before e. only before e;
      })
    where
      only : (before : ℕ) → 1 ≡ suc before → key_behind t before k ≡ k
      only zero e = refl
      only (suc b) e = absurd (omega (arith, e))

  module _ (n : ℕ) (some : (chain_at chains p).many ≡ suc n) where
    abbrev c : Chain
    c = chain_at chains p

    is_s : IsChain s c
    is_s = chain_is s chains is p h

    is_t : IsChain t c
    is_t = chain_same s t c (kept p h) is_s

    items_t : items_of t c ≡ items_of s c
    items_t = list_same s t c (kept p h)

    link : IsLinked t (linked c.last k t) c.last k
    link = linked_is t c.last k (last_some t c n is_t some)

    apart : All (λ j. j ≢ c.last) (keys_from t n c.first)
    apart = away_front t c n is_t some (λ m. subst (λ xs. times m xs ≤ 1) (sym items_t) (once_at s chains is p h m))

    other : k ≢ c.last
    other e =
        let has = last_some s c n is_s some in
        let none : is_some (get s k) ≡ false = ap is_some vacant in
        let same = ap (λ j. is_some (get s j)) e in
        cc

    key_there : All (λ j. IsSome (get t j)) (keys_from t 1 k)
    key_there = All-cons (λ j. IsSome (get t j)) k [] (ap is_some up.changed) (All-nil (λ j. IsSome (get t j)))

    key_apart : All (λ j. j ≢ c.last) (keys_from t 1 k)
    key_apart = All-cons (λ j. j ≢ c.last) k [] other (All-nil (λ j. j ≢ c.last))

    kept_both : (q : ℕ) → q < length chains → q ≢ p → Same s (linked c.last k t) (keys_of s (chain_at chains q))
    kept_both q b ne =
        let bq : q < LISTS = let m = is.lists_are in omega (arith, m, b) in
        let w = away_other s chains is p q c.last h bq ne (last_counts s c n is_s some) in
        λ i d l. link.others _ (w i d l) ∙ kept q bq i d l

    pub pushed_more : Made (linked c.last k t) (set chains p (record { first = c.first; last = k; many = c.many + 1 })) (pushed p item (lists_of s chains))
    pushed_more =
        made_put (linked c.last k t) (record { first = c.first; last = k; many = c.many + 1 }) link.len link.capacity kept_both
        (joined_items t (linked c.last k t) k n 0 k c link is_t some apart key_apart key_there refl
        ∙ (ap (λ xs. xs ++ item_at t k ∷ []) (items_t ∙ sym (list_at s chains p))
        ∙ ap (λ x. list (lists_of s chains) p ++ x ∷ []) item_is))
        (joined_chain t (linked c.last k t) k n 0 k c link is_t some apart key_apart key_there refl)

-- ---- the front is taken

module _ (s t : Slab Node) (chains : List Chain) (p n : ℕ) (is : IsChained s chains) (h : p < LISTS) (some : (chain_at chains p).many ≡ suc n)
    (up : Updates s t (chain_at chains p).first None) (len : slab_len t + 1 ≡ slab_len s) (cap : t.capacity ≡ s.capacity) where
  abbrev old : Chain
  old = chain_at chains p

  abbrev new : Chain
  new = record { first = next_in (get s old.first); last = old.last; many = n }

  is_old : IsChain s old
  is_old = chain_is s chains is p h

  kept_rest : Same s t (keys_of s new)
  kept_rest = same_away s t old.first (keys_of s new) up.others (away_rest s old n is_old some (once_at s chains is p h))

  kept_other : (q : ℕ) → q < length chains → q ≢ p → Same s t (keys_of s (chain_at chains q))
  kept_other q b ne =
      let bq : q < LISTS = let m = is.lists_are in omega (arith, m, b) in
      same_away s t old.first (keys_of s (chain_at chains q)) up.others
      (away_other s chains is p q old.first h bq ne (first_counts s old n is_old some))

  new_was : IsChain s new
  new_was = record {
    there = All-tail (λ j. IsSome (get s j)) old.first (keys_of s new) (subst (λ x. All (λ j. IsSome (get s j)) (keys_from s x old.first)) some is_old.there);
    last_is = λ before e. is_old.last_is (suc before) (some ∙ ap suc e);
  }

  pub front_is : list (lists_of s chains) p ≡ item_at s old.first ∷ items_of s new
  front_is = list_at s chains p ∙ first_stands s old n is_old some

  pub popped_made : Made t (set chains p new) (popped p (lists_of s chains))
  popped_made =
      let b : p < length chains = let m = is.lists_are in omega (arith, m, h) in
      let at = many_at s chains p in
      let l : length (list (lists_of s chains) p) ≡ n + 1 = omega (arith, at, some) in
      let m = many_popped p n (lists_of s chains) (below s chains is p h) l in
      let all = is.all_there in
      let few = is.few in
      let r = is.room in
      made_of t (set chains p new) (popped p (lists_of s chains))
      (changed_lists s t chains p new b kept_other
      ∙ ap (set (lists_of s chains) p) (list_same s t new kept_rest ∙ ap rest (sym front_is)))
      (length-set chains p new ∙ is.lists_are) (changed_each s t chains p new b kept_other (chain_same s t new kept_rest new_was) is.each)
      (λ i. let o = in_popped i p (lists_of s chains) (below s chains is p h) in let most = is.once i in omega (arith, o, most))
      (omega (arith, len, m, all)) (omega (arith, m, few)) (omega (arith, cap, r))

-- as the code has it: the key of the one behind is read, and one item fewer is there
pub popped_taken : (s t : Slab Node) (chains : List Chain) (p : ℕ) (node : Node) → IsChained s chains → p < LISTS → (chain_at chains p).many ≢ 0 →
    get s (chain_at chains p).first ≡ Some node → Updates s t (chain_at chains p).first None → slab_len t + 1 ≡ slab_len s → t.capacity ≡ s.capacity →
    Made t (set chains p (record { first = node.next; last = (chain_at chains p).last; many = (chain_at chains p).many - 1 }))
    (popped p (lists_of s chains))
popped_taken s t chains p node is h some found up len cap =
    let n = one_more (chain_at chains p).many some in
    let l = (chain_at chains p).last in
    let fewer : n.0 ≡ (chain_at chains p).many - 1 = omega (arith, n.1) in
    subst (λ x. Made t (set chains p (record { first = node.next; last = l; many = x })) (popped p (lists_of s chains))) fewer
    (subst (λ o. Made t (set chains p (record { first = next_in o; last = l; many = n.0 })) (popped p (lists_of s chains))) found
    (popped_made s t chains p n.0 is h n.1 up len cap))

pub front_taken : (s : Slab Node) (chains : List Chain) (p : ℕ) (node : Node) → (chain_at chains p).many ≢ 0 →
    get s (chain_at chains p).first ≡ Some node → Some node.item ≡ slice_get (list (lists_of s chains) p) 0
front_taken s chains p node some found =
    let n = one_more (chain_at chains p).many some in
    let c = chain_at chains p in
    let e : list (lists_of s chains) p ≡ item_at s c.first ∷ map (item_at s) (keys_from s n.0 (next_in (get s c.first))) =
    list_at s chains p ∙ ap (λ x. map (item_at s) (keys_from s x c.first)) n.1 in
    ap (λ o. Some (item_in o)) (sym found) ∙ ap (λ xs. slice_get xs 0) (sym e)

pub popped_none : (s : Slab Node) (chains : List Chain) (p : ℕ) → (chain_at chains p).many ≡ 0 → popped p (lists_of s chains) ≡ lists_of s chains
popped_none s chains p none =
    ap (set (lists_of s chains) p) (ap rest (empty_at s chains p none) ∙ sym (empty_at s chains p none)) ∙ set-get_or (lists_of s chains) p []

-- ---- one is moved behind another

module _ (s : Slab Node) (chains : List Chain) (a b : ℕ) (is : IsChained s chains) (ha : a < LISTS) (hb : b < LISTS) (ne : a ≢ b) where
  abbrev from : Chain
  from = chain_at chains a

  abbrev to : Chain
  to = chain_at chains b

  abbrev without : List Chain
  without = set chains a no_items

  pub moved_none : from.many ≡ 0 → moved a b (lists_of s chains) ≡ lists_of s chains
  moved_none none =
      let empty = empty_at s chains a none in
      let ls = lists_of s chains in
      let out : set ls a [] ≡ ls = ap (set ls a) (sym empty) ∙ set-get_or ls a [] in
      ap (λ xs. set xs b (list ls b ++ list ls a)) out
      ∙ (ap (λ ys. set ls b (list ls b ++ ys)) empty ∙ (ap (set ls b) (append-nil (list ls b)) ∙ set-get_or ls b []))

  stays : (q : ℕ) → q < length chains → q ≢ a → Same s s (keys_of s (chain_at chains q))
  stays q l f = λ i d m. refl

  nothing : IsChain s no_items
  nothing = record { there = All-nil (λ j. IsSome (get s j)); last_is = λ before e. absurd (omega (arith, e)) }

  in_a : a < length chains
  in_a = let m = is.lists_are in omega (arith, m, ha)

  in_b : b < length without
  in_b = let m = is.lists_are in let l = length-set chains a no_items in omega (arith, m, l, hb)

  made_move : (t : Slab Node) (c : Chain) → slab_len t ≡ slab_len s → t.capacity ≡ s.capacity →
      ((q : ℕ) → q < LISTS → q ≢ b → q ≢ a → Same s t (keys_of s (chain_at chains q))) →
      items_of t c ≡ list (lists_of s chains) b ++ list (lists_of s chains) a → IsChain t c →
      Made t (set without b c) (moved a b (lists_of s chains))
  made_move t c l e same items chain =
      let m = many_moved a b (lists_of s chains) ne (below s chains is a ha) (below s chains is b hb) in
      let all = is.all_there in
      let few = is.few in
      let r = is.room in
      made_of t (set without b c) (moved a b (lists_of s chains))
      (changed_lists s t without b c in_b kept_q
      ∙ (ap (λ xs. set xs b (items_of t c)) (changed_lists s s chains a no_items in_a stays)
      ∙ ap (set (set (lists_of s chains) a []) b) items))
      (length-set without b c ∙ (length-set chains a no_items ∙ is.lists_are))
      (changed_each s t without b c in_b kept_q chain (changed_each s s chains a no_items in_a stays nothing is.each))
      (λ i.
      let o = in_moved i a b (lists_of s chains) ne (below s chains is a ha) (below s chains is b hb) in
      let most = is.once i in
      omega (arith, o, most))
      (omega (arith, l, m, all)) (omega (arith, m, few)) (omega (arith, e, r))
    where
      kept_q : (q : ℕ) → q < length without → q ≢ b → Same s t (keys_of s (chain_at without q))
      kept_q q lq f = go (cases_eq q a)
        where
          bq : q < LISTS
          bq = let m = is.lists_are in let n = length-set chains a no_items in omega (arith, m, n, lq)

          go : (q ≡ a) ⊎ (q ≢ a) → Same s t (keys_of s (chain_at without q))
          go (inl g) =
              subst (λ r. Same s t (keys_of s (chain_at without r))) (sym g)
              (subst (λ d. Same s t (keys_of s d)) (sym (get_or-set_same chains a no_items no_items in_a)) (All-nil (λ j. get t j ≡ get s j)))
          go (inr g) = subst (λ d. Same s t (keys_of s d)) (sym (get_or-set_other chains a q no_items no_items g)) (same q bq f g)

  pub moved_whole : to.many ≡ 0 → Made s (set without b from) (moved a b (lists_of s chains))
  moved_whole none =
      made_move s from refl refl (λ q l f g i d m. refl)
      (sym (list_at s chains a) ∙ ap (λ xs. xs ++ list (lists_of s chains) a) (sym (empty_at s chains b none)))
      (chain_is s chains is a ha)

  module _ (n m : ℕ) (some : to.many ≡ suc n) (more : from.many ≡ suc m) where
    is_to : IsChain s to
    is_to = chain_is s chains is b hb

    is_from : IsChain s from
    is_from = chain_is s chains is a ha

    chained_to : IsLinked s (linked to.last from.first s) to.last from.first
    chained_to = linked_is s to.last from.first (last_some s to n is_to some)

    front_apart : All (λ j. j ≢ to.last) (keys_from s n to.first)
    front_apart = away_front s to n is_to some (once_at s chains is b hb)

    back_apart : All (λ j. j ≢ to.last) (keys_from s (suc m) from.first)
    back_apart =
        subst (λ x. All (λ j. j ≢ to.last) (keys_from s x from.first)) more
        (away_other s chains is b a to.last hb ha ne (last_counts s to n is_to some))

    back_there : All (λ j. IsSome (get s j)) (keys_from s (suc m) from.first)
    back_there = subst (λ x. All (λ j. IsSome (get s j)) (keys_from s x from.first)) more is_from.there

    kept_else : (q : ℕ) → q < LISTS → q ≢ b → q ≢ a → Same s (linked to.last from.first s) (keys_of s (chain_at chains q))
    kept_else q l f g =
        same_away s (linked to.last from.first s) to.last (keys_of s (chain_at chains q)) chained_to.others
        (away_other s chains is b q to.last hb l f (last_counts s to n is_to some))

    pub moved_behind :
        Made (linked to.last from.first s) (set without b (record { first = to.first; last = from.last; many = to.many + from.many }))
        (moved a b (lists_of s chains))
    moved_behind =
        subst (λ x.
        Made (linked to.last from.first s) (set without b (record { first = to.first; last = from.last; many = to.many + x }))
        (moved a b (lists_of s chains)))
        (sym more)
        (made_move (linked to.last from.first s) (record { first = to.first; last = from.last; many = to.many + suc m }) chained_to.len chained_to.capacity kept_else
        (joined_items s (linked to.last from.first s) from.first n m from.last to chained_to is_to some front_apart back_apart back_there
        (is_from.last_is m more)
        ∙ (ap (λ xs. xs ++ map (item_at s) (keys_from s (suc m) from.first)) (sym (list_at s chains b))
        ∙ ap (λ ys. list (lists_of s chains) b ++ ys)
        (ap (λ x. map (item_at s) (keys_from s x from.first)) (sym more) ∙ sym (list_at s chains a))))
        (joined_chain s (linked to.last from.first s) from.first n m from.last to chained_to is_to some front_apart back_apart back_there
        (is_from.last_is m more)))
