-- A journal counted: the additions on the open processors, after each event, and their sum.
use Rattle.std.proofs.Common.{◌≡◌, ℕ, zero, suc, ◌+◌, ◌-◌, ◌<◌, ◌≤◌, add-zero, add-suc, add-one, Bool, true, false, cond, [], ◌∷◌, ◌++◌, get_or, refl, ap, sym, ◌∙◌, arith}
use Rattle.std.specs.Prelude.{ℤ, pos, fold, filter}
use Rattle.std.proofs.lemmas.List.{append-nil}
use Rattle.std.proofs.lemmas.List.Sums.{fold_push}
use Rattle.std.proofs.lemmas.List.Elements.{filter-append}
use Rattle.hp_states.specs.declared.dir.Dir.{Dir}
use Rattle.hp_states.specs.declared.dir.Dir.TheVariants.{Up, Down}
use Rattle.hp_states.specs.declared.limits.TheConstants.{MAX_CPU_SET}
use Rattle.hp_event.specs.declared.event.Event.{Event}
use Rattle.hp_event.specs.declared.event.Event.TheVariants.{Call}
use Rattle.hp_model.specs.Lists.{numbers}
use Rattle.hp_pcount.specs.Tally.{Tally, is_open}
use Rattle.hp_pcount.specs.Changes.{folded, moved, is_followed, followed, raised, batched, is_full, added}
use Rattle.hp_pcount.specs.Places.{IsFirstOpen, HasNoneOpen}
use Rattle.hp_pcount.specs.Counted.{open_processors, one_on_each}

-- ---- the numbers that pass, where none does from one on

pub passed_same : (p : ℕ → Bool) (n k : ℕ) → ((c : ℕ) → n ≤ c → c < n + k → p c ≡ false) →
    filter p (numbers (n + k)) ≡ filter p (numbers n)
passed_same p n zero h = ap (λ m. filter p (numbers m)) (add-zero n)
passed_same p n (suc k) h =
    ap (λ m. filter p (numbers m)) (add-suc n k)
    ∙ (filter-append p (numbers (n + k)) ((n + k) ∷ [])
    ∙ rw (h (n + k) (omega arith) (omega arith), append-nil) (passed_same p n k (λ c a b. h c a (omega arith))))

pub passed_upto : (p : ℕ → Bool) (n m : ℕ) → n ≤ m → ((c : ℕ) → n ≤ c → c < m → p c ≡ false) → filter p (numbers m) ≡ filter p (numbers n)
passed_upto p n m l h =
    let e : n + (m - n) ≡ m = omega arith in
    rw e at (passed_same p n (m - n) (λ c a b. h c a (omega arith)))

pub passed_one : (p : ℕ → Bool) (n c : ℕ) → n ≤ c → ((k : ℕ) → n ≤ k → k < c → p k ≡ false) → p c ≡ true →
    filter p (numbers (c + 1)) ≡ filter p (numbers n) ++ c ∷ []
passed_one p n c l h t =
    ap (λ m. filter p (numbers m)) (add-one c)
    ∙ (filter-append p (numbers c) (c ∷ []) ∙ rw (t, passed_upto p n c l h) refl)

-- ---- one step of the additions on the open processors

pub opened_batched : (t : Tally) (c : ℕ) (by : ℤ) → (batched c (raised c by t)).opened ≡ t.opened
opened_batched t c by = go (is_full (raised c by t) c)
  where
    go : (f : Bool) → (cond f (folded c (raised c by t)) (raised c by t)).opened ≡ t.opened
    go true = refl
    go false = refl

pub adds_batched : (t : Tally) (c : ℕ) (by : ℤ) → (batched c (raised c by t)).adds ≡ t.adds + 1
adds_batched t c by = go (is_full (raised c by t) c)
  where
    go : (f : Bool) → (cond f (folded c (raised c by t)) (raised c by t)).adds ≡ t.adds + 1
    go true = refl
    go false = refl

pub opened_added : (t : Tally) (c : ℕ) (by : ℤ) → (added c by t).opened ≡ t.opened
opened_added t c by = go (is_open t c)
  where
    go : (o : Bool) → (cond o (batched c (raised c by t)) t).opened ≡ t.opened
    go true = opened_batched t c by
    go false = refl

pub adds_added : (t : Tally) (c : ℕ) (by : ℤ) → (added c by t).adds ≤ t.adds + 1
adds_added t c by = go (is_open t c)
  where
    go : (o : Bool) → (cond o (batched c (raised c by t)) t).adds ≤ t.adds + 1
    go true = let e = adds_batched t c by in omega arith
    go false = omega arith

pub adds_followed : (t : Tally) (e : Event) → (followed e t).adds ≡ t.adds
adds_followed t (Call seat c state inst dir how) = go (is_followed t state inst how) dir
  where
    go : (g : Bool) (d : Dir) → (cond g (moved d c t) t).adds ≡ t.adds
    go true Up = refl
    go true Down = refl
    go false d = refl
adds_followed t e = refl

-- 1 was added on the open ones below a number
unfoldable pub ones_below : Tally → ℕ → Tally
ones_below t n = fold (λ u cpu. added cpu (pos 1) u) t (filter (is_open t) (numbers n))

pub ones_none : (t : Tally) → ones_below t 0 ≡ t
unfolding ones_below
ones_none t = refl

pub ones_one : (t u : Tally) (n c : ℕ) → u ≡ ones_below t n → u.opened ≡ t.opened → IsFirstOpen u n c → added c (pos 1) u ≡ ones_below t (c + 1)
unfolding ones_below
ones_one t u n c e o first =
    let same : (k : ℕ) → is_open t k ≡ is_open u k = λ k. ap (λ os. get_or os k false) (sym o) in
    rw (
      passed_one (is_open t) n c first.at_least (λ k a b. same k ∙ first.none_below k a b) (same c ∙ first.opened),
      fold_push (λ u cpu. added cpu (pos 1) u) t (filter (is_open t) (numbers n)) c,
    )
    (ap (λ u. added c (pos 1) u) e)

pub ones_all : (t u : Tally) (n : ℕ) → n ≤ MAX_CPU_SET → u ≡ ones_below t n → u.opened ≡ t.opened → HasNoneOpen u n → u ≡ one_on_each t
unfolding ones_below open_processors
ones_all t u n l e o none =
    let same : (k : ℕ) → is_open t k ≡ is_open u k = λ k. ap (λ os. get_or os k false) (sym o) in
    e ∙ ap (λ cs. fold (λ u cpu. added cpu (pos 1) u) t cs) (sym (passed_upto (is_open t) n MAX_CPU_SET l (λ k a b. same k ∙ none k a)))
