-- Of processors in rising number: those from a number on, those below it, and what both are once the lowest of the first
-- is done.
use Rattle.std.proofs.Common.{◌≡◌, ℕ, suc, ◌+◌, ◌<◌, ◌≤◌, Bool, true, false, cond, leb, ltb, List, [], ◌∷◌, ◌++◌, length, refl, sym, ◌∙◌, arith}
use Rattle.std.specs.Prelude.{AllPairs, slice_index_or}
use Rattle.std.proofs.lemmas.Bool.{leb-true, le-leb, leb-false, lt-leb, lt-ltb, le-ltb}
use Rattle.hp_reg.specs.Progress.{from_on, below}

abbrev pub Above : ℕ → List ℕ → Type 0
Above c [] = Unit {0}
Above c (d ∷ ds) = (c < d) × Above c ds

abbrev pub Rises : List ℕ → Type 0
Rises [] = Unit {0}
Rises (c ∷ cs) = Above c cs × Rises cs

pub rises_of : (cs : List ℕ) → AllPairs (λ c d. c < d) cs → Rises cs
rises_of [] h = tt
rises_of (c ∷ cs) h =
    (above cs (λ k d b. h 0 (suc k) d (omega arith) (omega arith)), rises_of cs (λ i j d a b. h (suc i) (suc j) d (omega arith) (omega arith)))
  where
    above : (ds : List ℕ) → ((k d : ℕ) → k < length ds → c < slice_index_or ds k d) → Above c ds
    above [] g = tt
    above (d ∷ ds) g = (g 0 0 (omega arith), above ds (λ k e b. g (suc k) e (omega arith)))

above-below : (c f : ℕ) (cs : List ℕ) → Above c cs → Above c (below f cs)
above-below c f [] h = tt
above-below c f (d ∷ ds) h = go (ltb d f) (above-below c f ds h.1)
  where
    go : (b : Bool) → Above c (below f ds) → Above c (cond b (d ∷ below f ds) (below f ds))
    go true k = (h.0, k)
    go false k = k

pub rises-below : (f : ℕ) (cs : List ℕ) → Rises cs → Rises (below f cs)
rises-below f [] h = tt
rises-below f (c ∷ cs) h = go (ltb c f) (rises-below f cs h.1)
  where
    go : (b : Bool) → Rises (below f cs) → Rises (cond b (c ∷ below f cs) (below f cs))
    go true k = (above-below c f cs h.0, k)
    go false k = k

-- all are from 0 on, and none is below 0
pub from_start : (cs : List ℕ) → from_on 0 cs ≡ cs
from_start [] = refl
from_start (c ∷ cs) = rw (le-leb 0 c (omega arith), from_start cs) refl

pub below_start : (cs : List ℕ) → below 0 cs ≡ []
below_start [] = refl
below_start (c ∷ cs) = rw (le-ltb c 0 (omega arith)) (below_start cs)

all_from : (f c : ℕ) (cs : List ℕ) → f ≤ c + 1 → Above c cs → from_on f cs ≡ cs
all_from f c [] h a = refl
all_from f c (d ∷ ds) h a = let here : c < d = a.0 in rw (le-leb f d (omega arith), all_from f c ds h a.1) refl

none_below : (f c : ℕ) (cs : List ℕ) → f ≤ c + 1 → Above c cs → below f cs ≡ []
none_below f c [] h a = refl
none_below f c (d ∷ ds) h a = let here : c < d = a.0 in rw (le-ltb d f (omega arith)) (none_below f c ds h a.1)

-- those below a number and those from it on are all
pub split_length : (f : ℕ) (cs : List ℕ) → length (below f cs) + length (from_on f cs) ≡ length cs
split_length f [] = refl
split_length f (c ∷ cs) = go (leb f c) refl (split_length f cs)
  where
    go : (b : Bool) → leb f c ≡ b → length (below f cs) + length (from_on f cs) ≡ length cs →
        length (below f (c ∷ cs)) + length (cond b (c ∷ from_on f cs) (from_on f cs)) ≡ length (c ∷ cs)
    go true h e = rw (le-ltb c f (leb-true f c h)) (omega arith)
    go false h e = rw (lt-ltb c f (leb-false f c h)) (omega arith)

-- the lowest from a number on: what is from the next number on and below it, and below itself
pub record IsLowest (f c : ℕ) (cs rest : List ℕ) : Type 0 where
  pub at : f ≤ c
  pub after : from_on (c + 1) cs ≡ rest
  pub done : below (c + 1) cs ≡ below f cs ++ c ∷ []
  pub before : below c cs ≡ below f cs

pub lowest_from : (f : ℕ) (cs : List ℕ) (c : ℕ) (rest : List ℕ) → Rises cs → from_on f cs ≡ c ∷ rest → IsLowest f c cs rest
lowest_from f [] c rest r e = absurd (cc)
lowest_from f (x ∷ xs) c rest r e = go (leb f x) refl e (lowest_from f xs c rest r.1)
  where
    here : leb f x ≡ true → x ≡ c → from_on f xs ≡ rest → IsLowest f c (x ∷ xs) rest
    here h same e =
        let le : f ≤ x = leb-true f x h in
        let all : from_on f xs ≡ xs = all_from f x xs (omega arith) r.0 in
        let none : below f xs ≡ [] = none_below f x xs (omega arith) r.0 in
        let not_after : leb (x + 1) x ≡ false = lt-leb (x + 1) x (omega arith) in
        let is_below : ltb x (x + 1) ≡ true = lt-ltb x (x + 1) (omega arith) in
        let all_after : from_on (x + 1) xs ≡ xs = all_from (x + 1) x xs (omega arith) r.0 in
        let none_between : below (x + 1) xs ≡ [] = none_below (x + 1) x xs (omega arith) r.0 in
        let none_before : below x xs ≡ [] = none_below x x xs (omega arith) r.0 in
        rw (← same)
        record {
          at = le;
          after = rw (not_after, all_after) (sym all ∙ e);
          done = rw (is_below, none_between, le-ltb x f le, none) refl;
          before = rw (le-ltb x x (omega arith), none_before, le-ltb x f le, none) refl;
        }

    there : leb f x ≡ false → IsLowest f c xs rest → IsLowest f c (x ∷ xs) rest
    there h l =
        let lt : x < f = leb-false f x h in
        let at : f ≤ c = l.at in
        record {
          at = at;
          after = rw (lt-leb (c + 1) x (omega arith)) l.after;
          done = rw (lt-ltb x (c + 1) (omega arith), lt-ltb x f lt, l.done) refl;
          before = rw (lt-ltb x c (omega arith), lt-ltb x f lt, l.before) refl;
        }

    parts : (a b : ℕ) (xs ys : List ℕ) → a ∷ xs ≡ b ∷ ys → (a ≡ b) × (xs ≡ ys)
    parts a b xs ys h = (cc, cc)

    go : (b : Bool) → leb f x ≡ b → cond b (x ∷ from_on f xs) (from_on f xs) ≡ c ∷ rest →
        (from_on f xs ≡ c ∷ rest → IsLowest f c xs rest) → IsLowest f c (x ∷ xs) rest
    go true h e more = let p = parts x c (from_on f xs) rest e in here h p.0 p.1
    go false h e more = there h (more e)
