-- A journal that queues went through: what is put and run on the open processors, after each event.
use Rattle.std.proofs.Common.{◌≡◌, ℕ, zero, suc, ◌+◌, ◌-◌, ◌<◌, ◌≤◌, add-zero, add-suc, add-one, Bool, true, false, cond, ltb, List, [], ◌∷◌, ◌++◌, length, get_or, take, refl, ap, sym, ◌∙◌, arith}
use Rattle.std.specs.Prelude.{fold, filter}
use Rattle.std.proofs.lemmas.Bool.{lt-ltb, le-ltb}
use Rattle.std.proofs.lemmas.List.{append-nil, take_more, length-take-le}
use Rattle.std.proofs.lemmas.List.Sums.{fold_push}
use Rattle.std.proofs.lemmas.List.Elements.{filter-append}
use Rattle.hp_states.specs.declared.limits.TheConstants.{MAX_CPU_SET}
use Rattle.hp_event.specs.declared.event.Event.{Event}
use Rattle.hp_model.specs.Lists.{numbers}
use Rattle.hp_work.specs.declared.limits.TheConstants.{MAX_ITEMS}
use Rattle.hp_work.specs.Work.{Work, is_open, none_put}
use Rattle.hp_work.specs.Changes.{put_on, ran_on}
use Rattle.hp_work.specs.Worked.{IsFirstOpen, HasNoneOpen, open_processors, put_if_room, put_on_each, run_on_each, worked_step, worked_from, worked}

-- ---- the numbers that pass, where none does from one on

passed_same : (p : ℕ → Bool) (n k : ℕ) → ((c : ℕ) → n ≤ c → c < n + k → p c ≡ false) →
    filter p (numbers (n + k)) ≡ filter p (numbers n)
passed_same p n zero h = ap (λ m. filter p (numbers m)) (add-zero n)
passed_same p n (suc k) h =
    ap (λ m. filter p (numbers m)) (add-suc n k)
    ∙ (filter-append p (numbers (n + k)) ((n + k) ∷ [])
    ∙ rw (h (n + k) (omega arith) (omega arith), append-nil) (passed_same p n k (λ c a b. h c a (omega arith))))

passed_upto : (p : ℕ → Bool) (n m : ℕ) → n ≤ m → ((c : ℕ) → n ≤ c → c < m → p c ≡ false) → filter p (numbers m) ≡ filter p (numbers n)
passed_upto p n m l h =
    let e : n + (m - n) ≡ m = omega arith in
    rw e at (passed_same p n (m - n) (λ c a b. h c a (omega arith)))

passed_one : (p : ℕ → Bool) (n c : ℕ) → n ≤ c → ((k : ℕ) → n ≤ k → k < c → p k ≡ false) → p c ≡ true →
    filter p (numbers (c + 1)) ≡ filter p (numbers n) ++ c ∷ []
passed_one p n c l h t =
    ap (λ m. filter p (numbers m)) (add-one c)
    ∙ (filter-append p (numbers c) (c ∷ []) ∙ rw (t, passed_upto p n c l h) refl)

-- ---- something is done on the open ones below a number

unfoldable pub done_below : (Work → ℕ → Work) → Work → ℕ → Work
done_below f w n = fold f w (filter (is_open w) (numbers n))

pub done_none : (f : Work → ℕ → Work) (w : Work) → done_below f w 0 ≡ w
unfolding done_below
done_none f w = refl

pub done_one : (f : Work → ℕ → Work) (w v : Work) (n c : ℕ) → v ≡ done_below f w n → v.opened ≡ w.opened → IsFirstOpen v n c →
    f v c ≡ done_below f w (c + 1)
unfolding done_below
done_one f w v n c e o first =
    let same : (k : ℕ) → is_open w k ≡ is_open v k = λ k. ap (λ os. get_or os k false) (sym o) in
    rw (
      passed_one (is_open w) n c first.at_least (λ k a b. same k ∙ first.none_below k a b) (same c ∙ first.opened),
      fold_push f w (filter (is_open w) (numbers n)) c,
    )
    (ap (λ u. f u c) e)

done_all : (f : Work → ℕ → Work) (w v : Work) (n : ℕ) → n ≤ MAX_CPU_SET → v ≡ done_below f w n → v.opened ≡ w.opened → HasNoneOpen v n →
    v ≡ fold f w (open_processors w)
unfolding done_below open_processors
done_all f w v n l e o none =
    let same : (k : ℕ) → is_open w k ≡ is_open v k = λ k. ap (λ os. get_or os k false) (sym o) in
    e ∙ ap (fold f w) (sym (passed_upto (is_open w) n MAX_CPU_SET l (λ k a b. same k ∙ none k a)))

pub put_all : (w v : Work) (n : ℕ) → n ≤ MAX_CPU_SET → v ≡ done_below put_if_room w n → v.opened ≡ w.opened → HasNoneOpen v n →
    v ≡ put_on_each w
unfolding put_on_each
put_all w v n l e o none = done_all put_if_room w v n l e o none

pub run_all : (w v : Work) (n : ℕ) → n ≤ MAX_CPU_SET → v ≡ done_below (λ u cpu. ran_on cpu u) w n → v.opened ≡ w.opened → HasNoneOpen v n →
    v ≡ run_on_each w
unfolding run_on_each
run_all w v n l e o none = done_all (λ u cpu. ran_on cpu u) w v n l e o none

-- an item is put where there is room
pub with_room : (w : Work) (c : ℕ) → w.put < MAX_ITEMS → put_if_room w c ≡ put_on c w
with_room w c h = ap (λ b. cond b (put_on c w) w) (lt-ltb w.put MAX_ITEMS h)

pub without_room : (w : Work) (c : ℕ) → MAX_ITEMS ≤ w.put → put_if_room w c ≡ w
without_room w c h = ap (λ b. cond b (put_on c w) w) (le-ltb w.put MAX_ITEMS h)

-- ---- one event more

from_more : (n : ℕ) (w : Work) (xs : List Event) (e : Event) → worked_from n w (xs ++ e ∷ []) ≡ worked_step (worked_from n w xs) (n + length xs) e
from_more n w [] e = ap (λ m. worked_step w m e) (sym (add-zero n))
from_more n w (x ∷ xs) e =
    let m : n + 1 + length xs ≡ n + suc (length xs) = omega arith in
    from_more (n + 1) (worked_step w n x) xs e ∙ ap (λ k. worked_step (worked_from (n + 1) (worked_step w n x) xs) k e) m

pub worked_none : (s : ℕ) → worked s [] ≡ none_put s
unfolding worked
worked_none s = refl

pub worked_more : (s : ℕ) (xs : List Event) (i : ℕ) (d : Event) → i < length xs →
    worked s (take (i + 1) xs) ≡ worked_step (worked s (take i xs)) (i + 1) (get_or xs i d)
unfolding worked
worked_more s xs i d h =
    let l : 1 + length (take i xs) ≡ i + 1 = omega (arith, length-take-le i xs (omega (arith, h))) in
    ap (worked_from 1 (none_put s)) (take_more xs i d h)
    ∙ (from_more 1 (none_put s) (take i xs) (get_or xs i d)
    ∙ ap (λ k. worked_step (worked_from 1 (none_put s) (take i xs)) k (get_or xs i d)) l)

pub opened_put : (w : Work) (c : ℕ) → (put_if_room w c).opened ≡ w.opened
opened_put w c = go (ltb w.put MAX_ITEMS)
  where
    go : (b : Bool) → (cond b (put_on c w) w).opened ≡ w.opened
    go true = refl
    go false = refl
