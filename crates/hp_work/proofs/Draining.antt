-- The queues that have items, in rising processor number; and what jobs of their own answer of them.
use Rattle.std.proofs.Common.{◌≡◌, ℕ, zero, suc, ◌+◌, ◌<◌, ◌≤◌, Bool, true, false, not, cond, eqb, List, [], ◌∷◌, ◌++◌, length, get_or, take, map, refl, ap, sym, subst, ◌∙◌, arith}
use Rattle.std.specs.Prelude.{filter, All, Result, Ok, IfOk}
use Rattle.std.specs.declared.alloc.AllocError.{AllocError}
use Rattle.std.proofs.lemmas.List.{append-nil, map_push, take_more, take_all}
use Rattle.std.proofs.lemmas.List.Elements.{filter-append, All-nil, All-cons, All-append}
use Rattle.hp_states.specs.declared.limits.TheConstants.{MAX_CPU_SET}
use Rattle.hp_model.specs.Lists.{numbers}
use Rattle.hp_work.specs.Lists.{list}
use Rattle.hp_work.specs.declared.drain.Drained.{Drained}
use Rattle.hp_work.specs.Drained.{with_items, queue_in, queue_at}

abbrev pub has_items : List (List ℕ) → (cpu : ℕ) → Bool
has_items ls c = not (eqb (length (list ls c)) 0)

-- those below a number
pub items_below : (n : ℕ) → List (List ℕ) → List ℕ
items_below n ls = filter (has_items ls) (numbers n)

pub below_none : (ls : List (List ℕ)) → items_below 0 ls ≡ []
unfolding items_below
below_none ls = refl

pub below_with : (n : ℕ) (ls : List (List ℕ)) → has_items ls n ≡ true → items_below (n + 1) ls ≡ items_below n ls ++ n ∷ []
unfolding items_below
below_with n ls h =
    let e : n + 1 ≡ suc n = omega arith in
    ap (λ m. filter (has_items ls) (numbers m)) e
    ∙ (filter-append (has_items ls) (numbers n) (n ∷ [])
    ∙ ap (λ b. filter (has_items ls) (numbers n) ++ cond b (n ∷ []) []) h)

pub below_without : (n : ℕ) (ls : List (List ℕ)) → has_items ls n ≡ false → items_below (n + 1) ls ≡ items_below n ls
unfolding items_below
below_without n ls h =
    let e : n + 1 ≡ suc n = omega arith in
    ap (λ m. filter (has_items ls) (numbers m)) e
    ∙ (filter-append (has_items ls) (numbers n) (n ∷ [])
    ∙ (ap (λ b. filter (has_items ls) (numbers n) ++ cond b (n ∷ []) []) h ∙ append-nil (filter (has_items ls) (numbers n))))

pub below_all : (ls : List (List ℕ)) → items_below MAX_CPU_SET ls ≡ with_items ls
unfolding items_below
below_all ls = refl

-- the queues of some processors, collected in turn
pub queues_more : (ls : List (List ℕ)) (cpus : List ℕ) (n m : ℕ) (found : List Drained) (queue : Drained) → n < length cpus → m ≡ n + 1 →
    queue ≡ queue_at ls cpus n → found ≡ map (queue_in ls) (take n cpus) → found ++ queue ∷ [] ≡ map (queue_in ls) (take m cpus)
queues_more ls cpus n m found queue l e is so_far =
    ap (λ q. found ++ q ∷ []) is
    ∙ (ap (λ qs. qs ++ queue_at ls cpus n ∷ []) so_far
    ∙ (sym (map_push (queue_in ls) (take n cpus) (get_or cpus n 0))
    ∙ ap (map (queue_in ls)) (sym (take_more cpus n 0 l) ∙ ap (λ i. take i cpus) (sym e))))

pub queues_all : (ls : List (List ℕ)) (cpus : List ℕ) (n : ℕ) (found : List Drained) → n ≡ length cpus →
    found ≡ map (queue_in ls) (take n cpus) → found ≡ map (queue_in ls) cpus
queues_all ls cpus n found e so_far = so_far ∙ ap (map (queue_in ls)) (take_all n cpus (omega (arith, e)))

-- what a job answered, read from the result that the loop has
pub answered : (r : Result Drained AllocError) (queue q : Drained) → IfOk r (λ x. x ≡ q) → r ≡ Ok queue → queue ≡ q
answered r queue q h e = subst (λ x. IfOk x (λ y. y ≡ q)) e h

-- each of them is of a processor that there is a queue for
one_more_below : (ls : List (List ℕ)) (n m : ℕ) (b : Bool) → has_items ls n ≡ b → n < m → All (λ c. c < m) (items_below n ls) →
    All (λ c. c < m) (items_below (suc n) ls)
one_more_below ls n m true e l h =
    let more : suc n ≡ n + 1 = omega arith in
    subst (All (λ c. c < m)) (sym (ap (λ k. items_below k ls) more ∙ below_with n ls e))
    (All-append (λ c. c < m) (items_below n ls) (n ∷ []) h (All-cons (λ c. c < m) n [] l (All-nil (λ c. c < m))))
one_more_below ls n m false e l h =
    let more : suc n ≡ n + 1 = omega arith in
    subst (All (λ c. c < m)) (sym (ap (λ k. items_below k ls) more ∙ below_without n ls e)) h

all_below : (ls : List (List ℕ)) (n m : ℕ) → n ≤ m → All (λ c. c < m) (items_below n ls)
all_below ls zero m l = subst (All (λ c. c < m)) (sym (below_none ls)) (All-nil (λ c. c < m))
all_below ls (suc n) m l = one_more_below ls n m (has_items ls n) refl (omega (arith, l)) (all_below ls n m (omega (arith, l)))

pub all_queues : (ls : List (List ℕ)) → All (λ c. c < MAX_CPU_SET) (with_items ls)
all_queues ls = subst (All (λ c. c < MAX_CPU_SET)) (below_all ls) (all_below ls MAX_CPU_SET MAX_CPU_SET (omega arith))
