-- Two items that are put on one processor keep their order.
use Rattle.std.proofs.Common.{◌≡◌, ◌≢◌, ◌⊎◌, inl, inr, ℕ, zero, suc, ◌+◌, ◌<◌, ◌≤◌, Bool, true, false, cond, ◌&&◌, List, [], ◌∷◌, ◌++◌, length, refl, sym, ap, subst, ◌∙◌, arith}
use Rattle.std.specs.Prelude.{All, ◌==◌}
use Rattle.std.proofs.Math.ListN.{set}
use Rattle.std.proofs.lemmas.Bool.{eq-eqb, cases_eq, false≢true}
use Rattle.std.proofs.lemmas.List.Elements.{All-head, All-tail}
use Rattle.std.proofs.lemmas.List.{length-set}
use Rattle.hp_work.specs.Lists.{list, times, pushed, rest, popped, moved}
use Rattle.hp_work.specs.Work.{Work, queue, none_put}
use Rattle.hp_states.specs.declared.dir.Dir.{Dir}
use Rattle.hp_states.specs.declared.dir.Dir.TheVariants.{Up, Down}
use Rattle.hp_states.specs.declared.limits.TheConstants.{MAX_CPU_SET}
use Rattle.hp_event.specs.declared.how.How.{How}
use Rattle.hp_event.specs.declared.event.Event.{Event}
use Rattle.hp_event.specs.declared.event.Event.TheVariants.{Call}
use Rattle.hp_model.specs.Entries.{is_done}
use Rattle.hp_model.specs.InForce.{is_done_entry}
use Rattle.hp_work.specs.declared.chains.TheConstants.{UNBOUND}
use Rattle.hp_work.specs.declared.law.Step.{Step}
use Rattle.hp_work.specs.declared.law.Step.TheVariants.{Follow, Put, Run}
use Rattle.hp_work.specs.Changes.{lowest_from, goes_to, moves, is_followed, followed, put_on, with_front, ran_on}
use Rattle.hp_work.specs.Follows.{HasQueue}
use Rattle.hp_work.specs.Steps.{takes, after_step, after, HasQueueOf, IsNoMove, IsBefore, ComesBefore, KeepsOrder}
use Rattle.hp_work.proofs.Counting.{times_append}
use Rattle.hp_work.proofs.Standing.{front_runs, goes_elsewhere, Reached, reached_none, state_none, reached_put}
use Rattle.hp_work.proofs.Order.{before_last, comes_after, kept_at, one, reached_after, reached_step, set_at}

-- ---- between the two puts

-- an item is in the queue of a processor, or it has run
abbrev StaysOn : (c : ℕ) → Work → (a : ℕ) → Type 0
StaysOn c w a = (0 < times a (queue w c)) ⊎ (0 < times a w.ran)

stays_moved : (x y c : ℕ) (ls : List (List ℕ)) (a : ℕ) → x ≢ c → y < length ls → 0 < times a (list ls c) →
    0 < times a (list (moved x y ls) c)
stays_moved x y c ls a ne hy h = go (cases_eq c y)
  where
    go : (c ≡ y) ⊎ (c ≢ y) → 0 < times a (list (moved x y ls) c)
    go (inl e) =
        let at : list (moved x y ls) y ≡ list ls y ++ list ls x =
        set_at (set ls x []) y (list ls y ++ list ls x) (let l = length-set ls x [] in omega (arith, l, hy)) in
        let same : times a (list (moved x y ls) c) ≡ times a (list ls c ++ list ls x) =
        ap (times a) (ap (list (moved x y ls)) e ∙ (at ∙ ap (λ p. list ls p ++ list ls x) (sym e))) in
        let more = times_append a (list ls c) (list ls x) in
        omega (arith, same, more, h)
    go (inr e) =
        let same : times a (list (moved x y ls) c) ≡ times a (list ls c) =
        ap (times a) (kept_at (set ls x []) y (list ls y ++ list ls x) c e ∙ kept_at ls x [] c (λ f. ne (sym f))) in
        omega (arith, same, h)

stays_moves : (d : Dir) (k c : ℕ) (w : Work) (a : ℕ) → k < MAX_CPU_SET → c < MAX_CPU_SET → (d ≡ Down → k ≢ c) → Reached w → StaysOn c w a →
    StaysOn c (moves d k w) a
stays_moves Up k c w a hk hc ne r (inl x) =
    inl (stays_moved UNBOUND k c w.lists a (λ e. omega (arith, e, hc)) (omega (arith, r.lists_are, hk)) x)
stays_moves Up k c w a hk hc ne r (inr x) = inr x
stays_moves Down k c w a hk hc ne r (inl x) =
    let place = goes_elsewhere w.opened k r.opened_are hk in
    inl (stays_moved k (goes_to (lowest_from 0 (set w.opened k false))) c w.lists a (ne refl) (omega (arith, r.lists_are, place.1)) x)
stays_moves Down k c w a hk hc ne r (inr x) = inr x

-- what is followed on a processor is no entry that moves another queue
no_down : (s c k st i : ℕ) (seat : ℕ) (h : How) → ((st == s && i == 0) && is_done h) ≡ true →
    is_done_entry c s 0 Down (Call seat k st i Down h) ≡ false → k ≢ c
no_down s c k st i seat h f n e =
    false≢true (sym n ∙ (ap (λ t. (t && true) && ((st == s && i == 0) && is_done h)) (eq-eqb k c e) ∙ f))

stays_followed : (e : Event) (s c : ℕ) (w : Work) (a : ℕ) → HasQueue e → c < MAX_CPU_SET → w.state ≡ s → is_done_entry c s 0 Down e ≡ false →
    Reached w → StaysOn c w a → StaysOn c (followed e w) a
stays_followed (Call seat k st i dir how) s c w a hk hc is n r x = go (is_followed w st i how) refl
  where
    go : (f : Bool) → is_followed w st i how ≡ f → StaysOn c (cond f (moves dir k w) w) a
    go true e =
        stays_moves dir k c w a hk hc
        (λ d. no_down s c k st i seat how (ap (λ t. (st == t && i == 0) && is_done how) (sym is) ∙ e)
        (ap (λ t. is_done_entry c s 0 Down (Call seat k st i t how)) (sym d) ∙ n)) r x
    go false e = x
stays_followed e s c w a hk hc is n r x = x

stays_put : (k c : ℕ) (w : Work) (a : ℕ) → k < MAX_CPU_SET → Reached w → StaysOn c w a → StaysOn c (put_on k w) a
stays_put k c w a h r (inl x) = inl (go (cases_eq c k))
  where
    go : (c ≡ k) ⊎ (c ≢ k) → 0 < times a (list (pushed k w.put w.lists) c)
    go (inl e) =
        let at : list (pushed k w.put w.lists) k ≡ queue w k ++ w.put ∷ [] =
        set_at w.lists k (queue w k ++ w.put ∷ []) (omega (arith, r.lists_are, h)) in
        let same : times a (list (pushed k w.put w.lists) c) ≡ times a (queue w c ++ w.put ∷ []) =
        ap (times a) (ap (list (pushed k w.put w.lists)) e ∙ (at ∙ ap (λ p. queue w p ++ w.put ∷ []) (sym e))) in
        let more = times_append a (queue w c) (w.put ∷ []) in
        omega (arith, same, more, x)
    go (inr e) =
        let same : times a (list (pushed k w.put w.lists) c) ≡ times a (queue w c) = ap (times a) (kept_at w.lists k (queue w k ++ w.put ∷ []) c e) in
        omega (arith, same, x)
stays_put k c w a h r (inr x) = inr x

stays_run : (k c : ℕ) (w : Work) (a : ℕ) → k < MAX_CPU_SET → Reached w → StaysOn c w a → StaysOn c (ran_on k w) a
stays_run k c w a h r (inl x) = go (cases_eq c k)
  where
    go : (c ≡ k) ⊎ (c ≢ k) → StaysOn c (ran_on k w) a
    go (inl e) =
        let at : list (popped k w.lists) k ≡ rest (queue w k) = set_at w.lists k (rest (queue w k)) (omega (arith, r.lists_are, h)) in
        let same : times a (list (popped k w.lists) c) ≡ times a (rest (queue w k)) = ap (times a) (ap (list (popped k w.lists)) e ∙ at) in
        let here : times a (queue w c) ≡ times a (queue w k) = ap (λ p. times a (queue w p)) e in
        let f = front_runs a (queue w k) w.ran in
        either (times a (list (popped k w.lists) c)) (times a (with_front (queue w k) w.ran)) (omega (arith, same, here, f, x))
      where
        either : (m n : ℕ) → 0 < m + n → (0 < m) ⊎ (0 < n)
        either zero n l = inr (omega (arith, l))
        either (suc m) n l = inl (omega arith)
    go (inr e) =
        let same : times a (list (popped k w.lists) c) ≡ times a (queue w c) = ap (times a) (kept_at w.lists k (rest (queue w k)) c e) in
        inl (omega (arith, same, x))
stays_run k c w a h r (inr x) =
    let f = ran_grows a (queue w k) w.ran in
    inr (omega (arith, f, x))
  where
    ran_grows : (n : ℕ) (xs ran : List ℕ) → times n ran ≤ times n (with_front xs ran)
    ran_grows n [] ran = omega arith
    ran_grows n (y ∷ ys) ran = let e = times_append n ran (y ∷ []) in omega (arith, e)

state_moved : (d : Dir) (k : ℕ) (w : Work) → (moves d k w).state ≡ w.state
state_moved Up k w = refl
state_moved Down k w = refl

state_step : (s : Step) (w : Work) → (after_step w s).state ≡ w.state
state_step (Follow (Call seat k st i dir how)) w = go (is_followed w st i how)
  where
    go : (f : Bool) → (cond f (moves dir k w) w).state ≡ w.state
    go true = state_moved dir k w
    go false = refl
state_step (Follow e) w = refl
state_step (Put k) w = go (takes k w)
  where
    go : (t : Bool) → (cond t (put_on k w) w).state ≡ w.state
    go true = refl
    go false = refl
state_step (Run k) w = refl

state_after : (ss : List Step) (w : Work) → (after ss w).state ≡ w.state
state_after [] w = refl
state_after (s ∷ ss) w = state_after ss (after_step w s) ∙ state_step s w

stays_step : (x : Step) (s c : ℕ) (w : Work) (a : ℕ) → HasQueueOf x → IsNoMove s c x → c < MAX_CPU_SET → w.state ≡ s → Reached w → StaysOn c w a →
    StaysOn c (after_step w x) a
stays_step (Follow e) s c w a h n hc is r y = stays_followed e s c w a h hc is n r y
stays_step (Put k) s c w a h n hc is r y = go (takes k w)
  where
    go : (t : Bool) → StaysOn c (cond t (put_on k w) w) a
    go true = stays_put k c w a h r y
    go false = y
stays_step (Run k) s c w a h n hc is r y = stays_run k c w a h r y

stays_after : (ss : List Step) (s c : ℕ) (w : Work) (a : ℕ) → All HasQueueOf ss → All (IsNoMove s c) ss → c < MAX_CPU_SET → w.state ≡ s → Reached w →
    StaysOn c w a → StaysOn c (after ss w) a
stays_after [] s c w a h n hc is r y = y
stays_after (x ∷ ss) s c w a h n hc is r y =
    let one = All-head HasQueueOf x ss h in
    stays_after ss s c (after_step w x) a (All-tail HasQueueOf x ss h) (All-tail (IsNoMove s c) x ss n) hc (state_step x w ∙ is)
    (reached_step x w one r) (stays_step x s c w a one (All-head (IsNoMove s c) x ss n) hc is r y)

-- ---- the law

second_behind : (c : ℕ) (w : Work) (a : ℕ) → c < MAX_CPU_SET → Reached w → StaysOn c w a → ComesBefore (put_on c w) a w.put
second_behind c w a h r (inl x) = inr (inl (record {
  place = c;
  there = subst (λ zs. IsBefore zs a w.put) (sym (set_at w.lists c (queue w c ++ w.put ∷ []) (omega (arith, r.lists_are, h))))
      (before_last a w.put (queue w c) x);
}))
second_behind c w a h r (inr x) =
    let none = r.stand.nothing_else w.put (omega arith) in
    inr (inr (x, omega (arith, none)))

pub keeps_order : (s c : ℕ) (before between behind : List Step) → KeepsOrder s c before between behind
keeps_order s c before between behind hc hb hm hl nm t1 t2 =
    let w0 : Work = after before (none_put s) in
    let r0 : Reached w0 = reached_after before (none_put s) hb (reached_none s) in
    let r1 : Reached (put_on c w0) = reached_put c w0 hc r0 in
    let w1 : Work = after between (put_on c w0) in
    let r2 : Reached w1 = reached_after between (put_on c w0) hm r1 in
    let put : StaysOn c (put_on c w0) w0.put =
    inl (let at : list (pushed c w0.put w0.lists) c ≡ queue w0 c ++ w0.put ∷ [] = set_at w0.lists c (queue w0 c ++ w0.put ∷ []) (omega (arith, r0.lists_are, hc)) in
    let same : times w0.put (list (pushed c w0.put w0.lists) c) ≡ times w0.put (queue w0 c ++ w0.put ∷ []) = ap (times w0.put) at in
    let more = times_append w0.put (queue w0 c) (w0.put ∷ []) in
    let o = one w0.put [] in
    omega (arith, same, more, o)) in
    let stays : StaysOn c w1 w0.put = stays_after between s c (put_on c w0) w0.put hm nm hc (state_after before (none_put s) ∙ state_none s) r1 put in
    comes_after behind (put_on c w1) w0.put w1.put hl (omega arith) (reached_put c w1 hc r2) (second_behind c w1 w0.put hc r2 stays)
