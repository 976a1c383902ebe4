-- Each item that was put stands exactly once: so it is at the start, and each change keeps it.
use Rattle.std.proofs.Common.{◌≡◌, ◌≢◌, ℕ, zero, suc, ◌+◌, ◌-◌, ◌<◌, ◌≤◌, Bool, true, false, cond, eqb, List, [], ◌∷◌, ◌++◌, length, get_or, replicate, Option, Some, None, refl, sym, ap, subst, ◌∙◌, arith}
use Rattle.std.proofs.Math.ListN.{set}
use Rattle.std.proofs.lemmas.Bool.{eqb-true, eq-eqb, ne_eqb, false≢true}
use Rattle.std.proofs.lemmas.List.{get_or-set_same, length-set, length-replicate}
use Rattle.std.proofs.lemmas.List.Sums.{sum_by-cons}
use Rattle.hp_states.specs.declared.dir.Dir.{Dir}
use Rattle.hp_states.specs.declared.dir.Dir.TheVariants.{Up, Down}
use Rattle.hp_states.specs.declared.limits.TheConstants.{MAX_CPU_SET}
use Rattle.hp_event.specs.declared.event.Event.{Event}
use Rattle.hp_event.specs.declared.event.Event.TheVariants.{Call}
use Rattle.hp_work.specs.declared.chains.TheConstants.{LISTS, UNBOUND}
use Rattle.hp_work.specs.Lists.{times, times_in, pushed, rest}
use Rattle.hp_work.specs.Work.{Work, queue, none_put, stands, StandOnce}
use Rattle.hp_work.specs.Changes.{lowest_from, goes_to, moves, is_followed, followed, put_on, with_front, ran_on}
use Rattle.hp_work.specs.Follows.{HasQueue}
use Rattle.hp_work.proofs.Counting.{one_if, times_append, times_cons, in_set, in_pushed, in_moved, length_moved}

-- ---- the front that runs

pub front_runs : (n : ℕ) (xs ran : List ℕ) → times n (with_front xs ran) + times n (rest xs) ≡ times n ran + times n xs
front_runs n [] ran = refl
front_runs n (x ∷ xs) ran =
    let e = times_append n ran (x ∷ []) in
    let f = times_cons n x xs in
    let g = times_cons n x [] in
    omega (arith, e, f, g)

pub in_run : (n c : ℕ) (w : Work) → c < length w.lists → stands n (ran_on c w) ≡ stands n w
in_run n c w h =
    let s = in_set n c (rest (queue w c)) w.lists h in
    let f = front_runs n (queue w c) w.ran in
    omega (arith, s, f)

-- ---- where a queue goes is another place

lowest_is : (os : List Bool) (k d : ℕ) → lowest_from k os ≡ Some d → (k ≤ d) × (d < k + length os) × (get_or os (d - k) false ≡ true)
lowest_is [] k d h = absurd (cc h)
lowest_is (true ∷ os) k d h =
    let e : k ≡ d = some_is k d h in
    (omega (arith, e), omega (arith, e), (let z : d - k ≡ 0 = omega (arith, e) in ap (λ i. get_or (true ∷ os) i false) z))
  where
    number : Option ℕ → ℕ
    number None = 0
    number (Some n) = n

    some_is : (x y : ℕ) → Some x ≡ Some y → x ≡ y
    some_is x y h = ap number h
lowest_is (false ∷ os) k d h =
    let r = lowest_is os (k + 1) d h in
    let z : d - k ≡ suc (d - (k + 1)) = omega (arith, r.0) in
    (omega (arith, r.0), omega (arith, r.1), ap (λ i. get_or (false ∷ os) i false) z ∙ r.2)

-- ---- once

pub record Reached (w : Work) : Type 0 where
  pub lists_are : length w.lists ≡ LISTS
  pub opened_are : length w.opened ≡ MAX_CPU_SET
  pub stand : StandOnce w

-- another place than that of a processor that closes, among all places
pub goes_elsewhere : (os : List Bool) (c : ℕ) → length os ≡ MAX_CPU_SET → c < MAX_CPU_SET →
    (c ≢ goes_to (lowest_from 0 (set os c false))) × (goes_to (lowest_from 0 (set os c false)) < LISTS)
goes_elsewhere os c l h = go (lowest_from 0 (set os c false)) refl
  where
    go : (r : Option ℕ) → lowest_from 0 (set os c false) ≡ r → (c ≢ goes_to r) × (goes_to r < LISTS)
    go None e = ((λ f. omega (arith, f, h)), omega arith)
    go (Some d) e =
        let is = lowest_is (set os c false) 0 d e in
        let many = length-set os c false in
        ((λ f. closed d f (let z : d - 0 ≡ d = omega arith in subst (λ i. get_or (set os c false) i false ≡ true) z is.2)), omega (arith, is.1, many, l))
      where
        closed : (d : ℕ) → c ≡ d → get_or (set os c false) d false ≡ true → ⊥
        closed d e t =
            false≢true (sym (get_or-set_same os c false false (omega (arith, l, h))) ∙ (ap (λ i. get_or (set os c false) i false) e ∙ t))

same_stands : (w v : Work) → v.put ≡ w.put → ((n : ℕ) → stands n v ≡ stands n w) → StandOnce w → StandOnce v
same_stands w v e h s = record {
  once = λ n l. h n ∙ s.once n (omega (arith, e, l));
  nothing_else = λ n l. h n ∙ s.nothing_else n (omega (arith, e, l));
}

pub reached_moves : (d : Dir) (c : ℕ) (w : Work) → c < MAX_CPU_SET → Reached w → Reached (moves d c w)
reached_moves Up c w h r = record {
  lists_are = length_moved UNBOUND c w.lists ∙ r.lists_are;
  opened_are = length-set w.opened c true ∙ r.opened_are;
  stand = same_stands w (moves Up c w) refl
      (λ n. let m = in_moved n UNBOUND c w.lists (λ f. omega (arith, f, h)) (omega (arith, r.lists_are)) (omega (arith, r.lists_are, h)) in
      omega (arith, m)) r.stand;
}
reached_moves Down c w h r =
    let place = goes_elsewhere w.opened c r.opened_are h in
    record {
      lists_are = length_moved c (goes_to (lowest_from 0 (set w.opened c false))) w.lists ∙ r.lists_are;
      opened_are = length-set w.opened c false ∙ r.opened_are;
      stand = same_stands w (moves Down c w) refl
          (λ n. let m = in_moved n c (goes_to (lowest_from 0 (set w.opened c false))) w.lists place.0 (omega (arith, r.lists_are, h))
          (omega (arith, r.lists_are, place.1)) in
          omega (arith, m)) r.stand;
    }

pub reached_followed : (e : Event) (w : Work) → HasQueue e → Reached w → Reached (followed e w)
reached_followed (Call seat c state inst dir how) w h r = go (is_followed w state inst how)
  where
    go : (b : Bool) → Reached (cond b (moves dir c w) w)
    go true = reached_moves dir c w h r
    go false = r
reached_followed e w h r = r

pub reached_put : (c : ℕ) (w : Work) → c < MAX_CPU_SET → Reached w → Reached (put_on c w)
reached_put c w h r =
    let more : (n : ℕ) → times_in n (pushed c w.put w.lists) ≡ times_in n w.lists + one_if (eqb w.put n) =
    λ n. in_pushed n c w.put w.lists (omega (arith, r.lists_are, h)) in
    record {
      lists_are = length-set w.lists c (queue w c ++ w.put ∷ []) ∙ r.lists_are;
      opened_are = r.opened_are;
      stand = record {
        once = λ n l. go n (eqb w.put n) refl (more n) l;
        nothing_else = λ n l.
            let m = more n in
            let z = r.stand.nothing_else n (omega (arith, l)) in
            let ne : eqb w.put n ≡ false = ne_eqb w.put n (λ e. omega (arith, e, l)) in
            let o : one_if (eqb w.put n) ≡ 0 = ap one_if ne in
            omega (arith, m, z, o);
      };
    }
  where
    go : (n : ℕ) (b : Bool) → eqb w.put n ≡ b → times_in n (pushed c w.put w.lists) ≡ times_in n w.lists + one_if (eqb w.put n) →
        n < w.put + 1 → times n w.ran + times_in n (pushed c w.put w.lists) ≡ 1
    go n true e m l =
        let o : one_if (eqb w.put n) ≡ 1 = ap one_if e in
        let same : w.put ≡ n = eqb-true w.put n e in
        let z = r.stand.nothing_else n (omega (arith, same)) in
        omega (arith, m, z, o)
    go n false e m l =
        let o : one_if (eqb w.put n) ≡ 0 = ap one_if e in
        let other : w.put ≢ n = λ f. false≢true (sym e ∙ eq-eqb w.put n f) in
        let z = r.stand.once n (below n w.put l other) in
        omega (arith, m, z, o)
      where
        below : (n p : ℕ) → n < p + 1 → p ≢ n → n < p
        below n p l ne = grind (arith, l, ne)

pub reached_run : (c : ℕ) (w : Work) → c < MAX_CPU_SET → Reached w → Reached (ran_on c w)
reached_run c w h r = record {
  lists_are = length-set w.lists c (rest (queue w c)) ∙ r.lists_are;
  opened_are = r.opened_are;
  stand = same_stands w (ran_on c w) refl (λ n. in_run n c w (omega (arith, r.lists_are, h))) r.stand;
}

-- ---- at the start

nothing_in : (n m : ℕ) → times_in n (replicate m []) ≡ 0
nothing_in n zero = refl
nothing_in n (suc m) =
    let c = sum_by-cons (times n) [] (replicate m []) in
    let z : times n [] ≡ 0 = refl in
    let r = nothing_in n m in
    omega (arith, c, z, r)

pub state_none : (s : ℕ) → (none_put s).state ≡ s
unfolding none_put
state_none s = refl

pub reached_none : (s : ℕ) → Reached (none_put s)
unfolding none_put
reached_none s = record {
  lists_are = let e : List ℕ = [] in length-replicate LISTS e;
  opened_are = length-replicate MAX_CPU_SET false;
  stand = record { once = λ n l. absurd (omega (arith, l)); nothing_else = λ n l. nothing_in n LISTS };
}
