-- The keys that a walk crosses are those of the table between its states.
use Rattle.std.proofs.Common.{◌≡◌, ℕ, zero, suc, ◌+◌, ◌-◌, ◌≤◌, Bool, true, false, not, cond, ltb, Option, Some, None, List, [], ◌∷◌, length, reverse, sum_by, take, drop, refl, sym, ap, ◌∙◌, arith}
use Rattle.std.proofs.lemmas.List.{reverse-append}
use Rattle.std.proofs.lemmas.List.Sums.{sum_by-cons, sum_by-append}
use Rattle.std.proofs.lemmas.Bool.{ltb-true, ltb-false}
use Rattle.hp_states.specs.declared.dir.Dir.TheVariants.{Up, Down}
use Rattle.hp_states.specs.Crossings.{direction}
use Rattle.hp_model.specs.Lists.{is_empty, rising}
use Rattle.hp_model.specs.Plan.{keyed, keys_on}
use Rattle.hp_table.specs.Keys.{keys_of, keys_between, keys_by, insts_of}
use Rattle.hp_table.specs.Step.{Step, step_at}

-- as many as the list of keys is long
length_keys : (place : Option Step) → length (insts_of place) ≡ keys_of place
length_keys None = refl
length_keys (Some step) = go step.kept.multi
  where
    go : (multi : Bool) → length (cond multi step.insts (0 ∷ [])) ≡ cond multi (length step.insts) 1
    go true = refl
    go false = refl

-- the keys of some states
abbrev weight : (places : List (Option Step)) → List ℕ → ℕ
weight places ss = sum_by (λ s. length (keys_by places s)) ss

weight_cons : (places : List (Option Step)) (s : ℕ) (ss : List ℕ) → weight places (s ∷ ss) ≡ keys_of (step_at places s) + weight places ss
weight_cons places s ss =
    sum_by-cons (λ s. length (keys_by places s)) s ss ∙ ap (λ n. n + weight places ss) (length_keys (step_at places s))

weight_none : (ss : List ℕ) → weight [] ss ≡ 0
weight_none [] = refl
weight_none (s ∷ ss) = let c = weight_cons [] s ss in let r = weight_none ss in omega (arith, c, r)

-- what stands behind the first place
weight_tail : (p : Option Step) (ps : List (Option Step)) (a n : ℕ) → weight (p ∷ ps) (rising (suc a) n) ≡ weight ps (rising a n)
weight_tail p ps a zero = refl
weight_tail p ps a (suc n) =
    let r = weight_tail p ps (suc a) n in
    let c = weight_cons (p ∷ ps) (suc (suc a)) (rising (suc (suc a)) n) in
    let d = weight_cons ps (suc a) (rising (suc a) n) in
    omega (arith, r, c, d)

-- of the first states above 0
first_row : (p : Option Step) (ps : List (Option Step)) (n : ℕ) → weight (p ∷ ps) (rising 0 n) ≡ sum_by keys_of (take n ps)
first_row p ps zero = refl
first_row p [] (suc n) =
    let c = weight_cons (p ∷ []) 1 (rising 1 n) in
    let t = weight_tail p [] 0 n in
    let z = weight_none (rising 0 n) in
    omega (arith, c, t, z)
first_row p (q ∷ qs) (suc n) =
    let c = weight_cons (p ∷ (q ∷ qs)) 1 (rising 1 n) in
    let t = weight_tail p (q ∷ qs) 0 n in
    let r = first_row q qs n in
    let k = sum_by-cons keys_of q (take n qs) in
    omega (arith, c, t, r, k)

-- of the states above one
row : (places : List (Option Step)) (a n top : ℕ) → top ≡ suc (a + n) →
    weight places (rising a n) ≡ sum_by keys_of (drop (suc a) (take top places))
row places a n zero h = absurd (omega (arith, h))
row [] a n (suc top) h = weight_none (rising a n)
row (p ∷ ps) zero n (suc top) h =
    let same : n ≡ top = omega (arith, h) in first_row p ps n ∙ ap (λ m. sum_by keys_of (take m ps)) same
row (p ∷ ps) (suc a) n (suc top) h = weight_tail p ps a n ∙ row ps a n top (omega (arith, h))

-- states without keys weigh nothing
keyed_weight : (places : List (Option Step)) (ss : List ℕ) → weight places (keyed (keys_by places) ss) ≡ weight places ss
keyed_weight places [] = refl
keyed_weight places (s ∷ ss) = go (keys_by places s) refl (keyed_weight places ss)
  where
    go : (keys : List ℕ) → keys_by places s ≡ keys → weight places (keyed (keys_by places) ss) ≡ weight places ss →
        weight places (cond (not (is_empty keys)) (s ∷ keyed (keys_by places) ss) (keyed (keys_by places) ss)) ≡ weight places (s ∷ ss)
    go [] e h =
        let d = sum_by-cons (λ t. length (keys_by places t)) s ss in
        let n : length (keys_by places s) ≡ 0 = ap length e in
        omega (arith, d, h, n)
    go (key ∷ keys) e h =
        let c = weight_cons places s (keyed (keys_by places) ss) in
        let d = weight_cons places s ss in
        omega (arith, c, d, h)

back : (places : List (Option Step)) (ss : List ℕ) → weight places (reverse ss) ≡ weight places ss
back places [] = refl
back places (s ∷ ss) =
    let e = reverse-append (s ∷ []) ss in
    let a = sum_by-append (λ s. length (keys_by places s)) (reverse ss) (s ∷ []) in
    let r = back places ss in
    let c = weight_cons places s [] in
    let d = weight_cons places s ss in
    rw e (omega (arith, a, r, c, d))

between : (places : List (Option Step)) (low high : ℕ) → low ≤ high →
    keys_between places low high ≡ weight places (keyed (keys_by places) (rising low (high - low)))
between places low high h =
    let from : low + 1 ≡ suc low = omega arith in
    rw from (sym (keyed_weight places (rising low (high - low)) ∙ row places low (high - low) (high + 1) (omega (arith, h))))

not_up : Down ≡ Up → ⊥
not_up h = cc

pub keys_up : (places : List (Option Step)) (from to : ℕ) → direction from to ≡ Up →
    keys_between places from to ≡ keys_on (keys_by places) from to
keys_up places from to h = go (ltb from to) refl h
  where
    go : (up : Bool) → ltb from to ≡ up → cond up Up Down ≡ Up →
        keys_between places from to
        ≡ weight places
        (cond up (keyed (keys_by places) (rising from (to - from))) (reverse (keyed (keys_by places) (rising to (from - to)))))
    go true e d = let n = ltb-true from to e in between places from to (omega (arith, n))
    go false e d = absurd (not_up d)

pub keys_down : (places : List (Option Step)) (from to : ℕ) → direction from to ≡ Down →
    keys_between places to from ≡ keys_on (keys_by places) from to
keys_down places from to h = go (ltb from to) refl h
  where
    go : (up : Bool) → ltb from to ≡ up → cond up Up Down ≡ Down →
        keys_between places to from
        ≡ weight places
        (cond up (keyed (keys_by places) (rising from (to - from))) (reverse (keyed (keys_by places) (rising to (from - to)))))
    go true e d = absurd (not_up (sym d))
    go false e d =
        let n = ltb-false from to e in
        between places to from n ∙ sym (back places (keyed (keys_by places) (rising to (from - to))))
