-- How many instances and keys the places have, and what a write makes of it.
use Rattle.std.proofs.Common.{◌≡◌, ℕ, zero, suc, ◌+◌, ◌<◌, ◌≤◌, Bool, true, false, Option, Some, None, List, [], ◌∷◌, length, get_or, take, drop, min, refl, ◌∙◌, subst, arith, ◌⊎◌, inl, inr}
use Rattle.std.specs.Prelude.{slice_set, replicate, sum_by, if◌then◌else◌}
use Rattle.std.proofs.lemmas.List.Sums.{sum_by-cons, sum_by-set, sum_by-take-drop, sum_by-take-le, sum_by_more}
use Rattle.std.proofs.lemmas.List.{take-take, take_all, length-take-le}
use Rattle.std.proofs.lemmas.Bool.{cases_lt}
use Rattle.hp_table.specs.Step.{Step, step_at}
use Rattle.hp_table.specs.Instances.{instances_in, instance_count}
use Rattle.hp_table.specs.Keys.{keys_of, keys_between}
use Rattle.hp_table.proofs.Places.{get_or-step_at}

-- the count after a write, beside the one before it
pub count_after : (places : List (Option Step)) (s : ℕ) (place : Option Step) → s < length places →
    instance_count (slice_set places s place) + instances_in (step_at places s) ≡ instance_count places + instances_in place
count_after places s place below =
    let e : get_or places s None ≡ step_at places s = get_or-step_at places s below in
    subst (λ (p : Option Step). instance_count (slice_set places s place) + instances_in p ≡ instance_count places + instances_in place) e
    (sum_by-set instances_in places s place None below)

-- one state has no more instances than the table
pub count_part : (places : List (Option Step)) (s : ℕ) → s < length places → instances_in (step_at places s) ≤ instance_count places
count_part [] s below = absurd (omega arith)
count_part (x ∷ xs) zero below = rw (sum_by-cons instances_in x xs) (omega arith)
count_part (x ∷ xs) (suc s) below =
    let part : instances_in (step_at xs s) ≤ instance_count xs = count_part xs s (omega arith) in
    rw (sum_by-cons instances_in x xs) (omega arith)

pub count-replicate : (n : ℕ) → instance_count (replicate n None) ≡ 0
count-replicate zero = refl
count-replicate (suc n) =
    let rest : instance_count (replicate n None) ≡ 0 = count-replicate n in
    rw (sum_by-cons instances_in None (replicate n None)) (omega arith)

-- a state has a key for each instance, or one
keys_in : (place : Option Step) → keys_of place ≤ instances_in place + 1
keys_in None = omega arith
keys_in (Some step) = go step.kept.multi
  where
    go : (multi : Bool) → (if multi then length step.insts else 1) ≤ length step.insts + 1
    go true = omega arith
    go false = omega arith

pub keys_few : (places : List (Option Step)) → sum_by keys_of places ≤ instance_count places + length places
keys_few [] = omega arith
keys_few (x ∷ xs) =
    let here : keys_of x ≤ instances_in x + 1 = keys_in x in
    let there : sum_by keys_of xs ≤ instance_count xs + length xs = keys_few xs in
    rw (sum_by-cons keys_of x xs, sum_by-cons instances_in x xs) (omega arith)

-- one state more
pub keys_more : (places : List (Option Step)) (s : ℕ) → s < length places →
    sum_by keys_of (take (s + 1) places) ≡ sum_by keys_of (take s places) + keys_of (step_at places s)
keys_more places s below =
    let e : get_or places s None ≡ step_at places s = get_or-step_at places s below in
    subst (λ (p : Option Step). sum_by keys_of (take (s + 1) places) ≡ sum_by keys_of (take s places) + keys_of p) e
    (sum_by_more keys_of places s None below)

-- the keys so far are no more than a table has room for
pub keys_within : (places : List (Option Step)) (s keys from : ℕ) → s < length places →
    keys + sum_by keys_of (take from places) ≡ sum_by keys_of (take s places) →
    keys + keys_of (step_at places s) ≤ instance_count places + length places
keys_within places s keys from below is =
    let more : sum_by keys_of (take (s + 1) places) ≡ sum_by keys_of (take s places) + keys_of (step_at places s) = keys_more places s below in
    let part : sum_by keys_of (take (s + 1) places) ≤ sum_by keys_of places = sum_by-take-le keys_of places (s + 1) in
    let few : sum_by keys_of places ≤ instance_count places + length places = keys_few places in
    omega arith

-- the places up to a state, where states past the highest count as the highest
capped : (places : List (Option Step)) (top high : ℕ) → length places ≡ top + 1 →
    take (high + 1) places ≡ take (min high top + 1) places
capped places top high states = go (cases_lt top high)
  where
    go : (top < high) ⊎ (high ≤ top) → take (high + 1) places ≡ take (min high top + 1) places
    go (inl above) =
        let e : min high top ≡ top = omega arith in
        let a : take (high + 1) places ≡ places = take_all (high + 1) places (omega arith) in
        let b : take (top + 1) places ≡ places = take_all (top + 1) places (omega arith) in
        rw (e, a, b) refl
    go (inr within) = let e : min high top ≡ high = omega arith in rw e refl

-- the sum of the keys up to the higher state, less those up to the lower one
pub keys_are : (places : List (Option Step)) (top low high keys : ℕ) → length places ≡ top + 1 →
    keys + sum_by keys_of (take (min low (min high top) + 1) places) ≡ sum_by keys_of (take (min high top + 1) places) →
    keys ≡ keys_between places low high
keys_are places top low high keys states is =
    let cap : take (high + 1) places ≡ take (min high top + 1) places = capped places top high states in
    let whole : List (Option Step) = take (min high top + 1) places in
    let parts : sum_by keys_of (take (low + 1) whole) + sum_by keys_of (drop (low + 1) whole) ≡ sum_by keys_of whole =
    sum_by-take-drop keys_of whole (low + 1) in
    let lower : take (low + 1) whole ≡ take (min low (min high top) + 1) places = under (min high top) (omega arith) (cases_lt (min high top) low) in
    let parts : sum_by keys_of (take (min low (min high top) + 1) places) + sum_by keys_of (drop (low + 1) whole) ≡ sum_by keys_of whole =
    rw lower at parts in
    rw cap (omega arith)
  where
    under : (t : ℕ) → t ≤ top → (t < low) ⊎ (low ≤ t) → take (low + 1) (take (t + 1) places) ≡ take (min low t + 1) places
    under t most (inl above) =
        let e : min low t ≡ t = omega arith in
        let few : length (take (t + 1) places) ≤ low + 1 = omega (arith, length-take-le (t + 1) places (omega arith)) in
        rw e (take_all (low + 1) (take (t + 1) places) few)
    under t most (inr within) =
        let e : min low t ≡ low = omega arith in
        rw e (take-take (low + 1) (t + 1) places (omega arith))

-- states where nothing is registered have no keys
pub keys_skip : (places : List (Option Step)) (from s : ℕ) → from ≤ s → ((t : ℕ) → from ≤ t → t < s → step_at places t ≡ None) →
    sum_by keys_of (take s places) ≡ sum_by keys_of (take from places)
keys_skip places from zero below none = let e : from ≡ zero = omega arith in rw e refl
keys_skip places from (suc s) below none =
    go (cases_lt s from) (λ more. keys_skip places from s more (λ t at_least less. none t at_least (omega arith)))
  where
    one_more : (s < length places) ⊎ (length places ≤ s) → step_at places s ≡ None → sum_by keys_of (take (suc s) places) ≡ sum_by keys_of (take s places)
    one_more (inl inside) here =
        let e : s + 1 ≡ suc s = omega arith in
        let more : sum_by keys_of (take (s + 1) places) ≡ sum_by keys_of (take s places) + keys_of (step_at places s) = keys_more places s inside in
        let more : sum_by keys_of (take (suc s) places) ≡ sum_by keys_of (take s places) + keys_of (step_at places s) = rw e at more in
        let more : sum_by keys_of (take (suc s) places) ≡ sum_by keys_of (take s places) + 0 = rw here at more in
        omega (arith, more)
    one_more (inr past) here =
        let all : take (suc s) places ≡ places = take_all (suc s) places (omega arith) in
        let all_s : take s places ≡ places = take_all s places (omega arith) in
        rw (all, all_s) refl

    go : (s < from) ⊎ (from ≤ s) → (from ≤ s → sum_by keys_of (take s places) ≡ sum_by keys_of (take from places)) →
        sum_by keys_of (take (suc s) places) ≡ sum_by keys_of (take from places)
    go (inl last) before = let e : from ≡ suc s = omega arith in rw e refl
    go (inr more) before = one_more (cases_lt s (length places)) (none s more (omega arith)) ∙ before more
