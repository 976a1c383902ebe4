-- How many keys the table has after a write.
use Rattle.std.proofs.Common.{◌≡◌, ℕ, zero, suc, ◌+◌, ◌<◌, ◌≤◌, Bool, true, false, cond, Option, Some, None, List, [], ◌∷◌, length, ap, refl, arith}
use Rattle.std.specs.Prelude.{slice_set}
use Rattle.std.proofs.lemmas.List.Sums.{sum_by-cons}
use Rattle.hp_table.specs.Keys.{keys_of}
use Rattle.hp_table.specs.Totals.{key_total}
use Rattle.hp_table.specs.Instances.{with_instance}
use Rattle.hp_table.specs.Step.{Step, step_at}

pub total_cons : (place : Option Step) (places : List (Option Step)) → key_total (place ∷ places) ≡ keys_of place + key_total places
total_cons place places = sum_by-cons keys_of place places

-- a table where nothing is registered has no keys
pub no_keys : (places : List (Option Step)) → ((s : ℕ) → step_at places s ≡ None) → key_total places ≡ 0
no_keys [] vacant = refl
no_keys (p ∷ ps) vacant =
    let c = total_cons p ps in
    let here : keys_of p ≡ 0 = ap keys_of (vacant 0) in
    let r = no_keys ps (λ s. vacant (suc s)) in
    omega (arith, c, here, r)

-- a place that is written anew
pub total_set : (places : List (Option Step)) (s : ℕ) (old new : Option Step) → s < length places → step_at places s ≡ old →
    key_total (slice_set places s new) + keys_of old ≡ key_total places + keys_of new
total_set [] s old new below is = absurd (omega arith)
total_set (p ∷ ps) zero old new below is =
    let a = total_cons new ps in
    let b = total_cons p ps in
    let c = ap keys_of is in
    omega (arith, a, b, c)
total_set (p ∷ ps) (suc s) old new below is =
    let r = total_set ps s old new (omega arith) is in
    let a = total_cons p (slice_set ps s new) in
    let b = total_cons p ps in
    omega (arith, a, b, r)

-- a place that keeps its keys
pub total_same : (places : List (Option Step)) (s : ℕ) (old new : Step) → step_at places s ≡ Some old →
    keys_of (Some new) ≡ keys_of (Some old) → key_total (slice_set places s (Some new)) ≡ key_total places
total_same [] s old new is same = refl
total_same (p ∷ ps) zero old new is same =
    let a = total_cons (Some new) ps in
    let b = total_cons p ps in
    let c = ap keys_of is in
    omega (arith, a, b, c, same)
total_same (p ∷ ps) (suc s) old new is same =
    let r = total_same ps s old new is same in
    let a = total_cons p (slice_set ps s (Some new)) in
    let b = total_cons p ps in
    omega (arith, a, b, r)

-- an instance more is at most one key more
pub instance_keys : (inst : ℕ) (step : Step) → keys_of (Some (with_instance inst step)) ≤ keys_of (Some step) + 1
instance_keys inst step = go step.kept.multi
  where
    go : (multi : Bool) → cond multi (length (inst ∷ step.insts)) 1 ≤ cond multi (length step.insts) 1 + 1
    go true = omega arith
    go false = omega arith
