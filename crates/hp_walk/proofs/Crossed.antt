-- The plans on both sides of a state that a walk crosses: what is ahead of it, and the rollback behind it.
use Rattle.std.proofs.Common.{◌≡◌, ◌≢◌, ℕ, ◌-◌, ◌<◌, ◌≤◌, Bool, true, false, cond, ltb, List, [], ◌∷◌, length, refl, arith}
use Rattle.std.proofs.lemmas.Bool.{ltb-true, ltb-false}
use Rattle.hp_states.specs.declared.dir.Dir.{Dir}
use Rattle.hp_states.specs.declared.dir.Dir.TheVariants.{Up, Down}
use Rattle.hp_states.specs.Sections.{opposite}
use Rattle.hp_states.specs.Crossings.{state_before, state_after}
use Rattle.hp_model.specs.Lists.{is_empty}
use Rattle.hp_model.specs.Plan.{direction, plan}
use Rattle.hp_model.proofs.PlanLemmas.{plan_up_next, plan_down_next, plan_up_past, plan_down_past, plan_up_none, plan_down_none}
use Rattle.hp_walk.specs.Keys.{IsCrossed, IsNextState, IsNoState}

-- a state of the way from one to another, both included
abbrev pub IsBetween : Dir → (from to state : ℕ) → Type 0
IsBetween Up from to x = (from ≤ x) × (x ≤ to)
IsBetween Down from to x = (to ≤ x) × (x ≤ from)

pub has_key : (xs : List ℕ) → xs ≢ [] → is_empty xs ≡ false
has_key [] h = absurd (h refl)
has_key (x ∷ xs) h = refl

pub some_key : (xs : List ℕ) → xs ≢ [] → 0 < length xs
some_key [] h = absurd (h refl)
some_key (x ∷ xs) h = omega arith

pub not_none : (xs : List ℕ) (k : ℕ) → k < length xs → xs ≢ []
not_none [] k below e = absurd (omega arith)
not_none (x ∷ xs) k below e = cc

pub begins_between : (from to : ℕ) → IsBetween (direction from to) from to from
begins_between from to = go (ltb from to) refl
  where
    go : (up : Bool) → ltb from to ≡ up → IsBetween (cond up Up Down) from to from
    go true e = let lt = ltb-true from to e in (omega arith, omega arith)
    go false e = let le = ltb-false from to e in (omega arith, omega arith)

pub near_between : (d : Dir) (from to s : ℕ) → IsCrossed d from to s → IsBetween d from to (state_before d s)
near_between Up from to s h = (omega arith, omega arith)
near_between Down from to s h = (omega arith, omega arith)

pub far_between : (d : Dir) (from to s : ℕ) → IsCrossed d from to s → IsBetween d from to (state_after d s)
far_between Up from to s h = (omega arith, omega arith)
far_between Down from to s h = (omega arith, omega arith)

-- what is crossed from a state of the way on is crossed by the walk, ahead and in the rollback
pub crossed_ahead : (d : Dir) (from to x s : ℕ) → IsBetween d from to x → IsCrossed d x to s → IsCrossed d from to s
crossed_ahead Up from to x s b h = (omega arith, omega arith)
crossed_ahead Down from to x s b h = (omega arith, omega arith)

pub crossed_behind : (d : Dir) (from to x s : ℕ) → IsBetween d from to x → IsCrossed (opposite d) x from s → IsCrossed d from to s
crossed_behind Up from to x s b h = (omega arith, omega arith)
crossed_behind Down from to x s b h = (omega arith, omega arith)

-- the plan from a state on begins with the next that has a key
pub plan_next : (keys : ℕ → List ℕ) (d : Dir) (x to s : ℕ) → IsNextState keys d x to s →
    plan keys x to ≡ s ∷ plan keys (state_after d s) to
plan_next keys Up x to s h =
    plan_up_next keys x s to h.crossed.0 h.crossed.1 (has_key (keys s) h.has_key)
    (λ t above below. h.none_before t (above, omega (arith, h.crossed.1)) below)
plan_next keys Down x to s h =
    plan_down_next keys to s x h.crossed.0 h.crossed.1 (has_key (keys s) h.has_key)
    (λ t above below. h.none_before t (omega (arith, h.crossed.0), below) above)

-- and is empty where there is none, ahead and in the rollback
pub plan_ahead_none : (keys : ℕ → List ℕ) (d : Dir) (from to x : ℕ) → IsBetween d from to x → IsNoState keys d x to →
    plan keys x to ≡ []
plan_ahead_none keys Up from to x b h = plan_up_none keys x to b.1 (λ t above below. h t (above, below))
plan_ahead_none keys Down from to x b h = plan_down_none keys to x b.0 (λ t above below. h t (above, below))

pub plan_behind_none : (keys : ℕ → List ℕ) (d : Dir) (from to x : ℕ) → IsBetween d from to x → IsNoState keys (opposite d) x from →
    plan keys x from ≡ []
plan_behind_none keys Up from to x b h = plan_down_none keys from x b.0 (λ t above below. h t (above, below))
plan_behind_none keys Down from to x b h = plan_up_none keys x from b.1 (λ t above below. h t (above, below))

-- the rollback from before the next state is that from the state that was reached
pub plan_behind_same : (keys : ℕ → List ℕ) (d : Dir) (from to x s : ℕ) → IsBetween d from to x → IsNextState keys d x to s →
    plan keys (state_before d s) from ≡ plan keys x from
plan_behind_same keys Up from to x s b h =
    plan_down_past keys from x (s - 1) b.0 (omega (arith, h.crossed.0))
    (λ t above below. h.none_before t (above, omega (arith, below, h.crossed.0, h.crossed.1)) (omega (arith, below, above)))
plan_behind_same keys Down from to x s b h =
    plan_up_past keys s x from h.crossed.1 b.1
    (λ t above below. h.none_before t (omega (arith, above, h.crossed.0), below) above)

-- a state that was crossed is the first of the rollback
pub crossed_again : (keys : ℕ → List ℕ) (d : Dir) (from to s : ℕ) → IsCrossed d from to s → keys s ≢ [] →
    IsNextState keys (opposite d) (state_after d s) from s
crossed_again keys Up from to s h some = record {
  crossed = (h.0, omega arith);
  has_key = some;
  none_before = λ t in_way before. absurd (omega (arith, in_way.1, before));
}
crossed_again keys Down from to s h some = record {
  crossed = (omega (arith, h.0), h.1);
  has_key = some;
  none_before = λ t in_way before. absurd (omega (arith, in_way.0, before));
}

pub plan_behind_crossed : (keys : ℕ → List ℕ) (d : Dir) (from to s : ℕ) → IsCrossed d from to s → keys s ≢ [] →
    plan keys (state_after d s) from ≡ s ∷ plan keys (state_before d s) from
plan_behind_crossed keys Up from to s h some = plan_next keys Down s from s (crossed_again keys Up from to s h some)
plan_behind_crossed keys Down from to s h some = plan_next keys Up (s - 1) from s (crossed_again keys Down from to s h some)
