-- A table once the instances of a state are out: its record stays, and so do the other states.
use Rattle.std.proofs.Common.{◌≡◌, ◌≢◌, ℕ, ◌-◌, ◌≤◌, false, is_some, Option, Some, None, List, [], length, refl, ap, sym, ◌∙◌, arith}
use Rattle.std.specs.Prelude.{slice_set}
use Rattle.std.proofs.lemmas.Bool.{true≢false}
use Rattle.hp_states.specs.declared.limits.TheConstants.{MAX_TABLE_INSTANCES}
use Rattle.hp_table.specs.Step.{Step, step_at, bare, changed, changed_at}
use Rattle.hp_table.specs.Instances.{instances_of, instances_at, instance_count}
use Rattle.hp_table.specs.Inside.{IsCounted}
use Rattle.hp_table.specs.Totals.{made_at}
use Rattle.hp_table.proofs.Places.{within_places, set_same, step_at-changed_same, step_at-set_other}
use Rattle.hp_table.proofs.Counts.{count_part}
use Rattle.hp_table.proofs.Steps.{sound-bare}
use Rattle.hp_table.proofs.Tables.{counted_changed}

pub counted_cleared : (places : List (Option Step)) (s count : ℕ) (step : Step) → step_at places s ≡ Some step → IsCounted places count →
    (length step.insts ≤ count) × IsCounted (changed_at places s (λ x. bare x.kept)) (count - length step.insts)
counted_cleared places s count step there was =
    let part : length step.insts ≤ instance_count places = rw there at (count_part places s (within_places places s step there)) in
    let few : instance_count places ≤ MAX_TABLE_INSTANCES = was.sound.few in
    let less : length step.insts ≤ count = omega (arith, was.counts, part) in (
      less,
      counted_changed places s count (count - length step.insts) (λ x. bare x.kept) step there (sound-bare step.kept)
          (omega (arith, less)) (omega (arith, was.counts, few)) was,
    )

-- the state has no instances
pub cleared_none : (places : List (Option Step)) (s : ℕ) → instances_at (changed_at places s (λ x. bare x.kept)) s ≡ []
cleared_none places s = ap instances_of (step_at-changed_same places s (λ x. bare x.kept)) ∙ go (step_at places s)
  where
    go : (place : Option Step) → instances_of (changed (λ x. bare x.kept) place) ≡ []
    go None = refl
    go (Some step) = refl

-- its hook was called as often as before
pub cleared_made : (places : List (Option Step)) (s : ℕ) →
    made_at (step_at (changed_at places s (λ x. bare x.kept)) s) ≡ made_at (step_at places s)
cleared_made places s = ap made_at (step_at-changed_same places s (λ x. bare x.kept)) ∙ go (step_at places s)
  where
    go : (place : Option Step) → made_at (changed (λ x. bare x.kept) place) ≡ made_at place
    go None = refl
    go (Some step) = refl

pub cleared_others : (places : List (Option Step)) (s t : ℕ) → t ≢ s → step_at (changed_at places s (λ x. bare x.kept)) t ≡ step_at places t
cleared_others places s t other =
    step_at-set_other places s (changed (λ x. bare x.kept) (step_at places s)) t (λ same. other (sym same))

-- where nothing is registered the table is as before
pub uncleared : (places : List (Option Step)) (s : ℕ) → is_some (step_at places s) ≡ false →
    places ≡ changed_at places s (λ x. bare x.kept)
uncleared places s none = go (step_at places s) refl none
  where
    go : (place : Option Step) → step_at places s ≡ place → is_some place ≡ false →
        places ≡ slice_set places s (changed (λ x. bare x.kept) place)
    go None e h = sym (set_same places s None e)
    go (Some step) e h = absurd (true≢false h)
