-- The set of the states where something is registered, after a write.
use Rattle.std.proofs.Common.{◌≡◌, ◌≢◌, ℕ, ◌<◌, false, not, ◌||◌, ◌&&◌, eqb, Option, Some, None, is_some, List, length, refl, ap, sym, ◌∙◌, subst, ⊎_elim}
use Rattle.std.specs.Prelude.{slice_set, replicate}
use Rattle.std.proofs.lemmas.Bool.{cases_eq, ne_eqb, eq-eqb}
use Rattle.hp_states.specs.CpuSets.{has}
use Rattle.hp_states.specs.declared.cpu_set.CpuSet.{CpuSet}
use Rattle.hp_table.specs.Step.{Step, step_at, changed, changed_at}
use Rattle.hp_table.specs.Inside.{IsCounted, IsInside, IsMarked}
use Rattle.hp_table.proofs.Places.{at_each, step_at-changed_same, step_at-set_other, step_at-replicate, written}

-- a change of what is registered leaves it registered
pub marked_changed : (places : List (Option Step)) (s : ℕ) (f : Step → Step) (states : CpuSet) → IsMarked places states →
    IsMarked (changed_at places s f) states
marked_changed places s f states was t =
    ⊎_elim
    (λ (same : s ≡ t). subst (λ u. has states u ≡ is_some (step_at (changed_at places s f) u)) same here)
    (λ (other : s ≢ t). was t ∙ ap is_some (sym (step_at-set_other places s (changed f (step_at places s)) t other)))
    (cases_eq s t)
  where
    kept : (place : Option Step) → is_some place ≡ is_some (changed f place)
    kept None = refl
    kept (Some step) = refl

    here : has states s ≡ is_some (step_at (changed_at places s f) s)
    here = was s ∙ kept (step_at places s) ∙ ap is_some (sym (step_at-changed_same places s f))

-- a step written, which is the one that stands there, changed
pub inside_written : (places : List (Option Step)) (s after : ℕ) (f : Step → Step) (step new : Step) (states : CpuSet) →
    step_at places s ≡ Some step → new ≡ f step → IsCounted (changed_at places s f) after → IsMarked places states →
    IsInside (slice_set places s (Some new)) after states
inside_written places s after f step new states there is counted marked =
    subst (λ xs. IsInside xs after states) (sym (written places s f step new there is))
    (record { counted = counted; marked = marked_changed places s f states marked })

-- the first table
pub marked_none : (n : ℕ) (states : CpuSet) → ((t : ℕ) → has states t ≡ false) → IsMarked (replicate n None) states
marked_none n states none t = none t ∙ ap is_some (sym (step_at-replicate n t))

-- something is registered
pub marked_more : (places : List (Option Step)) (s : ℕ) (step : Step) (states after : CpuSet) → s < length places →
    IsMarked places states → ((t : ℕ) → has after t ≡ (eqb t s || has states t)) → IsMarked (slice_set places s (Some step)) after
marked_more places s step states after below was put =
    at_each (λ t p. has after t ≡ is_some p) places s (Some step) below
    (put s ∙ ap (λ b. b || has states s) (eq-eqb s s refl))
    (λ t other. put t ∙ ap (λ b. b || has states t) (ne_eqb t s (λ e. other (sym e))) ∙ was t)

-- something is no more
pub marked_less : (places : List (Option Step)) (s : ℕ) (states after : CpuSet) → s < length places →
    IsMarked places states → ((t : ℕ) → has after t ≡ (not (eqb t s) && has states t)) → IsMarked (slice_set places s None) after
marked_less places s states after below was taken =
    at_each (λ t p. has after t ≡ is_some p) places s None below
    (taken s ∙ ap (λ b. not b && has states s) (eq-eqb s s refl))
    (λ t other. taken t ∙ ap (λ b. not b && has states t) (ne_eqb t s (λ e. other (sym e))) ∙ was t)
