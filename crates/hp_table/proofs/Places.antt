-- What stands at a state: read from the list of places, and after a write.
use Rattle.std.proofs.Common.{◌≡◌, ◌≢◌, ℕ, zero, suc, ◌<◌, ◌≤◌, Bool, true, false, cond, eqb, Option, Some, None, IsSome, List, [], ◌∷◌, length, get_or, refl, ap, sym, ◌∙◌, subst, arith, ⊎_elim}
use Rattle.std.specs.Prelude.{slice_set, replicate}
use Rattle.std.proofs.lemmas.Bool.{cases_eq, eqb-true, eqb-false, false≢true}
use Rattle.hp_table.specs.Step.{Step, step_at, changed, changed_at}

-- the element at a state is what stands there
pub step_at-read : (places : List (Option Step)) (s : ℕ) (place : Option Step) → s < length places →
    place ≡ get_or places s place → step_at places s ≡ place
step_at-read [] s place below is = absurd (omega arith)
step_at-read (x ∷ xs) zero place below is = sym is
step_at-read (x ∷ xs) (suc s) place below is = step_at-read xs s place (omega arith) is

pub get_or-step_at : (places : List (Option Step)) (s : ℕ) → s < length places → get_or places s None ≡ step_at places s
get_or-step_at [] s below = absurd (omega arith)
get_or-step_at (x ∷ xs) zero below = refl
get_or-step_at (x ∷ xs) (suc s) below = get_or-step_at xs s (omega arith)

-- past the places nothing stands
pub step_at-past : (places : List (Option Step)) (s : ℕ) → length places ≤ s → step_at places s ≡ None
step_at-past [] s past = refl
step_at-past (x ∷ xs) zero past = absurd (omega arith)
step_at-past (x ∷ xs) (suc s) past = step_at-past xs s (omega arith)

-- what stands somewhere is at a place
pub within_places : (places : List (Option Step)) (s : ℕ) (step : Step) → step_at places s ≡ Some step → s < length places
within_places [] s step is = absurd (cc)
within_places (x ∷ xs) zero step is = omega arith
within_places (x ∷ xs) (suc s) step is = let below : s < length xs = within_places xs s step is in omega arith

pub step_at-set_same : (places : List (Option Step)) (s : ℕ) (place : Option Step) → s < length places →
    step_at (slice_set places s place) s ≡ place
step_at-set_same [] s place below = absurd (omega arith)
step_at-set_same (x ∷ xs) zero place below = refl
step_at-set_same (x ∷ xs) (suc s) place below = step_at-set_same xs s place (omega arith)

pub step_at-set_other : (places : List (Option Step)) (s : ℕ) (place : Option Step) (t : ℕ) → s ≢ t →
    step_at (slice_set places s place) t ≡ step_at places t
step_at-set_other [] s place t other = refl
step_at-set_other (x ∷ xs) zero place zero other = absurd (other refl)
step_at-set_other (x ∷ xs) zero place (suc t) other = refl
step_at-set_other (x ∷ xs) (suc s) place zero other = refl
step_at-set_other (x ∷ xs) (suc s) place (suc t) other = step_at-set_other xs s place t (λ e. other (ap suc e))

-- what holds at the place that is written and at each other place
pub at_each : (P : ℕ → Option Step → Type 0) (places : List (Option Step)) (state : ℕ) (place : Option Step) →
    state < length places → P state place → ((s : ℕ) → state ≢ s → P s (step_at places s)) →
    (s : ℕ) → P s (step_at (slice_set places state place) s)
at_each P places state place below here there s =
    ⊎_elim
    (λ (same : state ≡ s).
    subst (λ t. P t (step_at (slice_set places state place) t)) same
    (subst (P state) (sym (step_at-set_same places state place below)) here))
    (λ (other : state ≡ s → ⊥). subst (P s) (sym (step_at-set_other places state place s other)) (there s other))
    (cases_eq state s)

-- what stands at each state after a write
pub step_at-set : (places : List (Option Step)) (s : ℕ) (place : Option Step) (t : ℕ) → s < length places →
    step_at (slice_set places s place) t ≡ cond (eqb s t) place (step_at places t)
step_at-set places s place t below = go (eqb s t) refl
  where
    go : (b : Bool) → eqb s t ≡ b → step_at (slice_set places s place) t ≡ cond b place (step_at places t)
    go true e = let same : s ≡ t = eqb-true s t e in rw (← same) (step_at-set_same places s place below)
    go false e = step_at-set_other places s place t (eqb-false s t e)

-- a write of what stands there already changes nothing
pub set_same : (places : List (Option Step)) (s : ℕ) (place : Option Step) → step_at places s ≡ place → slice_set places s place ≡ places
set_same [] s place is = refl
set_same (x ∷ xs) zero place is = ap (λ (y : Option Step). y ∷ xs) (sym is)
set_same (x ∷ xs) (suc s) place is = ap (λ (ys : List (Option Step)). x ∷ ys) (set_same xs s place is)

-- and after a change
pub step_at-changed_same : (places : List (Option Step)) (s : ℕ) (f : Step → Step) →
    step_at (changed_at places s f) s ≡ changed f (step_at places s)
step_at-changed_same places s f = go (step_at places s) refl
  where
    go : (place : Option Step) → step_at places s ≡ place → step_at (slice_set places s (changed f place)) s ≡ changed f place
    go None e = ap (λ xs. step_at xs s) (set_same places s None e) ∙ e
    go (Some step) e = step_at-set_same places s (Some (f step)) (within_places places s step e)

-- nothing stands at a place of the empty table
pub step_at-replicate : (n s : ℕ) → step_at (replicate n None) s ≡ None
step_at-replicate zero s = refl
step_at-replicate (suc n) zero = refl
step_at-replicate (suc n) (suc s) = step_at-replicate n s

-- where something is registered there is a place
pub within_some : (places : List (Option Step)) (s : ℕ) → IsSome (step_at places s) → s < length places
within_some [] s some = absurd (false≢true some)
within_some (x ∷ xs) zero some = omega arith
within_some (x ∷ xs) (suc s) some = let below : s < length xs = within_some xs s some in omega arith

-- what is read at a place where something is registered
pub found_there : (places : List (Option Step)) (s : ℕ) (place : Option Step) (step : Step) → IsSome (step_at places s) →
    place ≡ get_or places s place → place ≡ Some step → step_at places s ≡ Some step
found_there places s place step some read is = step_at-read places s place (within_some places s some) read ∙ is

-- a write of what is there, changed
pub written : (places : List (Option Step)) (s : ℕ) (f : Step → Step) (step new : Step) → step_at places s ≡ Some step →
    new ≡ f step → slice_set places s (Some new) ≡ changed_at places s f
written places s f step new there is = rw (is, there) refl

-- something is read there
pub none_there : (places : List (Option Step)) (s : ℕ) (place : Option Step) → IsSome (step_at places s) →
    place ≡ get_or places s place → place ≡ None → ⊥
none_there places s place some read is =
    let none : step_at places s ≡ None = step_at-read places s place (within_some places s some) read ∙ is in
    false≢true (rw none at some)
