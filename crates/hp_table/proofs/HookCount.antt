-- How many hooks the places have after a write, and along the states.
use Rattle.std.proofs.Common.{◌≡◌, ℕ, zero, suc, ◌+◌, ◌<◌, Option, Some, None, List, [], ◌∷◌, ◌++◌, take, length, append_assoc, refl, sym, ap, ◌∙◌, arith}
use Rattle.std.specs.Prelude.{slice_set, replicate}
use Rattle.hp_table.specs.Step.{Step, step_at, changed, changed_at}
use Rattle.std.proofs.lemmas.List.{append-nil, length-replicate}
use Rattle.hp_table.specs.Totals.{made_at, made_of}
use Rattle.hp_table.proofs.Places.{step_at-replicate}

pub hooks_same : (places : List (Option Step)) (s : ℕ) (old new : Step) → step_at places s ≡ Some old →
    length (made_of (slice_set places s (Some new))) ≡ length (made_of places)
hooks_same [] s old new there = absurd (cc there)
hooks_same (None ∷ ps) zero old new there = absurd (cc there)
hooks_same (Some p ∷ ps) zero old new there = refl
hooks_same (None ∷ ps) (suc s) old new there = hooks_same ps s old new there
hooks_same (Some p ∷ ps) (suc s) old new there = ap suc (hooks_same ps s old new there)

-- a step that is changed is as many
pub hooks_called : (places : List (Option Step)) (s : ℕ) (f : Step → Step) (step : Step) → step_at places s ≡ Some step →
    length (made_of (changed_at places s f)) ≡ length (made_of places)
hooks_called places s f step there =
    ap (λ p. length (made_of (slice_set places s (changed f p)))) there ∙ hooks_same places s step (f step) there

pub hooks_more : (places : List (Option Step)) (s : ℕ) (new : Step) → s < length places → step_at places s ≡ None →
    length (made_of (slice_set places s (Some new))) ≡ length (made_of places) + 1
hooks_more [] s new below vacant = absurd (omega arith)
hooks_more (None ∷ ps) zero new below vacant = omega arith
hooks_more (Some p ∷ ps) zero new below vacant = absurd (cc vacant)
hooks_more (None ∷ ps) (suc s) new below vacant = hooks_more ps s new (omega arith) vacant
hooks_more (Some p ∷ ps) (suc s) new below vacant = let more = hooks_more ps s new (omega arith) vacant in omega (arith, more)

-- a place that is emptied is one less
pub hooks_less : (places : List (Option Step)) (s : ℕ) (old : Step) → step_at places s ≡ Some old →
    length (made_of (slice_set places s None)) + 1 ≡ length (made_of places)
hooks_less [] s old there = absurd (cc there)
hooks_less (None ∷ ps) zero old there = absurd (cc there)
hooks_less (Some p ∷ ps) zero old there = omega arith
hooks_less (None ∷ ps) (suc s) old there = hooks_less ps s old there
hooks_less (Some p ∷ ps) (suc s) old there = let less = hooks_less ps s old there in omega (arith, less)

-- a table where nothing is registered
pub vacant_of : (table : List (Option Step)) (n s : ℕ) → table ≡ replicate n None → step_at table s ≡ None
vacant_of table n s is = rw is (step_at-replicate n s)

pub states_of : (table : List (Option Step)) (n : ℕ) → table ≡ replicate n None → length table ≡ n
states_of table n is = ap length is ∙ length-replicate n None

-- places without hooks
pub no_hooks : (places : List (Option Step)) → ((s : ℕ) → step_at places s ≡ None) → length (made_of places) ≡ 0
no_hooks [] vacant = refl
no_hooks (None ∷ ps) vacant = no_hooks ps (λ s. vacant (suc s))
no_hooks (Some p ∷ ps) vacant = absurd (cc (vacant 0))

pub no_hooks_of : (table : List (Option Step)) (n : ℕ) → table ≡ replicate n None → length (made_of table) ≡ 0
no_hooks_of table n is = no_hooks table (λ s. vacant_of table n s is)

-- the hooks of the states up to one more
made_suc : (places : List (Option Step)) (k : ℕ) → k < length places →
    made_of (take (suc k) places) ≡ made_of (take k places) ++ made_at (step_at places k)
made_suc [] k below = absurd (omega arith)
made_suc (p ∷ ps) zero below = append-nil (made_at p)
made_suc (p ∷ ps) (suc k) below =
    ap (λ xs. made_at p ++ xs) (made_suc ps k (omega arith))
    ∙ sym (append_assoc (made_at p) (made_of (take k ps)) (made_at (step_at ps k)))

pub made_next : (places : List (Option Step)) (k : ℕ) → k < length places →
    made_of (take (k + 1) places) ≡ made_of (take k places) ++ made_at (step_at places k)
made_next places k below =
    let e : k + 1 ≡ suc k = omega arith in ap (λ n. made_of (take n places)) e ∙ made_suc places k below
