-- What stays so of a table when one place is written.
use Rattle.std.proofs.Common.{◌≡◌, ℕ, ◌+◌, ◌<◌, ◌≤◌, Bool, true, false, ◌||◌, Option, Some, None, IfSome, is_some, List, [], length, refl, ap, sym, ◌∙◌, subst, arith}
use Rattle.std.specs.Prelude.{slice_set, replicate}
use Rattle.std.proofs.lemmas.List.{length-set, length-replicate}
use Rattle.std.proofs.lemmas.Bool.{true≢false, false≢true}
use Rattle.hp_states.specs.declared.limits.TheConstants.{MAX_TABLE_INSTANCES, ONLINE}
use Rattle.hp_table.specs.Kept.{Kept}
use Rattle.hp_table.specs.Step.{Step, step_at, bare, changed, changed_at}
use Rattle.hp_table.specs.Named.{is_builtin, is_named}
use Rattle.hp_table.specs.Instances.{instance_count}
use Rattle.hp_table.specs.Sound.{IsSound, IsSoundStep}
use Rattle.hp_table.specs.Inside.{IsCounted}
use Rattle.hp_table.proofs.Places.{step_at-replicate, at_each, within_places}
use Rattle.hp_table.proofs.Counts.{count_after, count-replicate}
use Rattle.hp_table.proofs.Steps.{sound_same, sound-bare}

-- a table stays sound where what is written is sound, stands at no built-in state and isn't too much
pub sound_set : (places : List (Option Step)) (s : ℕ) (place : Option Step) → s < length places →
    (is_builtin s ≡ true → place ≡ None) → IfSome place IsSoundStep →
    instance_count (slice_set places s place) ≤ MAX_TABLE_INSTANCES →
    IsSound places → IsSound (slice_set places s place)
sound_set places s place below builtin step few sound =
    record {
      states = length-set places s place ∙ sound.states;
      builtins = at_each (λ t p. is_builtin t ≡ true → p ≡ None) places s place below builtin (λ t other. sound.builtins t);
      steps = at_each (λ t p. IfSome p IsSoundStep) places s place below step (λ t other. sound.steps t);
      few = few;
    }

-- the first table
pub counted_empty : (n : ℕ) → n ≡ ONLINE + 1 → IsCounted (replicate n None) 0
counted_empty n is =
    record {
      sound =
          record {
            states = length-replicate n None ∙ is;
            builtins = λ s builtin. step_at-replicate n s;
            steps = λ s. subst (λ p. IfSome p IsSoundStep) (sym (step_at-replicate n s)) tt;
            few = rw (count-replicate n) (omega arith);
          };
      counts = sym (count-replicate n);
    }

-- nothing that is registered stands at a built-in state
pub not_builtin : (places : List (Option Step)) (s : ℕ) (step : Step) → step_at places s ≡ Some step → IsSound places → is_builtin s ≡ true → ⊥
not_builtin places s step there sound builtin = let none : step_at places s ≡ None = sound.builtins s builtin in cc

-- what is registered, changed by a function that keeps its soundness and gives so many instances
pub counted_changed : (places : List (Option Step)) (s count after : ℕ) (f : Step → Step) (step : Step) → step_at places s ≡ Some step →
    IsSoundStep (f step) → after + length step.insts ≡ count + length (f step).insts → after ≤ MAX_TABLE_INSTANCES →
    IsCounted places count → IsCounted (changed_at places s f) after
counted_changed places s count after f step there sound counts few was =
    let below : s < length places = within_places places s step there in
    let total : instance_count (slice_set places s (Some (f step))) + length step.insts ≡ instance_count places + length (f step).insts =
    rw there at (count_after places s (Some (f step)) below) in
    let now : after ≡ instance_count (slice_set places s (Some (f step))) = omega (arith, was.counts, total) in
    let all : IsSound (slice_set places s (Some (f step))) =
    sound_set places s (Some (f step)) below (λ builtin. absurd (not_builtin places s step there was.sound builtin)) sound (omega arith) was.sound in
    let result : IsCounted (slice_set places s (Some (f step))) after = record { sound = all; counts = now } in
    subst (λ p. IsCounted (slice_set places s (changed f p)) after) (sym there) result

-- a change that leaves the instances as they were
pub counted_kept : (places : List (Option Step)) (s count : ℕ) (f : Step → Step) (step : Step) → step_at places s ≡ Some step →
    (f step).insts ≡ step.insts → (f step).kept.multi ≡ step.kept.multi → IsCounted places count → IsCounted (changed_at places s f) count
counted_kept places s count f step there insts multi was =
    let old : IsSoundStep step = rw there at (was.sound.steps s) in
    let few : instance_count places ≤ MAX_TABLE_INSTANCES = was.sound.few in
    counted_changed places s count count f step there (sound_same step (f step) insts multi old) (rw insts refl) (omega (arith, was.counts)) was

-- a record installed, and one taken out
pub counted_installed : (places : List (Option Step)) (s count : ℕ) (kept : Kept) → s < ONLINE → is_named places s ≡ false →
    IsCounted places count → IsCounted (slice_set places s (Some (bare kept))) count
counted_installed places s count kept below free was =
    let within : s < length places = let e : length places ≡ ONLINE + 1 = was.sound.states in omega arith in
    let none : step_at places s ≡ None = empty (is_builtin s) (step_at places s) free in
    let total : instance_count (slice_set places s (Some (bare kept))) + 0 ≡ instance_count places + 0 =
    rw none at (count_after places s (Some (bare kept)) within) in
    let few : instance_count places ≤ MAX_TABLE_INSTANCES = was.sound.few in
    record {
      sound =
          sound_set places s (Some (bare kept)) within
          (λ builtin. absurd (taken (is_builtin s) (is_some (step_at places s)) free builtin)) (sound-bare kept) (omega arith) was.sound;
      counts = omega (arith, was.counts, total);
    }
  where
    empty : (b : Bool) (place : Option Step) → (b || is_some place) ≡ false → place ≡ None
    empty true place e = absurd (true≢false e)
    empty false None e = refl
    empty false (Some step) e = absurd (true≢false e)

    taken : (b t : Bool) → (b || t) ≡ false → b ≡ true → ⊥
    taken true t e is = true≢false e
    taken false t e is = false≢true is

pub counted_uninstalled : (places : List (Option Step)) (s count : ℕ) (step : Step) → step_at places s ≡ Some step → step.insts ≡ [] →
    IsCounted places count → IsCounted (slice_set places s None) count
counted_uninstalled places s count step there bare was =
    let below : s < length places = within_places places s step there in
    let total : instance_count (slice_set places s None) + length step.insts ≡ instance_count places + 0 =
    rw there at (count_after places s None below) in
    let none : length step.insts ≡ 0 = ap length bare in
    let few : instance_count places ≤ MAX_TABLE_INSTANCES = was.sound.few in
    record {
      sound = sound_set places s None below (λ builtin. refl) tt (omega arith) was.sound;
      counts = omega (arith, was.counts, total);
    }
