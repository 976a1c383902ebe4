-- What stays so of a registered state when an instance comes or goes, or its hook is called or loaded.
use Rattle.std.proofs.Common.{◌≡◌, ◌≢◌, ℕ, suc, ◌+◌, ◌<◌, ◌≤◌, Bool, true, false, not, ◌||◌, cond, eqb, List, [], ◌∷◌, length, get_or, refl, ap, sym, ◌∙◌, arith}
use Rattle.std.specs.Prelude.{All, AllPairs, filter}
use Rattle.std.proofs.lemmas.Bool.{eqb-true, eqb-false, false≢true, true≢false, ne_eqb}
use Rattle.std.proofs.lemmas.List.Elements.{All-nil, All-cons, All-filter}
use Rattle.std.proofs.lemmas.List.Kept.{AllPairs-cons, AllPairs-filter}
use Rattle.hp_states.specs.declared.limits.TheConstants.{MAX_INSTANCES}
use Rattle.hp_table.specs.Kept.{Kept}
use Rattle.hp_table.specs.Step.{Step, bare}
use Rattle.hp_table.specs.Instances.{is_among, with_instance, without_instance}
use Rattle.hp_table.specs.Sound.{IsSoundStep}

pub sound-bare : (kept : Kept) → IsSoundStep (bare kept)
sound-bare kept =
    record {
      few = omega arith;
      numbered = All-nil (λ i. 0 < i);
      distinct = λ i j d lt below. absurd (omega arith);
      single = λ e. refl;
    }

-- the instances decide, with whether there is a list
pub sound_same : (old new : Step) → new.insts ≡ old.insts → new.kept.multi ≡ old.kept.multi → IsSoundStep old → IsSoundStep new
sound_same old new insts multi sound =
    record {
      few = rw insts sound.few;
      numbered = rw insts sound.numbered;
      distinct = rw insts sound.distinct;
      single = λ e. insts ∙ sound.single (sym multi ∙ e);
    }

-- an instance that isn't there differs from all that are
others : (inst : ℕ) (insts : List ℕ) → is_among inst insts ≡ false → All (λ i. inst ≢ i) insts
others inst [] none = All-nil (λ i. inst ≢ i)
others inst (x ∷ xs) none = go (eqb x inst) refl (others inst xs)
  where
    go : (b : Bool) → eqb x inst ≡ b → (is_among inst xs ≡ false → All (λ i. inst ≢ i) xs) → All (λ i. inst ≢ i) (x ∷ xs)
    go true e rest = absurd (true≢false (sym (ap (λ (t : Bool). t || is_among inst xs) e) ∙ none))
    go false e rest =
        All-cons (λ i. inst ≢ i) x xs (λ same. eqb-false x inst e (sym same))
        (rest (sym (ap (λ (t : Bool). t || is_among inst xs) e) ∙ none))

pub sound-with : (inst : ℕ) (step : Step) → 0 < inst → step.kept.multi ≡ true → is_among inst step.insts ≡ false →
    length step.insts < MAX_INSTANCES → IsSoundStep step → IsSoundStep (with_instance inst step)
sound-with inst step some multi new room sound =
    record {
      few = omega arith;
      numbered = All-cons (λ i. 0 < i) inst step.insts some sound.numbered;
      distinct = AllPairs-cons (λ i j. i ≢ j) inst step.insts (others inst step.insts new) sound.distinct;
      single = λ e. absurd (true≢false (sym multi ∙ e));
    }

-- a test that takes all leaves the list
takes_all : (p : ℕ → Bool) (xs : List ℕ) → All (λ x. p x ≡ true) xs → filter p xs ≡ xs
takes_all p [] all = refl
takes_all p (x ∷ xs) all =
    let here : p x ≡ true = all 0 0 (omega arith) in
    let there : filter p xs ≡ xs = takes_all p xs (λ k d below. all (suc k) d (omega arith)) in
    rw here (ap (λ (ys : List ℕ). x ∷ ys) there)

pub filter_shorter : (p : ℕ → Bool) (xs : List ℕ) → length (filter p xs) ≤ length xs
filter_shorter p [] = omega arith
filter_shorter p (x ∷ xs) = go (p x) (filter_shorter p xs)
  where
    go : (b : Bool) → length (filter p xs) ≤ length xs → length (cond b (x ∷ filter p xs) (filter p xs)) ≤ suc (length xs)
    go true rest = omega arith
    go false rest = omega arith

pub sound-without : (inst : ℕ) (step : Step) → IsSoundStep step → IsSoundStep (without_instance inst step)
sound-without inst step sound =
    let p : ℕ → Bool = λ (i : ℕ). not (eqb i inst) in
    record {
      few = let h : length (filter p step.insts) ≤ length step.insts = filter_shorter p step.insts in omega (arith, sound.few);
      numbered = All-filter p (λ i. 0 < i) step.insts sound.numbered;
      distinct = AllPairs-filter (λ i j. i ≢ j) p step.insts sound.distinct;
      single = λ e. ap (filter p) (sound.single e);
    }

-- one instance less is there
pub one_less : (inst : ℕ) (insts : List ℕ) → AllPairs (λ i j. i ≢ j) insts → is_among inst insts ≡ true →
    length (filter (λ i. not (eqb i inst)) insts) + 1 ≡ length insts
one_less inst [] distinct there = absurd (false≢true there)
one_less inst (x ∷ xs) distinct there = go (eqb x inst) refl (one_less inst xs later)
  where
    p : ℕ → Bool
    p i = not (eqb i inst)

    later : AllPairs (λ i j. i ≢ j) xs
    later = λ i j d lt below. distinct (suc i) (suc j) d (omega arith) (omega arith)

    go : (b : Bool) → eqb x inst ≡ b → (is_among inst xs ≡ true → length (filter p xs) + 1 ≡ length xs) → length (filter p (x ∷ xs)) + 1 ≡ suc (length xs)
    go true e less =
        let same : x ≡ inst = eqb-true x inst e in
        let all : filter p xs ≡ xs =
        takes_all p xs (λ k d below. ap not (ne_eqb (get_or xs k d) inst (λ is. distinct 0 (suc k) d (omega arith) (omega arith) (same ∙ sym is)))) in
        rw (e, all) (omega arith)
    go false e less =
        let rest : length (filter p xs) + 1 ≡ length xs =
        less (sym (ap (λ (t : Bool). t || is_among inst xs) e) ∙ there) in
        rw e (omega arith)
