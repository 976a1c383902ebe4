-- The states of the slots of a walk that fail: how it ends is told by them.
use Rattle.std.proofs.Common.{◌≡◌, ℕ, ◌≤◌, Bool, true, false, cond, List, [], ◌∷◌, ◌++◌, length, reverse, refl, ap, arith}
use Rattle.hp_states.specs.declared.dir.Dir.{Dir}
use Rattle.hp_states.specs.declared.place.Place.{Place}
use Rattle.hp_states.specs.declared.place.Place.TheVariants.{Forward, Back, Part}
use Rattle.hp_states.specs.Sections.{opposite}
use Rattle.hp_model.specs.Crossing.{Slot, visit, Crossing, done, failed, far, slots_of, slots}
use Rattle.hp_model.specs.Lists.{is_empty}
use Rattle.hp_model.specs.WalkShape.{Outcome, went, returned, stopped, crossed, IsWalkShape}
use Rattle.hp_model.proofs.NextSlot.{split-returned, split-stuck}

-- the states of the slots that fail
abbrev pub failing : List Slot → List ℕ
failing [] = []
failing (x ∷ xs) = cond x.fails (x.state ∷ failing xs) (failing xs)

pub failing-append : (xs ys : List Slot) → failing (xs ++ ys) ≡ failing xs ++ failing ys
failing-append [] ys = refl
failing-append (x ∷ xs) ys = go x.fails (failing-append xs ys)
  where
    go : (b : Bool) → failing (xs ++ ys) ≡ failing xs ++ failing ys →
        cond b (x.state ∷ failing (xs ++ ys)) (failing (xs ++ ys)) ≡ cond b (x.state ∷ failing xs) (failing xs) ++ failing ys
    go true h = ap (λ z. x.state ∷ z) h
    go false h = h

pub failing-visit : (c : ℕ) (p : Place) (d : Dir) (s : ℕ) (b : Bool) (is : List ℕ) → failing (visit c p d s b is) ≡ []
failing-visit c p d s b [] = refl
failing-visit c p d s b (i ∷ is) = failing-visit c p d s false is

pub failing-crossed : (c : ℕ) (keys : ℕ → List ℕ) (p : Place) (d : Dir) (ss : List ℕ) → failing (slots c keys (crossed p d ss)) ≡ []
failing-crossed c keys p d [] = refl
failing-crossed c keys p d (s ∷ ss) =
    rw (failing-append (visit c p d s true (keys s)) (slots c keys (crossed p d ss)), failing-visit c p d s true (keys s))
    (failing-crossed c keys p d ss)

pub failing-failed : (c : ℕ) (keys : ℕ → List ℕ) (p : Place) (d : Dir) (s : ℕ) (earlier : List ℕ) (i : ℕ) →
    failing (slots_of c keys (failed p d s earlier i)) ≡ s ∷ []
failing-failed c keys p d s earlier i =
    let x : Slot = record { cpu = c; state = s; inst = i; dir = d; place = p; first = is_empty earlier; fails = true } in
    rw (
      failing-append (visit c p d s true earlier) (x ∷ visit c Part (opposite d) s false earlier),
      failing-visit c p d s true earlier,
      failing-visit c Part (opposite d) s false earlier,
    )
    refl

-- the states that fail, in a walk that ends so
abbrev pub IsFailing : Outcome → Dir → List ℕ → Type 0
IsFailing went d fs = fs ≡ []
IsFailing returned d fs = (s : ℕ) × (fs ≡ s ∷ [])
IsFailing (stopped at) d fs = (s t : ℕ) × (fs ≡ s ∷ t ∷ []) × (at ≡ far d t)

shape_failing : (c : ℕ) (keys : ℕ → List ℕ) (d : Dir) (plan : List ℕ) (xs : List Crossing) (o : Outcome) →
    IsWalkShape keys d plan xs o → IsFailing o d (failing (slots c keys xs))
shape_failing c keys d plan xs went h = rw h (failing-crossed c keys Forward d plan)
shape_failing c keys d plan xs returned h =
    let x : Crossing = failed Forward d h.state h.earlier h.inst in
    let back : List Crossing = crossed Back (opposite d) (reverse h.before) in (
      h.state,
      rw (
        h.crossings_are,
        split-returned failing (λ ss ts. ss ++ ts) failing-append c keys (crossed Forward d h.before) x back,
        failing-crossed c keys Forward d h.before,
        failing-failed c keys Forward d h.state h.earlier h.inst,
        failing-crossed c keys Back (opposite d) (reverse h.before),
      )
          refl,
    )
shape_failing c keys d plan xs (stopped at) h =
    let x : Crossing = failed Forward d h.state h.earlier h.inst in
    let y : Crossing = failed Back (opposite d) h.stuck_state h.stuck_earlier h.stuck_inst in
    let z : Crossing = done Forward d h.stuck_state in
    let back : List Crossing = crossed Back (opposite d) (reverse h.between) in
    let mid : List Crossing = crossed Forward d h.between in (
      h.state,
      h.stuck_state,
      rw (
        h.crossings_are,
        split-stuck failing (λ ss ts. ss ++ ts) failing-append c keys (crossed Forward d h.before) z mid x back y,
        failing-crossed c keys Forward d h.before,
        failing-visit c Forward d h.stuck_state true (keys h.stuck_state),
        failing-crossed c keys Forward d h.between,
        failing-failed c keys Forward d h.state h.earlier h.inst,
        failing-crossed c keys Back (opposite d) (reverse h.between),
        failing-failed c keys Back (opposite d) h.stuck_state h.stuck_earlier h.stuck_inst,
      )
          refl,
      h.at_is,
    )

-- so they tell how it ends, and are at most two
abbrev pub outcome_of : Dir → List ℕ → Outcome
outcome_of d [] = went
outcome_of d (s ∷ []) = returned
outcome_of d (s ∷ (t ∷ ss)) = stopped (far d t)

pub shape_outcome : (c : ℕ) (keys : ℕ → List ℕ) (d : Dir) (plan : List ℕ) (xs : List Crossing) (o : Outcome) →
    IsWalkShape keys d plan xs o →
    (o ≡ outcome_of d (failing (slots c keys xs))) × (length (failing (slots c keys xs)) ≤ 2)
shape_outcome c keys d plan xs o h = go o (failing (slots c keys xs)) (shape_failing c keys d plan xs o h)
  where
    go : (o : Outcome) (fs : List ℕ) → IsFailing o d fs → (o ≡ outcome_of d fs) × (length fs ≤ 2)
    go went fs h = rw h (refl, omega arith)
    go returned fs h = rw h.1 (refl, omega arith)
    go (stopped at) fs h = rw (h.2, h.3) (refl, omega arith)
