-- A walk over n keys has at most three entries a key: what its promise of room rests on.
use Rattle.std.proofs.Common.{◌≡◌, ℕ, ◌+◌, ◌*◌, ◌≤◌, Bool, true, false, List, [], ◌∷◌, ◌++◌, reverse, length, refl, ap, ◌∙◌, arith, length-append}
use Rattle.std.proofs.lemmas.List.{reverse-append}
use Rattle.hp_states.specs.declared.dir.Dir.{Dir}
use Rattle.hp_states.specs.declared.place.Place.{Place}
use Rattle.hp_states.specs.declared.place.Place.TheVariants.{Forward, Back, Part}
use Rattle.hp_states.specs.Sections.{opposite}
use Rattle.hp_model.specs.Crossing.{Slot, visit, Crossing, done, failed, slots_of, slots}
use Rattle.hp_model.specs.Lists.{is_empty}
use Rattle.hp_model.specs.WalkShape.{Outcome, went, returned, stopped, crossed, IsWalkShape}
use Rattle.hp_model.proofs.NextSlot.{split-returned, split-stuck}

abbrev pub total : (keys : ℕ → List ℕ) → List ℕ → ℕ
total keys [] = 0
total keys (s ∷ ss) = length (keys s) + total keys ss

pub total-append : (keys : ℕ → List ℕ) (xs ys : List ℕ) → total keys (xs ++ ys) ≡ total keys xs + total keys ys
total-append keys [] ys = omega arith
total-append keys (x ∷ xs) ys = let h = total-append keys xs ys in omega arith

pub total-reverse : (keys : ℕ → List ℕ) (xs : List ℕ) → total keys (reverse xs) ≡ total keys xs
total-reverse keys [] = refl
total-reverse keys (x ∷ xs) =
    let h = total-reverse keys xs in
    rw (reverse-append (x ∷ []) xs, total-append keys (reverse xs) (x ∷ [])) (omega arith)

pub length-visit : (c : ℕ) (p : Place) (d : Dir) (s : ℕ) (b : Bool) (is : List ℕ) → length (visit c p d s b is) ≡ length is
length-visit c p d s b [] = refl
length-visit c p d s b (i ∷ is) = let h = length-visit c p d s false is in omega arith

pub length-crossed : (c : ℕ) (keys : ℕ → List ℕ) (p : Place) (d : Dir) (ss : List ℕ) →
    length (slots c keys (crossed p d ss)) ≡ total keys ss
length-crossed c keys p d [] = refl
length-crossed c keys p d (s ∷ ss) =
    let h = length-crossed c keys p d ss in
    let v = length-visit c p d s true (keys s) in
    rw (length-append (visit c p d s true (keys s)) (slots c keys (crossed p d ss))) (omega arith)

pub length-failed : (c : ℕ) (keys : ℕ → List ℕ) (p : Place) (d : Dir) (s : ℕ) (earlier : List ℕ) (i : ℕ) →
    length (slots_of c keys (failed p d s earlier i)) ≡ 2 * length earlier + 1
length-failed c keys p d s earlier i =
    let x : Slot = record { cpu = c; state = s; inst = i; dir = d; place = p; first = is_empty earlier; fails = true } in
    let u = length-visit c p d s true earlier in
    let v = length-visit c Part (opposite d) s false earlier in
    rw (length-append (visit c p d s true earlier) (x ∷ visit c Part (opposite d) s false earlier)) (omega arith)

pub shape_length : (c : ℕ) (keys : ℕ → List ℕ) (d : Dir) (plan : List ℕ) (xs : List Crossing) (o : Outcome) →
    IsWalkShape keys d plan xs o → length (slots c keys xs) ≤ 3 * total keys plan
shape_length c keys d plan xs went h = let l = length-crossed c keys Forward d plan in rw h (omega arith)
shape_length c keys d plan xs returned h =
    let x : Crossing = failed Forward d h.state h.earlier h.inst in
    let back : List Crossing = crossed Back (opposite d) (reverse h.before) in
    let a = length-crossed c keys Forward d h.before in
    let b = length-failed c keys Forward d h.state h.earlier h.inst in
    let e = length-crossed c keys Back (opposite d) (reverse h.before) ∙ total-reverse keys h.before in
    let k = ap length h.keys_are ∙ length-append h.earlier (h.inst ∷ h.later) in
    let p = total-append keys h.before (h.state ∷ h.after) in
    rw (
      h.crossings_are,
      h.plan_is,
      split-returned length (λ m n. m + n) length-append c keys (crossed Forward d h.before) x back,
    )
    (omega arith)
shape_length c keys d plan xs (stopped at) h =
    let x : Crossing = failed Forward d h.state h.earlier h.inst in
    let y : Crossing = failed Back (opposite d) h.stuck_state h.stuck_earlier h.stuck_inst in
    let z : Crossing = done Forward d h.stuck_state in
    let back : List Crossing = crossed Back (opposite d) (reverse h.between) in
    let mid : List Crossing = crossed Forward d h.between in
    let a = length-crossed c keys Forward d h.before in
    let v = length-visit c Forward d h.stuck_state true (keys h.stuck_state) in
    let m = length-crossed c keys Forward d h.between in
    let b = length-failed c keys Forward d h.state h.earlier h.inst in
    let e = length-crossed c keys Back (opposite d) (reverse h.between) ∙ total-reverse keys h.between in
    let g = length-failed c keys Back (opposite d) h.stuck_state h.stuck_earlier h.stuck_inst in
    let k = ap length h.keys_are ∙ length-append h.earlier (h.inst ∷ h.later) in
    let j = ap length h.stuck_keys_are ∙ length-append h.stuck_earlier (h.stuck_inst ∷ h.stuck_later) in
    let p = total-append keys h.before (h.stuck_state ∷ (h.between ++ h.state ∷ h.after)) in
    let q = total-append keys h.between (h.state ∷ h.after) in
    rw (
      h.crossings_are,
      h.plan_is,
      split-stuck length (λ m n. m + n) length-append c keys (crossed Forward d h.before) z mid x back y,
    )
    (omega arith)
