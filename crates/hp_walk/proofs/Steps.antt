-- What stands on the way down the tree of a plan, and how deep its trees are.
use Rattle.std.proofs.Common.{◌≡◌, ℕ, zero, suc, ◌+◌, ◌*◌, ◌<◌, ◌≤◌, Bool, true, false, cond, List, [], ◌∷◌, ◌++◌, length, take, drop, refl, arith, length-append}
use Rattle.std.specs.Prelude.{slice_index, sum_by}
use Rattle.std.proofs.lemmas.List.{drop_more, take_more, length-take, get_or-take}
use Rattle.std.proofs.lemmas.List.Sums.{sum_by-cons}
use Rattle.hp_states.specs.declared.dir.Dir.{Dir}
use Rattle.hp_states.specs.declared.dir.Dir.TheVariants.{Up, Down}
use Rattle.hp_states.specs.declared.place.Place.{Place}
use Rattle.hp_states.specs.declared.place.Place.TheVariants.{Forward, Back, Part}
use Rattle.hp_states.specs.Sections.{opposite}
use Rattle.hp_model.specs.Crossing.{Slot}
use Rattle.hp_model.proofs.NextSlot.{Tree, stop, dead, step, visit_tree, part_tree, back_tree, walk_tree}
use Rattle.hp_walk.specs.Left.{depth}

pub opposite_opposite : (d : Dir) → opposite (opposite d) ≡ d
opposite_opposite Up = refl
opposite_opposite Down = refl

-- a visit that has come to a key
pub visit_at : (c : ℕ) (p : Place) (d : Dir) (s : ℕ) (b : Bool) (xs : List ℕ) (k : ℕ) (then : Tree) (else : List ℕ → Tree) →
    k < length xs →
    visit_tree c p d s b (take k xs) (drop k xs) then else
    ≡ step (record { cpu = c; state = s; inst = slice_index xs k; dir = d; place = p; first = b; fails = false })
    (visit_tree c p d s false (take (k + 1) xs) (drop (k + 1) xs) then else) (else (take k xs))
visit_at c p d s b xs k then else below = rw (drop_more xs k 0 below, take_more xs k 0 below) refl

-- and to their end
pub drop_all : (xs : List ℕ) (k : ℕ) → k ≡ length xs → drop k xs ≡ []
drop_all [] zero e = refl
drop_all [] (suc k) e = refl
drop_all (x ∷ xs) zero e = absurd (omega arith)
drop_all (x ∷ xs) (suc k) e = drop_all xs k (omega arith)

pub visit_end : (c : ℕ) (p : Place) (d : Dir) (s : ℕ) (b : Bool) (xs : List ℕ) (k : ℕ) (then : Tree) (else : List ℕ → Tree) →
    k ≡ length xs → visit_tree c p d s b (take k xs) (drop k xs) then else ≡ then
visit_end c p d s b xs k then else e = rw (drop_all xs k e) refl

-- the keys before one that faulted, undone so state_after
pub part_at : (c : ℕ) (d : Dir) (s : ℕ) (xs : List ℕ) (k n : ℕ) (then : Tree) → k < n → n < length xs →
    part_tree c d s (drop k (take n xs)) then
    ≡ step (record { cpu = c; state = s; inst = slice_index xs k; dir = d; place = Part; first = false; fails = false })
    (part_tree c d s (drop (k + 1) (take n xs)) then) dead
part_at c d s xs k n then before below =
    let there : k < length (take n xs) = omega (arith, length-take n xs) in
    rw (drop_more (take n xs) k 0 there, get_or-take n xs k 0 before) refl

pub part_end : (c : ℕ) (d : Dir) (s : ℕ) (xs : List ℕ) (k n : ℕ) (then : Tree) → k ≡ n → n < length xs →
    part_tree c d s (drop k (take n xs)) then ≡ then
part_end c d s xs k n then e below =
    let there : k ≡ length (take n xs) = omega (arith, length-take n xs) in
    rw (drop_all (take n xs) k there) refl

-- fewer can come below a step
pub depth_below : (fails : Bool) (s : Slot) (a b : Tree) → depth (cond fails b a) < depth (step s a b)
depth_below true s a b = omega arith
depth_below false s a b = omega arith

pub depth_visit : (c : ℕ) (p : Place) (d : Dir) (s : ℕ) (b : Bool) (seen is : List ℕ) (then : Tree) (else : List ℕ → Tree) (m : ℕ) →
    depth then ≤ m → ((earlier : List ℕ) → length earlier ≤ length seen + length is → depth (else earlier) ≤ m) →
    depth (visit_tree c p d s b seen is then else) ≤ length is + m
depth_visit c p d s b seen [] then else m h k = omega arith
depth_visit c p d s b seen (i ∷ is) then else m h k =
    let here = k seen (omega arith) in
    let rest =
    depth_visit c p d s false (seen ++ i ∷ []) is then else m h
    (λ earlier few. k earlier (omega (arith, few, length-append seen (i ∷ []))))
    in
    omega (arith, here, rest)

pub depth_part : (c : ℕ) (d : Dir) (s : ℕ) (is : List ℕ) (then : Tree) → depth (part_tree c d s is then) ≤ length is + depth then
depth_part c d s [] then = omega arith
depth_part c d s (i ∷ is) then = let rest = depth_part c d s is then in omega (arith, rest)

-- how many keys some states have
abbrev pub total : (keys : ℕ → List ℕ) → List ℕ → ℕ
total keys ss = sum_by (λ s. length (keys s)) ss

pub depth_back : (c : ℕ) (keys : ℕ → List ℕ) (d : Dir) (ts : List ℕ) → depth (back_tree c keys d ts) ≤ 2 * total keys ts
depth_back c keys d [] = omega arith
depth_back c keys d (t ∷ ts) =
    let sum = sum_by-cons (λ s. length (keys s)) t ts in
    let rest = depth_back c keys d ts in
    let here =
    depth_visit c Back d t true [] (keys t) (back_tree c keys d ts) (λ earlier. part_tree c (opposite d) t earlier stop)
    (length (keys t) + 2 * total keys ts) (omega (arith, rest))
    (λ earlier few. let part = depth_part c (opposite d) t earlier stop in omega (arith, few, part))
    in
    omega (arith, here, sum)

-- each key at most once on the way, once in the rollback, and again after a fault of that
pub depth_walk : (c : ℕ) (keys : ℕ → List ℕ) (d : Dir) (stack ss : List ℕ) →
    depth (walk_tree c keys d stack ss) ≤ 2 * total keys stack + 3 * total keys ss
depth_walk c keys d stack [] = omega arith
depth_walk c keys d stack (s ∷ ss) =
    let sum = sum_by-cons (λ s. length (keys s)) s ss in
    let more = sum_by-cons (λ s. length (keys s)) s stack in
    let rest = depth_walk c keys d (s ∷ stack) ss in
    let back = depth_back c keys (opposite d) stack in
    let here =
    depth_visit c Forward d s true [] (keys s) (walk_tree c keys d (s ∷ stack) ss)
    (λ earlier. part_tree c (opposite d) s earlier (back_tree c keys (opposite d) stack))
    (2 * length (keys s) + 2 * total keys stack + 3 * total keys ss) (omega (arith, rest, more))
    (λ earlier few.
    let part = depth_part c (opposite d) s earlier (back_tree c keys (opposite d) stack) in
    omega (arith, few, part, back))
    in
    omega (arith, here, sum)
