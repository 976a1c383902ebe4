-- Going down the tree of a plan by the entries so far: where code stands in a walk. From it follow what
-- the row of a Call and the row of a WalkEnd need of the shapes.
use Rattle.std.proofs.Common.{ℕ, Bool, true, false, cond, List, [], ◌∷◌, ◌++◌, refl, subst}
use Rattle.std.proofs.lemmas.List.{append-nil}
use Rattle.hp_states.specs.declared.dir.Dir.{Dir}
use Rattle.hp_states.specs.declared.place.Place.{Place}
use Rattle.hp_states.specs.Sections.{opposite}
use Rattle.hp_event.specs.declared.event.Event.{Event}
use Rattle.hp_model.specs.Crossing.{Slot, Fits, Fill, Crossing, slots}
use Rattle.hp_model.specs.WalkShape.{Outcome, IsWalkShape}
use Rattle.hp_model.specs.StandsCalls.{IsNext, IsNextInWalk}
pub use Rattle.hp_model.specs.Runs.{Runs, StandsAt}
use Rattle.hp_model.proofs.NextSlot.{with_fails, Tree, stop, dead, step, Follow, visit_tree, part_tree, back_tree, walk_tree}
use Rattle.hp_model.proofs.TreeShapes.{tree_shape}

pub record IsBefore (t : Tree) (es : List Event) (ys : List Slot) : Type 0 where
  pub front : List Slot
  pub filled : Fill front es
  pub follows : Follow t (front ++ ys)

pub runs_before : (t : Tree) (es : List Event) (u : Tree) (ys : List Slot) → Runs t es u → Follow u ys → IsBefore t es ys
runs_before t [] u ys r f = record { front = []; filled = tt; follows = rw r f }
runs_before stop (e ∷ es) u ys r f = elim r [ ]
runs_before dead (e ∷ es) u ys r f = elim r [ ]
runs_before (step s a b) (e ∷ es) u ys r f =
    let h = runs_before (cond r.0 b a) es u ys r.2 f in
    record { front = with_fails s r.0 ∷ h.front; filled = (r.1, h.filled); follows = (refl, h.follows) }

-- one entry more leads one step further down
pub runs_more : (t : Tree) (es : List Event) (s : Slot) (a b : Tree) (fails : Bool) (e : Event) → Runs t es (step s a b) →
    Fits (with_fails s fails) e → Runs t (es ++ e ∷ []) (cond fails b a)
runs_more t [] s a b fails e r f = rw r (fails, f, refl)
runs_more stop (x ∷ es) s a b fails e r f = elim r [ ]
runs_more dead (x ∷ es) s a b fails e r f = elim r [ ]
runs_more (step z c d) (x ∷ es) s a b fails e r f =
    (r.0, r.1, runs_more (cond r.0 d c) es s a b fails e r.2 f)

-- a tree that isn't dead
abbrev pub IsLive : Tree → Type 0
IsLive stop = Unit {0}
IsLive dead = ⊥
IsLive (step s a b) = Unit {0}

-- below it, what is done leads to a tree that isn't dead, all the way
abbrev pub Sound : Tree → Type 0
Sound stop = Unit {0}
Sound dead = Unit {0}
Sound (step s a b) = IsLive a × Sound a × Sound b

pub sound_visit : (c : ℕ) (p : Place) (d : Dir) (s : ℕ) (b : Bool) (seen is : List ℕ) (t : Tree) (f : List ℕ → Tree) →
    IsLive t → Sound t → ((earlier : List ℕ) → Sound (f earlier)) →
    IsLive (visit_tree c p d s b seen is t f) × Sound (visit_tree c p d s b seen is t f)
sound_visit c p d s b seen [] t f l h k = (l, h)
sound_visit c p d s b seen (i ∷ is) t f l h k =
    let r = sound_visit c p d s false (seen ++ i ∷ []) is t f l h k in (tt, (r.0, r.1, k seen))

pub sound_part : (c : ℕ) (d : Dir) (s : ℕ) (is : List ℕ) (t : Tree) → IsLive t → Sound t →
    IsLive (part_tree c d s is t) × Sound (part_tree c d s is t)
sound_part c d s [] t l h = (l, h)
sound_part c d s (i ∷ is) t l h = let r = sound_part c d s is t l h in (tt, (r.0, r.1, tt))

pub sound_back : (c : ℕ) (keys : ℕ → List ℕ) (d : Dir) (ts : List ℕ) →
    IsLive (back_tree c keys d ts) × Sound (back_tree c keys d ts)
sound_back c keys d [] = (tt, tt)
sound_back c keys d (t ∷ ts) =
    let r = sound_back c keys d ts in
    sound_visit c Place.Back d t true [] (keys t) (back_tree c keys d ts) (λ earlier. part_tree c (opposite d) t earlier stop) r.0 r.1
    (λ earlier. (sound_part c (opposite d) t earlier stop tt tt).1)

pub sound_walk : (c : ℕ) (keys : ℕ → List ℕ) (d : Dir) (stack ss : List ℕ) →
    IsLive (walk_tree c keys d stack ss) × Sound (walk_tree c keys d stack ss)
sound_walk c keys d stack [] = (tt, tt)
sound_walk c keys d stack (s ∷ ss) =
    let r = sound_walk c keys d (s ∷ stack) ss in
    sound_visit c Place.Forward d s true [] (keys s) (walk_tree c keys d (s ∷ stack) ss)
    (λ earlier. part_tree c (opposite d) s earlier (back_tree c keys (opposite d) stack)) r.0 r.1
    (λ earlier.
    let b = sound_back c keys (opposite d) stack in
    (sound_part c (opposite d) s earlier (back_tree c keys (opposite d) stack) b.0 b.1).1)

-- from a tree that isn't dead there is a way to the end: all done
pub to_end : (t : Tree) → IsLive t → Sound t → (xs : List Slot) × Follow t xs
to_end stop l h = ([], tt)
to_end dead l h = elim l [ ]
to_end (step s a b) l h =
    let r = to_end a h.0 h.1 in (with_fails s false ∷ r.0, (refl, r.1))

-- below a sound tree all trees are sound
pub sound_below : (t : Tree) (es : List Event) (u : Tree) → Runs t es u → Sound t → Sound u
sound_below t [] u r h = rw (← r) h
sound_below stop (e ∷ es) u r h = elim r [ ]
sound_below dead (e ∷ es) u r h = elim r [ ]
sound_below (step s a b) (e ∷ es) u r h = go r.0 r.2 (sound_below a es u) (sound_below b es u)
  where
    go : (fails : Bool) → Runs (cond fails b a) es u → (Runs a es u → Sound a → Sound u) → (Runs b es u → Sound b → Sound u) → Sound u
    go true k f g = g k h.2
    go false k f g = f k h.1

-- At a step a Call can come that fits its slot, done or a fault, where that leads to no dead end.
pub sound_branch : (fails : Bool) (a b : Tree) → Sound a → Sound b → Sound (cond fails b a)
sound_branch true a b h k = k
sound_branch false a b h k = h

-- a slot that comes next in something that follows the tree
pub record IsNextIn (t : Tree) (es : List Event) (x : Slot) : Type 0 where
  pub slots : List Slot
  pub follows : Follow t slots
  pub is_next : IsNext slots es x

pub next_in : (t : Tree) (es : List Event) (s : Slot) (a b : Tree) (fails : Bool) → Sound t → Runs t es (step s a b) →
    IsLive (cond fails b a) → IsNextIn t es (with_fails s fails)
next_in t es s a b fails sound r live =
    let w = sound_below t es (step s a b) r sound in
    let e = to_end (cond fails b a) live (sound_branch fails a b w.1 w.2) in
    let f = runs_before t es (step s a b) (with_fails s fails ∷ e.0) r (refl, e.1) in
    record {
      slots = f.front ++ with_fails s fails ∷ e.0;
      follows = f.follows;
      is_next = record { front = f.front; rest = e.0; slots_are = refl; filled = f.filled };
    }

-- the slots that the entries fill which lead to the end
pub record IsFilled (t : Tree) (es : List Event) : Type 0 where
  pub slots : List Slot
  pub follows : Follow t slots
  pub filled : Fill slots es

pub end_in : (t : Tree) (es : List Event) → Runs t es stop → IsFilled t es
end_in t es r =
    let f = runs_before t es stop [] r tt in
    record { slots = f.front ++ []; follows = f.follows; filled = rw (append-nil f.front) f.filled }

pub next_of : (c : ℕ) (keys : ℕ → List ℕ) (d : Dir) (plan : List ℕ) (es : List Event) (s : Slot) (a b : Tree) (fails : Bool) →
    StandsAt c keys d plan es (step s a b) → IsLive (cond fails b a) → IsNextInWalk c keys d plan es (with_fails s fails)
next_of c keys d plan es s a b fails h live =
    let n = next_in (walk_tree c keys d [] plan) es s a b fails (sound_walk c keys d [] plan).1 h.runs live in
    let g = tree_shape c keys d plan n.slots n.follows in
    record {
      outcome = g.outcome;
      crossings = g.crossings;
      shape = g.shape;
      is_next = subst (λ z. IsNext z es (with_fails s fails)) g.slots_are n.is_next;
    }

-- At the end the entries are those of a whole shape.
pub record IsEndOf (c : ℕ) (keys : ℕ → List ℕ) (d : Dir) (plan : List ℕ) (es : List Event) : Type 0 where
  pub outcome : Outcome
  pub crossings : List Crossing
  pub shape : IsWalkShape keys d plan crossings outcome
  pub filled : Fill (slots c keys crossings) es

pub end_of_walk : (c : ℕ) (keys : ℕ → List ℕ) (d : Dir) (plan : List ℕ) (es : List Event) → StandsAt c keys d plan es stop →
    IsEndOf c keys d plan es
end_of_walk c keys d plan es h =
    let f = end_in (walk_tree c keys d [] plan) es h.runs in
    let g = tree_shape c keys d plan f.slots f.follows in
    record { outcome = g.outcome; crossings = g.crossings; shape = g.shape; filled = subst (λ z. Fill z es) g.slots_are f.filled }
