-- What can follow in a walk and in a registration, entry by entry: a tree that branches where an entry is done or a fault. All
-- shapes of one plan are ways through one tree. This project's own.
use Rattle.std.specs.Prelude.{ℕ, Bool, true, false, Option, Some, None, List, [], ◌∷◌, ◌++◌}
use Rattle.hp_states.specs.declared.dir.Dir.{Dir}
use Rattle.hp_states.specs.declared.dir.Dir.TheVariants.{Up, Down}
use Rattle.hp_states.specs.declared.place.Place.{Place}
use Rattle.hp_states.specs.declared.place.Place.TheVariants.{Forward, Back, Part}
use Rattle.hp_states.specs.Sections.{opposite}
use Rattle.hp_model.specs.Crossing.{Slot}

-- what can follow: nothing, no shape at all, or one slot and what follows where it is done and where it fails
pub data Tree : Type 0 where
  stop : Tree
  dead : Tree
  step : Slot → Tree → Tree → Tree

-- the keys of a state in list order; a fault goes on by the keys before it
abbrev pub visit_tree : (cpu : ℕ) → Place → Dir → (state : ℕ) → (first : Bool) → (earlier : List ℕ) → List ℕ → Tree →
    (List ℕ → Tree) → Tree
visit_tree c p d s b earlier [] then else = then
visit_tree c p d s b earlier (i ∷ is) then else =
    step (record { cpu = c; state = s; inst = i; dir = d; place = p; first = b; fails = false })
    (visit_tree c p d s false (earlier ++ i ∷ []) is then else) (else earlier)

-- undoing part of a state never fails
abbrev pub part_tree : (cpu : ℕ) → Dir → (state : ℕ) → List ℕ → Tree → Tree
part_tree c d s [] then = then
part_tree c d s (i ∷ is) then =
    step (record { cpu = c; state = s; inst = i; dir = d; place = Part; first = false; fails = false })
    (part_tree c d s is then) dead

-- the way back over some states; a second fault is the last crossing
abbrev pub back_tree : (cpu : ℕ) → (keys : ℕ → List ℕ) → Dir → List ℕ → Tree
back_tree c keys d [] = stop
back_tree c keys d (t ∷ ts) =
    visit_tree c Back d t true [] (keys t) (back_tree c keys d ts) (λ earlier. part_tree c (opposite d) t earlier stop)

-- the walk of a plan, with the states that are crossed already, last first
abbrev pub walk_tree : (cpu : ℕ) → (keys : ℕ → List ℕ) → Dir → (crossed : List ℕ) → (plan : List ℕ) → Tree
walk_tree c keys d stack [] = stop
walk_tree c keys d stack (s ∷ ss) =
    visit_tree c Forward d s true [] (keys s) (walk_tree c keys d (s ∷ stack) ss)
    (λ earlier. part_tree c (opposite d) s earlier (back_tree c keys (opposite d) stack))

-- the downward entries of a key on some processors
abbrev pub down_tree : Place → (state inst : ℕ) → (cpus : List ℕ) → Tree
down_tree p s i [] = stop
down_tree p s i (c ∷ cs) =
    step (record { cpu = c; state = s; inst = i; dir = Down; place = p; first = false; fails = false }) (down_tree p s i cs) dead

-- the upward ones, with the processors that have theirs already
abbrev pub add_tree : (state inst : ℕ) → (seen cpus : List ℕ) → Tree
add_tree s i seen [] = stop
add_tree s i seen (c ∷ cs) =
    step (record { cpu = c; state = s; inst = i; dir = Up; place = Place.Add; first = false; fails = false })
    (add_tree s i (seen ++ c ∷ []) cs) (down_tree Place.Undo s i seen)

abbrev pub registration_tree : (adding : Bool) → (state : ℕ) → Option ℕ → (cpus : List ℕ) → Tree
registration_tree adding s None cs = stop
registration_tree true s (Some i) cs = add_tree s i [] cs
registration_tree false s (Some i) cs = down_tree Place.Remove s i cs
