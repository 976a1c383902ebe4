-- Going down a tree by some entries: where code stands in a walk or a registration. This project's own.
use Rattle.std.specs.Prelude.{◌≡◌, ℕ, Bool, cond, List, [], ◌∷◌}
use Rattle.hp_states.specs.declared.dir.Dir.{Dir}
use Rattle.hp_event.specs.declared.event.Event.{Event}
use Rattle.hp_model.specs.Crossing.{Slot, Fits}
use Rattle.hp_model.specs.Trees.{Tree, stop, dead, step, walk_tree}

-- the same slot, for an entry that is done or for a fault
abbrev pub with_fails : Slot → Bool → Slot
with_fails x b =
    record { cpu = x.cpu; state = x.state; inst = x.inst; dir = x.dir; place = x.place; first = x.first; fails = b }

-- the entries lead from one tree down to another
abbrev pub Runs : Tree → List Event → Tree → Type 0
Runs t [] u = t ≡ u
Runs stop (e ∷ es) u = ⊥
Runs dead (e ∷ es) u = ⊥
Runs (step s a b) (e ∷ es) u = (fails : Bool) × Fits (with_fails s fails) e × Runs (cond fails b a) es u

-- where code stands: these entries lead down the tree of the plan to this tree
pub record StandsAt (c : ℕ) (keys : ℕ → List ℕ) (d : Dir) (plan : List ℕ) (es : List Event) (t : Tree) : Type 0 where
  pub runs : Runs (walk_tree c keys d [] plan) es t
