-- That a walk stands after some entries: they began a walk along its plan, and where they lead is where it stands. This
-- project's own.
use Rattle.std.specs.Prelude.{◌≡◌, ◌≢◌, ℕ, ◌<◌, ◌≤◌, ◌==◌, Some, Bool, true, false, List, [], ◌∷◌, length, take, drop, fold}
use Rattle.hp_states.specs.declared.limits.TheConstants.{ONLINE}
use Rattle.hp_states.specs.declared.dir.Dir.{Dir}
use Rattle.hp_states.specs.declared.place.Place.{Place}
use Rattle.hp_states.specs.declared.place.Place.TheVariants as placed
use Rattle.hp_states.specs.Sections.{opposite, can_fail}
use Rattle.hp_event.specs.declared.event.Event.{Event}
use Rattle.hp_event.specs.declared.key.Key.{Key}
use Rattle.hp_states.specs.Crossings.{state_before, state_after}
use Rattle.hp_model.specs.Faults.{Faulty, faults, walk_answer}
use Rattle.hp_model.specs.Plan.{direction, plan}
use Rattle.hp_model.specs.Shown.{shown_after, heading}
use Rattle.hp_model.specs.StandsCalls.{IsNextInWalk}
use Rattle.hp_model.specs.WalkShape.{IsWholeWalk}
use Rattle.hp_model.specs.Trees.{Tree, stop, visit_tree, part_tree, back_tree, walk_tree}
use Rattle.hp_model.specs.Runs.{StandsAt}
use Rattle.hp_walk.specs.declared.position.Position.{Position}
use Rattle.hp_walk.specs.declared.position.Position.TheVariants.{Forward, UndoingPart, Back, RedoingPart, Ended}
use Rattle.hp_walk.specs.declared.step.Step.{Step}
use Rattle.hp_walk.specs.declared.step.Step.TheVariants as ask
use Rattle.hp_walk.specs.Keys.{IsCrossed}
use Rattle.hp_walk.specs.declared.walk.Walk.{Walk}
use Rattle.hp_walk.specs.Asked.{slot_of}
use Rattle.hp_walk.specs.Left.{depth}

-- what can follow in a rollback, from the state that stands before one
abbrev pub rollback_tree : (keys : ℕ → List ℕ) → Walk → Dir → (state : ℕ) → Tree
rollback_tree keys w d s = back_tree w.cpu keys (opposite d) (plan keys (state_before d s) w.from)

-- what can follow
abbrev pub tree_at : (keys : ℕ → List ℕ) → Walk → Dir → Position → Tree
tree_at keys w d (Forward s k) =
    visit_tree w.cpu placed.Forward d s (k == 0) (take k (keys s)) (drop k (keys s))
    (walk_tree w.cpu keys d (s ∷ plan keys (state_before d s) w.from) (plan keys (state_after d s) w.to))
    (λ earlier. part_tree w.cpu (opposite d) s earlier (rollback_tree keys w d s))
tree_at keys w d (UndoingPart s k n code) = part_tree w.cpu (opposite d) s (drop k (take n (keys s))) (rollback_tree keys w d s)
tree_at keys w d (Back s k code) =
    visit_tree w.cpu placed.Back (opposite d) s (k == 0) (take k (keys s)) (drop k (keys s)) (rollback_tree keys w d s)
    (λ earlier. part_tree w.cpu (opposite (opposite d)) s earlier stop)
tree_at keys w d (RedoingPart s k n first second) =
    part_tree w.cpu (opposite (opposite d)) s (drop k (take n (keys s))) stop
tree_at keys w d (Ended answer) = stop

abbrev pub tree_of : (keys : ℕ → List ℕ) → Walk → Tree
tree_of keys w = tree_at keys w (direction w.from w.to) w.position

-- how many entries can come at most
abbrev pub entries_left : (keys : ℕ → List ℕ) → Walk → ℕ
entries_left keys w = depth (tree_of keys w)

-- the faults that there were, by where it stands
abbrev pub HasFaults : Dir → Position → List Faulty → Type 0
HasFaults d (Forward s k) found = found ≡ []
HasFaults d (UndoingPart s k n code) found = (t : ℕ) × (found ≡ record { code = code; state = t } ∷ [])
HasFaults d (Back s k code) found = (t : ℕ) × (found ≡ record { code = code; state = t } ∷ [])
HasFaults d (RedoingPart s k n first second) found =
    (t : ℕ) × (found ≡ record { code = first; state = t } ∷ (record { code = second; state = s } ∷ []))
HasFaults d (Ended answer) found = walk_answer d found ≡ Some answer

-- the state is one that it crosses, and the key is there
abbrev pub IsAt : (keys : ℕ → List ℕ) → Dir → (from to : ℕ) → Position → Type 0
IsAt keys d from to (Forward s k) = IsCrossed d from to s × (k < length (keys s))
IsAt keys d from to (UndoingPart s k n code) = IsCrossed d from to s × (k < n) × (n < length (keys s))
IsAt keys d from to (Back s k code) = IsCrossed d from to s × (k < length (keys s))
IsAt keys d from to (RedoingPart s k n first second) = IsCrossed d from to s × (k < n) × (n < length (keys s))
IsAt keys d from to (Ended answer) = Unit {0}

-- it stands among the states and keys
pub record IsWithin (keys : ℕ → List ℕ) (w : Walk) : Type 0 where
  pub from_most : w.from ≤ ONLINE
  pub to_most : w.to ≤ ONLINE
  pub moves : w.from ≢ w.to
  pub at : IsAt keys (direction w.from w.to) w.from w.to w.position

pub record IsAfter (keys : ℕ → List ℕ) (entries : List Event) (w : Walk) : Type 0 where
  pub within : IsWithin keys w
  pub stands : StandsAt w.cpu keys (direction w.from w.to) (plan keys w.from w.to) entries (tree_of keys w)
  pub faults_are : HasFaults (direction w.from w.to) w.position (faults entries)
  pub shown_is : w.shown ≡ fold (shown_after keys) w.from entries

-- An entry that comes next: in some walk along the plan it comes after these, done; and where it may fail, in some
-- walk it comes after these and is a fault.
pub record ComesNext (keys : ℕ → List ℕ) (entries : List Event) (w : Walk) (key : Key) (d : Dir) (place : Place) (first : Bool) : Type 0
  where
    pub done :
        IsNextInWalk w.cpu keys (direction w.from w.to) (plan keys w.from w.to) entries (slot_of w.cpu key d place first false)
    pub fault :
        can_fail d key.state place ≡ true →
        IsNextInWalk w.cpu keys (direction w.from w.to) (plan keys w.from w.to) entries (slot_of w.cpu key d place first true)

-- what is asked for after some entries: the entry that comes next, or, where they are a whole walk, its answer
abbrev pub Asks : (keys : ℕ → List ℕ) → (entries : List Event) → Walk → Step → Type 0
Asks keys entries w (ask.Call key d place first) = ComesNext keys entries w key d place first
Asks keys entries w (ask.Ended answer) =
    IsWholeWalk w.cpu keys (direction w.from w.to) (plan keys w.from w.to) entries answer

-- this goes on with whatever entries the walk stands after
abbrev pub GoesOn : (keys : ℕ → List ℕ) → Walk → Step → Type 0
GoesOn keys w next = (entries : List Event) → IsAfter keys entries w → Asks keys entries w next

-- whatever entries it stands after, this is where the walk goes by them: to its target, or back to where it began
abbrev pub HeadsTo : Walk → (state : ℕ) → Type 0
HeadsTo w s = (keys : ℕ → List ℕ) (entries : List Event) → IsAfter keys entries w → s ≡ heading w.from w.to entries
