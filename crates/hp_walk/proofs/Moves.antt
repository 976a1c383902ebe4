-- A walk that goes on past one entry: what has to be so of the position that it goes to.
use Rattle.std.proofs.Common.{◌≡◌, ℕ, Bool, false, cond, not, List, [], ◌∷◌, ◌++◌, refl, sym, ◌∙◌}
use Rattle.hp_states.specs.declared.dir.Dir.{Dir}
use Rattle.hp_states.specs.declared.place.Place.{Place}
use Rattle.hp_states.specs.Sections.{opposite}
use Rattle.hp_event.specs.declared.event.Event.{Event}
use Rattle.hp_event.specs.declared.how.How.{How}
use Rattle.hp_event.specs.declared.key.Key.{Key}
use Rattle.hp_model.specs.Entries.{is_done}
use Rattle.hp_model.specs.Faults.{Faulty, faults}
use Rattle.hp_model.specs.Plan.{direction, plan}
use Rattle.hp_model.specs.Shown.{shown_after}
use Rattle.hp_model.proofs.NextSlot.{Tree, step, back_tree, walk_tree}
use Rattle.hp_model.proofs.Cursor.{runs_more}
use Rattle.hp_model.proofs.Path.{far_opposite}
use Rattle.hp_walk.specs.declared.position.Position.{Position}
use Rattle.hp_walk.specs.declared.position.Position.TheVariants.{Forward, UndoingPart, Back, RedoingPart, Ended}
use Rattle.hp_walk.specs.declared.step.Step.TheVariants as ask
use Rattle.hp_walk.specs.declared.walk.Walk.{Walk}
use Rattle.hp_walk.specs.Asked.{asked, slot_of, entry_of}
use Rattle.hp_walk.specs.After.{tree_at, tree_of, HasFaults, IsAt, IsWithin, IsAfter}
use Rattle.hp_walk.specs.Took.{Took, IsNextOnTheWay, IsNextInRollback}
use Rattle.hp_walk.proofs.Crossed.{IsBetween, some_key, crossed_ahead, crossed_behind, plan_next, plan_ahead_none, plan_behind_none, plan_behind_same}
use Rattle.hp_walk.proofs.Steps.{depth_below}
use Rattle.hp_walk.proofs.Seen.{fault_at, faults_more, shown_more}

-- the walk at another position, with another state shown
abbrev pub moved : Walk → (shown : ℕ) → Position → Walk
moved w shown p = record { cpu = w.cpu; from = w.from; to = w.to; shown = shown; position = p }

-- a position that it can go to past the entry that is asked for, which was done or a fault
pub record IsMove (keys : ℕ → List ℕ) (how : How) (w : Walk) (shown : ℕ) (p : Position) (key : Key) (d : Dir) (place : Place)
    (first fails : Bool) (a b : Tree) : Type 0
  where
    pub asked_is : asked keys w ≡ ask.Call key d place first
    pub tree_is : tree_of keys w ≡ step (slot_of w.cpu key d place first false) a b
    pub made : is_done how ≡ not fails
    pub at : IsAt keys (direction w.from w.to) w.from w.to p
    pub leads : tree_at keys w (direction w.from w.to) p ≡ cond fails b a
    pub faults_are :
        (found : List Faulty) → HasFaults (direction w.from w.to) w.position found →
        HasFaults (direction w.from w.to) p (found ++ fault_at key.state how)
    pub shown_is : (seat : ℕ) → shown_after keys w.shown (entry_of seat w.cpu key d how) ≡ shown

pub took_by : (keys : ℕ → List ℕ) (how : How) (w : Walk) (shown : ℕ) (p : Position) (key : Key) (d : Dir) (place : Place)
    (first fails : Bool) (a b : Tree) → IsWithin keys w → IsMove keys how w shown p key d place first fails a b →
    Took keys how w (moved w shown p)
took_by keys how w shown p key d place first fails a b h m =
    let within : IsWithin keys (moved w shown p) = record { from_most = h.from_most; to_most = h.to_most; moves = h.moves; at = m.at } in
    let after : (entries : List Event) → (seat : ℕ) → IsAfter keys entries w →
    IsAfter keys (entries ++ entry_of seat w.cpu key d how ∷ []) (moved w shown p) =
    λ entries seat i. record {
      within = within;
      stands = record {
        runs =
            rw m.leads
            (runs_more (walk_tree w.cpu keys (direction w.from w.to) [] (plan keys w.from w.to)) entries
            (slot_of w.cpu key d place first false) a b fails (entry_of seat w.cpu key d how) (rw m.tree_is at i.stands.runs)
            (refl, refl, refl, refl, m.made));
      };
      faults_are = rw (faults_more entries seat w.cpu key.state key.inst d how) (m.faults_are (faults entries) i.faults_are);
      shown_is =
          sym (m.shown_is seat) ∙ shown_more keys w.from entries (entry_of seat w.cpu key d how) w.shown i.shown_is;
    }
    in
    record {
      same = (refl, refl, refl);
      within = within;
      after = λ entries seat i. rw m.asked_is (after entries seat i);
      less = rw (m.tree_is, m.leads) (depth_below fails (slot_of w.cpu key d place first false) a b);
    }

-- where it goes on ahead from a state that it has reached
pub tree_ahead : (keys : ℕ → List ℕ) (w : Walk) (d : Dir) (x : ℕ) (p : Position) → IsBetween d w.from w.to x →
    IsNextOnTheWay keys d x w.to p → tree_at keys w d p ≡ walk_tree w.cpu keys d (plan keys x w.from) (plan keys x w.to)
tree_ahead keys w d x (Forward s k) b h =
    rw (h.1, plan_behind_same keys d w.from w.to x s b h.0, plan_next keys d x w.to s h.0) refl
tree_ahead keys w d x (UndoingPart s k n code) b h = elim h [ ]
tree_ahead keys w d x (Back s k code) b h = elim h [ ]
tree_ahead keys w d x (RedoingPart s k n first second) b h = elim h [ ]
tree_ahead keys w d x (Ended answer) b h = rw (plan_ahead_none keys d w.from w.to x b h.0) refl

pub at_ahead : (keys : ℕ → List ℕ) (w : Walk) (d : Dir) (x : ℕ) (p : Position) → IsBetween d w.from w.to x →
    IsNextOnTheWay keys d x w.to p → IsAt keys d w.from w.to p
at_ahead keys w d x (Forward s k) b h =
    (crossed_ahead d w.from w.to x s b h.0.crossed, rw h.1 (some_key (keys s) h.0.has_key))
at_ahead keys w d x (UndoingPart s k n code) b h = elim h [ ]
at_ahead keys w d x (Back s k code) b h = elim h [ ]
at_ahead keys w d x (RedoingPart s k n first second) b h = elim h [ ]
at_ahead keys w d x (Ended answer) b h = tt

pub faults_ahead : (keys : ℕ → List ℕ) (w : Walk) (d : Dir) (x : ℕ) (p : Position) → IsNextOnTheWay keys d x w.to p → HasFaults d p []
faults_ahead keys w d x (Forward s k) h = refl
faults_ahead keys w d x (UndoingPart s k n code) h = elim h [ ]
faults_ahead keys w d x (Back s k code) h = elim h [ ]
faults_ahead keys w d x (RedoingPart s k n first second) h = elim h [ ]
faults_ahead keys w d x (Ended answer) h = rw h.1 refl

-- where it goes back from a state that it has reached
pub tree_behind : (keys : ℕ → List ℕ) (w : Walk) (d : Dir) (x code : ℕ) (p : Position) → IsBetween d w.from w.to x →
    IsNextInRollback keys (opposite d) x w.from code p →
    tree_at keys w d p ≡ back_tree w.cpu keys (opposite d) (plan keys x w.from)
tree_behind keys w d x code (Forward s k) b h = elim h [ ]
tree_behind keys w d x code (UndoingPart s k n e) b h = elim h [ ]
tree_behind keys w d x code (Back s k e) b h =
    rw (h.1, plan_next keys (opposite d) x w.from s h.0, far_opposite d s) refl
tree_behind keys w d x code (RedoingPart s k n first second) b h = elim h [ ]
tree_behind keys w d x code (Ended answer) b h = rw (plan_behind_none keys d w.from w.to x b h.0) refl

pub at_behind : (keys : ℕ → List ℕ) (w : Walk) (d : Dir) (x code : ℕ) (p : Position) → IsBetween d w.from w.to x →
    IsNextInRollback keys (opposite d) x w.from code p → IsAt keys d w.from w.to p
at_behind keys w d x code (Forward s k) b h = elim h [ ]
at_behind keys w d x code (UndoingPart s k n e) b h = elim h [ ]
at_behind keys w d x code (Back s k e) b h =
    (crossed_behind d w.from w.to x s b h.0.crossed, rw h.1 (some_key (keys s) h.0.has_key))
at_behind keys w d x code (RedoingPart s k n first second) b h = elim h [ ]
at_behind keys w d x code (Ended answer) b h = tt

pub faults_behind : (keys : ℕ → List ℕ) (w : Walk) (d e : Dir) (x code t : ℕ) (p : Position) → IsNextInRollback keys e x w.from code p →
    HasFaults d p (record { code = code; state = t } ∷ [])
faults_behind keys w d e x code t (Forward s k) h = elim h [ ]
faults_behind keys w d e x code t (UndoingPart s k n c) h = elim h [ ]
faults_behind keys w d e x code t (Back s k c) h = (t, rw h.2 refl)
faults_behind keys w d e x code t (RedoingPart s k n first second) h = elim h [ ]
faults_behind keys w d e x code t (Ended answer) h = rw h.1 refl
