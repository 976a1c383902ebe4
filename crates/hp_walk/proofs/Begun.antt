-- A walk that begins: no entry is made, and where it stands is the top of the tree of its plan.
use Rattle.std.proofs.Common.{◌≡◌, ◌≢◌, ℕ, ◌*◌, ◌≤◌, List, [], refl, ap, sym, ◌∙◌, arith}
use Rattle.hp_states.specs.declared.limits.TheConstants.{ONLINE}
use Rattle.hp_states.specs.declared.dir.Dir.{Dir}
use Rattle.hp_model.specs.Plan.{direction, plan}
use Rattle.hp_model.proofs.NextSlot.{walk_tree}
use Rattle.hp_model.proofs.PlanLemmas.{plan_up_none}
use Rattle.hp_walk.specs.declared.position.Position.{Position}
use Rattle.hp_walk.specs.declared.walk.Walk.{Walk}
use Rattle.hp_walk.specs.After.{tree_of, entries_left, IsAfter}
use Rattle.hp_model.specs.Plan.{keys_on}
use Rattle.hp_walk.specs.Took.{IsNextOnTheWay}
use Rattle.hp_walk.proofs.Crossed.{begins_between}
use Rattle.hp_walk.proofs.Steps.{depth_walk}
use Rattle.hp_walk.proofs.Moves.{tree_ahead, at_ahead, faults_ahead}

abbrev pub begun : (cpu from to : ℕ) → Position → Walk
begun c a b p = record { cpu = c; from = a; to = b; shown = a; position = p }

-- from a state to itself there is no plan
plan_here : (keys : ℕ → List ℕ) (a : ℕ) → plan keys a a ≡ []
plan_here keys a = plan_up_none keys a a (omega arith) (λ t above below. absurd (omega (arith, above, below)))

begun_tree : (keys : ℕ → List ℕ) (c a b : ℕ) (p : Position) → IsNextOnTheWay keys (direction a b) a b p →
    tree_of keys (begun c a b p) ≡ walk_tree c keys (direction a b) [] (plan keys a b)
begun_tree keys c a b p h =
    let d : Dir = direction a b in
    tree_ahead keys (begun c a b p) d a p (begins_between a b) h
    ∙ ap (λ (stack : List ℕ). walk_tree c keys d stack (plan keys a b)) (plan_here keys a)

pub begun_after : (keys : ℕ → List ℕ) (c a b : ℕ) (p : Position) → a ≤ ONLINE → b ≤ ONLINE → a ≢ b →
    IsNextOnTheWay keys (direction a b) a b p → IsAfter keys [] (begun c a b p)
begun_after keys c a b p from_most to_most moves h = record {
  within = record {
    from_most = from_most;
    to_most = to_most;
    moves = moves;
    at = at_ahead keys (begun c a b p) (direction a b) a p (begins_between a b) h;
  };
  stands = record { runs = sym (begun_tree keys c a b p h) };
  faults_are = faults_ahead keys (begun c a b p) (direction a b) a p h;
  shown_is = refl;
}

pub begun_depth : (keys : ℕ → List ℕ) (c a b : ℕ) (p : Position) → IsNextOnTheWay keys (direction a b) a b p →
    entries_left keys (begun c a b p) ≤ 3 * keys_on keys a b
begun_depth keys c a b p h =
    let depth = depth_walk c keys (direction a b) [] (plan keys a b) in
    rw (begun_tree keys c a b p h) (omega (arith, depth))
