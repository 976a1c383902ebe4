-- Keys that are alike at each state: what is so of a walk along the one is so of it along the other.
use Rattle.std.proofs.Common.{◌≡◌, ℕ, ◌-◌, Bool, true, false, cond, eqb, ltb, List, [], ◌∷◌, ◌++◌, take, drop, reverse, fold, refl, ap, subst, ◌∙◌}
use Rattle.hp_states.specs.declared.dir.Dir.{Dir}
use Rattle.hp_states.specs.declared.place.Place.{Place}
use Rattle.hp_states.specs.declared.place.Place.TheVariants as placed
use Rattle.hp_states.specs.Sections.{opposite}
use Rattle.hp_event.specs.declared.event.Event.{Event}
use Rattle.hp_event.specs.declared.event.Event.TheVariants.{Call}
use Rattle.hp_model.specs.Lists.{rising}
use Rattle.hp_states.specs.Crossings.{state_before, state_after}
use Rattle.hp_model.specs.Plan.{keyed, plan, direction}
use Rattle.hp_model.specs.Shown.{shown_after}
use Rattle.hp_model.proofs.NextSlot.{Tree, stop, visit_tree, part_tree, back_tree, walk_tree}
use Rattle.hp_model.proofs.Cursor.{Runs}
use Rattle.hp_walk.specs.declared.position.Position.{Position}
use Rattle.hp_walk.specs.declared.position.Position.TheVariants.{Forward, UndoingPart, Back, RedoingPart, Ended}
use Rattle.hp_walk.specs.declared.walk.Walk.{Walk}
use Rattle.hp_walk.specs.Asked.{asked, asked_at}
use Rattle.hp_walk.specs.After.{IsAfter, IsWithin, IsAt, tree_of, tree_at, entries_left}
use Rattle.hp_walk.specs.Left.{depth}

keyed_alike : (K L : ℕ → List ℕ) (same : (s : ℕ) → K s ≡ L s) (ss : List ℕ) → keyed K ss ≡ keyed L ss
keyed_alike K L same [] = refl
keyed_alike K L same (s ∷ ss) = rw (same s, keyed_alike K L same ss) refl

pub plan_alike : (K L : ℕ → List ℕ) (same : (s : ℕ) → K s ≡ L s) (a b : ℕ) → plan K a b ≡ plan L a b
plan_alike K L same a b = go (ltb a b)
  where
    go : (up : Bool) →
        cond up (keyed K (rising a (b - a))) (reverse (keyed K (rising b (a - b))))
        ≡ cond up (keyed L (rising a (b - a))) (reverse (keyed L (rising b (a - b))))
    go true = keyed_alike K L same (rising a (b - a))
    go false = ap reverse (keyed_alike K L same (rising b (a - b)))

-- the same keys of a state, and what follows them alike
visit_alike : (c : ℕ) (p : Place) (d : Dir) (s : ℕ) (b : Bool) (earlier is : List ℕ) (t u : Tree) (f g : List ℕ → Tree) →
    t ≡ u → ((xs : List ℕ) → f xs ≡ g xs) → visit_tree c p d s b earlier is t f ≡ visit_tree c p d s b earlier is u g
visit_alike c p d s b earlier [] t u f g h k = h
visit_alike c p d s b earlier (i ∷ is) t u f g h k =
    rw (visit_alike c p d s false (earlier ++ i ∷ []) is t u f g h k, k earlier) refl

part_alike : (c : ℕ) (d : Dir) (s : ℕ) (is : List ℕ) (t u : Tree) → t ≡ u → part_tree c d s is t ≡ part_tree c d s is u
part_alike c d s is t u h = ap (part_tree c d s is) h

pub back_alike : (K L : ℕ → List ℕ) (same : (s : ℕ) → K s ≡ L s) (c : ℕ) (d : Dir) (ts : List ℕ) →
    back_tree c K d ts ≡ back_tree c L d ts
back_alike K L same c d [] = refl
back_alike K L same c d (t ∷ ts) =
    ap (λ is. visit_tree c placed.Back d t true [] is (back_tree c K d ts) (λ earlier. part_tree c (opposite d) t earlier stop)) (same t)
    ∙ visit_alike c placed.Back d t true [] (L t) (back_tree c K d ts) (back_tree c L d ts)
    (λ earlier. part_tree c (opposite d) t earlier stop) (λ earlier. part_tree c (opposite d) t earlier stop)
    (back_alike K L same c d ts) (λ xs. refl)

pub walk_alike : (K L : ℕ → List ℕ) (same : (s : ℕ) → K s ≡ L s) (c : ℕ) (d : Dir) (stack ss : List ℕ) →
    walk_tree c K d stack ss ≡ walk_tree c L d stack ss
walk_alike K L same c d stack [] = refl
walk_alike K L same c d stack (s ∷ ss) =
    ap
    (λ is. visit_tree c placed.Forward d s true [] is (walk_tree c K d (s ∷ stack) ss)
    (λ earlier. part_tree c (opposite d) s earlier (back_tree c K (opposite d) stack)))
    (same s)
    ∙ visit_alike c placed.Forward d s true [] (L s) (walk_tree c K d (s ∷ stack) ss) (walk_tree c L d (s ∷ stack) ss)
    (λ earlier. part_tree c (opposite d) s earlier (back_tree c K (opposite d) stack))
    (λ earlier. part_tree c (opposite d) s earlier (back_tree c L (opposite d) stack))
    (walk_alike K L same c d (s ∷ stack) ss)
    (λ xs. part_alike c (opposite d) s xs _ _ (back_alike K L same c (opposite d) stack))

behind_alike : (K L : ℕ → List ℕ) (same : (s : ℕ) → K s ≡ L s) (w : Walk) (d : Dir) (s : ℕ) →
    back_tree w.cpu K (opposite d) (plan K (state_before d s) w.from) ≡ back_tree w.cpu L (opposite d) (plan L (state_before d s) w.from)
behind_alike K L same w d s =
    ap (back_tree w.cpu K (opposite d)) (plan_alike K L same (state_before d s) w.from)
    ∙ back_alike K L same w.cpu (opposite d) (plan L (state_before d s) w.from)

at_alike : (K L : ℕ → List ℕ) (same : (s : ℕ) → K s ≡ L s) (w : Walk) (d : Dir) (p : Position) → tree_at K w d p ≡ tree_at L w d p
at_alike K L same w d (Forward s k) =
    ap
    (λ is. visit_tree w.cpu placed.Forward d s (eqb k 0) (take k is) (drop k is)
    (walk_tree w.cpu K d (s ∷ plan K (state_before d s) w.from) (plan K (state_after d s) w.to))
    (λ earlier. part_tree w.cpu (opposite d) s earlier (back_tree w.cpu K (opposite d) (plan K (state_before d s) w.from))))
    (same s)
    ∙ visit_alike w.cpu placed.Forward d s (eqb k 0) (take k (L s)) (drop k (L s)) _ _ _ _
    (ap (λ ss. walk_tree w.cpu K d (s ∷ ss) (plan K (state_after d s) w.to)) (plan_alike K L same (state_before d s) w.from)
    ∙ ap (λ ss. walk_tree w.cpu K d (s ∷ plan L (state_before d s) w.from) ss) (plan_alike K L same (state_after d s) w.to)
    ∙ walk_alike K L same w.cpu d (s ∷ plan L (state_before d s) w.from) (plan L (state_after d s) w.to))
    (λ xs. part_alike w.cpu (opposite d) s xs _ _ (behind_alike K L same w d s))
at_alike K L same w d (UndoingPart s k n code) =
    ap (λ is. part_tree w.cpu (opposite d) s (drop k (take n is)) (back_tree w.cpu K (opposite d) (plan K (state_before d s) w.from))) (same s)
    ∙ part_alike w.cpu (opposite d) s (drop k (take n (L s))) _ _ (behind_alike K L same w d s)
at_alike K L same w d (Back s k code) =
    ap
    (λ is. visit_tree w.cpu placed.Back (opposite d) s (eqb k 0) (take k is) (drop k is)
    (back_tree w.cpu K (opposite d) (plan K (state_before d s) w.from)) (λ earlier. part_tree w.cpu (opposite (opposite d)) s earlier stop))
    (same s)
    ∙ visit_alike w.cpu placed.Back (opposite d) s (eqb k 0) (take k (L s)) (drop k (L s)) _ _ _ _ (behind_alike K L same w d s)
    (λ xs. refl)
at_alike K L same w d (RedoingPart s k n first second) =
    ap (λ is. part_tree w.cpu (opposite (opposite d)) s (drop k (take n is)) stop) (same s)
at_alike K L same w d (Ended answer) = refl

pub tree_alike : (K L : ℕ → List ℕ) (same : (s : ℕ) → K s ≡ L s) (w : Walk) → tree_of K w ≡ tree_of L w
tree_alike K L same w = at_alike K L same w (direction w.from w.to) w.position

pub left_alike : (K L : ℕ → List ℕ) (same : (s : ℕ) → K s ≡ L s) (w : Walk) → entries_left K w ≡ entries_left L w
left_alike K L same w = ap depth (tree_alike K L same w)

is_at_alike : (K L : ℕ → List ℕ) (same : (s : ℕ) → K s ≡ L s) (d : Dir) (a b : ℕ) (p : Position) → IsAt K d a b p → IsAt L d a b p
is_at_alike K L same d a b (Forward s k) h = rw (← same s) h
is_at_alike K L same d a b (UndoingPart s k n code) h = rw (← same s) h
is_at_alike K L same d a b (Back s k code) h = rw (← same s) h
is_at_alike K L same d a b (RedoingPart s k n first second) h = rw (← same s) h
is_at_alike K L same d a b (Ended answer) h = h

pub within_alike : (K L : ℕ → List ℕ) (same : (s : ℕ) → K s ≡ L s) (w : Walk) → IsWithin K w → IsWithin L w
within_alike K L same w h = record {
  from_most = h.from_most;
  to_most = h.to_most;
  moves = h.moves;
  at = is_at_alike K L same (direction w.from w.to) w.from w.to w.position h.at;
}

shown_alike : (K L : ℕ → List ℕ) (same : (s : ℕ) → K s ≡ L s) (es : List Event) (n : ℕ) →
    fold (shown_after K) n es ≡ fold (shown_after L) n es
shown_alike K L same [] n = refl
shown_alike K L same (Call seat cpu state inst dir how ∷ es) n =
    rw (same state) (shown_alike K L same es (shown_after L n (Call seat cpu state inst dir how)))
shown_alike K L same (e ∷ es) n = shown_alike K L same es n

whole_alike : (K L : ℕ → List ℕ) (same : (s : ℕ) → K s ≡ L s) (w : Walk) →
    walk_tree w.cpu K (direction w.from w.to) [] (plan K w.from w.to)
    ≡ walk_tree w.cpu L (direction w.from w.to) [] (plan L w.from w.to)
whole_alike K L same w =
    ap (walk_tree w.cpu K (direction w.from w.to) []) (plan_alike K L same w.from w.to)
    ∙ walk_alike K L same w.cpu (direction w.from w.to) [] (plan L w.from w.to)

pub after_alike : (K L : ℕ → List ℕ) (same : (s : ℕ) → K s ≡ L s) (entries : List Event) (w : Walk) → IsAfter K entries w →
    IsAfter L entries w
after_alike K L same entries w h = record {
  within = within_alike K L same w h.within;
  stands = record {
    runs =
        subst (λ t. Runs t entries (tree_of L w)) (whole_alike K L same w)
        (subst (λ u. Runs (walk_tree w.cpu K (direction w.from w.to) [] (plan K w.from w.to)) entries u) (tree_alike K L same w)
        h.stands.runs);
  };
  faults_are = h.faults_are;
  shown_is = h.shown_is ∙ shown_alike K L same entries w.from;
}

pub asked_alike : (K L : ℕ → List ℕ) (same : (s : ℕ) → K s ≡ L s) (w : Walk) → asked K w ≡ asked L w
asked_alike K L same w = go (direction w.from w.to) w.position
  where
    go : (d : Dir) (p : Position) → asked_at K d p ≡ asked_at L d p
    go d (Forward s k) = rw (same s) refl
    go d (UndoingPart s k n code) = rw (same s) refl
    go d (Back s k code) = rw (same s) refl
    go d (RedoingPart s k n first second) = rw (same s) refl
    go d (Ended answer) = refl
