-- All shapes of one plan are ways through one tree, which branches at a fault alone.
use Rattle.std.proofs.Common.{◌≡◌, ℕ, Bool, true, false, cond, List, [], ◌∷◌, ◌++◌, reverse, refl, ap, sym, ◌∙◌, append_assoc}
use Rattle.std.proofs.lemmas.List.{append-nil, reverse-append}
use Rattle.hp_states.specs.declared.dir.Dir.{Dir}
use Rattle.hp_states.specs.declared.place.Place.{Place}
use Rattle.hp_states.specs.declared.place.Place.TheVariants.{Forward, Back, Part}
use Rattle.hp_states.specs.Sections.{opposite}
use Rattle.hp_model.specs.Crossing.{Slot, visit, Crossing, done, failed, slots_of, slots}
use Rattle.hp_model.specs.Lists.{is_empty}
use Rattle.hp_model.specs.WalkShape.{Outcome, went, returned, stopped, crossed, IsWalkShape}
pub use Rattle.hp_model.specs.Trees.{Tree, stop, dead, step, visit_tree, part_tree, back_tree, walk_tree}
pub use Rattle.hp_model.specs.Runs.{with_fails}

abbrev pub Follow : Tree → List Slot → Type 0
Follow stop [] = Unit {0}
Follow stop (x ∷ xs) = ⊥
Follow dead xs = ⊥
Follow (step s a b) [] = ⊥
Follow (step s a b) (x ∷ xs) = (x ≡ with_fails s x.fails) × Follow (cond x.fails b a) xs

pub visit_done : (c : ℕ) (p : Place) (d : Dir) (s : ℕ) (b : Bool) (earlier is : List ℕ) (t : Tree) (f : List ℕ → Tree) (xs : List Slot) →
    Follow t xs → Follow (visit_tree c p d s b earlier is t f) (visit c p d s b is ++ xs)
visit_done c p d s b earlier [] t f xs h = h
visit_done c p d s b earlier (i ∷ is) t f xs h = (refl, visit_done c p d s false (earlier ++ i ∷ []) is t f xs h)

pub both_false : (b : Bool) → cond b false false ≡ false
both_false true = refl
both_false false = refl

pub visit_failed : (c : ℕ) (p : Place) (d : Dir) (s : ℕ) (b : Bool) (before earlier : List ℕ) (i : ℕ) (later : List ℕ) (t : Tree)
    (f : List ℕ → Tree) (q : Bool) (xs : List Slot) → q ≡ cond (is_empty earlier) b false →
    Follow (f (before ++ earlier)) xs →
    Follow (visit_tree c p d s b before (earlier ++ i ∷ later) t f)
    (visit c p d s b earlier
    ++ (record { cpu = c; state = s; inst = i; dir = d; place = p; first = q; fails = true } ∷ xs))
visit_failed c p d s b before [] i later t f q xs e h = (rw e refl, rw append-nil at h)
visit_failed c p d s b before (k ∷ earlier) i later t f q xs e h = (
  refl,
  visit_failed c p d s false (before ++ k ∷ []) earlier i later t f q xs (e ∙ sym (both_false (is_empty earlier)))
      (rw (append_assoc before (k ∷ []) earlier) h),
)

pub first_is : (earlier : List ℕ) → is_empty earlier ≡ cond (is_empty earlier) true false
first_is [] = refl
first_is (x ∷ xs) = refl

pub part_done : (c : ℕ) (d : Dir) (s : ℕ) (is : List ℕ) (t : Tree) (xs : List Slot) → Follow t xs →
    Follow (part_tree c d s is t) (visit c Part d s false is ++ xs)
part_done c d s [] t xs h = h
part_done c d s (i ∷ is) t xs h = (refl, part_done c d s is t xs h)

-- done crossings, forward and back
pub slots-append : (c : ℕ) (keys : ℕ → List ℕ) (xs ys : List Crossing) → slots c keys (xs ++ ys) ≡ slots c keys xs ++ slots c keys ys
slots-append c keys [] ys = refl
slots-append c keys (x ∷ xs) ys =
    ap (λ z. slots_of c keys x ++ z) (slots-append c keys xs ys) ∙ sym (append_assoc (slots_of c keys x) (slots c keys xs) (slots c keys ys))

-- what splits over appended slots, as their count, splits over the crossings of a walk that turned back
pub split-returned : {M : Type 0} (f : List Slot → M) (add : M → M → M) →
    ((xs ys : List Slot) → f (xs ++ ys) ≡ add (f xs) (f ys)) →
    (c : ℕ) (keys : ℕ → List ℕ) (before : List Crossing) (x : Crossing) (back : List Crossing) →
    f (slots c keys (before ++ x ∷ back)) ≡ add (f (slots c keys before)) (add (f (slots_of c keys x)) (f (slots c keys back)))
split-returned f add e c keys before x back =
    rw (
      slots-append c keys before (x ∷ back),
      e (slots c keys before) (slots_of c keys x ++ slots c keys back),
      e (slots_of c keys x) (slots c keys back),
    )
    refl

-- and of one that is stuck
pub split-stuck : {M : Type 0} (f : List Slot → M) (add : M → M → M) →
    ((xs ys : List Slot) → f (xs ++ ys) ≡ add (f xs) (f ys)) →
    (c : ℕ) (keys : ℕ → List ℕ) (before : List Crossing) (z : Crossing) (between : List Crossing) (x : Crossing)
    (back : List Crossing) (y : Crossing) →
    f (slots c keys (before ++ z ∷ (between ++ x ∷ (back ++ y ∷ []))))
    ≡ add (f (slots c keys before)) (add (f (slots_of c keys z)) (add (f (slots c keys between))
    (add (f (slots_of c keys x)) (add (f (slots c keys back)) (add (f (slots_of c keys y)) (f []))))))
split-stuck f add e c keys before z between x back y =
    rw (
      split-returned f add e c keys before z (between ++ x ∷ (back ++ y ∷ [])),
      split-returned f add e c keys between x (back ++ y ∷ []),
      split-returned f add e c keys back y [],
    )
    refl

pub back_done : (c : ℕ) (keys : ℕ → List ℕ) (d : Dir) (ts us : List ℕ) (xs : List Slot) → Follow (back_tree c keys d us) xs →
    Follow (back_tree c keys d (ts ++ us)) (slots c keys (crossed Back d ts) ++ xs)
back_done c keys d [] us xs h = h
back_done c keys d (t ∷ ts) us xs h =
    rw (append_assoc (visit c Back d t true (keys t)) (slots c keys (crossed Back d ts)) xs)
    (visit_done c Back d t true [] (keys t) (back_tree c keys d (ts ++ us)) (λ earlier. part_tree c (opposite d) t earlier stop) _
    (back_done c keys d ts us xs h))

pub forward_done : (c : ℕ) (keys : ℕ → List ℕ) (d : Dir) (stack ss rest : List ℕ) (xs : List Slot) →
    Follow (walk_tree c keys d (reverse ss ++ stack) rest) xs →
    Follow (walk_tree c keys d stack (ss ++ rest)) (slots c keys (crossed Forward d ss) ++ xs)
forward_done c keys d stack [] rest xs h = h
forward_done c keys d stack (s ∷ ss) rest xs h =
    let h1 = rw (reverse-append (s ∷ []) ss) at h in
    let h2 = rw (append_assoc (reverse ss) (s ∷ []) stack) at h1 in
    rw (append_assoc (visit c Forward d s true (keys s)) (slots c keys (crossed Forward d ss)) xs)
    (visit_done c Forward d s true [] (keys s) (walk_tree c keys d (s ∷ stack) (ss ++ rest))
    (λ earlier. part_tree c (opposite d) s earlier (back_tree c keys (opposite d) stack)) _
    (forward_done c keys d (s ∷ stack) ss rest xs h2))

pub failed_follows : (c : ℕ) (keys : ℕ → List ℕ) (p : Place) (d : Dir) (s : ℕ) (earlier : List ℕ) (i : ℕ) (later : List ℕ)
    (t : Tree) (f : List ℕ → Tree) (xs : List Slot) → keys s ≡ earlier ++ i ∷ later →
    Follow (f earlier) (visit c Part (opposite d) s false earlier ++ xs) →
    Follow (visit_tree c p d s true [] (keys s) t f) (slots_of c keys (failed p d s earlier i) ++ xs)
failed_follows c keys p d s earlier i later t f xs e h =
    let x : Slot = record { cpu = c; state = s; inst = i; dir = d; place = p; first = is_empty earlier; fails = true } in
    rw (e, append_assoc (visit c p d s true earlier) (x ∷ visit c Part (opposite d) s false earlier) xs)
    (visit_failed c p d s true [] earlier i later t f (is_empty earlier) (visit c Part (opposite d) s false earlier ++ xs)
    (first_is earlier) h)

pub back_all : (c : ℕ) (keys : ℕ → List ℕ) (d : Dir) (ts : List ℕ) → Follow (back_tree c keys d ts) (slots c keys (crossed Back d ts))
back_all c keys d ts =
    let r = back_done c keys d ts [] [] tt in
    rw (append-nil ts, append-nil (slots c keys (crossed Back d ts))) at r

pub back_follows : (c : ℕ) (keys : ℕ → List ℕ) (d : Dir) (before : List ℕ) (s : ℕ) (after earlier : List ℕ) (i : ℕ) (later : List ℕ) →
    keys s ≡ earlier ++ i ∷ later →
    Follow (walk_tree c keys d [] (before ++ s ∷ after))
    (slots c keys (crossed Forward d before ++ (failed Forward d s earlier i ∷ crossed Back (opposite d) (reverse before))))
back_follows c keys d before s after earlier i later e =
    rw (slots-append c keys (crossed Forward d before)
    (failed Forward d s earlier i ∷ crossed Back (opposite d) (reverse before)))
    (forward_done c keys d [] before (s ∷ after) _
    (failed_follows c keys Forward d s earlier i later (walk_tree c keys d (s ∷ (reverse before ++ [])) after)
    (λ earlier. part_tree c (opposite d) s earlier (back_tree c keys (opposite d) (reverse before ++ []))) _ e
    (part_done c (opposite d) s earlier (back_tree c keys (opposite d) (reverse before ++ [])) _
    (rw (append-nil (reverse before)) (back_all c keys (opposite d) (reverse before))))))

pub stuck_follows : (c : ℕ) (keys : ℕ → List ℕ) (d : Dir) (before : List ℕ) (t : ℕ) (between : List ℕ) (s : ℕ)
    (after earlier : List ℕ) (i : ℕ) (later earlier' : List ℕ) (i' : ℕ) (later' : List ℕ) →
    keys s ≡ earlier ++ i ∷ later → keys t ≡ earlier' ++ i' ∷ later' →
    Follow (walk_tree c keys d [] (before ++ (t ∷ (between ++ s ∷ after))))
    (slots c keys
    (crossed Forward d before
    ++ (done Forward d t
    ∷ (crossed Forward d between
    ++ (failed Forward d s earlier i
    ∷ (crossed Back (opposite d) (reverse between) ++ failed Back (opposite d) t earlier' i' ∷ []))))))
stuck_follows c keys d before t between s after earlier i later earlier' i' later' e e' =
    rw (
      slots-append c keys (crossed Forward d before)
          (done Forward d t
          ∷ (crossed Forward d between
          ++ (failed Forward d s earlier i
          ∷ (crossed Back (opposite d) (reverse between) ++ failed Back (opposite d) t earlier' i' ∷ [])))),
      slots-append c keys (crossed Forward d between)
          (failed Forward d s earlier i
          ∷ (crossed Back (opposite d) (reverse between) ++ failed Back (opposite d) t earlier' i' ∷ [])),
      slots-append c keys (crossed Back (opposite d) (reverse between)) (failed Back (opposite d) t earlier' i' ∷ []),
    )
    (forward_done c keys d [] before (t ∷ (between ++ s ∷ after)) _
    (visit_done c Forward d t true [] (keys t) (walk_tree c keys d (t ∷ (reverse before ++ [])) (between ++ s ∷ after))
    (λ earlier. part_tree c (opposite d) t earlier (back_tree c keys (opposite d) (reverse before ++ []))) _
    (forward_done c keys d (t ∷ (reverse before ++ [])) between (s ∷ after) _
    (failed_follows c keys Forward d s earlier i later
    (walk_tree c keys d (s ∷ (reverse between ++ (t ∷ (reverse before ++ [])))) after)
    (λ earlier. part_tree c (opposite d) s earlier
    (back_tree c keys (opposite d) (reverse between ++ (t ∷ (reverse before ++ []))))) _ e
    (part_done c (opposite d) s earlier
    (back_tree c keys (opposite d) (reverse between ++ (t ∷ (reverse before ++ [])))) _
    (back_done c keys (opposite d) (reverse between) (t ∷ (reverse before ++ [])) _
    (failed_follows c keys Back (opposite d) t earlier' i' later'
    (back_tree c keys (opposite d) (reverse before ++ []))
    (λ earlier. part_tree c (opposite (opposite d)) t earlier stop) [] e'
    (part_done c (opposite (opposite d)) t earlier' stop [] tt))))))))

-- each shape follows the tree of its plan
pub shape_follows : (c : ℕ) (keys : ℕ → List ℕ) (d : Dir) (plan : List ℕ) (xs : List Crossing) (o : Outcome) →
    IsWalkShape keys d plan xs o → Follow (walk_tree c keys d [] plan) (slots c keys xs)
shape_follows c keys d plan xs went h =
    let r = forward_done c keys d [] plan [] [] tt in
    rw h (rw (append-nil plan, append-nil (slots c keys (crossed Forward d plan))) at r)
shape_follows c keys d plan xs returned h =
    rw (h.plan_is, h.crossings_are)
    (back_follows c keys d h.before h.state h.after h.earlier h.inst h.later h.keys_are)
shape_follows c keys d plan xs (stopped at) h =
    rw (h.plan_is, h.crossings_are)
    (stuck_follows c keys d h.before h.stuck_state h.between h.state h.after h.earlier h.inst h.later h.stuck_earlier
    h.stuck_inst h.stuck_later h.keys_are h.stuck_keys_are)
