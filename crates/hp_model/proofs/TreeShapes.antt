-- The other way round: whatever follows the tree of a plan is a shape of it. So code that goes down the
-- tree, one entry at a time, makes a walk shape.
use Rattle.std.proofs.Common.{◌≡◌, ℕ, Bool, true, false, cond, List, [], ◌∷◌, ◌++◌, reverse, refl, ap, sym, ◌∙◌, inl, inr, ◌⊎◌, append_assoc}
use Rattle.std.proofs.lemmas.List.{append-nil, reverse-append, reverse-reverse}
use Rattle.hp_states.specs.declared.dir.Dir.{Dir}
use Rattle.hp_states.specs.declared.place.Place.{Place}
use Rattle.hp_states.specs.declared.place.Place.TheVariants.{Forward, Back, Part}
use Rattle.hp_states.specs.Sections.{opposite}
use Rattle.hp_model.specs.Crossing.{Slot, visit, Crossing, done, failed, far, slots_of, slots}
use Rattle.hp_model.specs.Lists.{is_empty}
use Rattle.hp_model.specs.WalkShape.{Outcome, went, returned, stopped, crossed, IsWalkShape}
use Rattle.hp_model.proofs.Path.{crossed-append}
use Rattle.hp_model.proofs.NextSlot.{with_fails, Tree, stop, dead, Follow, visit_tree, part_tree, back_tree, walk_tree, first_is, both_false, slots-append}

pub record IsVisited (c : ℕ) (p : Place) (d : Dir) (s : ℕ) (b : Bool) (is : List ℕ) (t : Tree) (xs : List Slot) : Type 0 where
  pub rest : List Slot
  pub slots_are : xs ≡ visit c p d s b is ++ rest
  pub follows : Follow t rest

pub record IsFaulted (c : ℕ) (p : Place) (d : Dir) (s : ℕ) (b : Bool) (seen is : List ℕ) (f : List ℕ → Tree) (xs : List Slot) : Type 0 where
  pub earlier : List ℕ
  pub inst : ℕ
  pub later : List ℕ
  pub rest : List Slot
  pub insts_are : is ≡ earlier ++ inst ∷ later
  pub slots_are :
      xs ≡ visit c p d s b earlier
      ++ (record { cpu = c; state = s; inst = inst; dir = d; place = p; first = cond (is_empty earlier) b false; fails = true } ∷ rest)
  pub follows : Follow (f (seen ++ earlier)) rest

pub visit_cases : (c : ℕ) (p : Place) (d : Dir) (s : ℕ) (b : Bool) (seen is : List ℕ) (t : Tree) (f : List ℕ → Tree) (xs : List Slot) →
    Follow (visit_tree c p d s b seen is t f) xs → IsVisited c p d s b is t xs ⊎ IsFaulted c p d s b seen is f xs
visit_cases c p d s b seen [] t f xs h = inl (record { rest = xs; slots_are = refl; follows = h })
visit_cases c p d s b seen (i ∷ is) t f [] h = elim h [ ]
visit_cases c p d s b seen (i ∷ is) t f (x ∷ xs) h =
    go x.fails h.0 h.1 (visit_cases c p d s false (seen ++ i ∷ []) is t f xs)
  where
    more : x ≡ record { cpu = c; state = s; inst = i; dir = d; place = p; first = b; fails = false } →
        IsVisited c p d s false is t xs ⊎ IsFaulted c p d s false (seen ++ i ∷ []) is f xs →
        IsVisited c p d s b (i ∷ is) t (x ∷ xs) ⊎ IsFaulted c p d s b seen (i ∷ is) f (x ∷ xs)
    more e (inl v) = inl (record { rest = v.rest; slots_are = rw (e, v.slots_are) refl; follows = v.follows })
    more e (inr v) = inr (record {
      earlier = i ∷ v.earlier;
      inst = v.inst;
      later = v.later;
      rest = v.rest;
      insts_are = ap (λ z. i ∷ z) v.insts_are;
      slots_are = rw (e, v.slots_are, both_false (is_empty v.earlier)) refl;
      follows = rw (append_assoc seen (i ∷ []) v.earlier) at v.follows;
    })

    go : (fails : Bool) → x ≡ with_fails (record { cpu = c; state = s; inst = i; dir = d; place = p; first = b; fails = false }) fails →
        Follow (cond fails (f seen) (visit_tree c p d s false (seen ++ i ∷ []) is t f)) xs →
        (Follow (visit_tree c p d s false (seen ++ i ∷ []) is t f) xs →
        IsVisited c p d s false is t xs ⊎ IsFaulted c p d s false (seen ++ i ∷ []) is f xs) →
        IsVisited c p d s b (i ∷ is) t (x ∷ xs) ⊎ IsFaulted c p d s b seen (i ∷ is) f (x ∷ xs)
    go true e k rest = inr (record {
      earlier = [];
      inst = i;
      later = is;
      rest = xs;
      insts_are = refl;
      slots_are = ap (λ z. z ∷ xs) e;
      follows = rw (append-nil seen) k;
    })
    go false e k rest = more e (rest k)

pub part_cases : (c : ℕ) (d : Dir) (s : ℕ) (is : List ℕ) (t : Tree) (xs : List Slot) → Follow (part_tree c d s is t) xs →
    IsVisited c Part d s false is t xs
part_cases c d s [] t xs h = record { rest = xs; slots_are = refl; follows = h }
part_cases c d s (i ∷ is) t [] h = elim h [ ]
part_cases c d s (i ∷ is) t (x ∷ xs) h = go x.fails h.0 h.1 (part_cases c d s is t xs)
  where
    go : (fails : Bool) → x ≡ with_fails (record { cpu = c; state = s; inst = i; dir = d; place = Part; first = false; fails = false }) fails →
        Follow (cond fails dead (part_tree c d s is t)) xs → (Follow (part_tree c d s is t) xs → IsVisited c Part d s false is t xs) →
        IsVisited c Part d s false (i ∷ is) t (x ∷ xs)
    go true e k rest = elim k [ ]
    go false e k rest = let v = rest k in record { rest = v.rest; slots_are = rw (e, v.slots_are) refl; follows = v.follows }

pub stop_none : (xs : List Slot) → Follow stop xs → xs ≡ []
stop_none [] h = refl
stop_none (x ∷ xs) h = elim h [ ]

pub failed_slots : (c : ℕ) (keys : ℕ → List ℕ) (p : Place) (d : Dir) (s : ℕ) (earlier : List ℕ) (i : ℕ) (rest ys : List Slot) →
    rest ≡ visit c Part (opposite d) s false earlier ++ ys →
    visit c p d s true earlier
    ++ (record { cpu = c; state = s; inst = i; dir = d; place = p; first = cond (is_empty earlier) true false; fails = true } ∷ rest)
    ≡ slots_of c keys (failed p d s earlier i) ++ ys
failed_slots c keys p d s earlier i rest ys e =
    let x : Slot = record { cpu = c; state = s; inst = i; dir = d; place = p; first = is_empty earlier; fails = true } in
    rw (e, ← first_is earlier)
    (sym (append_assoc (visit c p d s true earlier) (x ∷ visit c Part (opposite d) s false earlier) ys))

pub record IsStopped (c : ℕ) (keys : ℕ → List ℕ) (d : Dir) (ts : List ℕ) (xs : List Slot) : Type 0 where
  pub crossed_back : List ℕ
  pub state : ℕ
  pub rest : List ℕ
  pub earlier : List ℕ
  pub inst : ℕ
  pub later : List ℕ
  pub states_are : ts ≡ crossed_back ++ state ∷ rest
  pub keys_are : keys state ≡ earlier ++ inst ∷ later
  pub slots_are : xs ≡ slots c keys (crossed Back d crossed_back ++ failed Back d state earlier inst ∷ [])

pub back_cases : (c : ℕ) (keys : ℕ → List ℕ) (d : Dir) (ts : List ℕ) (xs : List Slot) → Follow (back_tree c keys d ts) xs →
    (xs ≡ slots c keys (crossed Back d ts)) ⊎ IsStopped c keys d ts xs
back_cases c keys d [] xs h = inl (stop_none xs h)
back_cases c keys d (t ∷ ts) xs h =
    go (visit_cases c Back d t true [] (keys t) (back_tree c keys d ts) (λ earlier. part_tree c (opposite d) t earlier stop) xs h)
    (back_cases c keys d ts)
  where
    more : (v : List Slot) → xs ≡ visit c Back d t true (keys t) ++ v →
        (v ≡ slots c keys (crossed Back d ts)) ⊎ IsStopped c keys d ts v →
        (xs ≡ slots c keys (crossed Back d (t ∷ ts))) ⊎ IsStopped c keys d (t ∷ ts) xs
    more v e (inl f) = inl (rw (e, f) refl)
    more v e (inr r) = inr (record {
      crossed_back = t ∷ r.crossed_back;
      state = r.state;
      rest = r.rest;
      earlier = r.earlier;
      inst = r.inst;
      later = r.later;
      states_are = ap (λ z. t ∷ z) r.states_are;
      keys_are = r.keys_are;
      slots_are = rw (e, r.slots_are) refl;
    })

    go : IsVisited c Back d t true (keys t) (back_tree c keys d ts) xs
        ⊎ IsFaulted c Back d t true [] (keys t) (λ earlier. part_tree c (opposite d) t earlier stop) xs →
        ((v : List Slot) → Follow (back_tree c keys d ts) v → (v ≡ slots c keys (crossed Back d ts)) ⊎ IsStopped c keys d ts v) →
        (xs ≡ slots c keys (crossed Back d (t ∷ ts))) ⊎ IsStopped c keys d (t ∷ ts) xs
    go (inl v) rest = more v.rest v.slots_are (rest v.rest v.follows)
    go (inr v) rest =
        let p = part_cases c (opposite d) t v.earlier stop v.rest v.follows in
        inr (record {
          crossed_back = [];
          state = t;
          rest = ts;
          earlier = v.earlier;
          inst = v.inst;
          later = v.later;
          states_are = refl;
          keys_are = v.insts_are;
          slots_are =
              v.slots_are ∙ failed_slots c keys Back d t v.earlier v.inst v.rest []
              (p.slots_are ∙ ap (λ z. visit c Part (opposite d) t false v.earlier ++ z) (stop_none p.rest p.follows));
        })

pub record IsTurned (c : ℕ) (keys : ℕ → List ℕ) (d : Dir) (stack plan : List ℕ) (xs : List Slot) : Type 0 where
  pub before : List ℕ
  pub state : ℕ
  pub after : List ℕ
  pub earlier : List ℕ
  pub inst : ℕ
  pub later : List ℕ
  pub rest : List Slot
  pub plan_is : plan ≡ before ++ state ∷ after
  pub keys_are : keys state ≡ earlier ++ inst ∷ later
  pub slots_are : xs ≡ slots c keys (crossed Forward d before) ++ (slots_of c keys (failed Forward d state earlier inst) ++ rest)
  pub follows : Follow (back_tree c keys (opposite d) (reverse before ++ stack)) rest

pub walk_cases : (c : ℕ) (keys : ℕ → List ℕ) (d : Dir) (stack plan : List ℕ) (xs : List Slot) →
    Follow (walk_tree c keys d stack plan) xs →
    (xs ≡ slots c keys (crossed Forward d plan)) ⊎ IsTurned c keys d stack plan xs
walk_cases c keys d stack [] xs h = inl (stop_none xs h)
walk_cases c keys d stack (s ∷ ss) xs h =
    go (visit_cases c Forward d s true [] (keys s) (walk_tree c keys d (s ∷ stack) ss)
    (λ earlier. part_tree c (opposite d) s earlier (back_tree c keys (opposite d) stack)) xs h)
    (walk_cases c keys d (s ∷ stack) ss)
  where
    more : (v : List Slot) → xs ≡ visit c Forward d s true (keys s) ++ v →
        (v ≡ slots c keys (crossed Forward d ss)) ⊎ IsTurned c keys d (s ∷ stack) ss v →
        (xs ≡ slots c keys (crossed Forward d (s ∷ ss))) ⊎ IsTurned c keys d stack (s ∷ ss) xs
    more v e (inl f) = inl (rw (e, f) refl)
    more v e (inr r) = inr (record {
      before = s ∷ r.before;
      state = r.state;
      after = r.after;
      earlier = r.earlier;
      inst = r.inst;
      later = r.later;
      rest = r.rest;
      plan_is = ap (λ z. s ∷ z) r.plan_is;
      keys_are = r.keys_are;
      slots_are =
          e ∙ (ap (λ z. visit c Forward d s true (keys s) ++ z) r.slots_are
          ∙ sym (append_assoc (visit c Forward d s true (keys s)) (slots c keys (crossed Forward d r.before))
          (slots_of c keys (failed Forward d r.state r.earlier r.inst) ++ r.rest)));
      follows = rw (reverse-append (s ∷ []) r.before, append_assoc (reverse r.before) (s ∷ []) stack) r.follows;
    })

    go : IsVisited c Forward d s true (keys s) (walk_tree c keys d (s ∷ stack) ss) xs
        ⊎ IsFaulted c Forward d s true [] (keys s)
        (λ earlier. part_tree c (opposite d) s earlier (back_tree c keys (opposite d) stack)) xs →
        ((v : List Slot) → Follow (walk_tree c keys d (s ∷ stack) ss) v →
        (v ≡ slots c keys (crossed Forward d ss)) ⊎ IsTurned c keys d (s ∷ stack) ss v) →
        (xs ≡ slots c keys (crossed Forward d (s ∷ ss))) ⊎ IsTurned c keys d stack (s ∷ ss) xs
    go (inl v) rest = more v.rest v.slots_are (rest v.rest v.follows)
    go (inr v) rest =
        let p = part_cases c (opposite d) s v.earlier (back_tree c keys (opposite d) stack) v.rest v.follows in
        inr (record {
          before = [];
          state = s;
          after = ss;
          earlier = v.earlier;
          inst = v.inst;
          later = v.later;
          rest = p.rest;
          plan_is = refl;
          keys_are = v.insts_are;
          slots_are = v.slots_are ∙ failed_slots c keys Forward d s v.earlier v.inst v.rest p.rest p.slots_are;
          follows = p.follows;
        })

pub record IsSomeShape (c : ℕ) (keys : ℕ → List ℕ) (d : Dir) (plan : List ℕ) (xs : List Slot) : Type 0 where
  pub outcome : Outcome
  pub crossings : List Crossing
  pub shape : IsWalkShape keys d plan crossings outcome
  pub slots_are : xs ≡ slots c keys crossings

pub cut_back : (before cb : List ℕ) (t : ℕ) (rest : List ℕ) → reverse before ≡ cb ++ t ∷ rest →
    before ≡ reverse rest ++ (t ∷ reverse cb)
cut_back before cb t rest e =
    sym (reverse-reverse before)
    ∙ (ap reverse e
    ∙ (reverse-append cb (t ∷ rest)
    ∙ (ap (λ z. z ++ reverse cb) (reverse-append (t ∷ []) rest) ∙ append_assoc (reverse rest) (t ∷ []) (reverse cb))))

pub turned_shape : (c : ℕ) (keys : ℕ → List ℕ) (d : Dir) (plan : List ℕ) (xs : List Slot) → (r : IsTurned c keys d [] plan xs) →
    (r.rest ≡ slots c keys (crossed Back (opposite d) (reverse r.before))) ⊎ IsStopped c keys (opposite d) (reverse r.before) r.rest →
    IsSomeShape c keys d plan xs
turned_shape c keys d plan xs r (inl f) =
    let x : Crossing = failed Forward d r.state r.earlier r.inst in
    record {
      outcome = returned;
      crossings = crossed Forward d r.before ++ (x ∷ crossed Back (opposite d) (reverse r.before));
      shape = record {
        before = r.before;
        state = r.state;
        after = r.after;
        earlier = r.earlier;
        inst = r.inst;
        later = r.later;
        plan_is = r.plan_is;
        keys_are = r.keys_are;
        crossings_are = refl;
      };
      slots_are =
          rw (slots-append c keys (crossed Forward d r.before) (x ∷ crossed Back (opposite d) (reverse r.before)), ← f) r.slots_are;
    }
turned_shape c keys d plan xs r (inr q) =
    let x : Crossing = failed Forward d r.state r.earlier r.inst in
    let y : Crossing = failed Back (opposite d) q.state q.earlier q.inst in
    let Z : List Crossing = crossed Back (opposite d) q.crossed_back ++ y ∷ [] in
    let cut : r.before ≡ reverse q.rest ++ (q.state ∷ reverse q.crossed_back) = cut_back r.before q.crossed_back q.state q.rest q.states_are in
    record {
      outcome = stopped (far d q.state);
      crossings = crossed Forward d r.before ++ (x ∷ Z);
      shape = record {
        before = reverse q.rest;
        stuck_state = q.state;
        between = reverse q.crossed_back;
        state = r.state;
        after = r.after;
        earlier = r.earlier;
        inst = r.inst;
        later = r.later;
        stuck_earlier = q.earlier;
        stuck_inst = q.inst;
        stuck_later = q.later;
        plan_is =
            r.plan_is
            ∙ (ap (λ z. z ++ r.state ∷ r.after) cut
            ∙ append_assoc (reverse q.rest) (q.state ∷ reverse q.crossed_back) (r.state ∷ r.after));
        keys_are = r.keys_are;
        stuck_keys_are = q.keys_are;
        crossings_are =
            ap (λ z. crossed Forward d z ++ (x ∷ Z)) cut
            ∙ (ap (λ z. z ++ (x ∷ Z)) (crossed-append Forward d (reverse q.rest) (q.state ∷ reverse q.crossed_back))
            ∙ (append_assoc (crossed Forward d (reverse q.rest)) (done Forward d q.state ∷ crossed Forward d (reverse q.crossed_back)) (x ∷ Z)
            ∙ rw (reverse-reverse q.crossed_back) refl));
        at_is = refl;
      };
      slots_are = rw (slots-append c keys (crossed Forward d r.before) (x ∷ Z), ← q.slots_are) r.slots_are;
    }

-- what follows the tree of a plan is a shape of it
pub tree_shape : (c : ℕ) (keys : ℕ → List ℕ) (d : Dir) (plan : List ℕ) (xs : List Slot) →
    Follow (walk_tree c keys d [] plan) xs → IsSomeShape c keys d plan xs
tree_shape c keys d plan xs h = go (walk_cases c keys d [] plan xs h)
  where
    go : (xs ≡ slots c keys (crossed Forward d plan)) ⊎ IsTurned c keys d [] plan xs → IsSomeShape c keys d plan xs
    go (inl e) = record { outcome = went; crossings = crossed Forward d plan; shape = refl; slots_are = e }
    go (inr r) =
        turned_shape c keys d plan xs r
        (back_cases c keys (opposite d) (reverse r.before) r.rest (rw (append-nil (reverse r.before)) at r.follows))
