-- A path: crossings, each of which begins where the one before it left off, but for states that have no
-- key. Every walk shape is a path from the walk's start to the state that it leaves.
use Rattle.std.proofs.Common.{◌≡◌, ℕ, zero, suc, ◌+◌, ◌-◌, ◌<◌, ◌≤◌, Bool, true, false, cond, not, leb, ltb, List, [], ◌∷◌, ◌++◌, reverse, refl, ap, sym, ◌∙◌, arith}
use Rattle.std.proofs.lemmas.List.{reverse-append}
use Rattle.std.proofs.lemmas.Bool.Decides.{nat_tests}
use Rattle.std.proofs.lemmas.Bool.{false≢true, ltb-true, ltb-false}
use Rattle.hp_states.specs.declared.dir.Dir.{Dir}
use Rattle.hp_states.specs.declared.dir.Dir.TheVariants.{Up, Down}
use Rattle.hp_states.specs.declared.place.Place.{Place}
use Rattle.hp_states.specs.declared.place.Place.TheVariants.{Forward, Back}
use Rattle.hp_states.specs.Sections.{opposite}
use Rattle.hp_event.specs.declared.event.Event.{Event}
use Rattle.hp_model.specs.InForce.{ups, downs}
use Rattle.hp_model.specs.Lists.{occurs, is_empty, rising}
use Rattle.hp_model.specs.Crossing.{Fill, Crossing, done, failed, near, far, slots_of, slots}
use Rattle.hp_model.specs.Plan.{keyed, direction, plan}
use Rattle.hp_model.specs.WalkShape.{Outcome, went, returned, stopped, crossed, IsWalkShape}
use Rattle.hp_model.proofs.Counts.{at_or_below, Fill_split, done_nets, failed_nets, done_entries-none, done_entries-append, occurs-append}

-- the keys at or below one state are those at or below the other
pub record Same (keys : ℕ → List ℕ) (a b : ℕ) : Type 0 where
  pub at : (s i : ℕ) → at_or_below keys a s i ≡ at_or_below keys b s i

-- some keys of a state, each no more often than in its list
pub record Fewer (keys : ℕ → List ℕ) (s : ℕ) (earlier : List ℕ) : Type 0 where
  pub at : (i : ℕ) → occurs i earlier ≤ occurs i (keys s)

abbrev pub Path : (keys : ℕ → List ℕ) → (a : ℕ) → List Crossing → (b : ℕ) → Type 0
Path keys a [] b = Same keys a b
Path keys a (done p d s ∷ xs) b = (0 < s) × Same keys a (near d s) × Path keys (far d s) xs b
Path keys a (failed p d s earlier i ∷ xs) b =
    (0 < s) × Same keys a (near d s) × Path keys (near d s) xs b × Fewer keys s earlier

pub Same_refl : (keys : ℕ → List ℕ) (a : ℕ) → Same keys a a
Same_refl keys a = record { at = λ s i. refl }

pub Same_sym : {keys : ℕ → List ℕ} {a b : ℕ} → Same keys a b → Same keys b a
Same_sym h = record { at = λ s i. sym (h.at s i) }

pub Same_trans : {keys : ℕ → List ℕ} {a b c : ℕ} → Same keys a b → Same keys b c → Same keys a c
Same_trans h k = record { at = λ s i. h.at s i ∙ k.at s i }

-- a path nets the keys between its ends
pub path_nets : (c : ℕ) (keys : ℕ → List ℕ) (a b : ℕ) (xs : List Crossing) (es : List Event) (t i : ℕ) →
    Path keys a xs b → Fill (slots c keys xs) es →
    at_or_below keys a t i + ups c t i es ≡ downs c t i es + at_or_below keys b t i
path_nets c keys a b [] [] t i p h =
    let same = p.at t i in
    rw (done_entries-none, done_entries-none) (omega arith)
path_nets c keys a b [] (e ∷ es) t i p h = elim h [ ]
path_nets c keys a b (done q d s ∷ xs) es t i p h =
    let r = Fill_split (slots_of c keys (done q d s)) (slots c keys xs) es h in
    let one = done_nets c t i keys q d s r.0 p.0 r.3 in
    let rest = path_nets c keys (far d s) b xs r.1 t i p.2 r.4 in
    let same = p.1.at t i in
    rw (r.2, done_entries-append, done_entries-append) (omega arith)
path_nets c keys a b (failed q d s earlier k ∷ xs) es t i p h =
    let r = Fill_split (slots_of c keys (failed q d s earlier k)) (slots c keys xs) es h in
    let one = failed_nets c t i keys q d s earlier k r.0 r.3 in
    let rest = path_nets c keys (near d s) b xs r.1 t i p.2 r.4 in
    let same = p.1.at t i in
    rw (r.2, done_entries-append, done_entries-append) (omega arith)

-- paths one after another
pub Path_from : (keys : ℕ → List ℕ) (a b c : ℕ) (xs : List Crossing) → Same keys a b → Path keys b xs c → Path keys a xs c
Path_from keys a b c [] s p = Same_trans s p
Path_from keys a b c (done q d s ∷ xs) e p = (p.0, Same_trans e p.1, p.2)
Path_from keys a b c (failed q d s earlier i ∷ xs) e p = (p.0, Same_trans e p.1, p.2, p.3)

pub Path-append : (keys : ℕ → List ℕ) (a b c : ℕ) (xs ys : List Crossing) →
    Path keys a xs b → Path keys b ys c → Path keys a (xs ++ ys) c
Path-append keys a b c [] ys p q = Path_from keys a b c ys p q
Path-append keys a b c (done r d s ∷ xs) ys p q = (p.0, p.1, Path-append keys (far d s) b c xs ys p.2 q)
Path-append keys a b c (failed r d s earlier i ∷ xs) ys p q =
    (p.0, p.1, Path-append keys (near d s) b c xs ys p.2 q, p.3)

pub Path_split : (keys : ℕ → List ℕ) (a c : ℕ) (xs ys : List Crossing) →
    Path keys a (xs ++ ys) c → (b : ℕ) × Path keys a xs b × Path keys b ys c
Path_split keys a c [] ys p = (a, Same_refl keys a, p)
Path_split keys a c (done r d s ∷ xs) ys p =
    let r = Path_split keys (far d s) c xs ys p.2 in (r.0, (p.0, p.1, r.1), r.2)
Path_split keys a c (failed r d s earlier i ∷ xs) ys p =
    let r = Path_split keys (near d s) c xs ys p.2 in (r.0, (p.0, p.1, r.1, p.3), r.2)

pub near_opposite : (d : Dir) (s : ℕ) → near (opposite d) s ≡ far d s
near_opposite Up s = refl
near_opposite Down s = refl

pub far_opposite : (d : Dir) (s : ℕ) → far (opposite d) s ≡ near d s
far_opposite Up s = refl
far_opposite Down s = refl

pub crossed-append : (p : Place) (d : Dir) (xs ys : List ℕ) → crossed p d (xs ++ ys) ≡ crossed p d xs ++ crossed p d ys
crossed-append p d [] ys = refl
crossed-append p d (x ∷ xs) ys = ap (λ z. done p d x ∷ z) (crossed-append p d xs ys)

-- the way back
pub back_step : (keys : ℕ → List ℕ) (q : Place) (d : Dir) (a s : ℕ) → 0 < s → Same keys a (near d s) →
    Path keys (far d s) (done q (opposite d) s ∷ []) a
back_step keys q Up a s pos e = (pos, Same_refl keys s, Same_sym e)
back_step keys q Down a s pos e = (pos, Same_refl keys (s - 1), Same_sym e)

pub Path_back : (keys : ℕ → List ℕ) (p q : Place) (d : Dir) (a b : ℕ) (ss : List ℕ) →
    Path keys a (crossed p d ss) b → Path keys b (crossed q (opposite d) (reverse ss)) a
Path_back keys p q d a b [] h = Same_sym h
Path_back keys p q d a b (s ∷ ss) h =
    rw (reverse-append (s ∷ []) ss, crossed-append q (opposite d) (reverse ss) (s ∷ []))
    (Path-append keys b (far d s) a (crossed q (opposite d) (reverse ss)) (done q (opposite d) s ∷ [])
    (Path_back keys p q d (far d s) b ss h.2) (back_step keys q d a s h.0 h.1))

-- where a walk leaves its processor
abbrev pub end_of : Outcome → (from to : ℕ) → ℕ
end_of went from to = to
end_of returned from to = from
end_of (stopped at) from to = at

pub Fewer_from : (keys : ℕ → List ℕ) (s : ℕ) (earlier : List ℕ) (i : ℕ) (later : List ℕ) → keys s ≡ earlier ++ i ∷ later →
    Fewer keys s earlier
Fewer_from keys s earlier i later e = record {
  at = λ j. let h = occurs-append j earlier (i ∷ later) in rw e (omega arith);
}

pub back_path : (keys : ℕ → List ℕ) (d : Dir) (from to : ℕ) (before : List ℕ) (s : ℕ) (after earlier : List ℕ) (i : ℕ) →
    Fewer keys s earlier →
    Path keys from (crossed Forward d (before ++ s ∷ after)) to →
    Path keys from
    (crossed Forward d before ++ (failed Forward d s earlier i ∷ crossed Back (opposite d) (reverse before))) from
back_path keys d from to before s after earlier i few h =
    let h' = rw crossed-append at h in
    let r = Path_split keys from to (crossed Forward d before) (crossed Forward d (s ∷ after)) h' in
    let back = Path_back keys Forward Back d from r.0 before r.1 in
    Path-append keys from r.0 from (crossed Forward d before) _ r.1
    (r.2.0, r.2.1, Path_from keys (near d s) r.0 from _ (Same_sym r.2.1) back, few)

pub stuck_step : (keys : ℕ → List ℕ) (d : Dir) (t : ℕ) (earlier : List ℕ) (i : ℕ) → 0 < t → Fewer keys t earlier →
    Path keys (far d t) (failed Back (opposite d) t earlier i ∷ []) (far d t)
stuck_step keys Up t earlier i pos few = (pos, Same_refl keys t, Same_refl keys t, few)
stuck_step keys Down t earlier i pos few = (pos, Same_refl keys (t - 1), Same_refl keys (t - 1), few)

pub stuck_path : (keys : ℕ → List ℕ) (d : Dir) (from to : ℕ) (before : List ℕ) (t : ℕ) (between : List ℕ) (s : ℕ)
    (after earlier : List ℕ) (i : ℕ) (earlier' : List ℕ) (i' : ℕ) → Fewer keys s earlier → Fewer keys t earlier' →
    Path keys from (crossed Forward d (before ++ (t ∷ (between ++ s ∷ after)))) to →
    Path keys from
    (crossed Forward d before
    ++ (done Forward d t
    ∷ (crossed Forward d between
    ++ (failed Forward d s earlier i
    ∷ (crossed Back (opposite d) (reverse between)
    ++ failed Back (opposite d) t earlier' i' ∷ [])))))
    (far d t)
stuck_path keys d from to before t between s after earlier i earlier' i' few few' h =
    let h1 = rw crossed-append at h in
    let r1 = Path_split keys from to (crossed Forward d before) (crossed Forward d (t ∷ (between ++ s ∷ after))) h1 in
    let h2 = rw (crossed-append Forward d between (s ∷ after)) at r1.2.2 in
    let r2 = Path_split keys (far d t) to (crossed Forward d between) (crossed Forward d (s ∷ after)) h2 in
    let back = Path_back keys Forward Back d (far d t) r2.0 between r2.1 in
    Path-append keys from r1.0 (far d t) (crossed Forward d before) _ r1.1 (
      r1.2.0,
      r1.2.1,
      Path-append keys (far d t) r2.0 (far d t) (crossed Forward d between) _ r2.1 (
        r2.2.0,
        r2.2.1,
        Path_from keys (near d s) r2.0 (far d t) _ (Same_sym r2.2.1)
            (Path-append keys r2.0 (far d t) (far d t) (crossed Back (opposite d) (reverse between)) _ back
            (stuck_step keys d t earlier' i' r1.2.0 few')),
        few,
      ),
    )

pub shape_path : (keys : ℕ → List ℕ) (d : Dir) (plan : List ℕ) (from to : ℕ) (xs : List Crossing) (o : Outcome) →
    Path keys from (crossed Forward d plan) to → IsWalkShape keys d plan xs o → Path keys from xs (end_of o from to)
shape_path keys d plan from to xs went p h = rw h p
shape_path keys d plan from to xs returned p h =
    rw h.crossings_are
    (back_path keys d from to h.before h.state h.after h.earlier h.inst
    (Fewer_from keys h.state h.earlier h.inst h.later h.keys_are) (rw h.plan_is at p))
shape_path keys d plan from to xs (stopped at) p h =
    rw (h.crossings_are, h.at_is)
    (stuck_path keys d from to h.before h.stuck_state h.between h.state h.after h.earlier h.inst h.stuck_earlier h.stuck_inst
    (Fewer_from keys h.state h.earlier h.inst h.later h.keys_are)
    (Fewer_from keys h.stuck_state h.stuck_earlier h.stuck_inst h.stuck_later h.stuck_keys_are)
    (rw h.plan_is at p))

-- the plan is a path from where the walk begins to where it is going
pub occurs_none : (i : ℕ) (xs : List ℕ) → is_empty xs ≡ true → occurs i xs ≡ 0
occurs_none i [] h = refl
occurs_none i (x ∷ xs) h = absurd (false≢true h)

pub rung_none : (f : ℕ → ℕ) (a s : ℕ) → f (suc a) ≡ 0 → cond (leb s a) (f s) 0 ≡ cond (leb s (suc a)) (f s) 0
rung_none f a s h = grind (arith, nat_tests)

pub no_keys : (keys : ℕ → List ℕ) (a : ℕ) → is_empty (keys (suc a)) ≡ true → Same keys a (suc a)
no_keys keys a h =
    record { at = λ s i. rung_none (λ x. occurs i (keys x)) a s (occurs_none i (keys (suc a)) h) }

pub keyed_path : (keys : ℕ → List ℕ) (a n b : ℕ) → b ≡ n + a →
    Path keys a (crossed Forward Up (keyed keys (rising a n))) b
keyed_path keys a zero b e =
    let f : b ≡ a = omega arith in rw f (Same_refl keys a)
keyed_path keys a (suc n) b e = go (is_empty (keys (suc a))) refl (keyed_path keys (suc a) n b (omega arith))
  where
    go : (none : Bool) → is_empty (keys (suc a)) ≡ none →
        Path keys (suc a) (crossed Forward Up (keyed keys (rising (suc a) n))) b →
        Path keys a
        (crossed Forward Up
        (cond (not none) (suc a ∷ keyed keys (rising (suc a) n)) (keyed keys (rising (suc a) n)))) b
    go true f p = Path_from keys a (suc a) b _ (no_keys keys a f) p
    go false f p =
        let g : suc a - 1 ≡ a = omega arith in
        (omega arith, rw g (Same_refl keys a), p)

pub plan_path : (keys : ℕ → List ℕ) (from to : ℕ) →
    Path keys from (crossed Forward (direction from to) (plan keys from to)) to
plan_path keys from to = go (ltb from to) refl
  where
    go : (up : Bool) → ltb from to ≡ up →
        Path keys from
        (crossed Forward (cond up Up Down)
        (cond up (keyed keys (rising from (to - from))) (reverse (keyed keys (rising to (from - to)))))) to
    go true f = let lt = ltb-true from to f in keyed_path keys from (to - from) to (omega arith)
    go false f =
        let le = ltb-false from to f in
        Path_back keys Forward Forward Up to from (keyed keys (rising to (from - to)))
        (keyed_path keys to (from - to) from (omega arith))
