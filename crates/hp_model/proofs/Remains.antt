-- What remains of a tree after some entries, by the ways down it.
use Rattle.std.proofs.Common.{◌≡◌, Bool, true, false, cond, not, ◌&&◌, eqb, List, [], ◌∷◌, ◌++◌, refl, ap, sym, subst, ◌∙◌}
use Rattle.std.proofs.lemmas.Bool.{false≢true, eqb-true, eq-eqb, and_parts}
use Rattle.hp_model.proofs.Bounds.{same_self}
use Rattle.hp_states.specs.declared.dir.Dir.{Dir}
use Rattle.hp_states.specs.declared.dir.Dir.TheVariants.{Up, Down}
use Rattle.hp_states.specs.Rules.{same_dir}
use Rattle.hp_event.specs.declared.event.Event.{Event}
use Rattle.hp_event.specs.declared.event.Event.TheVariants.{Call}
use Rattle.hp_model.specs.Crossing.{Slot, Fits, Fill, Begin}
use Rattle.hp_model.specs.Trees.{Tree, stop, dead, step}
use Rattle.hp_model.specs.Remaining.{is_for, is_done_call, remaining}
use Rattle.hp_model.proofs.NextSlot.{with_fails, Follow}
use Rattle.hp_model.proofs.Cursor.{Runs, IsLive}

dir_same : (a b : Dir) → same_dir a b ≡ true → a ≡ b
dir_same Up Up h = refl
dir_same Up Down h = absurd (false≢true h)
dir_same Down Up h = absurd (false≢true h)
dir_same Down Down h = refl

-- an entry fits a slot where it is for it, done or a fault
fits_of : (s : Slot) (e : Event) (fails : Bool) → is_for s e ≡ true → is_done_call e ≡ not fails → Fits (with_fails s fails) e
fits_of s (Call seat cpu state inst dir how) fails h k =
    let p = and_parts (eqb cpu s.cpu && eqb state s.state) (eqb inst s.inst && same_dir dir s.dir) h in
    let q = and_parts (eqb cpu s.cpu) (eqb state s.state) p.0 in
    let r = and_parts (eqb inst s.inst) (same_dir dir s.dir) p.1 in
    (eqb-true cpu s.cpu q.0, eqb-true state s.state q.1, eqb-true inst s.inst r.0, dir_same dir s.dir r.1, k)
fits_of s e fails h k = absurd (false≢true h)

for_of : (s w : Slot) (e : Event) → w ≡ with_fails s w.fails → Fits w e → (is_for s e ≡ true) × (is_done_call e ≡ not w.fails)
for_of s w (Call seat cpu state inst dir how) h f =
    let a : cpu ≡ s.cpu = f.0 ∙ ap (λ z. z.cpu) h in
    let b : state ≡ s.state = f.1 ∙ ap (λ z. z.state) h in
    let c : inst ≡ s.inst = f.2 ∙ ap (λ z. z.inst) h in
    let d : dir ≡ s.dir = f.3 ∙ ap (λ z. z.dir) h in
    (rw (eq-eqb cpu s.cpu a, eq-eqb state s.state b, eq-eqb inst s.inst c, d) (same_self s.dir), f.4)
for_of s w e h f = elim f [ ]

-- what remains is where the entries lead, where that isn't dead
pub runs_of : (t : Tree) (es : List Event) (u : Tree) → remaining t es ≡ u → IsLive u → Runs t es u
runs_of t [] u h l = h
runs_of stop (e ∷ es) u h l = elim (subst IsLive (sym h) l) [ ]
runs_of dead (e ∷ es) u h l = elim (subst IsLive (sym h) l) [ ]
runs_of (step s a b) (e ∷ es) u h l =
    go (is_for s e) (is_done_call e) refl refl h (λ g. runs_of a es u g l) (λ g. runs_of b es u g l)
  where
    go : (p q : Bool) → is_for s e ≡ p → is_done_call e ≡ q → cond p (remaining (cond q a b) es) dead ≡ u →
        (remaining a es ≡ u → Runs a es u) → (remaining b es ≡ u → Runs b es u) → Runs (step s a b) (e ∷ es) u
    go true true f g k ra rb = (false, fits_of s e false f g, ra k)
    go true false f g k ra rb = (true, fits_of s e true f g, rb k)
    go false q f g k ra rb = elim (subst IsLive (sym k) l) [ ]

pub remains : (t : Tree) (es : List Event) (u : Tree) → Runs t es u → remaining t es ≡ u
remains t [] u r = r
remains stop (e ∷ es) u r = elim r [ ]
remains dead (e ∷ es) u r = elim r [ ]
remains (step s a b) (e ∷ es) u r =
    let k = for_of s (with_fails s r.0) e refl r.1 in
    rw k.0 (go r.0 k.1 r.2 (remains a es u) (remains b es u))
  where
    go : (fails : Bool) → is_done_call e ≡ not fails → Runs (cond fails b a) es u → (Runs a es u → remaining a es ≡ u) →
        (Runs b es u → remaining b es ≡ u) → remaining (cond (is_done_call e) a b) es ≡ u
    go true g h ra rb = rw g (rb h)
    go false g h ra rb = rw g (ra h)

-- the step of a slot that comes next in something that follows the tree
pub record IsStep (t : Tree) (es : List Event) (x : Slot) : Type 0 where
  pub slot : Slot
  pub done_tree : Tree
  pub fault_tree : Tree
  pub runs : Runs t es (step slot done_tree fault_tree)
  pub slot_is : x ≡ with_fails slot x.fails

fits_as : (s x : Slot) (e : Event) → x ≡ with_fails s x.fails → Fits x e → Fits (with_fails s x.fails) e
fits_as s x e h f = rw h at f

pub step_at : (t : Tree) (front : List Slot) (x : Slot) (rest : List Slot) (es : List Event) → Follow t (front ++ x ∷ rest) →
    Fill front es → IsStep t es x
step_at stop [] x rest [] h f = elim h [ ]
step_at dead [] x rest [] h f = elim h [ ]
step_at (step s a b) [] x rest [] h f =
    record { slot = s; done_tree = a; fault_tree = b; runs = refl; slot_is = h.0 }
step_at t [] x rest (e ∷ es) h f = elim f [ ]
step_at t (w ∷ front) x rest [] h f = elim f [ ]
step_at stop (w ∷ front) x rest (e ∷ es) h f = elim h [ ]
step_at dead (w ∷ front) x rest (e ∷ es) h f = elim h [ ]
step_at (step s a b) (w ∷ front) x rest (e ∷ es) h f =
    let r = step_at (cond w.fails b a) front x rest es h.1 f.1 in
    record {
      slot = r.slot;
      done_tree = r.done_tree;
      fault_tree = r.fault_tree;
      runs = (w.fails, fits_as s w e h.0 f.0, r.runs);
      slot_is = r.slot_is;
    }

-- the entries of something that follows the tree lead to its end
pub stop_at : (t : Tree) (xs : List Slot) (es : List Event) → Follow t xs → Fill xs es → Runs t es stop
stop_at stop [] [] h f = refl
stop_at dead xs es h f = elim h [ ]
stop_at (step s a b) [] es h f = elim h [ ]
stop_at t [] (e ∷ es) h f = elim f [ ]
stop_at stop (w ∷ xs) es h f = elim h [ ]
stop_at (step s a b) (w ∷ xs) [] h f = elim f [ ]
stop_at (step s a b) (w ∷ xs) (e ∷ es) h f =
    (w.fails, fits_as s w e h.0 f.0, stop_at (cond w.fails b a) xs es h.1 f.1)

-- entries that begin what follows a tree lead to its end or to a step
pub data IsAt (t : Tree) (es : List Event) : Type 0 where
  at_end : Runs t es stop → IsAt t es
  at_step : (s : Slot) (a b : Tree) → Runs t es (step s a b) → IsAt t es

pub at_tree : (t : Tree) (xs : List Slot) (es : List Event) → Follow t xs → Begin xs es → IsAt t es
at_tree stop xs [] f b = at_end refl
at_tree dead xs [] f b = elim f [ ]
at_tree (step s a c) xs [] f b = at_step s a c refl
at_tree t [] (e ∷ es) f b = elim b [ ]
at_tree stop (x ∷ xs) (e ∷ es) f b = elim f [ ]
at_tree dead (x ∷ xs) (e ∷ es) f b = elim f [ ]
at_tree (step s a c) (x ∷ xs) (e ∷ es) f b = go (at_tree (cond x.fails c a) xs es f.1 b.1)
  where
    go : IsAt (cond x.fails c a) es → IsAt (step s a c) (e ∷ es)
    go (at_end r) = at_end (x.fails, fits_as s x e f.0 b.0, r)
    go (at_step z u v r) = at_step z u v (x.fails, fits_as s x e f.0 b.0, r)
