-- How many done entries of a key some entries have that fill the slots of a crossing.
use Rattle.std.proofs.Common.{◌≡◌, ℕ, ◌+◌, ◌-◌, ◌<◌, ◌≤◌, Bool, true, false, cond, not, ◌&&◌, eqb, leb, List, [], ◌∷◌, ◌++◌, refl, ap, sym, ◌∙◌, arith}
use Rattle.std.proofs.lemmas.List.Sums.{sum_by-cons, sum_by-append, sum_by_push}
use Rattle.std.proofs.lemmas.Bool.Decides.{nat_tests}
use Rattle.hp_states.specs.declared.dir.Dir.{Dir}
use Rattle.hp_states.specs.declared.dir.Dir.TheVariants.{Up, Down}
use Rattle.hp_states.specs.declared.place.Place.{Place}
use Rattle.hp_states.specs.declared.place.Place.TheVariants.{Part}
use Rattle.hp_states.specs.Sections.{opposite}
use Rattle.hp_states.specs.Rules.{same_dir}
use Rattle.hp_event.specs.declared.event.Event.{Event}
use Rattle.hp_event.specs.declared.event.Event.TheVariants.{Call}
use Rattle.hp_model.specs.InForce.{is_done_entry, done_entries, ups, downs}
use Rattle.hp_model.specs.Lists.{occurs, is_empty}
use Rattle.hp_model.specs.Crossing.{Slot, Fits, Fill, Begin, visit, near, far, slots_of, failed}

-- how often a key is among the keys at or below a state
abbrev pub at_or_below : (keys : ℕ → List ℕ) → (at : ℕ) → (state inst : ℕ) → ℕ
at_or_below keys a s i = cond (leb s a) (occurs i (keys s)) 0

pub occurs-append : (c : ℕ) (xs ys : List ℕ) → occurs c (xs ++ ys) ≡ occurs c xs + occurs c ys
occurs-append c [] ys = omega arith
occurs-append c (x ∷ xs) ys = let h = occurs-append c xs ys in omega arith

pub done_entries-none : (c s i : ℕ) (d : Dir) → done_entries c s i d [] ≡ 0
unfolding done_entries
done_entries-none c s i d = refl

pub done_entries-cons : (c s i : ℕ) (d : Dir) (e : Event) (es : List Event) →
    done_entries c s i d (e ∷ es) ≡ cond (is_done_entry c s i d e) 1 0 + done_entries c s i d es
unfolding done_entries
done_entries-cons c s i d e es = sum_by-cons (λ x. cond (is_done_entry c s i d x) 1 0) e es

pub done_entries-append : (c s i : ℕ) (d : Dir) (xs ys : List Event) →
    done_entries c s i d (xs ++ ys) ≡ done_entries c s i d xs + done_entries c s i d ys
unfolding done_entries
done_entries-append c s i d xs ys = sum_by-append (λ x. cond (is_done_entry c s i d x) 1 0) xs ys

pub done_entries_push : (c s i : ℕ) (d : Dir) (xs : List Event) (e : Event) →
    done_entries c s i d (xs ++ e ∷ []) ≡ done_entries c s i d xs + cond (is_done_entry c s i d e) 1 0
unfolding done_entries
done_entries_push c s i d xs e = sum_by_push (λ x. cond (is_done_entry c s i d x) 1 0) xs e

-- what an entry counts follows from its slot
abbrev pub slot_counts : (c s i : ℕ) → Dir → Slot → Bool
slot_counts c s i d x = (eqb x.cpu c && same_dir x.dir d) && ((eqb x.state s && eqb x.inst i) && not x.fails)

pub entry_of_slot : (c s i : ℕ) (d : Dir) (x : Slot) (e : Event) → Fits x e →
    is_done_entry c s i d e ≡ slot_counts c s i d x
entry_of_slot c s i d x (Call seat cpu state inst dir how) h =
    let a = h.0 in let b = h.1 in let f = h.2 in let g = h.3 in let k = h.4 in cc
entry_of_slot c s i d x e h = elim h [ ]

pub visit_step : (a b m : Bool) (n : ℕ) →
    cond (a && ((b && m) && true)) 1 0 + cond (a && b) n 0 ≡ cond (a && b) (cond m 1 0 + n) 0
visit_step true true true n = refl
visit_step true true false n = refl
visit_step true false true n = refl
visit_step true false false n = refl
visit_step false b m n = refl

pub cond_same : (b : Bool) (n : ℕ) → cond b n n ≡ n
cond_same true n = refl
cond_same false n = refl

pub visit_counts : (c t i : ℕ) (d' : Dir) (cp : ℕ) (p : Place) (d : Dir) (s : ℕ) (b : Bool) (ks : List ℕ) (es : List Event) →
    Fill (visit cp p d s b ks) es →
    done_entries c t i d' es ≡ cond ((eqb cp c && same_dir d d') && eqb s t) (occurs i ks) 0
visit_counts c t i d' cp p d s b [] [] h =
    done_entries-none c t i d' ∙ sym (cond_same ((eqb cp c && same_dir d d') && eqb s t) 0)
visit_counts c t i d' cp p d s b [] (e ∷ es) h = elim h [ ]
visit_counts c t i d' cp p d s b (k ∷ ks) [] h = elim h [ ]
visit_counts c t i d' cp p d s b (k ∷ ks) (e ∷ es) h =
    let x : Slot = record { cpu = cp; state = s; inst = k; dir = d; place = p; first = b; fails = false } in
    rw (done_entries-cons, entry_of_slot c t i d' x e h.0, visit_counts c t i d' cp p d s false ks es h.1)
    (visit_step (eqb cp c && same_dir d d') (eqb s t) (eqb k i) (occurs i ks))

-- The net of a crossing. Where it is done, it takes the keys at or below the state before it to those
-- at or below the state after it. Where it failed, it leaves each key as it was.
pub Fill_split : (xs ys : List Slot) (es : List Event) → Fill (xs ++ ys) es →
    (a b : List Event) × (es ≡ a ++ b) × Fill xs a × Fill ys b
Fill_split [] ys es h = ([], es, refl, tt, h)
Fill_split (x ∷ xs) ys [] h = elim h [ ]
Fill_split (x ∷ xs) ys (e ∷ es) h =
    let r = Fill_split xs ys es h.1 in
    (e ∷ r.0, r.1, ap (λ z. e ∷ z) r.2, (h.0, r.3), r.4)

pub rung_up : (f : ℕ → ℕ) (c s t : ℕ) → 0 < s →
    cond (leb t (s - 1)) (f t) 0 + cond ((eqb c c && true) && eqb s t) (f s) 0
    ≡ cond ((eqb c c && false) && eqb s t) (f s) 0 + cond (leb t s) (f t) 0
rung_up f c s t pos = grind (arith, nat_tests)

pub rung_down : (f : ℕ → ℕ) (c s t : ℕ) → 0 < s →
    cond (leb t s) (f t) 0 + cond ((eqb c c && false) && eqb s t) (f s) 0
    ≡ cond ((eqb c c && true) && eqb s t) (f s) 0 + cond (leb t (s - 1)) (f t) 0
rung_down f c s t pos = grind (arith, nat_tests)

pub done_nets : (c t i : ℕ) (keys : ℕ → List ℕ) (p : Place) (d : Dir) (s : ℕ) (es : List Event) → 0 < s →
    Fill (visit c p d s true (keys s)) es →
    at_or_below keys (near d s) t i + ups c t i es ≡ downs c t i es + at_or_below keys (far d s) t i
done_nets c t i keys p Up s es pos h =
    rw (visit_counts c t i Up c p Up s true (keys s) es h, visit_counts c t i Down c p Up s true (keys s) es h)
    (rung_up (λ x. occurs i (keys x)) c s t pos)
done_nets c t i keys p Down s es pos h =
    rw (visit_counts c t i Up c p Down s true (keys s) es h, visit_counts c t i Down c p Down s true (keys s) es h)
    (rung_down (λ x. occurs i (keys x)) c s t pos)

-- a fault counts nothing
pub and_false : (a b : Bool) → ◌≡◌ {A = ℕ} (cond (a && (b && false)) 1 0) 0
and_false true true = refl
and_false true false = refl
and_false false b = refl

pub fault_counts : (c t i : ℕ) (d' : Dir) (cp : ℕ) (p : Place) (d : Dir) (s k : ℕ) (b : Bool) (e : Event) →
    Fits (record { cpu = cp; state = s; inst = k; dir = d; place = p; first = b; fails = true }) e →
    ◌≡◌ {A = ℕ} (cond (is_done_entry c t i d' e) 1 0) 0
fault_counts c t i d' cp p d s k b e h =
    let x : Slot = record { cpu = cp; state = s; inst = k; dir = d; place = p; first = b; fails = true } in
    rw (entry_of_slot c t i d' x e h) (and_false (eqb cp c && same_dir d d') (eqb s t && eqb k i))

-- what a failed crossing counts in a direction
pub failed_counts : (c t i : ℕ) (d' : Dir) (keys : ℕ → List ℕ) (p : Place) (d : Dir) (s : ℕ) (earlier : List ℕ) (k : ℕ) (es : List Event) →
    Fill (slots_of c keys (failed p d s earlier k)) es →
    done_entries c t i d' es
    ≡ cond ((eqb c c && same_dir d d') && eqb s t) (occurs i earlier) 0
    + cond ((eqb c c && same_dir (opposite d) d') && eqb s t) (occurs i earlier) 0
failed_counts c t i d' keys p d s earlier k es h =
    let x : Slot = record { cpu = c; state = s; inst = k; dir = d; place = p; first = is_empty earlier; fails = true } in
    let r = Fill_split (visit c p d s true earlier) (x ∷ visit c Part (opposite d) s false earlier) es h in
    go r.0 r.1 r.2 r.3 r.4
  where
    go : (a b : List Event) → es ≡ a ++ b → Fill (visit c p d s true earlier) a →
        Fill (record { cpu = c; state = s; inst = k; dir = d; place = p; first = is_empty earlier; fails = true }
        ∷ visit c Part (opposite d) s false earlier) b →
        done_entries c t i d' es
        ≡ cond ((eqb c c && same_dir d d') && eqb s t) (occurs i earlier) 0
        + cond ((eqb c c && same_dir (opposite d) d') && eqb s t) (occurs i earlier) 0
    go a [] e f g = elim g [ ]
    go a (x ∷ b) e f g =
        rw (
          e,
          done_entries-append,
          done_entries-cons,
          fault_counts c t i d' c p d s k (is_empty earlier) x g.0,
          visit_counts c t i d' c p d s true earlier a f,
          visit_counts c t i d' c Part (opposite d) s false earlier b g.1,
        )
        (omega arith)

pub failed_nets : (c t i : ℕ) (keys : ℕ → List ℕ) (p : Place) (d : Dir) (s : ℕ) (earlier : List ℕ) (k : ℕ) (es : List Event) →
    Fill (slots_of c keys (failed p d s earlier k)) es → ups c t i es ≡ downs c t i es
failed_nets c t i keys p Up s earlier k es h =
    rw (failed_counts c t i Up keys p Up s earlier k es h, failed_counts c t i Down keys p Up s earlier k es h)
    (omega arith)
failed_nets c t i keys p Down s earlier k es h =
    rw (failed_counts c t i Up keys p Down s earlier k es h, failed_counts c t i Down keys p Down s earlier k es h)
    (omega arith)

-- at most so many done entries, where the entries only begin the slots
pub visit_bounds : (c t i : ℕ) (d' : Dir) (cp : ℕ) (p : Place) (d : Dir) (s : ℕ) (b : Bool) (ks : List ℕ) (es : List Event) →
    Begin (visit cp p d s b ks) es →
    done_entries c t i d' es ≤ cond ((eqb cp c && same_dir d d') && eqb s t) (occurs i ks) 0
visit_bounds c t i d' cp p d s b ks [] h = rw (done_entries-none c t i d') (omega arith)
visit_bounds c t i d' cp p d s b [] (e ∷ es) h = elim h [ ]
visit_bounds c t i d' cp p d s b (k ∷ ks) (e ∷ es) h =
    let x : Slot = record { cpu = cp; state = s; inst = k; dir = d; place = p; first = b; fails = false } in
    let rest = visit_bounds c t i d' cp p d s false ks es h.1 in
    let step = visit_step (eqb cp c && same_dir d d') (eqb s t) (eqb k i) (occurs i ks) in
    rw (done_entries-cons, entry_of_slot c t i d' x e h.0) (omega arith)
