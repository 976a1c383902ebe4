-- While a crossing is open, each of its keys is in force once or not at all.
use Rattle.std.proofs.Common.{◌≡◌, ℕ, ◌+◌, ◌-◌, ◌<◌, ◌≤◌, Bool, true, false, cond, eqb, leb, ◌&&◌, List, [], ◌∷◌, ◌++◌, length, refl, ◌∙◌, arith, inl, inr, ◌⊎◌}
use Rattle.std.proofs.lemmas.Bool.Decides.{nat_tests}
use Rattle.std.proofs.lemmas.Bool.{cases_eq, eq-eqb}
use Rattle.hp_states.specs.declared.dir.Dir.{Dir}
use Rattle.hp_states.specs.declared.dir.Dir.TheVariants.{Up, Down}
use Rattle.hp_states.specs.declared.place.Place.{Place}
use Rattle.hp_states.specs.declared.place.Place.TheVariants.{Part}
use Rattle.hp_states.specs.Sections.{opposite}
use Rattle.hp_states.specs.Rules.{same_dir}
use Rattle.hp_event.specs.declared.event.Event.{Event}
use Rattle.hp_model.specs.InForce.{done_entries, ups, downs}
use Rattle.hp_model.specs.Lists.{occurs, is_empty}
use Rattle.hp_model.specs.Crossing.{Slot, Fill, Begin, visit, Crossing, done, failed, near, state_of, slots_of, level}
use Rattle.hp_model.specs.Reading.{IsPart, IsOpen, Reading}
use Rattle.hp_model.proofs.Counts.{at_or_below, done_entries-none, done_entries-cons, done_entries-append, visit_counts, visit_bounds, fault_counts}
use Rattle.hp_model.proofs.Path.{Path, path_nets, Path_split}
use Rattle.hp_model.proofs.Readings.{Begin_split, reading_nets}

pub same_self : (d : Dir) → same_dir d d ≡ true
same_self Up = refl
same_self Down = refl

pub same_opposite : (d : Dir) → same_dir d (opposite d) ≡ false
same_opposite Up = refl
same_opposite Down = refl

pub opposite_same : (d : Dir) → same_dir (opposite d) d ≡ false
opposite_same Up = refl
opposite_same Down = refl

-- what entries of a state's own keys count that way, and the other way
pub own_way : (c s : ℕ) (q : Bool) (n : ℕ) → q ≡ true → cond ((eqb c c && q) && eqb s s) n 0 ≡ n
own_way c s q n h = rw (eq-eqb c c refl, eq-eqb s s refl, h) refl

pub other_way : (c s : ℕ) (q : Bool) (n : ℕ) → q ≡ false → cond ((eqb c c && q) && eqb s s) n 0 ≡ 0
other_way c s q n h = rw (eq-eqb c c refl, eq-eqb s s refl, h) refl

-- what a begun failed crossing counts, against the way it goes
pub failed_bounds : (c i : ℕ) (keys : ℕ → List ℕ) (p : Place) (d : Dir) (s : ℕ) (earlier : List ℕ) (k : ℕ) (es : List Event) →
    Begin (slots_of c keys (failed p d s earlier k)) es →
    (done_entries c s i (opposite d) es ≤ done_entries c s i d es) × (done_entries c s i d es ≤ occurs i earlier)
failed_bounds c i keys p d s earlier k es h =
    let x : Slot = record { cpu = c; state = s; inst = k; dir = d; place = p; first = is_empty earlier; fails = true } in
    go (Begin_split (visit c p d s true earlier) (x ∷ visit c Part (opposite d) s false earlier) es h)
  where
    n : ℕ
    n = occurs i earlier

    rest : (a b : List Event) → es ≡ a ++ b → Fill (visit c p d s true earlier) a →
        Begin (record { cpu = c; state = s; inst = k; dir = d; place = p; first = is_empty earlier; fails = true }
        ∷ visit c Part (opposite d) s false earlier) b →
        (done_entries c s i (opposite d) es ≤ done_entries c s i d es) × (done_entries c s i d es ≤ occurs i earlier)
    rest a [] e f g =
        let there = visit_counts c s i d c p d s true earlier a f ∙ own_way c s (same_dir d d) n (same_self d) in
        let back = visit_counts c s i (opposite d) c p d s true earlier a f ∙ other_way c s (same_dir d (opposite d)) n (same_opposite d) in
        rw (e, done_entries-append, done_entries-append, done_entries-none, done_entries-none) (omega arith, omega arith)
    rest a (x ∷ b) e f g =
        let there = visit_counts c s i d c p d s true earlier a f ∙ own_way c s (same_dir d d) n (same_self d) in
        let back = visit_counts c s i (opposite d) c p d s true earlier a f ∙ other_way c s (same_dir d (opposite d)) n (same_opposite d) in
        let there' = rw (other_way c s (same_dir (opposite d) d) n (opposite_same d)) at
        (visit_bounds c s i d c Part (opposite d) s false earlier b g.1) in
        let back' = rw (own_way c s (same_dir (opposite d) (opposite d)) n (same_self (opposite d))) at
        (visit_bounds c s i (opposite d) c Part (opposite d) s false earlier b g.1) in
        let up = fault_counts c s i d c p d s k (is_empty earlier) x g.0 in
        let down = fault_counts c s i (opposite d) c p d s k (is_empty earlier) x g.0 in
        rw (e, done_entries-append, done_entries-append, done_entries-cons, done_entries-cons) (omega arith, omega arith)

    go : (Begin (visit c p d s true earlier) es × (length es < length (visit c p d s true earlier)))
        ⊎ ((a b : List Event) × (es ≡ a ++ b) × Fill (visit c p d s true earlier) a
        × Begin (record { cpu = c; state = s; inst = k; dir = d; place = p; first = is_empty earlier; fails = true }
        ∷ visit c Part (opposite d) s false earlier) b) →
        (done_entries c s i (opposite d) es ≤ done_entries c s i d es) × (done_entries c s i d es ≤ occurs i earlier)
    go (inl q) =
        let there = rw (own_way c s (same_dir d d) n (same_self d)) at (visit_bounds c s i d c p d s true earlier es q.0) in
        let back = rw (other_way c s (same_dir d (opposite d)) n (same_opposite d)) at
        (visit_bounds c s i (opposite d) c p d s true earlier es q.0) in
        (omega arith, omega arith)
    go (inr r) = rest r.0 r.1 r.2 r.3 r.4

pub done_bounds : (c i : ℕ) (keys : ℕ → List ℕ) (p : Place) (d : Dir) (s : ℕ) (es : List Event) →
    Begin (slots_of c keys (done p d s)) es →
    (done_entries c s i (opposite d) es ≤ done_entries c s i d es) × (done_entries c s i d es ≤ occurs i (keys s))
done_bounds c i keys p d s es h =
    let n = occurs i (keys s) in
    let there = rw (own_way c s (same_dir d d) n (same_self d)) at (visit_bounds c s i d c p d s true (keys s) es h) in
    let back = rw (other_way c s (same_dir d (opposite d)) n (same_opposite d)) at
    (visit_bounds c s i (opposite d) c p d s true (keys s) es h) in
    (omega arith, omega arith)

-- from the state before a crossing, what has begun of it keeps each of its keys in force once or not at all
pub crossing_bounds : (keys : ℕ → List ℕ) (c i : ℕ) (d : Dir) (s : ℕ) (es : List Event) → 0 < s → occurs i (keys s) ≤ 1 →
    (done_entries c s i (opposite d) es ≤ done_entries c s i d es) × (done_entries c s i d es ≤ occurs i (keys s)) →
    (downs c s i es ≤ at_or_below keys (near d s) s i + ups c s i es)
    × (at_or_below keys (near d s) s i + ups c s i es ≤ downs c s i es + 1)
crossing_bounds keys c i Up s es pos once h =
    let low = up_below (occurs i (keys s)) s pos in (omega arith, omega arith)
  where
    up_below : (n s : ℕ) → 0 < s → ◌≡◌ {A = ℕ} (cond (leb s (s - 1)) n 0) 0
    up_below n s pos = grind (arith, nat_tests)
crossing_bounds keys c i Down s es pos once h =
    let high = down_below (occurs i (keys s)) s in (omega arith, omega arith)
  where
    down_below : (n s : ℕ) → cond (leb s s) n 0 ≡ n
    down_below n s = grind (arith, nat_tests)

pub open_or_not : (next : List Crossing) (part : List Event) (t : ℕ) → IsOpen next part t ⊎ (IsOpen next part t → ⊥)
open_or_not next [] t = inr (λ h. h)
open_or_not [] (e ∷ es) t = inr (λ h. h)
open_or_not (x ∷ xs) (e ∷ es) t = cases_eq t (state_of x)

pub at_most_once : (keys : ℕ → List ℕ) (a t i : ℕ) → occurs i (keys t) ≤ 1 → at_or_below keys a t i ≤ 1
at_most_once keys a t i h = go (leb t a)
  where
    go : (b : Bool) → cond b (occurs i (keys t)) 0 ≤ 1
    go true = h
    go false = omega arith

-- the net of an open crossing's state
pub open_bounds : (c : ℕ) (keys : ℕ → List ℕ) (m b : ℕ) (next : List Crossing) (part : List Event) (t i : ℕ) →
    Path keys m next b → IsPart c keys next part → IsOpen next part t → occurs i (keys t) ≤ 1 →
    (downs c t i part ≤ at_or_below keys m t i + ups c t i part)
    × (at_or_below keys m t i + ups c t i part ≤ downs c t i part + 1)
open_bounds c keys m b next [] t i p h o once = elim o [ ]
open_bounds c keys m b [] (e ∷ es) t i p h o once = elim o [ ]
open_bounds c keys m b (done q d s ∷ xs) (e ∷ es) t i p h o once =
    let once' = rw o at once in
    let r = crossing_bounds keys c i d s (e ∷ es) p.0 once' (done_bounds c i keys q d s (e ∷ es) h.0) in
    rw (o, p.1.at s i) r
open_bounds c keys m b (failed q d s earlier k ∷ xs) (e ∷ es) t i p h o once =
    let once' = rw o at once in
    let few = p.3.at i in
    let f = failed_bounds c i keys q d s earlier k (e ∷ es) h.0 in
    let r = crossing_bounds keys c i d s (e ∷ es) p.0 once' (f.0, omega arith) in
    rw (o, p.1.at s i) r

pub reading_bounds : (c : ℕ) (keys : ℕ → List ℕ) (a b : ℕ) (xs : List Crossing) (es : List Event) (t i : ℕ) →
    Path keys a xs b → Reading c keys xs es → occurs i (keys t) ≤ 1 →
    (downs c t i es ≤ at_or_below keys a t i + ups c t i es)
    × (at_or_below keys a t i + ups c t i es ≤ downs c t i es + 1)
reading_bounds c keys a b xs es t i p r once = go (open_or_not r.next r.part t)
  where
    go : IsOpen r.next r.part t ⊎ (IsOpen r.next r.part t → ⊥) →
        (downs c t i es ≤ at_or_below keys a t i + ups c t i es)
        × (at_or_below keys a t i + ups c t i es ≤ downs c t i es + 1)
    go (inl o) =
        let q = Path_split keys a b r.whole r.next (rw r.crossings_are at p) in
        let net = path_nets c keys a q.0 r.whole r.done_entries t i q.1 r.filled in
        let part = open_bounds c keys q.0 b r.next r.part t i q.2 r.is_part o once in
        rw (r.entries_are, done_entries-append, done_entries-append) (omega arith, omega arith)
    go (inr shut) =
        let net = reading_nets c keys a b xs es t i p r shut in
        let low = at_most_once keys (level a r.whole) t i once in
        (omega arith, omega arith)
