-- Entries that begin a walk, read as whole crossings and part of the next.
use Rattle.std.proofs.Common.{◌≡◌, ℕ, ◌+◌, ◌<◌, Bool, true, false, not, eqb, ◌&&◌, List, [], ◌∷◌, ◌++◌, length, refl, ap, sym, ◌∙◌, arith, inl, inr, ◌⊎◌, append_assoc}
use Rattle.std.proofs.lemmas.Bool.{ne_eqb, and_right}
use Rattle.hp_states.specs.declared.dir.Dir.{Dir}
use Rattle.hp_states.specs.declared.dir.Dir.TheVariants.{Up, Down}
use Rattle.hp_states.specs.declared.place.Place.{Place}
use Rattle.hp_states.specs.declared.place.Place.TheVariants.{Part}
use Rattle.hp_states.specs.Sections.{opposite}
use Rattle.hp_states.specs.Rules.{same_dir}
use Rattle.hp_event.specs.declared.event.Event.{Event}
use Rattle.hp_model.specs.InForce.{done_entries, ups, downs}
use Rattle.hp_model.specs.Crossing.{Slot, Fill, Begin, visit, Crossing, done, failed, near, far, state_of, slots_of, slots, level}
use Rattle.hp_model.specs.Reading.{IsPart, IsOpen, Reading}
use Rattle.hp_model.proofs.Counts.{at_or_below, done_entries-none, done_entries-cons, done_entries-append, entry_of_slot}
use Rattle.hp_model.proofs.Path.{Same, Path, Same_refl, Same_trans, path_nets, Path_split}

pub Begin_split : (xs ys : List Slot) (es : List Event) → Begin (xs ++ ys) es →
    (Begin xs es × (length es < length xs)) ⊎ ((a b : List Event) × (es ≡ a ++ b) × Fill xs a × Begin ys b)
Begin_split [] ys es h = inr ([], es, refl, tt, h)
Begin_split (x ∷ xs) ys [] h = inl (tt, omega arith)
Begin_split (x ∷ xs) ys (e ∷ es) h = go (Begin_split xs ys es h.1)
  where
    go : (Begin xs es × (length es < length xs)) ⊎ ((a b : List Event) × (es ≡ a ++ b) × Fill xs a × Begin ys b) →
        (Begin (x ∷ xs) (e ∷ es) × (length (e ∷ es) < length (x ∷ xs)))
        ⊎ ((a b : List Event) × (e ∷ es ≡ a ++ b) × Fill (x ∷ xs) a × Begin ys b)
    go (inl p) = let q = p.1 in inl ((h.0, p.0), omega arith)
    go (inr r) = inr (e ∷ r.0, r.1, ap (λ z. e ∷ z) r.2, (h.0, r.3), r.4)

pub Fill-append : (xs ys : List Slot) (a b : List Event) → Fill xs a → Fill ys b → Fill (xs ++ ys) (a ++ b)
Fill-append [] ys [] b h k = k
Fill-append [] ys (e ∷ a) b h k = elim h [ ]
Fill-append (x ∷ xs) ys [] b h k = elim h [ ]
Fill-append (x ∷ xs) ys (e ∷ a) b h k = (h.0, Fill-append xs ys a b h.1 k)

pub read_more : (c : ℕ) (keys : ℕ → List ℕ) (x : Crossing) (xs : List Crossing) (es a b : List Event) →
    es ≡ a ++ b → Fill (slots_of c keys x) a → Reading c keys xs b → Reading c keys (x ∷ xs) es
read_more c keys x xs es a b e f r = record {
  whole = x ∷ r.whole;
  next = r.next;
  crossings_are = ap (λ z. x ∷ z) r.crossings_are;
  done_entries = a ++ r.done_entries;
  part = r.part;
  entries_are = e ∙ (ap (λ z. a ++ z) r.entries_are ∙ sym (append_assoc a r.done_entries r.part));
  filled = Fill-append (slots_of c keys x) (slots c keys r.whole) a r.done_entries f r.filled;
  is_part = r.is_part;
}

pub read_crossings : (c : ℕ) (keys : ℕ → List ℕ) (xs : List Crossing) (es : List Event) →
    Begin (slots c keys xs) es → Reading c keys xs es
read_crossings c keys [] [] h =
    record { whole = []; next = []; crossings_are = refl; done_entries = []; part = []; entries_are = refl; filled = tt; is_part = refl }
read_crossings c keys [] (e ∷ es) h = elim h [ ]
read_crossings c keys (x ∷ xs) es h =
    go (Begin_split (slots_of c keys x) (slots c keys xs) es h) (read_crossings c keys xs)
  where
    go : (Begin (slots_of c keys x) es × (length es < length (slots_of c keys x)))
        ⊎ ((a b : List Event) × (es ≡ a ++ b) × Fill (slots_of c keys x) a × Begin (slots c keys xs) b) →
        ((b : List Event) → Begin (slots c keys xs) b → Reading c keys xs b) →
        Reading c keys (x ∷ xs) es
    go (inl p) rest =
        record { whole = []; next = x ∷ xs; crossings_are = refl; done_entries = []; part = es; entries_are = refl; filled = tt; is_part = p }
    go (inr r) rest = read_more c keys x xs es r.0 r.1 r.2 r.3 (rest r.1 r.4)

-- entries of one state's slots count nothing at another
pub other_state : (a b m k : Bool) → b ≡ false → (a && ((b && m) && k)) ≡ false
other_state a b m k h = rw h (and_right a false refl)

abbrev pub AtState : ℕ → List Slot → Type 0
AtState s [] = Unit {0}
AtState s (x ∷ xs) = (x.state ≡ s) × AtState s xs

pub AtState-append : (s : ℕ) (xs ys : List Slot) → AtState s xs → AtState s ys → AtState s (xs ++ ys)
AtState-append s [] ys h k = k
AtState-append s (x ∷ xs) ys h k = (h.0, AtState-append s xs ys h.1 k)

pub AtState-visit : (c : ℕ) (p : Place) (d : Dir) (s : ℕ) (b : Bool) (is : List ℕ) → AtState s (visit c p d s b is)
AtState-visit c p d s b [] = tt
AtState-visit c p d s b (i ∷ is) = (refl, AtState-visit c p d s false is)

pub AtState-slots_of : (c : ℕ) (keys : ℕ → List ℕ) (x : Crossing) → AtState (state_of x) (slots_of c keys x)
AtState-slots_of c keys (done p d s) = AtState-visit c p d s true (keys s)
AtState-slots_of c keys (failed p d s earlier i) =
    AtState-append s (visit c p d s true earlier) _ (AtState-visit c p d s true earlier)
    (refl, AtState-visit c Part (opposite d) s false earlier)

pub part_counts : (c t i : ℕ) (d : Dir) (s : ℕ) (xs : List Slot) (es : List Event) → AtState s xs → (t ≡ s → ⊥) →
    Begin xs es → done_entries c t i d es ≡ 0
part_counts c t i d s [] [] at ne h = done_entries-none c t i d
part_counts c t i d s [] (e ∷ es) at ne h = elim h [ ]
part_counts c t i d s (x ∷ xs) [] at ne h = done_entries-none c t i d
part_counts c t i d s (x ∷ xs) (e ∷ es) at ne h =
    let apart : x.state ≡ t → ⊥ = λ f. ne (sym f ∙ at.0) in
    rw (
      done_entries-cons,
      entry_of_slot c t i d x e h.0,
      other_state (eqb x.cpu c && same_dir x.dir d) (eqb x.state t) (eqb x.inst i) (not x.fails) (ne_eqb x.state t apart),
      part_counts c t i d s xs es at.1 ne h.1,
    )
    (omega arith)

pub next_counts : (c t i : ℕ) (d : Dir) (keys : ℕ → List ℕ) (next : List Crossing) (part : List Event) →
    IsPart c keys next part → (IsOpen next part t → ⊥) → done_entries c t i d part ≡ 0
next_counts c t i d keys next [] h ne = done_entries-none c t i d
next_counts c t i d keys [] (e ∷ es) h ne = absurd (some_event e es h)
  where
    some_event : (e : Event) (es : List Event) → e ∷ es ≡ [] → ⊥
    some_event e es h = cc
next_counts c t i d keys (x ∷ xs) (e ∷ es) h ne =
    part_counts c t i d (state_of x) (slots_of c keys x) (e ∷ es) (AtState-slots_of c keys x) ne h.0

-- the level of a path's crossings is where the path leads
pub level_same : (keys : ℕ → List ℕ) (a b : ℕ) (xs : List Crossing) → Same keys a b → Same keys (level a xs) (level b xs)
level_same keys a b [] e = e
level_same keys a b (done p d s ∷ xs) e = Same_refl keys (level (far d s) xs)
level_same keys a b (failed p d s earlier i ∷ xs) e = level_same keys a b xs e

pub path_level : (keys : ℕ → List ℕ) (a b : ℕ) (xs : List Crossing) → Path keys a xs b → Same keys (level a xs) b
path_level keys a b [] h = h
path_level keys a b (done p d s ∷ xs) h = path_level keys (far d s) b xs h.2
path_level keys a b (failed p d s earlier i ∷ xs) h =
    Same_trans (level_same keys a (near d s) xs h.1) (path_level keys (near d s) b xs h.2)

-- While a walk is in flight, its entries net the keys between its start and the shown state, but for
-- those of the state whose crossing is open.
pub reading_nets : (c : ℕ) (keys : ℕ → List ℕ) (a b : ℕ) (xs : List Crossing) (es : List Event) (t i : ℕ) →
    Path keys a xs b → (r : Reading c keys xs es) → (IsOpen r.next r.part t → ⊥) →
    at_or_below keys a t i + ups c t i es ≡ downs c t i es + at_or_below keys (level a r.whole) t i
reading_nets c keys a b xs es t i p r ne =
    let q = Path_split keys a b r.whole r.next (rw r.crossings_are at p) in
    let net = path_nets c keys a q.0 r.whole r.done_entries t i q.1 r.filled in
    let same = (path_level keys a q.0 r.whole q.1).at t i in
    let up = next_counts c t i Up keys r.next r.part r.is_part ne in
    let down = next_counts c t i Down keys r.next r.part r.is_part ne in
    rw (r.entries_are, done_entries-append, done_entries-append) (omega arith)
