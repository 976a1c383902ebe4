-- What part of a registration counts: no more downward than upward entries, and no more of these than there are
-- processors.
use Rattle.std.proofs.Common.{◌≡◌, ℕ, ◌<◌, ◌≤◌, Bool, true, false, cond, not, ◌&&◌, eqb, Option, Some, None, List, [], ◌∷◌, ◌++◌, length, refl, arith, inl, inr, ◌⊎◌}
use Rattle.std.proofs.lemmas.Bool.{and_right}
use Rattle.hp_states.specs.declared.dir.Dir.{Dir}
use Rattle.hp_states.specs.declared.dir.Dir.TheVariants.{Up, Down}
use Rattle.hp_states.specs.declared.place.Place.{Place}
use Rattle.hp_states.specs.declared.place.Place.TheVariants.{Undo}
use Rattle.hp_states.specs.Rules.{same_dir}
use Rattle.hp_event.specs.declared.event.Event.{Event}
use Rattle.hp_model.specs.InForce.{done_entries, ups, downs}
use Rattle.hp_model.specs.Lists.{occurs}
use Rattle.hp_model.specs.Crossing.{Slot, Fill, Begin}
use Rattle.hp_model.specs.RegistrationShape.{each, Registering, made, undone, IsRegistrationShape}
use Rattle.hp_model.proofs.Readings.{Begin_split}
use Rattle.hp_model.proofs.Counts.{done_entries-none, done_entries-cons, done_entries-append, entry_of_slot, fault_counts, occurs-append}
use Rattle.hp_model.proofs.Registrations.{each_step, each_counts, is_hit, some_slot}

-- Begun entries of a registration count nothing at another key.
abbrev pub AtKey : (state inst : ℕ) → List Slot → Type 0
AtKey s i [] = Unit {0}
AtKey s i (x ∷ xs) = (x.state ≡ s) × (x.inst ≡ i) × AtKey s i xs

pub AtKey-each : (p : Place) (d : Dir) (s i : ℕ) (cs : List ℕ) → AtKey s i (each p d s i cs)
AtKey-each p d s i [] = tt
AtKey-each p d s i (c ∷ cs) = (refl, refl, AtKey-each p d s i cs)

pub AtKey-append : (s i : ℕ) (xs ys : List Slot) → AtKey s i xs → AtKey s i ys → AtKey s i (xs ++ ys)
AtKey-append s i [] ys h k = k
AtKey-append s i (x ∷ xs) ys h k = (h.0, h.1, AtKey-append s i xs ys h.2 k)

pub other_key : (a m n k : Bool) → (m && n) ≡ false → (a && ((m && n) && k)) ≡ false
other_key a m n k h = rw h (and_right a false refl)

pub begun_counts : (c t j : ℕ) (d : Dir) (s i : ℕ) (xs : List Slot) (es : List Event) → AtKey s i xs →
    (eqb s t && eqb i j) ≡ false → Begin xs es → done_entries c t j d es ≡ 0
begun_counts c t j d s i [] [] at ne h = done_entries-none c t j d
begun_counts c t j d s i [] (e ∷ es) at ne h = elim h [ ]
begun_counts c t j d s i (x ∷ xs) [] at ne h = done_entries-none c t j d
begun_counts c t j d s i (x ∷ xs) (e ∷ es) at ne h =
    let ne' : (eqb x.state t && eqb x.inst j) ≡ false = rw (at.0, at.1) ne in
    rw (
      done_entries-cons,
      entry_of_slot c t j d x e h.0,
      other_key (eqb x.cpu c && same_dir x.dir d) (eqb x.state t) (eqb x.inst j) (not x.fails) ne',
      begun_counts c t j d s i xs es at.2 ne h.1,
    )
    (omega arith)

pub shape_begun : (c t j : ℕ) (d : Dir) (adding : Bool) (s : ℕ) (key : Option ℕ) (cs : List ℕ) (xs : List Slot) (o : Registering) (es : List Event) →
    IsRegistrationShape adding s key cs xs o → is_hit s key t j ≡ false → Begin xs es → done_entries c t j d es ≡ 0
shape_begun c t j d adding s None cs xs made es h ne b = go xs es h b
  where
    go : (xs : List Slot) (es : List Event) → xs ≡ [] → Begin xs es → done_entries c t j d es ≡ 0
    go [] [] h b = done_entries-none c t j d
    go [] (e ∷ es) h b = elim b [ ]
    go (x ∷ xs) es h b = absurd (some_slot x xs h)
shape_begun c t j d adding s None cs xs undone es h ne b = elim h [ ]
shape_begun c t j d true s (Some i) cs xs made es h ne b =
    begun_counts c t j d s i xs es (rw h (AtKey-each Place.Add Up s i cs)) ne b
shape_begun c t j d true s (Some i) cs xs undone es h ne b =
    begun_counts c t j d s i xs es
    (rw h.slots_are
    (AtKey-append s i (each Place.Add Up s i h.before) _ (AtKey-each Place.Add Up s i h.before)
    (refl, refl, AtKey-each Undo Down s i h.before)))
    ne b
shape_begun c t j d false s (Some i) cs xs made es h ne b =
    begun_counts c t j d s i xs es (rw h (AtKey-each Place.Remove Down s i cs)) ne b
shape_begun c t j d false s (Some i) cs xs undone es h ne b = elim h [ ]

-- Begun entries of a registration keep its key in force on a processor once or not at all.
pub each_bounds : (c t j : ℕ) (d' : Dir) (p : Place) (d : Dir) (s i : ℕ) (cs : List ℕ) (es : List Event) →
    Begin (each p d s i cs) es →
    done_entries c t j d' es ≤ cond (same_dir d d' && (eqb s t && eqb i j)) (occurs c cs) 0
each_bounds c t j d' p d s i cs [] h = rw (done_entries-none c t j d') (omega arith)
each_bounds c t j d' p d s i [] (e ∷ es) h = elim h [ ]
each_bounds c t j d' p d s i (k ∷ cs) (e ∷ es) h =
    let x : Slot = record { cpu = k; state = s; inst = i; dir = d; place = p; first = false; fails = false } in
    let rest = each_bounds c t j d' p d s i cs es h.1 in
    let step = each_step (eqb k c) (same_dir d d') (eqb s t && eqb i j) (occurs c cs) in
    rw (done_entries-cons, entry_of_slot c t j d' x e h.0) (omega arith)

pub undone_bounds : (c t j : ℕ) (s i : ℕ) (before : List ℕ) (cpu : ℕ) (es : List Event) →
    Begin (each Place.Add Up s i before
    ++ (record { cpu = cpu; state = s; inst = i; dir = Up; place = Place.Add; first = false; fails = true }
    ∷ each Undo Down s i before)) es →
    (downs c t j es ≤ ups c t j es) × (ups c t j es ≤ cond (eqb s t && eqb i j) (occurs c before) 0)
undone_bounds c t j s i before cpu es h =
    let x : Slot = record { cpu = cpu; state = s; inst = i; dir = Up; place = Place.Add; first = false; fails = true } in
    go (Begin_split (each Place.Add Up s i before) (x ∷ each Undo Down s i before) es h)
  where
    rest : (a b : List Event) → es ≡ a ++ b → Fill (each Place.Add Up s i before) a →
        Begin (record { cpu = cpu; state = s; inst = i; dir = Up; place = Place.Add; first = false; fails = true }
        ∷ each Undo Down s i before) b →
        (downs c t j es ≤ ups c t j es) × (ups c t j es ≤ cond (eqb s t && eqb i j) (occurs c before) 0)
    rest a [] e f g =
        let up = each_counts c t j Up Place.Add Up s i before a f in
        let down = each_counts c t j Down Place.Add Up s i before a f in
        rw (
          e,
          done_entries-append c t j Up a [],
          done_entries-append c t j Down a [],
          done_entries-none c t j Up,
          done_entries-none c t j Down,
        ) (omega arith, omega arith)
    rest a (x ∷ b) e f g =
        let up = each_counts c t j Up Place.Add Up s i before a f in
        let down = each_counts c t j Down Place.Add Up s i before a f in
        let up' = each_bounds c t j Up Undo Down s i before b g.1 in
        let down' = each_bounds c t j Down Undo Down s i before b g.1 in
        let x_up = fault_counts c t j Up cpu Place.Add Up s i false x g.0 in
        let x_down = fault_counts c t j Down cpu Place.Add Up s i false x g.0 in
        rw (
          e,
          done_entries-append c t j Up a (x ∷ b),
          done_entries-append c t j Down a (x ∷ b),
          done_entries-cons c t j Up x b,
          done_entries-cons c t j Down x b,
        ) (omega arith, omega arith)

    go : (Begin (each Place.Add Up s i before) es × (length es < length (each Place.Add Up s i before)))
        ⊎ ((a b : List Event) × (es ≡ a ++ b) × Fill (each Place.Add Up s i before) a
        × Begin (record { cpu = cpu; state = s; inst = i; dir = Up; place = Place.Add; first = false; fails = true }
        ∷ each Undo Down s i before) b) →
        (downs c t j es ≤ ups c t j es) × (ups c t j es ≤ cond (eqb s t && eqb i j) (occurs c before) 0)
    go (inl q) =
        let up = each_bounds c t j Up Place.Add Up s i before es q.0 in
        let down = each_bounds c t j Down Place.Add Up s i before es q.0 in
        (omega arith, omega arith)
    go (inr r) = rest r.0 r.1 r.2 r.3 r.4

-- adding goes up on each processor at most once, and removing goes down at most once
abbrev pub IsAddBound : (c t j s : ℕ) → Option ℕ → List ℕ → List Event → Type 0
IsAddBound c t j s key cs es =
    (downs c t j es ≤ ups c t j es) × (ups c t j es ≤ cond (is_hit s key t j) (occurs c cs) 0)

abbrev pub IsRemoveBound : (c t j s : ℕ) → Option ℕ → List ℕ → List Event → Type 0
IsRemoveBound c t j s key cs es =
    (ups c t j es ≡ 0) × (downs c t j es ≤ cond (is_hit s key t j) (occurs c cs) 0)

pub none_begun : (c t j : ℕ) (d : Dir) (xs : List Slot) (es : List Event) → xs ≡ [] → Begin xs es → done_entries c t j d es ≡ 0
none_begun c t j d [] [] h b = done_entries-none c t j d
none_begun c t j d [] (e ∷ es) h b = elim b [ ]
none_begun c t j d (x ∷ xs) es h b = absurd (some_slot x xs h)

pub more_processors : (b : Bool) (c : ℕ) (before : List ℕ) (cpu : ℕ) (after cs : List ℕ) → cs ≡ before ++ cpu ∷ after →
    cond b (occurs c before) 0 ≤ cond b (occurs c cs) 0
more_processors true c before cpu after cs e = let h = occurs-append c before (cpu ∷ after) in rw e (omega arith)
more_processors false c before cpu after cs e = omega arith

pub add_bounds : (c t j s : ℕ) (key : Option ℕ) (cs : List ℕ) (xs : List Slot) (o : Registering) (es : List Event) →
    IsRegistrationShape true s key cs xs o → Begin xs es → IsAddBound c t j s key cs es
add_bounds c t j s None cs xs made es h b =
    rw (none_begun c t j Up xs es h b, none_begun c t j Down xs es h b) (omega arith, omega arith)
add_bounds c t j s None cs xs undone es h b = elim h [ ]
add_bounds c t j s (Some i) cs xs made es h b =
    let b' = rw h at b in
    let up : done_entries c t j Up es ≤ cond (eqb s t && eqb i j) (occurs c cs) 0 = each_bounds c t j Up Place.Add Up s i cs es b' in
    let down : done_entries c t j Down es ≤ 0 = each_bounds c t j Down Place.Add Up s i cs es b' in
    (omega arith, up)
add_bounds c t j s (Some i) cs xs undone es h b =
    let b' = rw h.slots_are at b in
    let r = undone_bounds c t j s i h.before h.cpu es b' in
    let more = more_processors (eqb s t && eqb i j) c h.before h.cpu h.after cs h.cpus_are in
    (omega arith, omega arith)

pub remove_bounds : (c t j s : ℕ) (key : Option ℕ) (cs : List ℕ) (xs : List Slot) (o : Registering) (es : List Event) →
    IsRegistrationShape false s key cs xs o → Begin xs es → IsRemoveBound c t j s key cs es
remove_bounds c t j s None cs xs made es h b =
    rw (none_begun c t j Up xs es h b, none_begun c t j Down xs es h b) (omega arith, omega arith)
remove_bounds c t j s None cs xs undone es h b = elim h [ ]
remove_bounds c t j s (Some i) cs xs made es h b =
    let b' = rw h at b in
    let up : done_entries c t j Up es ≤ 0 = each_bounds c t j Up Place.Remove Down s i cs es b' in
    let down : done_entries c t j Down es ≤ cond (eqb s t && eqb i j) (occurs c cs) 0 = each_bounds c t j Down Place.Remove Down s i cs es b' in
    (omega arith, down)
remove_bounds c t j s (Some i) cs xs undone es h b = elim h [ ]
