-- How code that makes a registration's entries one at a time is tied to the shapes: whatever follows the tree of a
-- registration is a shape of it, each way down leads to the end, and entries that lead to a step or to the end of
-- the tree are those of a shape.
use Rattle.std.proofs.Common.{◌≡◌, ℕ, Bool, true, false, cond, Option, Some, None, List, [], ◌∷◌, ◌++◌, ◌≤◌, length, map, refl, ap, ◌∙◌, inl, inr, ◌⊎◌, append_assoc, arith}
use Rattle.std.proofs.lemmas.List.{append-nil}
use Rattle.hp_states.specs.declared.dir.Dir.{Dir}
use Rattle.hp_states.specs.declared.dir.Dir.TheVariants.{Up, Down}
use Rattle.hp_states.specs.declared.place.Place.{Place}
use Rattle.hp_event.specs.declared.event.Event.{Event}
use Rattle.hp_model.specs.Entries.{codes_of_faults}
use Rattle.hp_model.specs.Faults.{Faulty, faults}
use Rattle.hp_model.specs.Crossing.{Slot, Fill}
use Rattle.hp_model.specs.RegistrationShape.{each, Registering, made, undone, IsRegistrationShape}
use Rattle.hp_model.specs.StandsCalls.{IsNext}
use Rattle.hp_model.proofs.NextSlot.{with_fails, Tree, stop, dead, step, Follow}
use Rattle.hp_model.proofs.NextRegistration.{down_tree, add_tree, registration_tree}
use Rattle.hp_model.proofs.Cursor.{Runs, IsLive, Sound, next_in, end_in}
use Rattle.hp_model.proofs.Failing.{failing, failing-append}
use Rattle.hp_model.proofs.WalkEnd.{fill_faults}
use Rattle.hp_model.proofs.TreeShapes.{stop_none}

-- what follows the tree of a registration is a shape of it
pub down_shape : (p : Place) (s i : ℕ) (cs : List ℕ) (xs : List Slot) → Follow (down_tree p s i cs) xs → xs ≡ each p Down s i cs
down_shape p s i [] xs h = stop_none xs h
down_shape p s i (c ∷ cs) [] h = elim h [ ]
down_shape p s i (c ∷ cs) (x ∷ xs) h = go x.fails h.0 h.1 (down_shape p s i cs xs)
  where
    go : (fails : Bool) →
        x ≡ with_fails (record { cpu = c; state = s; inst = i; dir = Down; place = p; first = false; fails = false }) fails →
        Follow (cond fails dead (down_tree p s i cs)) xs → (Follow (down_tree p s i cs) xs → xs ≡ each p Down s i cs) →
        x ∷ xs ≡ each p Down s i (c ∷ cs)
    go true e k r = elim k [ ]
    go false e k r = rw (e, r k) refl

-- made, or undone after some processors
pub record IsAdded (s i : ℕ) (seen cs : List ℕ) (xs : List Slot) : Type 0 where
  pub before : List ℕ
  pub cpu : ℕ
  pub after : List ℕ
  pub cpus_are : cs ≡ before ++ cpu ∷ after
  pub slots_are :
      xs ≡ each Place.Add Up s i before
      ++ (record { cpu = cpu; state = s; inst = i; dir = Up; place = Place.Add; first = false; fails = true }
      ∷ each Place.Undo Down s i (seen ++ before))

pub add_shape : (s i : ℕ) (seen cs : List ℕ) (xs : List Slot) → Follow (add_tree s i seen cs) xs →
    (xs ≡ each Place.Add Up s i cs) ⊎ IsAdded s i seen cs xs
add_shape s i seen [] xs h = inl (stop_none xs h)
add_shape s i seen (c ∷ cs) [] h = elim h [ ]
add_shape s i seen (c ∷ cs) (x ∷ xs) h = go x.fails h.0 h.1 (add_shape s i (seen ++ c ∷ []) cs xs)
  where
    more : x ≡ record { cpu = c; state = s; inst = i; dir = Up; place = Place.Add; first = false; fails = false } →
        (xs ≡ each Place.Add Up s i cs) ⊎ IsAdded s i (seen ++ c ∷ []) cs xs →
        (x ∷ xs ≡ each Place.Add Up s i (c ∷ cs)) ⊎ IsAdded s i seen (c ∷ cs) (x ∷ xs)
    more e (inl r) = inl (rw (e, r) refl)
    more e (inr r) = inr (record {
      before = c ∷ r.before;
      cpu = r.cpu;
      after = r.after;
      cpus_are = ap (λ z. c ∷ z) r.cpus_are;
      slots_are = rw (e, r.slots_are, append_assoc seen (c ∷ []) r.before) refl;
    })

    go : (fails : Bool) →
        x ≡ with_fails (record { cpu = c; state = s; inst = i; dir = Up; place = Place.Add; first = false; fails = false }) fails →
        Follow (cond fails (down_tree Place.Undo s i seen) (add_tree s i (seen ++ c ∷ []) cs)) xs →
        (Follow (add_tree s i (seen ++ c ∷ []) cs) xs → (xs ≡ each Place.Add Up s i cs) ⊎ IsAdded s i (seen ++ c ∷ []) cs xs) →
        (x ∷ xs ≡ each Place.Add Up s i (c ∷ cs)) ⊎ IsAdded s i seen (c ∷ cs) (x ∷ xs)
    go true e k r = inr (record {
      before = [];
      cpu = c;
      after = cs;
      cpus_are = refl;
      slots_are = rw (e, down_shape Place.Undo s i seen xs k, append-nil seen) refl;
    })
    go false e k r = more e (r k)

pub record IsSomeRegistration (adding : Bool) (s : ℕ) (key : Option ℕ) (cs : List ℕ) (xs : List Slot) : Type 0 where
  pub outcome : Registering
  pub shape : IsRegistrationShape adding s key cs xs outcome

pub registration_shape : (adding : Bool) (s : ℕ) (key : Option ℕ) (cs : List ℕ) (xs : List Slot) →
    Follow (registration_tree adding s key cs) xs → IsSomeRegistration adding s key cs xs
registration_shape adding s None cs xs h = record { outcome = made; shape = stop_none xs h }
registration_shape false s (Some i) cs xs h = record { outcome = made; shape = down_shape Place.Remove s i cs xs h }
registration_shape true s (Some i) cs xs h = go (add_shape s i [] cs xs h)
  where
    go : (xs ≡ each Place.Add Up s i cs) ⊎ IsAdded s i [] cs xs → IsSomeRegistration true s (Some i) cs xs
    go (inl r) = record { outcome = made; shape = r }
    go (inr r) = record {
      outcome = undone;
      shape = record { before = r.before; cpu = r.cpu; after = r.after; cpus_are = r.cpus_are; slots_are = r.slots_are };
    }

-- each way down leads to the end
pub sound_down : (p : Place) (s i : ℕ) (cs : List ℕ) → IsLive (down_tree p s i cs) × Sound (down_tree p s i cs)
sound_down p s i [] = (tt, tt)
sound_down p s i (c ∷ cs) = let r = sound_down p s i cs in (tt, (r.0, r.1, tt))

pub sound_add : (s i : ℕ) (seen cs : List ℕ) → IsLive (add_tree s i seen cs) × Sound (add_tree s i seen cs)
sound_add s i seen [] = (tt, tt)
sound_add s i seen (c ∷ cs) =
    let r = sound_add s i (seen ++ c ∷ []) cs in (tt, (r.0, r.1, (sound_down Place.Undo s i seen).1))

pub sound_registration : (adding : Bool) (s : ℕ) (key : Option ℕ) (cs : List ℕ) → Sound (registration_tree adding s key cs)
sound_registration adding s None cs = tt
sound_registration true s (Some i) cs = (sound_add s i [] cs).1
sound_registration false s (Some i) cs = (sound_down Place.Remove s i cs).1

-- a slot that comes after exactly these entries in some registration of that key on those processors
pub record IsNextSlot (adding : Bool) (s : ℕ) (key : Option ℕ) (cs : List ℕ) (es : List Event) (slot : Slot) : Type 0 where
  pub outcome : Registering
  pub slots : List Slot
  pub shape : IsRegistrationShape adding s key cs slots outcome
  pub is_next : IsNext slots es slot

-- at a step its slot comes next, done or a fault, where that leads to no dead end
pub next_slot_of : (adding : Bool) (s : ℕ) (key : Option ℕ) (cs : List ℕ) (es : List Event) (slot : Slot) (a b : Tree) (fails : Bool) →
    Runs (registration_tree adding s key cs) es (step slot a b) → IsLive (cond fails b a) →
    IsNextSlot adding s key cs es (with_fails slot fails)
next_slot_of adding s key cs es slot a b fails r live =
    let n = next_in (registration_tree adding s key cs) es slot a b fails (sound_registration adding s key cs) r live in
    let g = registration_shape adding s key cs n.slots n.follows in
    record { outcome = g.outcome; slots = n.slots; shape = g.shape; is_next = n.is_next }

-- the states that fail, in a registration that ends so
pub failing-each : (p : Place) (d : Dir) (s i : ℕ) (cs : List ℕ) → failing (each p d s i cs) ≡ []
failing-each p d s i [] = refl
failing-each p d s i (c ∷ cs) = failing-each p d s i cs

abbrev pub IsFailing : Registering → (state : ℕ) → List ℕ → Type 0
IsFailing made s fs = fs ≡ []
IsFailing undone s fs = fs ≡ s ∷ []

pub shape_failing : (adding : Bool) (s : ℕ) (key : Option ℕ) (cs : List ℕ) (xs : List Slot) (o : Registering) →
    IsRegistrationShape adding s key cs xs o → IsFailing o s (failing xs)
shape_failing adding s None cs xs made h = rw h refl
shape_failing adding s None cs xs undone h = elim h [ ]
shape_failing true s (Some i) cs xs made h = rw h (failing-each Place.Add Up s i cs)
shape_failing true s (Some i) cs xs undone h =
    let x : Slot = record { cpu = h.cpu; state = s; inst = i; dir = Up; place = Place.Add; first = false; fails = true } in
    rw (
      h.slots_are,
      failing-append (each Place.Add Up s i h.before) (x ∷ each Place.Undo Down s i h.before),
      failing-each Place.Add Up s i h.before,
      failing-each Place.Undo Down s i h.before,
    )
    refl
shape_failing false s (Some i) cs xs made h = rw h (failing-each Place.Remove Down s i cs)
shape_failing false s (Some i) cs xs undone h = elim h [ ]

-- so they tell how it ends, and are at most one
abbrev pub outcome_of : List ℕ → Registering
outcome_of [] = made
outcome_of (s ∷ ss) = undone

pub shape_outcome : (adding : Bool) (s : ℕ) (key : Option ℕ) (cs : List ℕ) (xs : List Slot) (o : Registering) →
    IsRegistrationShape adding s key cs xs o → (o ≡ outcome_of (failing xs)) × (length (failing xs) ≤ 1)
shape_outcome adding s key cs xs o h = go o (failing xs) (shape_failing adding s key cs xs o h)
  where
    go : (o : Registering) (fs : List ℕ) → IsFailing o s fs → (o ≡ outcome_of fs) × (length fs ≤ 1)
    go made fs h = rw h (refl, omega arith)
    go undone fs h = rw h (refl, omega arith)

-- a registration was made where none of its entries is a fault
filled_outcome : (xs : List Slot) (es : List Event) → Fill xs es → outcome_of (failing xs) ≡ outcome_of (codes_of_faults es)
filled_outcome xs es h = let f = fill_faults xs es h in rw (f.0, f.1) (go (faults es))
  where
    go : (fs : List Faulty) → outcome_of (map (λ f. f.state) fs) ≡ outcome_of (map (λ f. f.code) fs)
    go [] = refl
    go (f ∷ fs) = refl

-- at the end of the tree the entries are the whole of a registration, which was made where none of them is a fault
pub record IsEnded (adding : Bool) (s : ℕ) (key : Option ℕ) (cs : List ℕ) (es : List Event) : Type 0 where
  pub outcome : Registering
  pub slots : List Slot
  pub shape : IsRegistrationShape adding s key cs slots outcome
  pub filled : Fill slots es
  pub outcome_is : outcome ≡ outcome_of (codes_of_faults es)

pub end_of_registration : (adding : Bool) (s : ℕ) (key : Option ℕ) (cs : List ℕ) (es : List Event) →
    Runs (registration_tree adding s key cs) es stop → IsEnded adding s key cs es
end_of_registration adding s key cs es r =
    let f = end_in (registration_tree adding s key cs) es r in
    let g = registration_shape adding s key cs f.slots f.follows in
    record {
      outcome = g.outcome;
      slots = f.slots;
      shape = g.shape;
      filled = f.filled;
      outcome_is = (shape_outcome adding s key cs f.slots g.outcome g.shape).0 ∙ filled_outcome f.slots es f.filled;
    }
