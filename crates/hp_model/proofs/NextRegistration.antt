-- All shapes of a registration are ways through one tree.
use Rattle.std.proofs.Common.{ℕ, Bool, true, false, Option, Some, None, List, [], ◌∷◌, ◌++◌, refl, append_assoc}
use Rattle.std.proofs.lemmas.List.{append-nil}
use Rattle.hp_states.specs.declared.dir.Dir.TheVariants.{Up, Down}
use Rattle.hp_states.specs.declared.place.Place.{Place}
use Rattle.hp_model.specs.Crossing.{Slot}
use Rattle.hp_model.specs.RegistrationShape.{each, Registering, made, undone, IsRegistrationShape}
use Rattle.hp_model.proofs.NextSlot.{Follow}
pub use Rattle.hp_model.specs.Trees.{down_tree, add_tree, registration_tree}

pub down_follows : (p : Place) (s i : ℕ) (cs : List ℕ) → Follow (down_tree p s i cs) (each p Down s i cs)
down_follows p s i [] = tt
down_follows p s i (c ∷ cs) = (refl, down_follows p s i cs)

pub add_follows : (s i : ℕ) (seen cs : List ℕ) → Follow (add_tree s i seen cs) (each Place.Add Up s i cs)
add_follows s i seen [] = tt
add_follows s i seen (c ∷ cs) = (refl, add_follows s i (seen ++ c ∷ []) cs)

pub undone_follows : (s i : ℕ) (seen before : List ℕ) (cpu : ℕ) (after : List ℕ) →
    Follow (add_tree s i seen (before ++ cpu ∷ after))
    (each Place.Add Up s i before
    ++ (record { cpu = cpu; state = s; inst = i; dir = Up; place = Place.Add; first = false; fails = true }
    ∷ each Place.Undo Down s i (seen ++ before)))
undone_follows s i seen [] cpu after = (refl, rw (append-nil seen) (down_follows Place.Undo s i seen))
undone_follows s i seen (c ∷ before) cpu after =
    (refl, rw (append_assoc seen (c ∷ []) before) at (undone_follows s i (seen ++ c ∷ []) before cpu after))

pub registration_follows : (adding : Bool) (s : ℕ) (key : Option ℕ) (cs : List ℕ) (xs : List Slot) (o : Registering) →
    IsRegistrationShape adding s key cs xs o → Follow (registration_tree adding s key cs) xs
registration_follows adding s None cs xs made h = rw h tt
registration_follows adding s None cs xs undone h = elim h [ ]
registration_follows true s (Some i) cs xs made h = rw h (add_follows s i [] cs)
registration_follows true s (Some i) cs xs undone h =
    rw (h.cpus_are, h.slots_are) (undone_follows s i [] h.before h.cpu h.after)
registration_follows false s (Some i) cs xs made h = rw h (down_follows Place.Remove s i cs)
registration_follows false s (Some i) cs xs undone h = elim h [ ]
