-- How many entries a walk or a registration in flight can have so far.
use Rattle.std.proofs.Common.{◌≡◌, ℕ, ◌*◌, ◌≤◌, Bool, true, false, cond, ◌&&◌, Option, Some, None, List, [], ◌∷◌, length, sum_by, refl, ap, sym, ◌∙◌, arith, length-append}
use Rattle.std.specs.List.{filter}
use Rattle.std.specs.Prelude.{nat_le}
use Rattle.std.proofs.lemmas.Bool.{true≢false, and_parts}
use Rattle.std.proofs.lemmas.List.Sums.{sum_by-cons}
use Rattle.hp_states.specs.declared.dir.Dir.{Dir}
use Rattle.hp_states.specs.declared.place.Place.{Place}
use Rattle.hp_event.specs.declared.head.Head.{Head}
use Rattle.hp_event.specs.declared.event.Event.{Event}
use Rattle.hp_model.specs.Lists.{numbers}
use Rattle.hp_model.specs.Crossing.{Slot, Begin, slots}
use Rattle.hp_model.specs.Walks.{Walk, walk_entries}
use Rattle.hp_model.specs.Registrations.{Registration, registration_entries}
use Rattle.hp_model.specs.Registered.{keys}
use Rattle.hp_model.specs.Settled.{settled}
use Rattle.hp_model.specs.Processors.{is_present, present, processors}
use Rattle.hp_model.specs.Plan.{direction, plan, keys_on}
use Rattle.hp_model.specs.RegistrationShape.{key_of, is_adding, each, Registering, made, undone, IsRegistrationShape}
use Rattle.hp_model.proofs.Lengths.{total, shape_length}
use Rattle.hp_model.proofs.Kept.{WalkKept, RegistrationKept}

pub begin_length : (xs : List Slot) (es : List Event) → Begin xs es → length es ≤ length xs
begin_length xs [] h = omega arith
begin_length [] (e ∷ es) h = elim h [ ]
begin_length (x ∷ xs) (e ∷ es) h = let r = begin_length xs es h.1 in omega arith

pub total_sum : (keys : ℕ → List ℕ) (ss : List ℕ) → total keys ss ≡ sum_by (λ s. length (keys s)) ss
total_sum keys [] = refl
total_sum keys (s ∷ ss) =
    let r = total_sum keys ss in
    let c = sum_by-cons (λ s. length (keys s)) s ss in
    omega arith

pub walk_bound : (head : Head) (c : ℕ) (w : Walk) (xs : List Event) → WalkKept head c w xs →
    length (walk_entries c xs) ≤ 3 * keys_on (keys head w.before) w.from w.to
walk_bound head c w xs k =
    let K = keys head w.before in
    let p = plan K w.from w.to in
    let s = shape_length c K (direction w.from w.to) p k.so_far.crossings k.so_far.outcome k.so_far.shape in
    let b = begin_length (slots c K k.so_far.crossings) (walk_entries c xs) k.so_far.begun in
    let t = total_sum K p in
    omega arith

length-each : (p : Place) (d : Dir) (s i : ℕ) (cs : List ℕ) → length (each p d s i cs) ≡ length cs
length-each p d s i [] = refl
length-each p d s i (c ∷ cs) = let r = length-each p d s i cs in omega arith

registration_shape_length : (adding : Bool) (s : ℕ) (key : Option ℕ) (cs : List ℕ) (xs : List Slot) (o : Registering) →
    IsRegistrationShape adding s key cs xs o → length xs ≤ 2 * length cs
registration_shape_length adding s None cs xs made h = rw h (omega arith)
registration_shape_length adding s None cs xs undone h = elim h [ ]
registration_shape_length true s (Some i) cs xs made h = let l = length-each Place.Add Dir.Up s i cs in rw h (omega arith)
registration_shape_length true s (Some i) cs xs undone h =
    let x : Slot = record { cpu = h.cpu; state = s; inst = i; dir = Dir.Up; place = Place.Add; first = false; fails = true } in
    let a = length-each Place.Add Dir.Up s i h.before in
    let b = length-each Place.Undo Dir.Down s i h.before in
    let c = ap length h.cpus_are ∙ length-append h.before (h.cpu ∷ h.after) in
    rw (h.slots_are, length-append (each Place.Add Dir.Up s i h.before) (x ∷ each Place.Undo Dir.Down s i h.before)) (omega arith)
registration_shape_length false s (Some i) cs xs made h = let l = length-each Place.Remove Dir.Down s i cs in rw h (omega arith)
registration_shape_length false s (Some i) cs xs undone h = elim h [ ]

fewer : (p q : ℕ → Bool) (xs : List ℕ) → ((x : ℕ) → p x ≡ true → q x ≡ true) → length (filter p xs) ≤ length (filter q xs)
fewer p q [] h = omega arith
fewer p q (x ∷ xs) h = go (p x) (q x) refl refl (fewer p q xs h)
  where
    go : (a b : Bool) → p x ≡ a → q x ≡ b → length (filter p xs) ≤ length (filter q xs) →
        length (cond a (x ∷ filter p xs) (filter p xs)) ≤ length (cond b (x ∷ filter q xs) (filter q xs))
    go true true e f r = omega arith
    go true false e f r = absurd (true≢false (sym (h x e) ∙ f))
    go false true e f r = omega arith
    go false false e f r = r

pub few_processors : (head : Head) (s : ℕ) (xs : List Event) → length (processors head s xs) ≤ length (present head)
few_processors head s xs =
    fewer (λ c. is_present head c && at_least c) (λ c. is_present head c) (numbers head.possible)
    (λ c h. (and_parts (is_present head c) (at_least c) h).0)
  where
    at_least : ℕ → Bool
    at_least c = nat_le s (settled c xs)

pub registration_bound : (head : Head) (r : Registration) (xs : List Event) → RegistrationKept head r xs →
    length (registration_entries xs) ≤ 2 * length (present head)
registration_bound head r xs k =
    let cs = processors head r.state r.before in
    let s = registration_shape_length (is_adding r.op) r.state (key_of head r) cs k.so_far.slots k.so_far.outcome k.so_far.shape in
    let b = begin_length k.so_far.slots (registration_entries xs) k.so_far.begun in
    let f = few_processors head r.state r.before in
    omega arith
