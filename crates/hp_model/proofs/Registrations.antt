-- What a registration's entries count, and what its end does to the keys.
use Rattle.std.proofs.Common.{◌≡◌, ℕ, ◌+◌, ◌<◌, ◌≤◌, Bool, true, false, cond, ◌&&◌, eqb, leb, Option, Some, None, List, [], ◌∷◌, ◌++◌, refl, sym, ◌∙◌, arith}
use Rattle.std.proofs.lemmas.Bool.Decides.{nat_tests}
use Rattle.std.proofs.lemmas.Bool.{true≢false, false≢true, eqb-true}
use Rattle.hp_states.specs.declared.dir.Dir.{Dir}
use Rattle.hp_states.specs.declared.dir.Dir.TheVariants.{Up, Down}
use Rattle.hp_states.specs.declared.place.Place.{Place}
use Rattle.hp_states.specs.declared.place.Place.TheVariants.{Undo}
use Rattle.hp_states.specs.Rules.{same_dir}
use Rattle.hp_event.specs.declared.op.Op.{Op}
use Rattle.hp_event.specs.declared.op.Op.TheVariants.{Setup, Remove, Add, Del}
use Rattle.hp_event.specs.declared.head.Head.{Head}
use Rattle.hp_event.specs.declared.event.Event.{Event}
use Rattle.hp_model.specs.InForce.{done_entries, ups, downs}
use Rattle.hp_model.specs.Lists.{occurs}
use Rattle.hp_model.specs.Crossing.{Slot, Fill}
use Rattle.hp_model.specs.Registrations.{Registration}
use Rattle.hp_model.specs.Registered.{Registered, registered, applied, insts_of, keys}
use Rattle.hp_model.specs.Subsystems.{is_multi}
use Rattle.hp_model.specs.Settled.{settled}
use Rattle.hp_model.specs.Processors.{is_present, processors}
use Rattle.hp_model.specs.RegistrationShape.{single, key_of_op, key_of, is_adding, each, made, undone, IsRegistrationShape}
use Rattle.hp_model.proofs.Counts.{at_or_below, done_entries-none, done_entries-cons, done_entries-append, entry_of_slot, cond_same, Fill_split, fault_counts}
use Rattle.hp_model.proofs.CanBegin.{CanBegin}
use Rattle.hp_model.proofs.ListLemmas.{occurs-processors, occurs-without}

pub each_step : (a b g : Bool) (n : ℕ) →
    cond ((a && b) && (g && true)) 1 0 + cond (b && g) n 0 ≡ cond (b && g) (cond a 1 0 + n) 0
each_step true true true n = refl
each_step true true false n = refl
each_step true false g n = refl
each_step false true true n = refl
each_step false true false n = refl
each_step false false g n = refl

pub each_counts : (c t j : ℕ) (d' : Dir) (p : Place) (d : Dir) (s i : ℕ) (cs : List ℕ) (es : List Event) →
    Fill (each p d s i cs) es →
    done_entries c t j d' es ≡ cond (same_dir d d' && (eqb s t && eqb i j)) (occurs c cs) 0
each_counts c t j d' p d s i [] [] h =
    done_entries-none c t j d' ∙ sym (cond_same (same_dir d d' && (eqb s t && eqb i j)) 0)
each_counts c t j d' p d s i [] (e ∷ es) h = elim h [ ]
each_counts c t j d' p d s i (k ∷ cs) [] h = elim h [ ]
each_counts c t j d' p d s i (k ∷ cs) (e ∷ es) h =
    let x : Slot = record { cpu = k; state = s; inst = i; dir = d; place = p; first = false; fails = false } in
    rw (done_entries-cons, entry_of_slot c t j d' x e h.0, each_counts c t j d' p d s i cs es h.1)
    (each_step (eqb k c) (same_dir d d') (eqb s t && eqb i j) (occurs c cs))

-- what a registration that is undone counts
pub undone_counts : (c t j : ℕ) (d' : Dir) (s i : ℕ) (before : List ℕ) (cpu : ℕ) (es : List Event) →
    Fill (each Place.Add Up s i before
    ++ (record { cpu = cpu; state = s; inst = i; dir = Up; place = Place.Add; first = false; fails = true }
    ∷ each Undo Down s i before)) es →
    done_entries c t j d' es
    ≡ cond (same_dir Up d' && (eqb s t && eqb i j)) (occurs c before) 0
    + cond (same_dir Down d' && (eqb s t && eqb i j)) (occurs c before) 0
undone_counts c t j d' s i before cpu es h =
    let x : Slot = record { cpu = cpu; state = s; inst = i; dir = Up; place = Place.Add; first = false; fails = true } in
    let r = Fill_split (each Place.Add Up s i before) (x ∷ each Undo Down s i before) es h in
    go r.0 r.1 r.2 r.3 r.4
  where
    go : (a b : List Event) → es ≡ a ++ b → Fill (each Place.Add Up s i before) a →
        Fill (record { cpu = cpu; state = s; inst = i; dir = Up; place = Place.Add; first = false; fails = true }
        ∷ each Undo Down s i before) b →
        done_entries c t j d' es
        ≡ cond (same_dir Up d' && (eqb s t && eqb i j)) (occurs c before) 0
        + cond (same_dir Down d' && (eqb s t && eqb i j)) (occurs c before) 0
    go a [] e f g = elim g [ ]
    go a (x ∷ b) e f g =
        rw (
          e,
          done_entries-append,
          done_entries-cons,
          fault_counts c t j d' cpu Place.Add Up s i false x g.0,
          each_counts c t j d' Place.Add Up s i before a f,
          each_counts c t j d' Undo Down s i before b g.1,
        )
        (omega arith)

-- whether a key is the one of a registration
abbrev pub is_inst : Option ℕ → ℕ → Bool
is_inst None j = false
is_inst (Some i) j = eqb i j

abbrev pub is_hit : (state : ℕ) → Option ℕ → (t j : ℕ) → Bool
is_hit s key t j = eqb s t && is_inst key j

-- the entries of a whole registration, by how it ends
pub some_slot : (x : Slot) (xs : List Slot) → x ∷ xs ≡ [] → ⊥
some_slot x xs h = cc

pub none_filled : (c t j : ℕ) (d : Dir) (xs : List Slot) (es : List Event) → xs ≡ [] → Fill xs es →
    done_entries c t j d es ≡ 0
none_filled c t j d [] [] e f = done_entries-none c t j d
none_filled c t j d [] (x ∷ es) e f = elim f [ ]
none_filled c t j d (x ∷ xs) es e f = absurd (some_slot x xs e)

pub and_no : (a : Bool) (n : ℕ) → cond (a && false) n 0 ≡ 0
and_no true n = refl
and_no false n = refl

pub made_ups : (c t j s : ℕ) (key : Option ℕ) (cs : List ℕ) (xs : List Slot) (es : List Event) →
    IsRegistrationShape true s key cs xs made → Fill xs es →
    (ups c t j es ≡ cond (is_hit s key t j) (occurs c cs) 0) × (downs c t j es ≡ 0)
made_ups c t j s None cs xs es h f =
    (none_filled c t j Up xs es h f ∙ sym (and_no (eqb s t) (occurs c cs)), none_filled c t j Down xs es h f)
made_ups c t j s (Some i) cs xs es h f =
    let f' = rw h at f in
    (each_counts c t j Up Place.Add Up s i cs es f', each_counts c t j Down Place.Add Up s i cs es f')

pub made_downs : (c t j s : ℕ) (key : Option ℕ) (cs : List ℕ) (xs : List Slot) (es : List Event) →
    IsRegistrationShape false s key cs xs made → Fill xs es →
    (downs c t j es ≡ cond (is_hit s key t j) (occurs c cs) 0) × (ups c t j es ≡ 0)
made_downs c t j s None cs xs es h f =
    (none_filled c t j Down xs es h f ∙ sym (and_no (eqb s t) (occurs c cs)), none_filled c t j Up xs es h f)
made_downs c t j s (Some i) cs xs es h f =
    let f' = rw h at f in
    (each_counts c t j Down Place.Remove Down s i cs es f', each_counts c t j Up Place.Remove Down s i cs es f')

pub undone_even : (c t j s : ℕ) (adding : Bool) (key : Option ℕ) (cs : List ℕ) (xs : List Slot) (es : List Event) →
    IsRegistrationShape adding s key cs xs undone → Fill xs es → ups c t j es ≡ downs c t j es
undone_even c t j s adding None cs xs es h f = elim h [ ]
undone_even c t j s false (Some i) cs xs es h f = elim h [ ]
undone_even c t j s true (Some i) cs xs es h f =
    let f' = rw h.slots_are at f in
    rw (undone_counts c t j Up s i h.before h.cpu es f', undone_counts c t j Down s i h.before h.cpu es f')
    (omega arith)

pub adds_single : (m : Bool) (j : ℕ) → occurs j (cond m [] (0 ∷ [])) ≡ 0 + cond (is_inst (single m) j) 1 0
adds_single true j = refl
adds_single false j = omega arith

pub adds : (head : Head) (op : Op) (found : Option Registered) (j : ℕ) → CanBegin op found → is_adding op ≡ true →
    occurs j (insts_of (applied head op found)) ≡ occurs j (insts_of found) + cond (is_inst (key_of_op head op found) j) 1 0
adds head (Setup state sub form) found j h a = rw h (adds_single (is_multi head sub) j)
adds head (Add state inst form) found j h a = rw (h.1, h.2) (omega arith)
adds head (Remove state form) found j h a = absurd (false≢true a)
adds head (Del state inst form) found j h a = absurd (false≢true a)
adds head op found j h a = elim h [ ]

pub removes_single : (m : Bool) (insts : List ℕ) (j : ℕ) → (m ≡ true → insts ≡ []) →
    occurs j (cond m insts (0 ∷ [])) ≡ 0 + cond (is_inst (single m) j) 1 0
removes_single true insts j h = rw (h refl) refl
removes_single false insts j h = omega arith

pub removes_inst : (n : ℕ → ℕ) (i j : ℕ) → 0 < n i → n i ≤ 1 → n j ≡ cond (eqb j i) 0 (n j) + cond (eqb i j) 1 0
removes_inst n i j some once = grind (arith, nat_tests)

pub removes : (head : Head) (op : Op) (found : Option Registered) (j : ℕ) → CanBegin op found → is_adding op ≡ false →
    ((i : ℕ) → occurs i (insts_of found) ≤ 1) →
    occurs j (insts_of found) ≡ occurs j (insts_of (applied head op found)) + cond (is_inst (key_of_op head op found) j) 1 0
removes head (Remove state form) found j h a once = rw h.1 (removes_single h.0.multi h.0.insts j h.2)
removes head (Del state inst form) found j h a once =
    let once' = rw (h.1, h.2) at (once inst) in
    rw (h.1, h.2, occurs-without inst j h.0.insts) (removes_inst (λ x. occurs x h.0.insts) inst j h.3 once')
removes head (Setup state sub form) found j h a once = absurd (true≢false a)
removes head (Add state inst form) found j h a once = absurd (true≢false a)
removes head op found j h a once = elim h [ ]

-- The net of a whole registration that was made: it takes the keys at or below a processor's state to the
-- keys there are after it.
pub nets_added : (st hj : Bool) (s t a n n' : ℕ) → (st ≡ true → s ≡ t) → n' ≡ n + cond st (cond hj 1 0) 0 →
    cond (leb t a) n 0 + cond (st && hj) (cond (leb s a) 1 0) 0 ≡ 0 + cond (leb t a) n' 0
nets_added true true s t a n n' e h = rw (e refl) (grind (arith, nat_tests))
nets_added true false s t a n n' e h = grind (arith, nat_tests)
nets_added false hj s t a n n' e h = grind (arith, nat_tests)

pub nets_removed : (st hj : Bool) (s t a n n' : ℕ) → (st ≡ true → s ≡ t) → n ≡ n' + cond st (cond hj 1 0) 0 →
    cond (leb t a) n 0 + 0 ≡ cond (st && hj) (cond (leb s a) 1 0) 0 + cond (leb t a) n' 0
nets_removed true true s t a n n' e h = rw (e refl) (grind (arith, nat_tests))
nets_removed true false s t a n n' e h = grind (arith, nat_tests)
nets_removed false hj s t a n n' e h = grind (arith, nat_tests)

-- the instances of a state's keys after a registration of another state, or of this one
abbrev pub after_it : Head → Registration → (t : ℕ) → List ℕ
after_it head r t =
    insts_of (cond (eqb r.state t) (applied head r.op (registered head t r.before)) (registered head t r.before))

pub after_added : (head : Head) (r : Registration) (t j : ℕ) → CanBegin r.op (registered head r.state r.before) → is_adding r.op ≡ true →
    occurs j (after_it head r t)
    ≡ occurs j (keys head r.before t) + cond (eqb r.state t) (cond (is_inst (key_of head r) j) 1 0) 0
after_added head r t j can a = go (eqb r.state t) refl
  where
    go : (st : Bool) → eqb r.state t ≡ st →
        occurs j (insts_of (cond st (applied head r.op (registered head t r.before)) (registered head t r.before)))
        ≡ occurs j (keys head r.before t) + cond st (cond (is_inst (key_of head r) j) 1 0) 0
    go true e =
        let f : t ≡ r.state = sym (eqb-true r.state t e) in
        rw f (adds head r.op (registered head r.state r.before) j can a)
    go false e = omega arith

pub after_removed : (head : Head) (r : Registration) (t j : ℕ) → CanBegin r.op (registered head r.state r.before) →
    ((i : ℕ) → occurs i (keys head r.before r.state) ≤ 1) → is_adding r.op ≡ false →
    occurs j (keys head r.before t)
    ≡ occurs j (after_it head r t) + cond (eqb r.state t) (cond (is_inst (key_of head r) j) 1 0) 0
after_removed head r t j can once a = go (eqb r.state t) refl
  where
    go : (st : Bool) → eqb r.state t ≡ st →
        occurs j (keys head r.before t)
        ≡ occurs j (insts_of (cond st (applied head r.op (registered head t r.before)) (registered head t r.before)))
        + cond st (cond (is_inst (key_of head r) j) 1 0) 0
    go true e =
        let f : t ≡ r.state = sym (eqb-true r.state t e) in
        rw f (removes head r.op (registered head r.state r.before) j can a once)
    go false e = omega arith

pub made_nets : (head : Head) (r : Registration) (c t j : ℕ) (xs : List Slot) (es : List Event) →
    0 < r.state →
    CanBegin r.op (registered head r.state r.before) →
    ((i : ℕ) → occurs i (keys head r.before r.state) ≤ 1) →
    (is_present head c ≡ false → settled c r.before ≡ 0) →
    IsRegistrationShape (is_adding r.op) r.state (key_of head r) (processors head r.state r.before) xs made →
    Fill xs es →
    at_or_below (keys head r.before) (settled c r.before) t j + ups c t j es
    ≡ downs c t j es + at_or_below (after_it head r) (settled c r.before) t j
made_nets head r c t j xs es pos can once away shape filled = go (is_adding r.op) refl shape
  where
    there : occurs c (processors head r.state r.before) ≡ cond (leb r.state (settled c r.before)) 1 0
    there = occurs-processors head c r.state r.before pos away

    same : eqb r.state t ≡ true → r.state ≡ t
    same = eqb-true r.state t

    go : (b : Bool) → is_adding r.op ≡ b →
        IsRegistrationShape b r.state (key_of head r) (processors head r.state r.before) xs made →
        at_or_below (keys head r.before) (settled c r.before) t j + ups c t j es
        ≡ downs c t j es + at_or_below (after_it head r) (settled c r.before) t j
    go true a h =
        let m = made_ups c t j r.state (key_of head r) (processors head r.state r.before) xs es h filled in
        rw (m.0, m.1, there)
        (nets_added (eqb r.state t) (is_inst (key_of head r) j) r.state t (settled c r.before)
        (occurs j (keys head r.before t)) (occurs j (after_it head r t)) same (after_added head r t j can a))
    go false a h =
        let m = made_downs c t j r.state (key_of head r) (processors head r.state r.before) xs es h filled in
        rw (m.0, m.1, there)
        (nets_removed (eqb r.state t) (is_inst (key_of head r) j) r.state t (settled c r.before)
        (occurs j (keys head r.before t)) (occurs j (after_it head r t)) same (after_removed head r t j can once a))
