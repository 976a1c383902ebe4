-- A key that isn't registered, nor being added, is in force nowhere.
use Rattle.std.proofs.Common.{◌≡◌, ℕ, ◌+◌, ◌<◌, ◌≤◌, Bool, true, false, cond, ◌&&◌, ◌⊎◌, inl, inr, eqb, leb, ltb, Option, Some, None, List, [], ◌∷◌, refl, ap, sym, ◌∙◌, arith}
use Rattle.std.proofs.lemmas.Bool.Decides.{nat_tests}
use Rattle.std.proofs.lemmas.Bool.{true≢false, eq-eqb, eqb-true}
use Rattle.hp_states.proofs.Basics.{none_some, same_some, or_true}
use Rattle.hp_states.specs.declared.dir.Dir.{Dir}
use Rattle.hp_states.specs.declared.dir.Dir.TheVariants.{Up, Down}
use Rattle.hp_states.specs.Sections.{opposite}
use Rattle.hp_event.specs.declared.event.Event.{Event}
use Rattle.hp_event.specs.declared.head.Head.{Head}
use Rattle.hp_event.specs.declared.op.Op.{Op}
use Rattle.hp_event.specs.declared.op.Op.TheVariants.{Setup, Remove, Add, Del}
use Rattle.hp_model.specs.Crossing.{Crossing, done, failed, level}
use Rattle.hp_model.specs.InForce.{done_entries, ups, downs, IsInForce}
use Rattle.hp_model.specs.Lawful.{IsLawful}
use Rattle.hp_model.specs.Lists.{occurs, among}
use Rattle.hp_model.specs.Plan.{direction, plan}
use Rattle.hp_model.specs.Processors.{processors}
use Rattle.hp_model.specs.Reading.{IsPart, IsOpen, Reading}
use Rattle.hp_model.specs.Registered.{Registered, registered, insts_of, keys}
use Rattle.hp_model.specs.RegistrationShape.{single, key_of_op, key_of, is_adding}
use Rattle.hp_model.specs.Registrations.{Registration, registration, registration_entries}
use Rattle.hp_model.specs.Settled.{settled}
use Rattle.hp_model.specs.Subsystems.{is_multi}
use Rattle.hp_model.specs.Walks.{Walk, walk, walk_entries}
use Rattle.hp_model.proofs.Bounds.{done_bounds, failed_bounds, open_or_not}
use Rattle.hp_model.proofs.CanBegin.{CanBegin}
use Rattle.hp_model.proofs.Counts.{at_or_below, done_entries-append}
use Rattle.hp_model.proofs.Induction.{kept}
use Rattle.hp_model.proofs.Kept.{WalkKept, KeptBy, RegistrationKept, RegistrationKeptBy, Kept}
use Rattle.hp_model.proofs.Path.{Path, Path_split, path_nets, plan_path, shape_path, end_of}
use Rattle.hp_model.proofs.Readings.{read_crossings, reading_nets}
use Rattle.hp_model.proofs.RegistrationBounds.{shape_begun}
use Rattle.hp_model.proofs.Registrations.{is_hit}
use Rattle.hp_called.specs.Called.{is_there, ending_of}
use Rattle.hp_called.specs.Steps.{ending_by, is_added}

-- ---- in a walk, as many entries of it are done upwards as downwards

even : (c s i n : ℕ) (d : Dir) (es : List Event) →
    (done_entries c s i (opposite d) es ≤ done_entries c s i d es) × (done_entries c s i d es ≤ n) → n ≡ 0 →
    ups c s i es ≡ downs c s i es
even c s i n Up es h e = let low = h.0 in let few = h.1 in omega (arith, low, few, e)
even c s i n Down es h e = let low = h.0 in let few = h.1 in omega (arith, low, few, e)

open_even : (c : ℕ) (K : ℕ → List ℕ) (m b : ℕ) (next : List Crossing) (part : List Event) (t i : ℕ) → Path K m next b →
    IsPart c K next part → IsOpen next part t → occurs i (K t) ≡ 0 → ups c t i part ≡ downs c t i part
open_even c K m b next [] t i p h o none = elim o [ ]
open_even c K m b [] (e ∷ es) t i p h o none = elim o [ ]
open_even c K m b (done q d s ∷ xs) (e ∷ es) t i p h o none =
    rw o (even c s i (occurs i (K s)) d (e ∷ es) (done_bounds c i K q d s (e ∷ es) h.0) (rw o at none))
open_even c K m b (failed q d s earlier k ∷ xs) (e ∷ es) t i p h o none =
    let few = p.3.at i in
    let none' = rw o at none in
    rw o (even c s i (occurs i earlier) d (e ∷ es) (failed_bounds c i K q d s earlier k (e ∷ es) h.0) (omega (arith, few, none')))

none_below : (K : ℕ → List ℕ) (a t i : ℕ) → occurs i (K t) ≡ 0 → at_or_below K a t i ≡ 0
none_below K a t i none = go (leb t a)
  where
    go : (b : Bool) → cond b (occurs i (K t)) 0 ≡ 0
    go true = none
    go false = refl

reading_even : (c : ℕ) (K : ℕ → List ℕ) (a b : ℕ) (xs : List Crossing) (es : List Event) (t i : ℕ) → Path K a xs b →
    Reading c K xs es → occurs i (K t) ≡ 0 → ups c t i es ≡ downs c t i es
reading_even c K a b xs es t i p r none = go (open_or_not r.next r.part t)
  where
    go : IsOpen r.next r.part t ⊎ (IsOpen r.next r.part t → ⊥) → ups c t i es ≡ downs c t i es
    go (inl o) =
        let q = Path_split K a b r.whole r.next (rw r.crossings_are at p) in
        let net = path_nets c K a q.0 r.whole r.done_entries t i q.1 r.filled in
        let part = open_even c K q.0 b r.next r.part t i q.2 r.is_part o none in
        let from = none_below K a t i none in
        let to = none_below K q.0 t i none in
        rw (r.entries_are, done_entries-append, done_entries-append) (omega (arith, net, part, from, to))
    go (inr shut) =
        let net = reading_nets c K a b xs es t i p r shut in
        let from = none_below K a t i none in
        let to = none_below K (level a r.whole) t i none in
        omega (arith, net, from, to)

walk_even : (head : Head) (c s i : ℕ) (es : List Event) (w : Walk) → occurs i (keys head es s) ≡ 0 → WalkKept head c w es →
    ups c s i es ≡ downs c s i es
walk_even head c s i es w none k =
    let K = keys head w.before in
    let p = shape_path K (direction w.from w.to) (plan K w.from w.to) w.from w.to k.so_far.crossings k.so_far.outcome
    (plan_path K w.from w.to) k.so_far.shape in
    let r = read_crossings c K k.so_far.crossings (walk_entries c es) k.so_far.begun in
    let none' : occurs i (K s) ≡ 0 = rw (k.registered_same s) at none in
    let inside = reading_even c K w.from (end_of k.so_far.outcome w.from w.to) k.so_far.crossings (walk_entries c es) s i p r none' in
    let begins = k.balanced.at s i in
    let from = none_below K (settled c w.before) s i none' in
    let up = k.counts s i Up in
    let down = k.counts s i Down in
    omega (arith, inside, begins, from, up, down)

-- ---- in a registration, unless it is of the key

rest_even : (head : Head) (c s i : ℕ) (es : List Event) (K : ℕ → List ℕ) → occurs i (K s) ≡ 0 →
    ups c s i es ≡ downs c s i es + at_or_below K (settled c es) s i → ups c s i es ≡ downs c s i es
rest_even head c s i es K none e = let from = none_below K (settled c es) s i none in omega (arith, e, from)

other_even : (head : Head) (c s i : ℕ) (es : List Event) (r : Registration) → occurs i (keys head es s) ≡ 0 → RegistrationKept head r es →
    is_hit r.state (key_of head r) s i ≡ false → ups c s i es ≡ downs c s i es
other_even head c s i es r none k shut =
    let cs = processors head r.state r.before in
    let up = shape_begun c s i Up (is_adding r.op) r.state (key_of head r) cs k.so_far.slots k.so_far.outcome (registration_entries es)
    k.so_far.shape shut k.so_far.begun in
    let down = shape_begun c s i Down (is_adding r.op) r.state (key_of head r) cs k.so_far.slots k.so_far.outcome (registration_entries es)
    k.so_far.shape shut k.so_far.begun in
    let none' : occurs i (keys head r.before s) ≡ 0 = rw (k.registered_same s) at none in
    let begins = (k.balanced c).at s i in
    let from = none_below (keys head r.before) (settled c r.before) s i none' in
    let ups_are = k.counts c s i Up in
    let downs_are = k.counts c s i Down in
    omega (arith, up, down, begins, from, ups_are, downs_are)

-- the key of a registration is one that it adds, or is registered
abbrev AddsOr : Head → Op → (state : ℕ) → Option Registered → (inst : ℕ) → Type 0
AddsOr head op s found i = (is_added (ending_by head op s) (record { state = s; inst = i }) ≡ true) ⊎ (0 < occurs i (insts_of found))

itself : (s i j : ℕ) → i ≡ j → (true && (eqb s s && eqb i j)) ≡ true
itself s i j e = rw (eq-eqb s s refl, eq-eqb i j e) refl

single_adds : (m : Bool) (s i : ℕ) → single m ≡ Some i →
    is_added (cond m None (Some (record { key = record { state = s; inst = 0 }; adds = true }))) (record { state = s; inst = i }) ≡ true
single_adds true s i e = absurd (none_some i e)
single_adds false s i e = itself s 0 i (same_some 0 i e)

single_there : (m : Bool) (insts : List ℕ) (i : ℕ) → single m ≡ Some i → 0 < occurs i (cond m insts (0 ∷ []))
single_there true insts i e = absurd (none_some i e)
single_there false insts i e = rw (eq-eqb 0 i (same_some 0 i e)) (omega arith)

adds_or : (head : Head) (op : Op) (s : ℕ) (found : Option Registered) (i : ℕ) → CanBegin op found → key_of_op head op found ≡ Some i →
    AddsOr head op s found i
adds_or head (Setup asked sub form) s found i h e = inl (single_adds (is_multi head sub) s i e)
adds_or head (Remove state form) s found i h e =
    let e' = rw h.1 at e in
    inr (rw h.1 (single_there h.0.multi h.0.insts i e'))
adds_or head (Add state inst form) s found i h e = inl (itself s inst i (same_some inst i e))
adds_or head (Del state inst form) s found i h e = inr (rw (h.1, h.2, ← (same_some inst i e)) h.3)
adds_or head op s found i h e = elim h [ ]

-- ---- so it is not in force

even_not : (u d : ℕ) → u ≡ d → d < u → ⊥
even_not u d e lt = omega (arith, e, lt)

hit_parts : (s t : ℕ) (key : Option ℕ) (i : ℕ) → is_hit s key t i ≡ true → (s ≡ t) × (key ≡ Some i)
hit_parts s t None i h = absurd (true≢false (sym h ∙ no (eqb s t)))
  where
    no : (b : Bool) → (b && false) ≡ false
    no true = refl
    no false = refl
hit_parts s t (Some j) i h = go (eqb s t) (eqb j i) refl refl h
  where
    go : (p q : Bool) → eqb s t ≡ p → eqb j i ≡ q → (p && q) ≡ true → (s ≡ t) × (Some j ≡ Some i)
    go true true e f g = (eqb-true s t e, ap Some (eqb-true j i f))
    go true false e f g = absurd (true≢false (sym g))
    go false q e f g = absurd (true≢false (sym g))

registering_there : (head : Head) (c s i : ℕ) (es : List Event) (r : Registration) → registration es ≡ Some r →
    occurs i (keys head es s) ≡ 0 → RegistrationKept head r es → IsInForce c s i es →
    is_added (ending_of head (registration es)) (record { state = s; inst = i }) ≡ true
registering_there head c s i es r flies none k force = go (is_hit r.state (key_of head r) s i) refl
  where
    none' : occurs i (keys head r.before s) ≡ 0
    none' = rw (k.registered_same s) at none

    go : (b : Bool) → is_hit r.state (key_of head r) s i ≡ b →
        is_added (ending_of head (registration es)) (record { state = s; inst = i }) ≡ true
    go false shut = absurd (even_not (ups c s i es) (downs c s i es) (other_even head c s i es r none k shut) force)
    go true hit =
        let p = hit_parts r.state s (key_of head r) i hit in
        by p.0 (adds_or head r.op r.state (registered head r.state r.before) i k.can_begin p.1)
      where
        by : r.state ≡ s → AddsOr head r.op r.state (registered head r.state r.before) i →
            is_added (ending_of head (registration es)) (record { state = s; inst = i }) ≡ true
        by e (inl added) = rw (flies, ← e) added
        by e (inr some) = absurd (let none'' = rw (← e) at none' in omega (arith, some, none''))

none_there : (n : ℕ) → ltb 0 n ≡ false → n ≡ 0
none_there n h = grind (arith, nat_tests)

pub in_force_there : (head : Head) (es : List Event) (c s i : ℕ) → IsLawful head es → IsInForce c s i es →
    is_there head es (record { state = s; inst = i }) ≡ true
in_force_there head es c s i lawful force = go (among i (keys head es s)) refl
  where
    k : Kept head es
    k = kept head es lawful

    by : (w : Option Walk) (r : Option Registration) → registration es ≡ r → KeptBy head c es w r → RegistrationKeptBy head es r →
        occurs i (keys head es s) ≡ 0 → is_added (ending_of head (registration es)) (record { state = s; inst = i }) ≡ true
    by None None e a b none =
        absurd (even_not (ups c s i es) (downs c s i es) (rest_even head c s i es (keys head es) none (a.at s i)) force)
    by None (Some r) e a b none = registering_there head c s i es r e none b force
    by (Some w) r e a b none = absurd (even_not (ups c s i es) (downs c s i es) (walk_even head c s i es w none a) force)

    go : (b : Bool) → among i (keys head es s) ≡ b → is_there head es (record { state = s; inst = i }) ≡ true
    go true e = rw e (or_true (is_added (ending_of head (registration es)) (record { state = s; inst = i })))
    go false e =
        let added = by (walk c es) (registration es) refl (k.at c).kept k.registration_kept (none_there (occurs i (keys head es s)) e) in
        rw added refl
