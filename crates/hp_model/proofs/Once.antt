-- Each key is in force once or not at all, at every moment.
use Rattle.std.proofs.Common.{◌≡◌, ℕ, ◌+◌, ◌≤◌, Bool, true, false, cond, eqb, leb, ◌&&◌, Option, Some, None, List, refl, sym, ◌∙◌, arith}
use Rattle.std.proofs.lemmas.Bool.{eqb-true}
use Rattle.hp_states.specs.declared.dir.Dir.TheVariants.{Up, Down}
use Rattle.hp_event.specs.declared.head.Head.{Head}
use Rattle.hp_event.specs.declared.event.Event.{Event}
use Rattle.hp_model.specs.InForce.{ups, downs}
use Rattle.hp_model.specs.Lists.{occurs}
use Rattle.hp_model.specs.Plan.{direction, plan}
use Rattle.hp_model.specs.Walks.{Walk, walk, walk_entries}
use Rattle.hp_model.specs.Registrations.{Registration, registration, registration_entries}
use Rattle.hp_model.specs.Registered.{keys}
use Rattle.hp_model.specs.Settled.{settled}
use Rattle.hp_model.specs.Processors.{is_present, processors}
use Rattle.hp_model.specs.RegistrationShape.{key_of, is_adding, IsRegistrationShape}
use Rattle.hp_model.proofs.Path.{plan_path, shape_path, end_of}
use Rattle.hp_model.proofs.Readings.{read_crossings}
use Rattle.hp_model.proofs.Bounds.{at_most_once, reading_bounds}
use Rattle.hp_model.proofs.Registrations.{is_inst, after_it, after_added, after_removed}
use Rattle.hp_model.proofs.ListLemmas.{occurs-processors}
use Rattle.hp_model.proofs.RegistrationBounds.{add_bounds, remove_bounds}
use Rattle.hp_model.proofs.RegistrationSteps.{after_once}
use Rattle.hp_model.proofs.Kept.{Balanced, WalkKept, KeptBy, RegistrationKept, RegistrationKeptBy, Kept}
use Rattle.hp_model.proofs.Counts.{at_or_below}

pub record Once (c s i : ℕ) (events : List Event) : Type 0 where
  pub low : downs c s i events ≤ ups c s i events
  pub high : ups c s i events ≤ downs c s i events + 1

pub at_most : (b : Bool) (n : ℕ) → cond b n 0 ≤ n
at_most true n = omega arith
at_most false n = omega arith

pub added_bounds : (st hj : Bool) (s t a n n' occ up down : ℕ) → (st ≡ true → s ≡ t) → n' ≡ n + cond st (cond hj 1 0) 0 →
    n ≤ 1 → n' ≤ 1 → occ ≡ cond (leb s a) 1 0 → down ≤ up → up ≤ cond (st && hj) occ 0 →
    (down ≤ cond (leb t a) n 0 + up) × (cond (leb t a) n 0 + up ≤ down + 1)
added_bounds true true s t a n n' occ up down e f l h o d u =
    let m = at_most (leb t a) n in
    let k = at_most (leb s a) 1 in
    (omega arith, omega arith)
added_bounds true false s t a n n' occ up down e f l h o d u =
    let m = at_most (leb t a) n in (omega arith, omega arith)
added_bounds false hj s t a n n' occ up down e f l h o d u =
    let m = at_most (leb t a) n in (omega arith, omega arith)

pub removed_bounds : (st hj : Bool) (s t a n n' occ up down : ℕ) → (st ≡ true → s ≡ t) → n ≡ n' + cond st (cond hj 1 0) 0 →
    n ≤ 1 → occ ≡ cond (leb s a) 1 0 → up ≡ 0 → down ≤ cond (st && hj) occ 0 →
    (down ≤ cond (leb t a) n 0 + up) × (cond (leb t a) n 0 + up ≤ down + 1)
removed_bounds true true s t a n n' occ up down e f l o u d =
    let m = at_most (leb t a) n in
    let g : n ≡ 1 = omega arith in
    let k : down ≤ cond (leb t a) n 0 = rw (g, ← e refl) (rw o at d) in
    (omega arith, omega arith)
removed_bounds true false s t a n n' occ up down e f l o u d =
    let m = at_most (leb t a) n in (omega arith, omega arith)
removed_bounds false hj s t a n n' occ up down e f l o u d =
    let m = at_most (leb t a) n in (omega arith, omega arith)

pub once_at_rest : (head : Head) (c s i : ℕ) (events : List Event) → occurs i (keys head events s) ≤ 1 →
    Balanced head c events → Once c s i events
once_at_rest head c s i events once b =
    let h = b.at s i in
    let l = at_most_once (keys head events) (settled c events) s i once in
    record { low = omega arith; high = omega arith }

pub once_in_walk : (head : Head) (c s i : ℕ) (events : List Event) (w : Walk) → occurs i (keys head events s) ≤ 1 →
    WalkKept head c w events → Once c s i events
once_in_walk head c s i events w once k =
    let K = keys head w.before in
    let p = shape_path K (direction w.from w.to) (plan K w.from w.to) w.from w.to k.so_far.crossings k.so_far.outcome
    (plan_path K w.from w.to) k.so_far.shape in
    let r = read_crossings c K k.so_far.crossings (walk_entries c events) k.so_far.begun in
    let b = reading_bounds c K w.from (end_of k.so_far.outcome w.from w.to) k.so_far.crossings (walk_entries c events) s i p r
    (rw (k.registered_same s) at once) in
    let h = rw (← k.from_is) at (k.balanced.at s i) in
    let up = k.counts s i Up in
    let down = k.counts s i Down in
    record { low = omega arith; high = omega arith }

pub once_in_registration : (head : Head) (c s i : ℕ) (events : List Event) (r : Registration) → Kept head events →
    RegistrationKept head r events → Once c s i events
once_in_registration head c t j events r k h = go (is_adding r.op) refl h.so_far.shape
  where
    es : List Event
    es = registration_entries events

    once : (s i : ℕ) → occurs i (keys head r.before s) ≤ 1
    once s i = rw (h.registered_same s) at (k.once s i)

    away : is_present head c ≡ false → settled c r.before ≡ 0
    away a = sym (h.settled_same c) ∙ (k.at c).away a

    there : occurs c (processors head r.state r.before) ≡ cond (leb r.state (settled c r.before)) 1 0
    there = occurs-processors head c r.state r.before h.above away

    finish : (downs c t j (registration_entries events) ≤ at_or_below (keys head r.before) (settled c r.before) t j + ups c t j (registration_entries events))
        × (at_or_below (keys head r.before) (settled c r.before) t j + ups c t j (registration_entries events) ≤ downs c t j (registration_entries events) + 1) →
        Once c t j events
    finish b =
        let e = (h.balanced c).at t j in
        let up = h.counts c t j Up in
        let down = h.counts c t j Down in
        record { low = omega arith; high = omega arith }

    go : (b : Bool) → is_adding r.op ≡ b →
        IsRegistrationShape b r.state (key_of head r) (processors head r.state r.before) h.so_far.slots h.so_far.outcome →
        Once c t j events
    go true a shape =
        let b = add_bounds c t j r.state (key_of head r) (processors head r.state r.before) h.so_far.slots h.so_far.outcome
        (registration_entries events) shape h.so_far.begun in
        finish
        (added_bounds (eqb r.state t) (is_inst (key_of head r) j) r.state t (settled c r.before)
        (occurs j (keys head r.before t)) (occurs j (after_it head r t)) (occurs c (processors head r.state r.before))
        (ups c t j (registration_entries events)) (downs c t j (registration_entries events))
        (eqb-true r.state t) (after_added head r t j h.can_begin a) (once t j) (after_once head r t j h.can_begin once)
        there b.0 b.1)
    go false a shape =
        let b = remove_bounds c t j r.state (key_of head r) (processors head r.state r.before) h.so_far.slots h.so_far.outcome
        (registration_entries events) shape h.so_far.begun in
        finish
        (removed_bounds (eqb r.state t) (is_inst (key_of head r) j) r.state t (settled c r.before)
        (occurs j (keys head r.before t)) (occurs j (after_it head r t)) (occurs c (processors head r.state r.before))
        (ups c t j (registration_entries events)) (downs c t j (registration_entries events))
        (eqb-true r.state t) (after_removed head r t j h.can_begin (once r.state) a) (once t j)
        there b.0 b.1)

pub once_by : (head : Head) (c s i : ℕ) (events : List Event) (w : Option Walk) (r : Option Registration) → Kept head events →
    KeptBy head c events w r → RegistrationKeptBy head events r → Once c s i events
once_by head c s i events None None k a b = once_at_rest head c s i events (k.once s i) a
once_by head c s i events None (Some r) k a b = once_in_registration head c s i events r k b
once_by head c s i events (Some w) r k a b = once_in_walk head c s i events w (k.once s i) a

pub once : (head : Head) (c s i : ℕ) (events : List Event) → Kept head events → Once c s i events
once head c s i events k =
    once_by head c s i events (walk c events) (registration events) k (k.at c).kept k.registration_kept
