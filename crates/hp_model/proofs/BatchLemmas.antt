-- The walks of an upmany: which of them begins next, and that it isn't in flight.
use Rattle.std.proofs.Common.{◌≡◌, ℕ, ◌<◌, Bool, true, false, not, ◌&&◌, ◌||◌, ltb, Option, Some, None, List, [], ◌∷◌, refl, ap, sym, inl, inr, ◌⊎◌, arith}
use Rattle.std.specs.Prelude.{pos, length}
use Rattle.std.proofs.lemmas.Bool.{true≢false, and_parts, ltb-true}
use Rattle.hp_states.specs.declared.limits.TheConstants.{ONLINE}
use Rattle.hp_event.specs.declared.op.Op.{Op}
use Rattle.hp_event.specs.declared.answer.Answer.{Answer}
use Rattle.hp_event.specs.declared.answer.Answer.TheVariants.{Ok}
use Rattle.hp_event.specs.declared.head.Head.{Head}
use Rattle.hp_event.specs.declared.event.Event.{Event}
use Rattle.hp_model.specs.Lists.{is_empty, occurs, among, numbers}
use Rattle.hp_states.specs.CpuSets.{has}
use Rattle.hp_model.specs.Settled.{settled}
use Rattle.hp_model.specs.Walks.{Walk, walk, is_walking}
use Rattle.hp_model.specs.MapLock.{Operation, operation}
use Rattle.hp_model.specs.Sequence.{walks, ends, nothing, answers, failures, batch_next, next, is_between}
use Rattle.hp_model.specs.Batch.{begun, is_upmany, batch, unbegun, is_batch_begun}
use Rattle.hp_model.specs.StandsOperations.{WalkBegins}
use Rattle.hp_model.proofs.ListLemmas.{in_filter}
use Rattle.hp_model.proofs.InFlight.{walk_none}
use Rattle.hp_model.proofs.Owners.{Owners, alone_at}
use Rattle.hp_model.proofs.Operations.{not_walk, not_nothing, batch_walk}

-- the walk that comes next of an upmany is of a processor that it is still to begin
pub next_to_begin : (head : Head) (xs entered : List Event) (op : Op) (cpu to : ℕ) → is_upmany op ≡ true →
    next head xs entered op ≡ walks cpu to → 0 < occurs cpu (unbegun (batch head entered op) xs)
next_to_begin head xs entered (Op.UpMany set) cpu to u h =
    batch_walk (unbegun (batch head entered (Op.UpMany set)) xs) (is_walking xs) (Ok (pos (length (failures (answers xs))))) cpu to h
next_to_begin head xs entered op cpu to u h = absurd (true≢false (sym u))

-- to the top
batch_to : (cs : List ℕ) (walking : Bool) (answer : Answer) (cpu to : ℕ) → batch_next cs walking answer ≡ walks cpu to → to ≡ ONLINE
batch_to (c ∷ cs) walking answer cpu to h = same_to c ONLINE cpu to h
  where
    same_to : (c t d u : ℕ) → walks c t ≡ walks d u → u ≡ t
    same_to c t d u h = cc
batch_to [] true answer cpu to h = absurd (not_nothing cpu to h)
batch_to [] false answer cpu to h = absurd (not_walk answer cpu to h)

pub upmany_to : (head : Head) (xs entered : List Event) (op : Op) (cpu to : ℕ) → is_upmany op ≡ true →
    next head xs entered op ≡ walks cpu to → to ≡ ONLINE
upmany_to head xs entered (Op.UpMany set) cpu to u h =
    batch_to (unbegun (batch head entered (Op.UpMany set)) xs) (is_walking xs) (Ok (pos (length (failures (answers xs))))) cpu to h
upmany_to head xs entered op cpu to u h = absurd (true≢false (sym u))

-- an upmany ends with no walk left to begin
batch_over : (cs : List ℕ) (walking : Bool) (answer given : Answer) → batch_next cs walking answer ≡ ends given → cs ≡ []
batch_over (c ∷ cs) walking answer given h = absurd (not_walk given c ONLINE (sym h))
batch_over [] walking answer given h = refl

pub upmany_over : (head : Head) (xs entered : List Event) (op : Op) (given : Answer) → is_upmany op ≡ true →
    next head xs entered op ≡ ends given → unbegun (batch head entered op) xs ≡ []
upmany_over head xs entered (Op.UpMany set) given u h =
    batch_over (unbegun (batch head entered (Op.UpMany set)) xs) (is_walking xs) (Ok (pos (length (failures (answers xs))))) given h
upmany_over head xs entered op given u h = absurd (true≢false (sym u))

pub not_begun : (b : Bool) → not b ≡ true → b ≡ true → ⊥
not_begun true h e = true≢false (sym h)
not_begun false h e = true≢false (sym e)

-- a walk begins where its processor has none in flight
pub begins_still : (head : Head) (xs : List Event) (seat cpu from to : ℕ) → Owners xs → WalkBegins head xs seat cpu from to →
    walk cpu xs ≡ None
begins_still head xs seat cpu from to o h = go (is_upmany h.of.op) refl
  where
    none : (v : Option Walk) → walk cpu xs ≡ v → 0 < occurs cpu (unbegun (batch head h.of.before h.of.op) xs) → v ≡ None
    none None e k = refl
    none (Some w) e k =
        let p = in_filter (λ c. not (among c (begun xs))) cpu (batch head h.of.before h.of.op) k in
        absurd (not_begun (among cpu (begun xs)) p.0 (o.walk_begun cpu w e))

    go : (b : Bool) → is_upmany h.of.op ≡ b → walk cpu xs ≡ None
    go true u = none (walk cpu xs) refl (next_to_begin head xs h.of.before h.of.op cpu to u h.gives)
    go false u = walk_none xs (alone_at (is_upmany h.of.op) (is_walking xs) h.between u) cpu

-- what comes next of an upmany is nothing only while it walks, with no walk left to begin
batch_moves : (cs : List ℕ) (walking : Bool) (answer : Answer) → (batch_next cs walking answer ≡ nothing → ⊥) →
    (walking ≡ false) ⊎ ((c : ℕ) × (ds : List ℕ) × (cs ≡ c ∷ ds))
batch_moves (c ∷ ds) walking answer h = inr (c, ds, refl)
batch_moves [] true answer h = absurd (h refl)
batch_moves [] false answer h = inl refl

pub upmany_moves : (head : Head) (xs entered : List Event) (op : Op) → is_upmany op ≡ true →
    (next head xs entered op ≡ nothing → ⊥) →
    (is_walking xs ≡ false) ⊎ ((c : ℕ) × (ds : List ℕ) × (unbegun (batch head entered op) xs ≡ c ∷ ds))
upmany_moves head xs entered (Op.UpMany set) u h =
    batch_moves (unbegun (batch head entered (Op.UpMany set)) xs) (is_walking xs) (Ok (pos (length (failures (answers xs))))) h
upmany_moves head xs entered op u h = absurd (true≢false (sym u))

-- where a walk is left to begin it comes next
pub upmany_begins : (head : Head) (xs entered : List Event) (op : Op) (c : ℕ) (ds : List ℕ) → is_upmany op ≡ true →
    unbegun (batch head entered op) xs ≡ c ∷ ds → next head xs entered op ≡ walks c ONLINE
upmany_begins head xs entered (Op.UpMany set) c ds u h =
    ap (λ z. batch_next z (is_walking xs) (Ok (pos (length (failures (answers xs)))))) h
upmany_begins head xs entered op c ds u h = absurd (true≢false (sym u))

-- an operation that ends has no walk in flight
batch_ends : (cs : List ℕ) (walking : Bool) (answer given : Answer) → batch_next cs walking answer ≡ ends given → walking ≡ false
batch_ends (c ∷ cs) walking answer given h = absurd (not_walk given c ONLINE (sym h))
batch_ends [] true answer given h = absurd (not_ends given h)
  where
    not_ends : (given : Answer) → nothing ≡ ends given → ⊥
    not_ends given h = cc
batch_ends [] false answer given h = refl

upmany_ends : (head : Head) (xs entered : List Event) (op : Op) (given : Answer) → is_upmany op ≡ true →
    next head xs entered op ≡ ends given → is_walking xs ≡ false
upmany_ends head xs entered (Op.UpMany set) given u h =
    batch_ends (unbegun (batch head entered (Op.UpMany set)) xs) (is_walking xs) (Ok (pos (length (failures (answers xs))))) given h
upmany_ends head xs entered op given u h = absurd (true≢false (sym u))

pub ends_at_rest : (head : Head) (xs entered : List Event) (op : Op) (given : Answer) → is_between op xs ≡ true →
    next head xs entered op ≡ ends given → is_walking xs ≡ false
ends_at_rest head xs entered op given b h = go (is_upmany op) refl
  where
    go : (u : Bool) → is_upmany op ≡ u → is_walking xs ≡ false
    go true u = upmany_ends head xs entered op given u h
    go false u = alone_at (is_upmany op) (is_walking xs) b u

-- with no walk in flight an operation may go on
pub between_rest : (op : Op) (xs : List Event) → is_walking xs ≡ false → is_between op xs ≡ true
between_rest op xs h = rw h (go (is_upmany op))
  where
    go : (b : Bool) → (b || true) ≡ true
    go true = refl
    go false = refl

-- an upmany with a walk in flight has begun one
pub walking_begun : (xs : List Event) (o : Operation) (c : ℕ) (w : Walk) → Owners xs → operation xs ≡ Some o → is_upmany o.op ≡ true →
    walk c xs ≡ Some w → is_batch_begun xs ≡ true
walking_begun xs o c w own at u h = rw (at, u) (go (begun xs) refl)
  where
    go : (cs : List ℕ) → begun xs ≡ cs → not (is_empty cs) ≡ true
    go [] e = let b = own.walk_begun c w h in absurd (true≢false (sym (rw e at b)))
    go (d ∷ ds) e = refl

-- a walk of an upmany begins below the top, and goes there
pub begins_below : (head : Head) (xs : List Event) (seat cpu from to : ℕ) (o : Owners xs) (h : WalkBegins head xs seat cpu from to) →
    is_upmany h.of.op ≡ true → (from < ONLINE) × (to ≡ ONLINE)
begins_below head xs seat cpu from to o h u =
    (below h.of.op u (next_to_begin head xs h.of.before h.of.op cpu to u h.gives), upmany_to head xs h.of.before h.of.op cpu to u h.gives)
  where
    false_of : (b : Bool) → not b ≡ true → b ≡ false
    false_of true e = absurd (true≢false (sym e))
    false_of false e = refl

    below : (op : Op) → is_upmany op ≡ true → 0 < occurs cpu (unbegun (batch head h.of.before op) xs) → from < ONLINE
    below (Op.UpMany set) u k =
        let p = in_filter (λ c. not (among c (begun xs))) cpu (batch head h.of.before (Op.UpMany set)) k in
        let q = in_filter (λ c. has set c && ltb (settled c h.of.before) ONLINE) cpu (numbers head.possible) p.1 in
        let l = ltb-true (settled cpu h.of.before) ONLINE (and_parts (has set cpu) (ltb (settled cpu h.of.before) ONLINE) q.0).1 in
        let s = o.settled_since cpu h.of h.held (false_of (among cpu (begun xs)) p.0) in
        let f = h.from_is in
        omega arith
    below op u k = absurd (true≢false (sym u))
