-- What is promised after a walk begins: alone, as the first of an upmany, or as a later one.
use Rattle.std.proofs.Common.{◌≡◌, ℕ, Bool, true, false, not, ◌&&◌, cond, eqb, ltb, Some, None, List, [], ◌∷◌, ◌++◌, sum_by, refl, ap, sym, ◌∙◌, subst, arith}
use Rattle.std.proofs.lemmas.Bool.{and_parts}
use Rattle.hp_states.proofs.Basics.{and_false}
use Rattle.hp_states.specs.declared.limits.TheConstants.{ONLINE}
use Rattle.hp_states.specs.CpuSets.{has}
use Rattle.hp_event.specs.declared.op.Op.{Op}
use Rattle.hp_event.specs.declared.head.Head.{Head}
use Rattle.hp_event.specs.declared.event.Event.{Event}
use Rattle.hp_event.specs.declared.event.Event.TheVariants.{WalkBegin}
use Rattle.hp_model.specs.Lists.{is_empty, numbers, among}
use Rattle.hp_model.specs.Walks.{walk, is_walking}
use Rattle.hp_model.specs.MapLock.{Operation, operation}
use Rattle.hp_model.specs.Processors.{is_present}
use Rattle.hp_model.specs.Needs.{walk_need, batch_need, need}
use Rattle.hp_model.specs.Registered.{insts_of}
use Rattle.hp_model.specs.Settled.{settled}
use Rattle.hp_model.specs.Suspend.{held_by}
use Rattle.hp_model.specs.Batch.{begun, is_upmany, batch, unbegun, to_begin_of, to_begin, is_batch_begun}
use Rattle.hp_model.specs.Promised.{promised_to_come}
use Rattle.hp_model.specs.StandsOperations.{WalkBegins}
use Rattle.hp_model.proofs.ListLemmas.{is_among}
use Rattle.hp_model.proofs.Laws.{walk_push, begun_push, settled_push, registered_push, operation_push}
use Rattle.hp_model.proofs.InFlight.{walk_none}
use Rattle.hp_model.proofs.Owners.{Owners, none_begun}
use Rattle.hp_model.proofs.BatchLemmas.{next_to_begin, upmany_to}
use Rattle.hp_model.proofs.SumLemmas.{sum_none, sum_among}
use Rattle.hp_model.proofs.PromisedParts.{Uses, begun_part, come_none, come_of, come_same, in_flight, later_room, left_others, other_part, part, promised_is, promised_push, walks_at_rest, walks_changed, walks_sum}

-- a walk that isn't an upmany's
uses_single : (head : Head) (xs : List Event) (seat c from to : ℕ) → held_by is_upmany (operation xs) ≡ false →
    is_present head c ≡ true → walk c xs ≡ None → Uses head xs (WalkBegin seat c from to)
uses_single head xs seat c from to single there still =
    let e : Event = WalkBegin seat c from to in
    let ys : List Event = xs ++ e ∷ [] in
    let none : is_batch_begun xs ≡ false = rw single refl in
    let op : operation ys ≡ operation xs = operation_push xs e in
    let more : is_batch_begun ys ≡ false = rw (op, single) refl in
    let a = promised_push head xs e in
    let b = promised_is head xs in
    let w = walks_changed head xs ys c there
    (λ o f. other_part head xs e o (rw f refl) (rw f refl) (come_none head ys o more ∙ sym (come_none head xs o none))) in
    let p = begun_part head xs seat c from to in
    let z = come_none head xs c none in
    let y : in_flight head xs c ≡ 0 = rw still refl in
    let n : need head xs e ≡ Some (walk_need head xs from to) = rw single refl in
    rw n (omega arith)

-- a later walk of an upmany
uses_later : (head : Head) (xs : List Event) (seat c from : ℕ) → is_batch_begun xs ≡ true → is_present head c ≡ true →
    walk c xs ≡ None → from ≡ settled c xs → among c (to_begin head xs) ≡ true → Uses head xs (WalkBegin seat c from ONLINE)
uses_later head xs seat c from begun_one there still from_is left =
    let e : Event = WalkBegin seat c from ONLINE in
    let ys : List Event = xs ++ e ∷ [] in
    let op : operation ys ≡ operation xs = operation_push xs e in
    let bg : begun ys ≡ begun xs ++ c ∷ [] = begun_push xs e in
    let more : is_batch_begun ys ≡ true = rw (op, bg, (and_parts (held_by is_upmany (operation xs)) (not (is_empty (begun xs))) begun_one).0) (some_begun (begun xs) c) in
    let others : (o : ℕ) → eqb c o ≡ false → promised_to_come head ys o ≡ promised_to_come head xs o =
    λ o f.
    come_same head xs ys o (more ∙ sym begun_one)
    (ap (λ z. among o (to_begin_of head z ys)) op ∙ left_others head (operation xs) xs ys c o bg f) (settled_push o xs e)
    (λ s. registered_push head s xs e)
    in
    let a = promised_push head xs e in
    let b = promised_is head xs in
    let w = walks_changed head xs ys c there (λ o f. other_part head xs e o (rw f refl) (rw f refl) (others o f)) in
    let p = begun_part head xs seat c from ONLINE in
    let z : promised_to_come head xs c ≡ walk_need head xs (settled c xs) ONLINE = rw (begun_one, left) refl in
    let y : in_flight head xs c ≡ 0 = rw still refl in
    let same : walk_need head xs (settled c xs) ONLINE ≡ walk_need head xs from ONLINE = ap (λ z. walk_need head xs z ONLINE) (sym from_is) in
    let n = later_room head xs seat c from ONLINE begun_one in
    rw n (omega arith)
  where
    some_begun : (cs : List ℕ) (c : ℕ) → not (is_empty (cs ++ c ∷ [])) ≡ true
    some_begun [] c = refl
    some_begun (d ∷ ds) c = refl

-- what the walks of a batch take, as a sum over all processors
batch_sum : (head : Head) (xs entered : List Event) (op : Op) →
    batch_need head xs (unbegun (batch head entered op) xs)
    ≡ sum_by (λ c. cond (among c (unbegun (batch head entered op) xs)) (walk_need head xs (settled c xs) ONLINE) 0)
    (numbers head.possible)
batch_sum head xs entered (Op.UpMany set) =
    sum_among (λ c. walk_need head xs (settled c xs) ONLINE) (λ c. not (among c (begun xs)))
    (λ c. has set c && ltb (settled c entered) ONLINE) (numbers head.possible)
batch_sum head xs entered op =
    sym (sum_none (λ c. cond false (walk_need head xs (settled c xs) ONLINE) 0) (numbers head.possible) (λ c. refl))

-- the first walk of an upmany
uses_first : (head : Head) (xs : List Event) (seat c from : ℕ) (a : Operation) → operation xs ≡ Some a → is_upmany a.op ≡ true →
    begun xs ≡ [] → is_walking xs ≡ false → is_present head c ≡ true → from ≡ settled c xs →
    among c (unbegun (batch head a.before a.op) xs) ≡ true → Uses head xs (WalkBegin seat c from ONLINE)
uses_first head xs seat c from a at u none still there from_is left =
    let e : Event = WalkBegin seat c from ONLINE in
    let ys : List Event = xs ++ e ∷ [] in
    let op : operation ys ≡ operation xs = operation_push xs e in
    let bg : begun ys ≡ begun xs ++ c ∷ [] = begun_push xs e in
    let was : is_batch_begun xs ≡ false = rw none (and_false (held_by is_upmany (operation xs))) in
    let more : is_batch_begun ys ≡ true = rw (op, bg, none, at, u) refl in
    let g : ℕ → ℕ = λ o. cond (among o (unbegun (batch head a.before a.op) xs)) (walk_need head xs (settled o xs) ONLINE) 0 in
    let others : (o : ℕ) → eqb c o ≡ false → part head ys o ≡ g o =
    λ o f.
    let w : in_flight head ys o ≡ 0 = rw (walk_push o xs e, f, walk_none xs still o) refl in
    let l : among o (to_begin head ys) ≡ among o (unbegun (batch head a.before a.op) xs) =
    ap (λ z. among o (to_begin_of head z ys)) (op ∙ at) ∙ left_others head (Some a) xs ys c o bg f
    in
    let m : promised_to_come head ys o ≡ g o =
    λ i. come_of (more i) (l i) (λ s. insts_of (registered_push head s xs e i)) (settled_push o xs e i)
    in
    omega arith
    in
    let p = promised_push head xs e in
    let b = promised_is head xs in
    let zero = walks_at_rest head xs (walk_none xs still) was in
    let sum = walks_sum head xs ys c g there others in
    let q = begun_part head xs seat c from ONLINE in
    let mine : g c ≡ walk_need head xs (settled c xs) ONLINE = rw left refl in
    let same : walk_need head xs (settled c xs) ONLINE ≡ walk_need head xs from ONLINE = ap (λ z. walk_need head xs z ONLINE) (sym from_is) in
    let all = batch_sum head xs a.before a.op in
    let n : need head xs e ≡ Some (batch_need head xs (unbegun (batch head a.before a.op) xs)) = rw (at, u, none) refl in
    rw n (omega arith)

pub uses_walk_begin : (head : Head) (xs : List Event) (seat c from to : ℕ) → WalkBegins head xs seat c from to → Owners xs →
    is_present head c ≡ true → walk c xs ≡ None → Uses head xs (WalkBegin seat c from to)
uses_walk_begin head xs seat c from to h own there still = go (is_upmany h.of.op) refl
  where
    left : is_upmany h.of.op ≡ true → among c (unbegun (batch head h.of.before h.of.op) xs) ≡ true
    left u =
        is_among c (unbegun (batch head h.of.before h.of.op) xs) (next_to_begin head xs h.of.before h.of.op c to u h.gives)

    several : is_upmany h.of.op ≡ true → (cs : List ℕ) → begun xs ≡ cs → Uses head xs (WalkBegin seat c from ONLINE)
    several u [] e = uses_first head xs seat c from h.of h.held u e (none_begun xs own e) there h.from_is (left u)
    several u (d ∷ ds) e =
        let at = h.held in
        uses_later head xs seat c from (rw (at, u, e) refl) there still h.from_is (rw at (left u))

    go : (b : Bool) → is_upmany h.of.op ≡ b → Uses head xs (WalkBegin seat c from to)
    go true u =
        let t = upmany_to head xs h.of.before h.of.op c to u h.gives in
        subst (λ z. Uses head xs (WalkBegin seat c from z)) (sym t) (several u (begun xs) refl)
    go false u = let at = h.held in uses_single head xs seat c from to (rw at u) there still
