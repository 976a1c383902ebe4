-- What is promised, by its parts: that of each processor, for its walk in flight or for the one to come in an upmany, and how an
-- event changes them.
use Rattle.std.proofs.Common.{◌≡◌, ℕ, ◌+◌, ◌-◌, ◌*◌, Bool, true, false, not, ◌&&◌, cond, eqb, ltb, Option, Some, None, List, [], ◌∷◌, ◌++◌, length, sum_by, refl, ap, sym, ◌∙◌, arith}
use Rattle.std.specs.List.{filter}
use Rattle.std.proofs.lemmas.Bool.Decides.{nat_tests}
use Rattle.std.proofs.lemmas.Bool.{eq-eqb, and_parts, true≢false}
use Rattle.hp_states.specs.declared.limits.TheConstants.{ONLINE}
use Rattle.hp_event.specs.declared.answer.Answer.{Answer}
use Rattle.hp_event.specs.declared.head.Head.{Head}
use Rattle.hp_event.specs.declared.event.Event.{Event}
use Rattle.hp_event.specs.declared.event.Event.TheVariants.{WalkBegin, WalkEnd}
use Rattle.hp_model.specs.Lists.{is_empty, occurs, numbers, among}
use Rattle.hp_model.specs.Walks.{Walk, walk, walk_step, walk_entries, entries_step, is_walking}
use Rattle.hp_model.specs.Registrations.{registration, registration_step, registration_entries, registration_entries_step}
use Rattle.hp_model.specs.MapLock.{Operation, operation, operation_step}
use Rattle.hp_model.specs.Readers.{readers, readers_step, is_read}
use Rattle.hp_model.specs.Seats.{seats, seats_step}
use Rattle.hp_model.specs.Processors.{is_present}
use Rattle.hp_model.specs.Needs.{walk_need, need, taken}
use Rattle.hp_model.specs.Plan.{keys_on}
use Rattle.hp_model.specs.Registered.{registered, registered_step, insts_of, keys}
use Rattle.hp_model.specs.Settled.{settled, settled_step}
use Rattle.hp_model.specs.Suspend.{held_by}
use Rattle.hp_model.specs.Batch.{begun, begun_step, is_upmany, batch, to_begin_of, to_begin, is_batch_begun}
use Rattle.hp_model.specs.Promised.{promised_to_map, promised_to_walk, promised_to_come, promised_to_registration, promised_to_walks, promised, given_back}
use Rattle.hp_model.proofs.ListLemmas.{occurs-numbers, occurs-filter, among_last}
use Rattle.hp_model.proofs.Counts.{occurs-append}
use Rattle.hp_model.proofs.Laws.{walk_push, walk_entries_push, begun_push, settled_push, registered_push, registration_push, registration_entries_push, operation_push, readers_push, seats_push}
use Rattle.hp_model.proofs.InFlight.{empty_of, walk_none}
use Rattle.hp_model.proofs.SumLemmas.{sum_none, sum_same, sum_changed}

-- what the walk of one processor is promised, in flight or to come
abbrev pub in_flight : Head → List Event → (cpu : ℕ) → ℕ
in_flight head xs c = promised_to_walk head (walk c xs) (walk_entries c xs)

abbrev pub part : Head → List Event → (cpu : ℕ) → ℕ
part head xs c = in_flight head xs c + promised_to_come head xs c

-- what is promised to a walk to come, by what it hangs on
abbrev pub come_of : (begun left : Bool) → (keys : ℕ → List ℕ) → (at : ℕ) → ℕ
come_of b a K at = cond (b && a) (3 * keys_on K at ONLINE + 4) 0

pub come_none : (head : Head) (xs : List Event) (c : ℕ) → is_batch_begun xs ≡ false → promised_to_come head xs c ≡ 0
come_none head xs c h = ap (λ b. come_of b (among c (to_begin head xs)) (keys head xs) (settled c xs)) h

pub come_out : (head : Head) (xs : List Event) (c : ℕ) → among c (to_begin head xs) ≡ false → promised_to_come head xs c ≡ 0
come_out head xs c h =
    ap (λ a. come_of (is_batch_begun xs) a (keys head xs) (settled c xs)) h ∙ none (is_batch_begun xs)
  where
    none : (b : Bool) → come_of b false (keys head xs) (settled c xs) ≡ 0
    none true = refl
    none false = refl

pub come_same : (head : Head) (xs ys : List Event) (c : ℕ) → is_batch_begun ys ≡ is_batch_begun xs →
    among c (to_begin head ys) ≡ among c (to_begin head xs) → settled c ys ≡ settled c xs →
    ((s : ℕ) → registered head s ys ≡ registered head s xs) → promised_to_come head ys c ≡ promised_to_come head xs c
come_same head xs ys c b a n r = λ i. come_of (b i) (a i) (λ s. insts_of (r s i)) (n i)

-- the walks to begin hang on the operation and on those begun
pub left_same : (head : Head) (v : Option Operation) (xs ys : List Event) → begun ys ≡ begun xs → to_begin_of head v ys ≡ to_begin_of head v xs
left_same head None xs ys h = refl
left_same head (Some o) xs ys h = ap (λ z. filter (λ c. not (among c z)) (batch head o.before o.op)) h

pub begun_same : (xs ys : List Event) → operation ys ≡ operation xs → begun ys ≡ begun xs → is_batch_begun ys ≡ is_batch_begun xs
begun_same xs ys o b = λ i. held_by is_upmany (o i) && not (is_empty (b i))

-- an event that changes neither
pub come_quiet : (head : Head) (xs : List Event) (e : Event) → operation_step (operation xs) xs e ≡ operation xs →
    begun_step (begun xs) xs e ≡ begun xs → ((s : ℕ) → registered_step head s (registered head s xs) xs e ≡ registered head s xs) →
    (c : ℕ) → settled_step c (settled c xs) xs e ≡ settled c xs →
    promised_to_come head (xs ++ e ∷ []) c ≡ promised_to_come head xs c
come_quiet head xs e o b r c n =
    let ys : List Event = xs ++ e ∷ [] in
    let op : operation ys ≡ operation xs = operation_push xs e ∙ o in
    let bg : begun ys ≡ begun xs = begun_push xs e ∙ b in
    come_same head xs ys c (begun_same xs ys op bg)
    (ap (λ z. among c (to_begin_of head z ys)) op ∙ ap (among c) (left_same head (operation xs) xs ys bg))
    (settled_push c xs e ∙ n) (λ s. registered_push head s xs e ∙ r s)

-- a walk that begins leaves those of others to come as they were, and is none of them any more
pub begun_others : (c o : ℕ) (xs : List ℕ) → eqb c o ≡ false → among o (xs ++ c ∷ []) ≡ among o xs
begun_others c o xs h = rw (occurs-append o xs (c ∷ []), h) (go (occurs o xs))
  where
    go : (n : ℕ) → ltb 0 (n + (0 + 0)) ≡ ltb 0 n
    go n = grind (arith, nat_tests)

pub left_others : (head : Head) (v : Option Operation) (xs ys : List Event) (c o : ℕ) → begun ys ≡ begun xs ++ c ∷ [] →
    eqb c o ≡ false → among o (to_begin_of head v ys) ≡ among o (to_begin_of head v xs)
left_others head None xs ys c o b h = refl
left_others head (Some a) xs ys c o b h =
    let same : among o (begun ys) ≡ among o (begun xs) = ap (among o) b ∙ begun_others c o (begun xs) h in
    rw (
      occurs-filter (λ d. not (among d (begun ys))) o (batch head a.before a.op),
      occurs-filter (λ d. not (among d (begun xs))) o (batch head a.before a.op),
      same,
    )
    refl

pub left_out : (head : Head) (v : Option Operation) (xs : List Event) (c : ℕ) → among c (begun xs) ≡ true →
    among c (to_begin_of head v xs) ≡ false
left_out head None xs c h = refl
left_out head (Some a) xs c h = rw (occurs-filter (λ d. not (among d (begun xs))) c (batch head a.before a.op), h) refl

pub come_begun : (head : Head) (xs : List Event) (c : ℕ) → among c (begun xs) ≡ true → promised_to_come head xs c ≡ 0
come_begun head xs c h = come_out head xs c (left_out head (operation xs) xs c h)

pub promised_is : (head : Head) (xs : List Event) →
    promised head xs
    ≡ length (seats xs)
    + promised_to_map (operation xs)
    + length (readers xs)
    + promised_to_walks head xs
    + promised_to_registration head (registration xs) (registration_entries xs)
unfolding promised
promised_is head xs = refl

pub promised_push : (head : Head) (xs : List Event) (e : Event) →
    promised head (xs ++ e ∷ [])
    ≡ length (seats_step (seats xs) xs e)
    + promised_to_map (operation_step (operation xs) xs e)
    + length (readers_step (readers xs) xs e)
    + promised_to_walks head (xs ++ e ∷ [])
    + promised_to_registration head (registration_step (registration xs) xs e)
    (registration_entries_step (registration_entries xs) xs e)
promised_push head xs e =
    rw (promised_is head (xs ++ e ∷ []), seats_push xs e, operation_push xs e, readers_push xs e, registration_push xs e, registration_entries_push xs e)
    refl

pub walks_same : (head : Head) (xs ys : List Event) → ((c : ℕ) → part head ys c ≡ part head xs c) →
    promised_to_walks head ys ≡ promised_to_walks head xs
unfolding promised_to_walks
walks_same head xs ys h = sum_same (part head ys) (part head xs) (numbers head.possible) h

pub walks_changed : (head : Head) (xs ys : List Event) (c : ℕ) → is_present head c ≡ true →
    ((o : ℕ) → eqb c o ≡ false → part head ys o ≡ part head xs o) →
    promised_to_walks head ys + part head xs c ≡ promised_to_walks head xs + part head ys c
unfolding promised_to_walks
walks_changed head xs ys c there h =
    sum_changed c (part head ys) (part head xs) (numbers head.possible) (one (and_parts (ltb c head.possible) (not (among c head.absent)) there).0) h
  where
    one : ltb c head.possible ≡ true → occurs c (numbers head.possible) ≡ 1
    one e = occurs-numbers c head.possible ∙ rw e refl

pub walks_sum : (head : Head) (xs ys : List Event) (c : ℕ) (g : ℕ → ℕ) → is_present head c ≡ true →
    ((o : ℕ) → eqb c o ≡ false → part head ys o ≡ g o) →
    promised_to_walks head ys + g c ≡ sum_by g (numbers head.possible) + part head ys c
unfolding promised_to_walks
walks_sum head xs ys c g there h =
    sum_changed c (part head ys) g (numbers head.possible) (one (and_parts (ltb c head.possible) (not (among c head.absent)) there).0) h
  where
    one : ltb c head.possible ≡ true → occurs c (numbers head.possible) ≡ 1
    one e = occurs-numbers c head.possible ∙ rw e refl

-- at first nothing is promised
pub walks_none : (head : Head) → promised_to_walks head [] ≡ 0
unfolding promised_to_walks walk operation
walks_none head = sum_none (part head []) (numbers head.possible) (λ c. refl)

pub promised_none : (head : Head) → promised head [] ≡ 0
unfolding seats operation readers registration
promised_none head = let b = promised_is head [] in let w = walks_none head in omega arith

-- where nothing is in flight and nobody reads, each seat has its leave and nothing else is promised
pub walks_at_rest : (head : Head) (xs : List Event) → ((c : ℕ) → walk c xs ≡ None) → is_batch_begun xs ≡ false →
    promised_to_walks head xs ≡ 0
unfolding promised_to_walks
walks_at_rest head xs still none =
    sum_none (part head xs) (numbers head.possible) (λ c.
    let n = come_none head xs c none in
    let f : in_flight head xs c ≡ 0 = rw (still c) refl in
    omega arith)

pub promised_at_rest : (head : Head) (xs : List Event) → is_walking xs ≡ false → registration xs ≡ None → operation xs ≡ None →
    is_read xs ≡ false → promised head xs ≡ length (seats xs)
promised_at_rest head xs still none free unread =
    let b = rw (none, free, empty_of (readers xs) unread) at (promised_is head xs) in
    let w = walks_at_rest head xs (walk_none xs still) (rw free refl) in
    omega arith

-- an event that isn't of a walk
pub walks_quiet : (head : Head) (xs : List Event) (e : Event) → ((c : ℕ) (w : Option Walk) → walk_step c w xs e ≡ w) →
    ((c : ℕ) (es : List Event) → entries_step c es xs e ≡ es) →
    ((c : ℕ) → promised_to_come head (xs ++ e ∷ []) c ≡ promised_to_come head xs c) →
    promised_to_walks head (xs ++ e ∷ []) ≡ promised_to_walks head xs
walks_quiet head xs e w es come =
    walks_same head xs (xs ++ e ∷ [])
    (λ c.
    let n = come c in
    rw (walk_push c xs e, walk_entries_push c xs e, w c (walk c xs), es c (walk_entries c xs)) (ap (λ z. in_flight head xs c + z) n))

-- a walk's own processor, and the others
pub begun_part : (head : Head) (xs : List Event) (seat c from to : ℕ) →
    part head (xs ++ WalkBegin seat c from to ∷ []) c ≡ walk_need head xs from to - 1
begun_part head xs seat c from to =
    let e : eqb c c ≡ true = eq-eqb c c refl in
    let n = come_begun head (xs ++ WalkBegin seat c from to ∷ []) c (rw (begun_push xs (WalkBegin seat c from to)) (among_last c (begun xs))) in
    let w : in_flight head (xs ++ WalkBegin seat c from to ∷ []) c ≡ walk_need head xs from to - 1 =
    rw (walk_push c xs (WalkBegin seat c from to), walk_entries_push c xs (WalkBegin seat c from to), e) refl
    in
    omega arith

pub other_part : (head : Head) (xs : List Event) (e : Event) (o : ℕ) → walk_step o (walk o xs) xs e ≡ walk o xs →
    entries_step o (walk_entries o xs) xs e ≡ walk_entries o xs →
    promised_to_come head (xs ++ e ∷ []) o ≡ promised_to_come head xs o → part head (xs ++ e ∷ []) o ≡ part head xs o
other_part head xs e o w es n =
    let f : in_flight head (xs ++ e ∷ []) o ≡ in_flight head xs o = rw (walk_push o xs e, walk_entries_push o xs e, w, es) refl in
    omega arith

pub ended_part : (head : Head) (xs : List Event) (seat c : ℕ) (answer : Answer) → among c (begun xs) ≡ true →
    part head (xs ++ WalkEnd seat c answer ∷ []) c ≡ 0
ended_part head xs seat c answer b =
    let e : eqb c c ≡ true = eq-eqb c c refl in
    let n = come_begun head (xs ++ WalkEnd seat c answer ∷ []) c (rw (begun_push xs (WalkEnd seat c answer)) b) in
    let w : in_flight head (xs ++ WalkEnd seat c answer ∷ []) c ≡ 0 = rw (walk_push c xs (WalkEnd seat c answer), e) refl in
    omega arith

-- a later walk of an upmany takes no room
pub later_room : (head : Head) (xs : List Event) (k c from to : ℕ) → is_batch_begun xs ≡ true →
    need head xs (WalkBegin k c from to) ≡ None
later_room head xs k c from to h =
    let p = and_parts (held_by is_upmany (operation xs)) (not (is_empty (begun xs))) h in
    let u = p.0 in
    let n = not_empty (begun xs) p.1 in
    rw (u, n) refl
  where
    not_empty : (cs : List ℕ) → not (is_empty cs) ≡ true → is_empty cs ≡ false
    not_empty [] e = absurd (true≢false (sym e))
    not_empty (d ∷ ds) e = refl

-- an event takes what it needs, uses one of the promises, and gives back what is left to what it ends
abbrev pub Uses : Head → List Event → Event → Type 0
Uses head xs e = promised head (xs ++ e ∷ []) + 1 + given_back head xs e ≡ promised head xs + taken (need head xs e)
