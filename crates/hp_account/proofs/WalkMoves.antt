-- A walk that can begin moves its processor: to another state than where it stands, and to one of the states.
use Rattle.std.proofs.Common.{◌≡◌, ℕ, ◌+◌, ◌<◌, ◌≤◌, Bool, true, false, cond, not, ◌&&◌, eqb, ltb, leb, Option, Some, None, List, [], ◌∷◌, ◌++◌, length, append_assoc, refl, ap, sym, ◌∙◌, arith}
use Rattle.std.specs.Prelude.{pos, negsuc, ℤ}
use Rattle.std.proofs.lemmas.List.{append-nil}
use Rattle.std.proofs.lemmas.Bool.{true≢false, eqb-true, eqb-false, and_parts, ltb-true, leb-true, ltb-false}
use Rattle.std.proofs.lemmas.Bool.Decides.{nat_tests}
use Rattle.hp_suspend.proofs.Todo.{same_to}
use Rattle.hp_states.proofs.Basics.{not_true, none_some, same_some}
use Rattle.hp_states.specs.declared.limits.TheConstants.{ONLINE}
use Rattle.hp_event.specs.declared.op.Op.{Op}
use Rattle.hp_event.specs.declared.op.Op.TheVariants.{Up, Down, Target, Boot, Disable, Enable, Freeze, Thaw, UpMany}
use Rattle.hp_event.specs.declared.answer.Answer.{Answer}
use Rattle.hp_event.specs.declared.answer.Answer.TheVariants.{Ok}
use Rattle.hp_event.specs.declared.head.Head.{Head}
use Rattle.hp_event.specs.declared.event.Event.{Event}
use Rattle.hp_event.specs.declared.event.Event.TheVariants.{Enter, WalkBegin, WalkEnd, OpEnd}
use Rattle.hp_model.specs.Batch.{is_upmany}
use Rattle.hp_model.specs.Journal.{EachAfter}
use Rattle.hp_model.specs.Lawful.{Comes, Stands, IsLawful}
use Rattle.hp_model.specs.Lists.{among, numbers, occurs}
use Rattle.hp_model.specs.MapLock.{Operation, operation}
use Rattle.hp_model.specs.Processors.{is_present, online}
use Rattle.hp_model.specs.RefusalsAtOnce.{first_that_holds, refusals_at_once, is_state}
use Rattle.hp_model.specs.Sequence.{answers, begun, failures, primary_of, walks, ends, single_next, first_next, boot_next, freeze_next, to_boot, to_freeze, to_thaw, target_of, next}
use Rattle.hp_model.specs.Settled.{settled, is_online}
use Rattle.hp_model.specs.StandsOperations.{WalkBegins}
use Rattle.hp_model.specs.Suspend.{frozen, wakeup_pending}
use Rattle.hp_model.specs.Walks.{Walk, walk}
use Rattle.hp_model.proofs.BatchLemmas.{begins_below}
use Rattle.hp_model.proofs.Counts.{occurs-append}
use Rattle.hp_model.proofs.Induction.{Held, held_none, held_from}
use Rattle.hp_model.proofs.Laws.{operation_push, begun_push, settled_push, walk_push}
use Rattle.hp_model.proofs.OneNext.{owners}
use Rattle.hp_model.proofs.Operations.{Entered, not_walk, not_nothing, single_walk, boot_walk, freeze_walk, first_walk, in_filter, walk_present}
use Rattle.hp_model.proofs.Owners.{Owners, owners_none, owners_step, map_free}
use Rattle.hp_model.proofs.Passing.{none_holds, passed}

-- since an operation took the map lock, a processor whose walk it hasn't begun is as it was
abbrev Rested : List Event → Type 0
Rested xs =
    (o : Operation) → operation xs ≡ Some o → (c : ℕ) → among c (begun xs) ≡ false →
    (settled c xs ≡ settled c o.before) × (walk c xs ≡ None)

among_parts : (c k : ℕ) (xs : List ℕ) → among c (xs ++ k ∷ []) ≡ false → (among c xs ≡ false) × (eqb k c ≡ false)
among_parts c k xs h = go (occurs c xs) (rw (occurs-append c xs (k ∷ [])) at h)
  where
    go : (n : ℕ) → ltb 0 (n + (cond (eqb k c) 1 0 + 0)) ≡ false → (ltb 0 n ≡ false) × (eqb k c ≡ false)
    go n h = (grind (arith, nat_tests), grind (arith, nat_tests))

rested_step : (head : Head) (xs : List Event) (e : Event) → Comes head xs e → Owners xs → Rested xs → Rested (xs ++ e ∷ [])
rested_step head xs (Enter seat op) h w r =
    λ o q c b.
    let n : Operation = record { seat = seat; op = op; before = xs } in
    let same : n ≡ o = same_some n o (rw (operation_push xs (Enter seat op)) at q) in
    let free : operation xs ≡ None = map_free xs op h.takes_map h.passes.not_waiting in
    let still : walk c xs ≡ None = go c free (walk c xs) refl in
    (settled_push c xs (Enter seat op) ∙ ap (λ z. settled c z.before) same, walk_push c xs (Enter seat op) ∙ still)
  where
    go : (c : ℕ) → operation xs ≡ None → (v : Option Walk) → walk c xs ≡ v → v ≡ None
    go c free None e = refl
    go c free (Some v) e = let p = w.walk_op c v e in absurd (none_some p.0 (sym free ∙ p.1))
rested_step head xs (OpEnd seat answer) h w r =
    λ o q c b. absurd (none_some o (rw (operation_push xs (OpEnd seat answer)) at q))
rested_step head xs (WalkBegin seat cpu from to) h w r =
    λ o q c b.
    let e : Event = WalkBegin seat cpu from to in
    let p = among_parts c cpu (begun xs) (rw (begun_push xs e) at b) in
    let was = r o (rw (operation_push xs e) at q) c p.0 in
    (settled_push c xs e ∙ was.0, walk_push c xs e ∙ rw p.1 was.1)
rested_step head xs (WalkEnd seat cpu answer) h w r =
    λ o q c b.
    let e : Event = WalkEnd seat cpu answer in
    let was = r o (rw (operation_push xs e) at q) c (rw (begun_push xs e) at b) in
    let apart = other c was.1 (eqb cpu c) refl in
    (settled_push c xs e ∙ rw apart was.0, walk_push c xs e ∙ rw apart was.1)
  where
    other : (c : ℕ) → walk c xs ≡ None → (b : Bool) → eqb cpu c ≡ b → b ≡ false
    other c none true e =
        let same : cpu ≡ c = eqb-true cpu c e in
        absurd (none_some h.of (sym none ∙ (rw same at h.in_flight)))
    other c none false e = refl
rested_step head xs e h w r =
    λ o q c b.
    let was = r o (rw (operation_push xs e) at q) c (rw (begun_push xs e) at b) in
    (settled_push c xs e ∙ was.0, walk_push c xs e ∙ was.1)

rested_from : (head : Head) (before es : List Event) → Owners before → Rested before → EachAfter (Stands head) before es →
    Rested (before ++ es)
rested_from head before [] w r h = rw append-nil r
rested_from head before (e ∷ es) w r h =
    let k = rested_from head (before ++ e ∷ []) es (owners_step head before e h.0.0 w) (rested_step head before e h.0.0 w r) h.1 in
    rw (append_assoc before (e ∷ []) es) at k

rested : (head : Head) (xs : List Event) → IsLawful head xs → Rested xs
unfolding operation
rested head xs h = rested_from head [] xs owners_none (λ o q c b. absurd (none_some o q)) h.1

single_to : (c to now : ℕ) (xs : List Answer) (cpu to' : ℕ) → single_next c to now xs ≡ walks cpu to' → to ≡ to'
single_to c to now [] cpu to' h = go (eqb now to) h
  where
    go : (b : Bool) → cond b (ends (Ok (pos 0))) (walks c to) ≡ walks cpu to' → to ≡ to'
    go true h = absurd (not_walk (Ok (pos 0)) cpu to' h)
    go false h = same_to c to cpu to' h
single_to c to now (answer ∷ xs) cpu to' h = absurd (not_walk answer cpu to' h)

first_to : (t : ℕ) (todo : List ℕ) (answer : Answer) (cpu to : ℕ) → first_next t todo answer ≡ walks cpu to → t ≡ to
first_to t [] answer cpu to h = absurd (not_walk answer cpu to h)
first_to t (c ∷ cs) answer cpu to h = same_to c t cpu to h

boot_to : (enough : Bool) (todo : List ℕ) (n cpu to : ℕ) → boot_next enough todo n ≡ walks cpu to → ONLINE ≡ to
boot_to true todo n cpu to h = absurd (not_walk (Ok (pos n)) cpu to h)
boot_to false todo n cpu to h = first_to ONLINE todo (Ok (pos n)) cpu to h

freeze_to : (waking : Bool) (failed : List Answer) (todo : List ℕ) (cpu to : ℕ) →
    freeze_next waking failed todo ≡ walks cpu to → 0 ≡ to
freeze_to waking (answer ∷ failed) todo cpu to h = absurd (not_walk answer cpu to h)
freeze_to waking [] [] cpu to h = absurd (not_walk (Ok (pos 0)) cpu to h)
freeze_to true [] (c ∷ cs) cpu to h = absurd (not_walk (Answer.Refused 16) cpu to h)
freeze_to false [] (c ∷ cs) cpu to h = same_to c 0 cpu to h

pub record IsMove (now to : ℕ) : Type 0 where
  pub moves : now ≡ to → ⊥
  pub to_most : to ≤ ONLINE

single_moves : (c t now : ℕ) (xs : List Answer) (cpu to : ℕ) (state : ℕ → ℕ) → now ≡ state c → t ≤ ONLINE →
    single_next c t now xs ≡ walks cpu to → IsMove (state cpu) to
single_moves c t now xs cpu to state is most h =
    let w = single_walk c t now xs cpu to h in
    let goes : t ≡ to = single_to c t now xs cpu to h in
    let apart : now ≡ t → ⊥ = eqb-false now t w.1 in
    let stands : now ≡ state cpu = is ∙ ap state w.0 in
    record { moves = λ e. apart (stands ∙ (e ∙ sym goes)); to_most = omega (arith, goes, most) }

target_most : (v : ℤ) → not (is_state v) ≡ false → target_of v ≤ ONLINE
target_most (pos n) h = let b : leb n 200 ≡ true = opened (leb n 200) h in leb-true n 200 b
  where
    opened : (b : Bool) → not b ≡ false → b ≡ true
    opened true h = refl
    opened false h = absurd (true≢false h)
target_most (negsuc n) h = omega arith

-- below the highest state, a walk to it moves
up_moves : (now to : ℕ) → ONLINE ≡ to → now < ONLINE → IsMove now to
up_moves now to goes below = record { moves = λ e. absurd (omega (arith, goes, below, e)); to_most = omega (arith, goes) }

-- of an operation that isn't an upmany
moves_by : (head : Head) (xs : List Event) (o : Operation) (cpu to : ℕ) → Rested xs → operation xs ≡ Some o → (op : Op) →
    is_upmany op ≡ false → first_that_holds (refusals_at_once head o.before o.seat op) ≡ None →
    next head xs o.before op ≡ walks cpu to → IsMove (settled cpu xs) to
moves_by head xs o cpu to r held (Up c) single passes h =
    single_moves c 200 (settled c xs) (answers xs) cpu to (λ d. settled d xs) refl (omega arith) h
moves_by head xs o cpu to r held (Down c) single passes h =
    single_moves c 0 (settled c xs) (answers xs) cpu to (λ d. settled d xs) refl (omega arith) h
moves_by head xs o cpu to r held (Target c v) single passes h =
    let p = none_holds (refusals_at_once head o.before o.seat (Target c v)) passes in
    single_moves c (target_of v) (settled c xs) (answers xs) cpu to (λ d. settled d xs) refl (target_most v p.1.1.0) h
moves_by head xs o cpu to r held (Boot n) single passes h =
    let enough : Bool = leb n (length (online head xs)) in
    let w = boot_walk enough (to_boot head xs) (length (failures (answers xs))) cpu to h in
    let p = in_filter (λ c. is_present head c && (not (is_online c xs) && not (among c (begun xs)))) cpu (numbers head.possible) w in
    let q = and_parts (is_present head cpu) (not (is_online cpu xs) && not (among cpu (begun xs))) p.0 in
    let off : ltb 100 (settled cpu xs) ≡ false = not_true (is_online cpu xs) (and_parts (not (is_online cpu xs)) (not (among cpu (begun xs))) q.1).0 in
    let low = ltb-false 100 (settled cpu xs) off in
    up_moves (settled cpu xs) to (boot_to enough (to_boot head xs) (length (failures (answers xs))) cpu to h) (omega (arith, low))
moves_by head xs o cpu to r held (Freeze q) single passes h =
    let w = freeze_walk (wakeup_pending xs) (failures (answers xs)) (to_freeze head q o.before xs) cpu to h in
    let goes = freeze_to (wakeup_pending xs) (failures (answers xs)) (to_freeze head q o.before xs) cpu to h in
    let p = in_filter (λ c. not (eqb c (primary_of q (online head o.before))) && not (among c (begun xs))) cpu (online head o.before) w in
    let i = in_filter (λ c. is_online c o.before) cpu (numbers head.possible) p.1 in
    let up = ltb-true 100 (settled cpu o.before) i.0 in
    let fresh : among cpu (begun xs) ≡ false =
    not_true (among cpu (begun xs)) (and_parts (not (eqb cpu (primary_of q (online head o.before)))) (not (among cpu (begun xs))) p.0).1 in
    let same = (r o held cpu fresh).0 in
    record { moves = λ e. absurd (omega (arith, goes, up, same, e)); to_most = omega (arith, goes) }
moves_by head xs o cpu to r held Thaw single passes h =
    let w = first_walk 200 (to_thaw xs) (Ok (pos (length (failures (answers xs))))) cpu to h in
    let p = in_filter (λ c. ltb (settled c xs) 200 && not (among c (begun xs))) cpu (frozen xs) w in
    let below = ltb-true (settled cpu xs) 200 (and_parts (ltb (settled cpu xs) 200) (not (among cpu (begun xs))) p.0).0 in
    up_moves (settled cpu xs) to (first_to 200 (to_thaw xs) (Ok (pos (length (failures (answers xs))))) cpu to h) below
moves_by head xs o cpu to r held Disable single passes h = absurd (not_walk (Ok (pos 0)) cpu to h)
moves_by head xs o cpu to r held Enable single passes h = absurd (not_walk (Ok (pos 0)) cpu to h)
moves_by head xs o cpu to r held (UpMany set) single passes h = absurd (true≢false single)
moves_by head xs o cpu to r held op single passes h = absurd (not_nothing cpu to h)

-- what begins a walk: a processor of the machine, which moves
pub record IsWalkBegin (head : Head) (cpu from to : ℕ) : Type 0 where
  pub inside : cpu < head.possible
  pub moves : from ≡ to → ⊥
  pub to_most : to ≤ ONLINE

pub walk_begins : (head : Head) (xs : List Event) (seat cpu from to : ℕ) → IsLawful head xs →
    WalkBegins head xs seat cpu from to → IsWalkBegin head cpu from to
walk_begins head xs seat cpu from to lawful h =
    let k : Held head xs = held_from head [] xs (held_none head lawful.0) lawful.1 in
    let e : Entered head h.of = rw h.held at k.operations.entered in
    let there = walk_present head xs seat cpu from to h k.operations k.kept in
    let once = (passed head h.of.before h.of.seat h.of.op e.enters.free.idle e.enters.passes.not_waiting e.enters.passes.not_refused).0 in
    let m : IsMove from to = moved once (is_upmany h.of.op) refl in
    record {
      inside = ltb-true cpu head.possible (and_parts (ltb cpu head.possible) (not (among cpu head.absent)) there).0;
      moves = m.moves;
      to_most = m.to_most;
    }
  where
    -- a walk of an upmany begins below the top, and goes there
    moved : first_that_holds (refusals_at_once head h.of.before h.of.seat h.of.op) ≡ None → (b : Bool) → is_upmany h.of.op ≡ b → IsMove from to
    moved once true u =
        let b = begins_below head xs seat cpu from to (owners head xs lawful) h u in up_moves from to (sym b.1) b.0
    moved once false u =
        let m = moves_by head xs h.of cpu to (rested head xs lawful) h.held h.of.op u once h.gives in
        record { moves = λ same. m.moves (sym h.from_is ∙ same); to_most = m.to_most }
