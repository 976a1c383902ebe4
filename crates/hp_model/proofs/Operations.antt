-- What holds of the operation that holds the map lock: it stood when it entered, and it walks present processors.
use Rattle.std.proofs.Common.{◌≡◌, ℕ, ◌+◌, ◌<◌, Bool, true, false, cond, not, ◌&&◌, eqb, ltb, leb, Option, Some, None, List, [], ◌∷◌, ◌++◌, length, refl, sym, subst, arith}
use Rattle.std.specs.Prelude.{pos}
use Rattle.std.proofs.lemmas.Bool.{true≢false, eqb-true, and_parts, ltb-true, lt-ltb, eqb-false}
use Rattle.hp_states.proofs.Basics.{not_false}
use Rattle.hp_event.specs.declared.op.Op.{Op}
use Rattle.hp_event.specs.declared.op.Op.TheVariants.{Up, Down, Target, Boot, Disable, Enable, Freeze, Thaw, UpMany}
use Rattle.hp_event.specs.declared.answer.Answer.{Answer}
use Rattle.hp_event.specs.declared.answer.Answer.TheVariants.{Ok}
use Rattle.hp_event.specs.declared.head.Head.{Head}
use Rattle.hp_event.specs.declared.event.Event.{Event}
use Rattle.hp_event.specs.declared.event.Event.TheVariants.{Enter, WalkEnd, OpEnd}
use Rattle.hp_states.specs.CpuSets.{has}
use Rattle.hp_model.specs.Lists.{occurs, numbers, among}
use Rattle.hp_model.specs.Walks.{is_walking}
use Rattle.hp_model.specs.Batch.{batch, unbegun}
use Rattle.hp_model.specs.Settled.{settled, is_online}
use Rattle.hp_model.specs.Processors.{is_present, online}
use Rattle.hp_model.specs.MapLock.{Operation, operation}
use Rattle.hp_model.specs.Suspend.{frozen, is_freeze, is_thaw, held_by, is_ok, wakeup_pending}
use Rattle.hp_model.specs.Sequence.{answers, begun, failures, primary_of, walks, ends, nothing, single_next, first_next, boot_next, freeze_next, batch_next, to_boot, to_freeze, to_thaw, target_of, next}
use Rattle.hp_model.specs.RefusalsAtOnce.{first_that_holds}
use Rattle.hp_model.specs.Refusals.{refusals_after_waits}
use Rattle.hp_model.specs.StandsOperations.{Enters, WalkBegins}
use Rattle.hp_model.specs.Lawful.{Comes}
use Rattle.hp_model.proofs.Counts.{occurs-append}
pub use Rattle.hp_model.proofs.ListLemmas.{in_filter, once_in}
use Rattle.hp_model.proofs.ListLemmas.{filtered_out}
use Rattle.hp_model.proofs.Laws.{operation_push, frozen_push}
use Rattle.hp_model.proofs.Kept.{WalkKept, Kept}
use Rattle.hp_model.proofs.Passing.{none_holds, passed}

pub record Entered (head : Head) (o : Operation) : Type 0 where
  pub enters : Enters head o.before o.seat o.op
  pub away : (c : ℕ) → is_present head c ≡ false → settled c o.before ≡ 0

abbrev pub EnteredBy : Head → Option Operation → Type 0
EnteredBy head None = Unit {0}
EnteredBy head (Some o) = Entered head o

pub record Operations (head : Head) (events : List Event) : Type 0 where
  pub entered : EnteredBy head (operation events)
  pub frozen_present : (c : ℕ) → 0 < occurs c (frozen events) → is_present head c ≡ true

pub operations_none : (head : Head) → Operations head []
unfolding operation frozen
operations_none head = record { entered = tt; frozen_present = λ c h. absurd (omega arith) }

pub operations_step : (head : Head) (xs : List Event) (e : Event) → Comes head xs e → Kept head xs → Operations head xs →
    Operations head (xs ++ e ∷ [])
operations_step head xs (Enter seat op) h k o = record {
  entered = rw (operation_push xs (Enter seat op)) (record { enters = h; away = λ c a. (k.at c).away a });
  frozen_present = λ c p. go c (is_freeze op) (rw (frozen_push xs (Enter seat op)) at p);
}
  where
    go : (c : ℕ) (b : Bool) → 0 < occurs c (cond b [] (frozen xs)) → is_present head c ≡ true
    go c true p = absurd (omega arith)
    go c false p = o.frozen_present c p
operations_step head xs (OpEnd seat answer) h k o = record {
  entered = rw (operation_push xs (OpEnd seat answer)) tt;
  frozen_present = λ c p. go c (held_by is_thaw (operation xs)) (rw (frozen_push xs (OpEnd seat answer)) at p);
}
  where
    go : (c : ℕ) (b : Bool) → 0 < occurs c (cond b [] (frozen xs)) → is_present head c ≡ true
    go c true p = absurd (omega arith)
    go c false p = o.frozen_present c p
operations_step head xs (WalkEnd seat cpu answer) h k o =
    let w : WalkKept head cpu h.of xs = rw h.in_flight at (k.at cpu).kept in
    record {
      entered = rw (operation_push xs (WalkEnd seat cpu answer)) o.entered;
      frozen_present = λ c p.
          go w.present c (held_by is_freeze (operation xs) && is_ok answer) (rw (frozen_push xs (WalkEnd seat cpu answer)) at p);
    }
  where
    one : (c : ℕ) → is_present head cpu ≡ true → (b : Bool) → eqb cpu c ≡ b →
        0 < occurs c (frozen xs) + (cond b 1 0 + 0) → is_present head c ≡ true
    one c there true e p = let same : cpu ≡ c = eqb-true cpu c e in rw same at there
    one c there false e p = o.frozen_present c (omega arith)

    go : is_present head cpu ≡ true → (c : ℕ) (b : Bool) → 0 < occurs c (cond b (frozen xs ++ cpu ∷ []) (frozen xs)) →
        is_present head c ≡ true
    go there c true p = one c there (eqb cpu c) refl (rw (occurs-append c (frozen xs) (cpu ∷ [])) at p)
    go there c false p = o.frozen_present c p
operations_step head xs e h k o = record {
  entered = rw (operation_push xs e) o.entered;
  frozen_present = λ c p. o.frozen_present c (rw (frozen_push xs e) at p);
}

-- what makes a next step a walk
pub not_walk : (answer : Answer) (c to : ℕ) → ends answer ≡ walks c to → ⊥
not_walk answer c to h = cc

pub same_cpu : (c to c' to' : ℕ) → walks c to ≡ walks c' to' → c ≡ c'
same_cpu c to c' to' h = cc

pub single_walk : (c to now : ℕ) (xs : List Answer) (cpu to' : ℕ) → single_next c to now xs ≡ walks cpu to' →
    (c ≡ cpu) × (eqb now to ≡ false)
single_walk c to now [] cpu to' h = go (eqb now to) h
  where
    go : (b : Bool) → cond b (ends (Ok (pos 0))) (walks c to) ≡ walks cpu to' → (c ≡ cpu) × (b ≡ false)
    go true h = absurd (not_walk (Ok (pos 0)) cpu to' h)
    go false h = (same_cpu c to cpu to' h, refl)
single_walk c to now (answer ∷ xs) cpu to' h = absurd (not_walk answer cpu to' h)

pub first_walk : (t : ℕ) (todo : List ℕ) (answer : Answer) (cpu to : ℕ) → first_next t todo answer ≡ walks cpu to →
    0 < occurs cpu todo
first_walk t [] answer cpu to h = absurd (not_walk answer cpu to h)
first_walk t (c ∷ cs) answer cpu to h = let P : ℕ → Type 0 = λ z. 0 < occurs z (c ∷ cs) in subst P (same_cpu c t cpu to h) (once_in c cs)

pub boot_walk : (enough : Bool) (todo : List ℕ) (n cpu to : ℕ) → boot_next enough todo n ≡ walks cpu to → 0 < occurs cpu todo
boot_walk true todo n cpu to h = absurd (not_walk (Ok (pos n)) cpu to h)
boot_walk false todo n cpu to h = first_walk 200 todo (Ok (pos n)) cpu to h

pub freeze_walk : (waking : Bool) (failed : List Answer) (todo : List ℕ) (cpu to : ℕ) →
    freeze_next waking failed todo ≡ walks cpu to → 0 < occurs cpu todo
freeze_walk waking (answer ∷ failed) todo cpu to h = absurd (not_walk answer cpu to h)
freeze_walk waking [] [] cpu to h = absurd (not_walk (Ok (pos 0)) cpu to h)
freeze_walk true [] (c ∷ cs) cpu to h = absurd (not_walk (Answer.Refused 16) cpu to h)
freeze_walk false [] (c ∷ cs) cpu to h = let P : ℕ → Type 0 = λ z. 0 < occurs z (c ∷ cs) in subst P (same_cpu c 0 cpu to h) (once_in c cs)

pub not_nothing : (c to : ℕ) → nothing ≡ walks c to → ⊥
not_nothing c to h = cc

pub batch_walk : (todo : List ℕ) (walking : Bool) (answer : Answer) (cpu to : ℕ) → batch_next todo walking answer ≡ walks cpu to →
    0 < occurs cpu todo
batch_walk (c ∷ cs) walking answer cpu to h =
    let P : ℕ → Type 0 = λ z. 0 < occurs z (c ∷ cs) in subst P (same_cpu c 200 cpu to h) (once_in c cs)
batch_walk [] true answer cpu to h = absurd (not_nothing cpu to h)
batch_walk [] false answer cpu to h = absurd (not_walk answer cpu to h)

listed_there : (a b : Bool) → a ≡ true → (a && not b) ≡ false → b ≡ true
listed_there true b h k = not_false b k
listed_there false b h k = absurd (true≢false (sym h))

-- a processor above 0 isn't away
pub above_there : (b : Bool) (n : ℕ) → 0 < n → (b ≡ false → n ≡ 0) → b ≡ true
above_there true n h away = refl
above_there false n h away = let e = away refl in absurd (omega arith)

-- a target of an away processor is no walk: above its state it is refused, and it stands at 0
pub target_there : (b : Bool) (n m to : ℕ) → (b ≡ false → n ≡ 0) → (b ≡ false → m ≡ 0) → eqb m to ≡ false →
    (ltb n to && not b) ≡ false → b ≡ true
target_there true n m to e f ne h = refl
target_there false n m to e f ne h =
    let n0 = e refl in
    let m0 = f refl in
    let away : m ≡ to → ⊥ = eqb-false m to ne in
    let up : ltb n to ≡ true = lt-ltb n to (omega arith) in
    absurd (true≢false (rw up at h))

pub present_by : (head : Head) (events before : List Event) (op : Op) (cpu to : ℕ) →
    first_that_holds (refusals_after_waits head before op) ≡ None →
    ((c : ℕ) → is_present head c ≡ false → settled c before ≡ 0) →
    ((c : ℕ) → is_present head c ≡ false → settled c events ≡ 0) →
    ((c : ℕ) → 0 < occurs c (frozen events) → is_present head c ≡ true) →
    next head events before op ≡ walks cpu to → is_present head cpu ≡ true
present_by head events before (Up c) cpu to r away now frozen_there h =
    let w = single_walk c 200 (settled c events) (answers events) cpu to h in
    let p = none_holds (refusals_after_waits head before (Up c)) r in
    rw w.0 at (not_false (is_present head c) p.1.0)
present_by head events before (Down c) cpu to r away now frozen_there h =
    let w = single_walk c 0 (settled c events) (answers events) cpu to h in
    let p = none_holds (refusals_after_waits head before (Down c)) r in
    rw w.0 at (not_false (is_present head c) p.1.1.0)
present_by head events before (Target c v) cpu to r away now frozen_there h =
    let w = single_walk c (target_of v) (settled c events) (answers events) cpu to h in
    let p = none_holds (refusals_after_waits head before (Target c v)) r in
    rw w.0 at (target_there (is_present head c) (settled c before) (settled c events) (target_of v) (away c) (now c) w.1 p.1.1.1.0)
present_by head events before (Boot n) cpu to r away now frozen_there h =
    let w = boot_walk (leb n (length (online head events))) (to_boot head events) (length (failures (answers events))) cpu to h in
    let p = in_filter (λ c. is_present head c && (not (is_online c events) && not (among c (begun events)))) cpu
    (numbers head.possible) w in
    (and_parts (is_present head cpu) (not (is_online cpu events) && not (among cpu (begun events))) p.0).0
present_by head events before (Freeze q) cpu to r away now frozen_there h =
    let w = freeze_walk (wakeup_pending events) (failures (answers events)) (to_freeze head q before events) cpu to h in
    let p = in_filter (λ c. not (eqb c (primary_of q (online head before))) && not (among c (begun events))) cpu
    (online head before) w in
    let o = in_filter (λ c. is_online c before) cpu (numbers head.possible) p.1 in
    let up = ltb-true 100 (settled cpu before) o.0 in
    above_there (is_present head cpu) (settled cpu before) (omega arith) (away cpu)
present_by head events before Thaw cpu to r away now frozen_there h =
    let w = first_walk 200 (to_thaw events) (Ok (pos (length (failures (answers events))))) cpu to h in
    let p = in_filter (λ c. ltb (settled c events) 200 && not (among c (begun events))) cpu (frozen events) w in
    frozen_there cpu p.1
present_by head events before (UpMany set) cpu to r away now frozen_there h =
    let w = batch_walk (unbegun (batch head before (UpMany set)) events) (is_walking events) (Ok (pos (length (failures (answers events))))) cpu to h in
    let u = in_filter (λ c. not (among c (begun events))) cpu (batch head before (UpMany set)) w in
    let b = in_filter (λ c. has set c && ltb (settled c before) 200) cpu (numbers head.possible) u.1 in
    let p = none_holds (refusals_after_waits head before (UpMany set)) r in
    let away = filtered_out (λ c. has set c && not (is_present head c)) cpu (numbers head.possible) p.1.0 b.1 in
    listed_there (has set cpu) (is_present head cpu) (and_parts (has set cpu) (ltb (settled cpu before) 200) b.0).0 away
present_by head events before Disable cpu to r away now frozen_there h = absurd (not_walk (Ok (pos 0)) cpu to h)
present_by head events before Enable cpu to r away now frozen_there h = absurd (not_walk (Ok (pos 0)) cpu to h)
present_by head events before op cpu to r away now frozen_there h = absurd (not_nothing cpu to h)

enters_after : (head : Head) (xs : List Event) (k : ℕ) (op : Op) → Enters head xs k op →
    first_that_holds (refusals_after_waits head xs op) ≡ None
enters_after head xs k op h = (passed head xs k op h.free.idle h.passes.not_waiting h.passes.not_refused).1

-- a walk that comes next is of a present processor
pub walk_present : (head : Head) (xs : List Event) (seat cpu from to : ℕ) → WalkBegins head xs seat cpu from to →
    Operations head xs → Kept head xs → is_present head cpu ≡ true
walk_present head xs seat cpu from to b o k =
    let e : Entered head b.of = rw b.held at o.entered in
    present_by head xs b.of.before b.of.op cpu to (enters_after head b.of.before b.of.seat b.of.op e.enters) e.away (λ c a. (k.at c).away a) o.frozen_present b.gives
