-- Why no sibling comes up while the mode is Off or ForceOff.
--
-- The mode becomes so at a turn that finds no sibling online, the map lock free and nothing frozen (`shut_now`): so no operation is in
-- flight that could bring one up, as a boot that entered before. From then on each operation that enters was let through, and brings no
-- sibling up by what it asks for: no `up` of one, no target of one at 101 or above, no upmany that lists one, no boot. What else brings
-- a processor up is a thaw, and that only those that a freeze has recorded, which are of those that were online as it entered: primaries
-- all. A sibling may still walk, for a target below 101 or for a `down` that finds it off; such a walk stays below the higher of its two
-- ends, even where it is stuck. What disables hotplug or enables it brings nothing up, and what a registration does moves no processor.
-- While the mode is Closing nothing is claimed. But where the write began in the mode Off, what was so then stays so, and so the mode may
-- fall back to Off.
use Rattle.std.proofs.Common.{◌≡◌, ℕ, ◌+◌, ◌<◌, ◌≤◌, Bool, true, false, cond, not, ◌&&◌, eqb, ltb, is_some, Option, Some, None, List, [], ◌∷◌, ◌++◌, length, refl, sym, ap, ◌∙◌, subst, arith}
use Rattle.std.specs.Prelude.{pos, find}
use Rattle.std.proofs.lemmas.Bool.{true≢false, false≢true, eqb-true, and_parts, ltb-true, ltb-false, le-ltb}
use Rattle.hp_states.proofs.Basics.{none_some, same_some}
use Rattle.hp_states.specs.declared.cpu_set.CpuSet.{CpuSet}
use Rattle.hp_states.specs.CpuSets.{has}
use Rattle.hp_event.specs.declared.op.Op.{Op}
use Rattle.hp_event.specs.declared.op.Op.TheVariants.{Up, Down, Target, Boot, Disable, Enable, Freeze, Thaw, UpMany}
use Rattle.hp_event.specs.declared.answer.Answer.{Answer}
use Rattle.hp_event.specs.declared.answer.Answer.TheVariants.{Ok, Refused, Fault, Stuck, LogFull}
use Rattle.hp_event.specs.declared.head.Head.{Head}
use Rattle.hp_event.specs.declared.event.Event.{Event}
use Rattle.hp_event.specs.declared.event.Event.TheVariants.{Enter, WalkBegin, WalkEnd, OpEnd}
use Rattle.hp_event.specs.Leaves.{leaves_at}
use Rattle.hp_model.specs.Heads.{IsHead}
use Rattle.hp_model.specs.Lists.{occurs, numbers, among}
use Rattle.hp_model.specs.MapLock.{Operation, operation}
use Rattle.hp_model.specs.Walks.{Walk, walk, is_walking}
use Rattle.hp_model.specs.Batch.{begun, batch, unbegun}
use Rattle.hp_model.specs.Settled.{settled, is_online, left_at}
use Rattle.hp_model.specs.Processors.{online}
use Rattle.hp_model.specs.Suspend.{frozen, is_freeze, is_thaw, held_by, is_ok, wakeup_pending}
use Rattle.hp_model.specs.Sequence.{walks, ends, answers, failures, primary_of, single_next, to_freeze, to_thaw, target_of, next}
use Rattle.hp_model.specs.StandsOperations.{WalkBegins, WalkEnds}
use Rattle.hp_model.specs.Lawful.{Comes, IsLawful}
use Rattle.hp_model.proofs.Counts.{occurs-append}
use Rattle.hp_model.proofs.ListLemmas.{occurs-numbers, in_filter, is_among}
use Rattle.hp_model.proofs.Laws.{operation_push, frozen_push, walk_push, settled_push}
use Rattle.hp_model.proofs.InFlight.{walk_none}
use Rattle.hp_model.proofs.Operations.{not_walk, not_nothing, single_walk, first_walk, freeze_walk, batch_walk}
use Rattle.hp_model.proofs.Owners.{Owners, enters_at_rest, over_at_rest}
use Rattle.hp_model.proofs.OneNext.{owners}
use Rattle.hp_model.proofs.PlanBounds.{stuck_most}
use Rattle.hp_model.proofs.RoundsEnd.{in_numbers}
use Rattle.hp_smt.proofs.Finding.{find_there}
use Rattle.hp_smt.specs.Siblings.{is_sibling, sibling_in, is_up_of_sibling}
use Rattle.hp_smt.specs.Shut.{AreOffline, WalksLow, IsShut}

-- an event by which no operation enters that brings a sibling up
abbrev pub LetsNoneUp : (threads : ℕ) → Event → Type 0
LetsNoneUp n (Enter seat op) = is_up_of_sibling n op ≡ false
LetsNoneUp n _ = Unit {0}

-- ---- which walks of a sibling begin

same_to : (c to c' to' : ℕ) → walks c to ≡ walks c' to' → to ≡ to'
same_to c to c' to' h = cc

single_to : (c to now : ℕ) (xs : List Answer) (cpu to' : ℕ) → single_next c to now xs ≡ walks cpu to' → to ≡ to'
single_to c to now [] cpu to' h = go (eqb now to) h
  where
    go : (b : Bool) → cond b (ends (Ok (pos 0))) (walks c to) ≡ walks cpu to' → to ≡ to'
    go true h = absurd (not_walk (Ok (pos 0)) cpu to' h)
    go false h = same_to c to cpu to' h
single_to c to now (answer ∷ xs) cpu to' h = absurd (not_walk answer cpu to' h)

low_of : (s : ℕ) → ltb 100 s ≡ false → s ≤ 100
low_of s h = ltb-false 100 s h

off_at : (s : ℕ) → s ≤ 100 → ltb 100 s ≡ false
off_at s h = le-ltb 100 s h

second_of : (a b : Bool) → a ≡ true → (a && b) ≡ false → b ≡ false
second_of true b e h = h
second_of false b e h = absurd (false≢true e)

below_numbers : (c n : ℕ) → 0 < occurs c (numbers n) → c < n
below_numbers c n there = go (ltb c n) refl (rw (occurs-numbers c n) at there)
  where
    go : (b : Bool) → ltb c n ≡ b → 0 < cond b 1 0 → c < n
    go true e l = ltb-true c n e
    go false e l = absurd (omega arith)

-- a set has none of the siblings that no search finds
none_in : (n : ℕ) (set : ℕ → Bool) (c : ℕ) (xs : List ℕ) → is_some (find (λ d. set d && is_sibling n d) xs) ≡ false → set c ≡ true →
    is_sibling n c ≡ true → 0 < occurs c xs → ⊥
none_in n set c xs none there sib within =
    let both : (set c && is_sibling n c) ≡ true = rw (there, sib) refl in
    true≢false (sym (find_there (λ d. set d && is_sibling n d) c xs both within) ∙ none)

none_listed : (n : ℕ) (set : CpuSet) (c possible : ℕ) → possible ≤ 256 → is_some (sibling_in n set) ≡ false → has set c ≡ true →
    is_sibling n c ≡ true → 0 < occurs c (numbers possible) → ⊥
unfolding sibling_in
none_listed n set c possible few none there sib within =
    let below = below_numbers c possible within in
    none_in n (has set) c (numbers 256) none there sib (in_numbers c 256 (omega (arith, few, below)))

begins_low : (n : ℕ) (head : Head) (xs before : List Event) (op : Op) (cpu to : ℕ) → head.possible ≤ 256 → is_sibling n cpu ≡ true →
    AreOffline n before → is_up_of_sibling n op ≡ false → among cpu (frozen xs) ≡ false → next head xs before op ≡ walks cpu to →
    (to ≤ 100) × (is_freeze op ≡ false)
begins_low n head xs before (Up c) cpu to few sib off none thawed h =
    let w = single_walk c 200 (settled c xs) (answers xs) cpu to h in
    absurd (true≢false (sym sib ∙ ap (is_sibling n) (sym w.0) ∙ none))
begins_low n head xs before (Down c) cpu to few sib off none thawed h =
    let t : 0 ≡ to = single_to c 0 (settled c xs) (answers xs) cpu to h in (omega (arith, t), refl)
begins_low n head xs before (Target c v) cpu to few sib off none thawed h =
    let w = single_walk c (target_of v) (settled c xs) (answers xs) cpu to h in
    let t : target_of v ≡ to = single_to c (target_of v) (settled c xs) (answers xs) cpu to h in
    let low : target_of v ≤ 100 =
    low_of (target_of v) (second_of (is_sibling n c) (ltb 100 (target_of v)) (ap (is_sibling n) w.0 ∙ sib) none) in
    (omega (arith, t, low), refl)
begins_low n head xs before (Boot k) cpu to few sib off none thawed h = absurd (true≢false none)
begins_low n head xs before (Freeze q) cpu to few sib off none thawed h =
    let w = freeze_walk (wakeup_pending xs) (failures (answers xs)) (to_freeze head q before xs) cpu to h in
    let p = in_filter (λ c. not (eqb c (primary_of q (online head before))) && not (among c (begun xs))) cpu (online head before) w in
    let o = in_filter (λ c. is_online c before) cpu (numbers head.possible) p.1 in
    absurd (true≢false (sym o.0 ∙ off cpu sib))
begins_low n head xs before Thaw cpu to few sib off none thawed h =
    let w = first_walk 200 (to_thaw xs) (Ok (pos (length (failures (answers xs))))) cpu to h in
    let p = in_filter (λ c. ltb (settled c xs) 200 && not (among c (begun xs))) cpu (frozen xs) w in
    absurd (true≢false (sym (is_among cpu (frozen xs) p.1) ∙ thawed))
begins_low n head xs before (UpMany set) cpu to few sib off none thawed h =
    let w = batch_walk (unbegun (batch head before (UpMany set)) xs) (is_walking xs) (Ok (pos (length (failures (answers xs))))) cpu to h in
    let u = in_filter (λ c. not (among c (begun xs))) cpu (batch head before (UpMany set)) w in
    let b = in_filter (λ c. has set c && ltb (settled c before) 200) cpu (numbers head.possible) u.1 in
    let there = (and_parts (has set cpu) (ltb (settled cpu before) 200) b.0).0 in
    absurd (none_listed n set cpu head.possible few none there sib b.1)
begins_low n head xs before Disable cpu to few sib off none thawed h = absurd (not_walk (Ok (pos 0)) cpu to h)
begins_low n head xs before Enable cpu to few sib off none thawed h = absurd (not_walk (Ok (pos 0)) cpu to h)
begins_low n head xs before op cpu to few sib off none thawed h = absurd (not_nothing cpu to h)

-- ---- an event more

-- one that moves no processor and leaves what is in flight
still : (n : ℕ) (xs ys : List Event) → ((c : ℕ) → settled c ys ≡ settled c xs) → operation ys ≡ operation xs → frozen ys ≡ frozen xs →
    ((c : ℕ) → walk c ys ≡ walk c xs) → IsShut n xs → IsShut n ys
still n xs ys settles holds freezes walks_on s = record {
  offline = λ c sib. ap (ltb 100) (settles c) ∙ s.offline c sib;
  entered = λ o is. s.entered o (sym holds ∙ is);
  brings_none_up = λ o is. s.brings_none_up o (sym holds ∙ is);
  none_frozen = λ c sib. ap (among c) freezes ∙ s.none_frozen c sib;
  low = λ c w sib is.
      let l = s.low c w sib (sym (walks_on c) ∙ is) in
      record { from_low = l.from_low; to_low = l.to_low; not_frozen = ap (held_by is_freeze) holds ∙ l.not_frozen };
}

-- an operation enters where no walk is in flight
enters : (n : ℕ) (head : Head) (xs : List Event) (seat : ℕ) (op : Op) → Comes head xs (Enter seat op) → Owners xs →
    is_up_of_sibling n op ≡ false → IsShut n xs → IsShut n (xs ++ Enter seat op ∷ [])
enters n head xs seat op h own tame s = record {
  offline = λ c sib. ap (ltb 100) (settled_push c xs (Enter seat op)) ∙ s.offline c sib;
  entered = λ o is. subst (λ (z : Operation). AreOffline n z.before) (the_one o is) s.offline;
  brings_none_up = λ o is. subst (λ (z : Operation). is_up_of_sibling n z.op ≡ false) (the_one o is) tame;
  none_frozen = λ c sib. ap (among c) (frozen_push xs (Enter seat op)) ∙ emptied (is_freeze op) c (s.none_frozen c sib);
  low = λ c w sib is. absurd (enters_at_rest head xs seat op own h c w (sym (walk_push c xs (Enter seat op)) ∙ is));
}
  where
    now : Operation
    now = record { seat = seat; op = op; before = xs }

    the_one : (o : Operation) → operation (xs ++ Enter seat op ∷ []) ≡ Some o → now ≡ o
    the_one o is = same_some now o (sym (operation_push xs (Enter seat op)) ∙ is)

    emptied : (b : Bool) (c : ℕ) → among c (frozen xs) ≡ false → among c (cond b [] (frozen xs)) ≡ false
    emptied true c none = refl
    emptied false c none = none

-- an operation ends where none is
ends_at_rest : (n : ℕ) (head : Head) (xs : List Event) (seat : ℕ) (answer : Answer) → Comes head xs (OpEnd seat answer) → Owners xs →
    IsShut n xs → IsShut n (xs ++ OpEnd seat answer ∷ [])
ends_at_rest n head xs seat answer h own s = record {
  offline = λ c sib. ap (ltb 100) (settled_push c xs (OpEnd seat answer)) ∙ s.offline c sib;
  entered = λ o is. absurd (none_some o (sym (operation_push xs (OpEnd seat answer)) ∙ is));
  brings_none_up = λ o is. absurd (none_some o (sym (operation_push xs (OpEnd seat answer)) ∙ is));
  none_frozen = λ c sib.
      ap (among c) (frozen_push xs (OpEnd seat answer)) ∙ emptied (held_by is_thaw (operation xs)) c (s.none_frozen c sib);
  low = λ c w sib is.
      absurd (none_some w (sym (walk_none xs (over_at_rest head xs seat answer own h) c) ∙ (sym (walk_push c xs (OpEnd seat answer)) ∙ is)));
}
  where
    emptied : (b : Bool) (c : ℕ) → among c (frozen xs) ≡ false → among c (cond b [] (frozen xs)) ≡ false
    emptied true c none = refl
    emptied false c none = none

-- a walk of a sibling that begins is a low one
begins : (n : ℕ) (head : Head) (xs : List Event) (seat cpu from to : ℕ) → head.possible ≤ 256 → WalkBegins head xs seat cpu from to →
    IsShut n xs → IsShut n (xs ++ WalkBegin seat cpu from to ∷ [])
begins n head xs seat cpu from to few h s = record {
  offline = λ c sib. ap (ltb 100) (settled_push c xs e) ∙ s.offline c sib;
  entered = λ o is. s.entered o (sym (operation_push xs e) ∙ is);
  brings_none_up = λ o is. s.brings_none_up o (sym (operation_push xs e) ∙ is);
  none_frozen = λ c sib. ap (among c) (frozen_push xs e) ∙ s.none_frozen c sib;
  low = λ c w sib is.
      let l = go c w sib (eqb cpu c) refl (sym (walk_push c xs e) ∙ is) in
      record { from_low = l.from_low; to_low = l.to_low; not_frozen = ap (held_by is_freeze) (operation_push xs e) ∙ l.not_frozen };
}
  where
    e : Event
    e = WalkBegin seat cpu from to

    here : Walk
    here = record { seat = seat; from = from; to = to; before = xs }

    first : is_sibling n cpu ≡ true → WalksLow xs here
    first sib =
        let b = begins_low n head xs h.of.before h.of.op cpu to few sib (s.entered h.of h.held) (s.brings_none_up h.of h.held)
        (s.none_frozen cpu sib) h.gives in
        let f : from ≤ 100 = let l = low_of (settled cpu xs) (s.offline cpu sib) in let is = h.from_is in omega (arith, l, is) in
        record { from_low = f; to_low = b.0; not_frozen = ap (held_by is_freeze) h.held ∙ b.1 }

    go : (c : ℕ) (w : Walk) → is_sibling n c ≡ true → (b : Bool) → eqb cpu c ≡ b → cond b (Some here) (walk c xs) ≡ Some w → WalksLow xs w
    go c w sib true same is =
        subst (λ (z : Walk). WalksLow xs z) (same_some here w is) (first (ap (is_sibling n) (eqb-true cpu c same) ∙ sib))
    go c w sib false same is = s.low c w sib is

-- it leaves its processor below the states at which it is online, and a freeze records no sibling
left_low : (n : ℕ) (head : Head) (xs : List Event) (seat cpu : ℕ) (answer : Answer) (h : WalkEnds head xs seat cpu answer) →
    WalksLow xs h.of → settled cpu xs ≤ 100 → leaves_at answer h.of.to (settled cpu xs) ≤ 100
left_low n head xs seat cpu (Ok value) h l at = l.to_low
left_low n head xs seat cpu (Refused errno) h l at = at
left_low n head xs seat cpu (Fault code) h l at = at
left_low n head xs seat cpu (Stuck first second where_) h l at =
    stuck_most cpu _ h.of.from h.of.to 100 _ first second where_ h.whole l.from_low l.to_low
left_low n head xs seat cpu LogFull h l at = at

walk_ends : (n : ℕ) (head : Head) (xs : List Event) (seat cpu : ℕ) (answer : Answer) → WalkEnds head xs seat cpu answer →
    IsShut n xs → IsShut n (xs ++ WalkEnd seat cpu answer ∷ [])
walk_ends n head xs seat cpu answer h s = record {
  offline = λ c sib. ap (ltb 100) (settled_push c xs e) ∙ off c sib (eqb cpu c) refl;
  entered = λ o is. s.entered o (sym (operation_push xs e) ∙ is);
  brings_none_up = λ o is. s.brings_none_up o (sym (operation_push xs e) ∙ is);
  none_frozen = λ c sib.
      ap (among c) (frozen_push xs e)
      ∙ unrecorded c sib (held_by is_freeze (operation xs)) refl (is_ok answer) (eqb cpu c) refl;
  low = λ c w sib is.
      let l = s.low c w sib (walked c w (eqb cpu c) (sym (walk_push c xs e) ∙ is)) in
      record { from_low = l.from_low; to_low = l.to_low; not_frozen = ap (held_by is_freeze) (operation_push xs e) ∙ l.not_frozen };
}
  where
    e : Event
    e = WalkEnd seat cpu answer

    walked : (c : ℕ) (w : Walk) (b : Bool) → cond b None (walk c xs) ≡ Some w → walk c xs ≡ Some w
    walked c w true is = absurd (none_some w is)
    walked c w false is = is

    own_low : (c : ℕ) → is_sibling n c ≡ true → cpu ≡ c → WalksLow xs h.of
    own_low c sib same = s.low cpu h.of (ap (is_sibling n) same ∙ sib) h.in_flight

    left : (c : ℕ) → is_sibling n c ≡ true → cpu ≡ c → left_at answer (walk cpu xs) (settled cpu xs) ≤ 100
    left c sib same =
        let at = low_of (settled cpu xs) (s.offline cpu (ap (is_sibling n) same ∙ sib)) in
        subst (λ (w : Option Walk). left_at answer w (settled cpu xs) ≤ 100) (sym h.in_flight)
        (left_low n head xs seat cpu answer h (own_low c sib same) at)

    off : (c : ℕ) → is_sibling n c ≡ true → (b : Bool) → eqb cpu c ≡ b →
        ltb 100 (cond b (left_at answer (walk c xs) (settled c xs)) (settled c xs)) ≡ false
    off c sib true is =
        let same = eqb-true cpu c is in
        off_at (left_at answer (walk c xs) (settled c xs))
        (subst (λ (z : ℕ). left_at answer (walk z xs) (settled z xs) ≤ 100) same (left c sib same))
    off c sib false is = s.offline c sib

    apart : (c : ℕ) → is_sibling n c ≡ true → held_by is_freeze (operation xs) ≡ true → eqb cpu c ≡ true → ⊥
    apart c sib freezing is = true≢false (sym freezing ∙ (own_low c sib (eqb-true cpu c is)).not_frozen)

    behind : (c : ℕ) (b : Bool) → eqb cpu c ≡ b → (b ≡ true → ⊥) → among c (frozen xs) ≡ false → among c (frozen xs ++ cpu ∷ []) ≡ false
    behind c true same other none = absurd (other refl)
    behind c false same other none =
        let more : occurs c (frozen xs ++ cpu ∷ []) ≡ occurs c (frozen xs) =
        occurs-append c (frozen xs) (cpu ∷ []) ∙ (let z : occurs c (cpu ∷ []) ≡ 0 = ap (λ b. cond b 1 0 + 0) same in omega (arith, z)) in
        ap (ltb 0) more ∙ none

    unrecorded : (c : ℕ) → is_sibling n c ≡ true → (f : Bool) → held_by is_freeze (operation xs) ≡ f → (ok : Bool) (b : Bool) →
        eqb cpu c ≡ b → among c (cond (f && ok) (frozen xs ++ cpu ∷ []) (frozen xs)) ≡ false
    unrecorded c sib true f true b same = behind c b same (λ is. apart c sib f (same ∙ is)) (s.none_frozen c sib)
    unrecorded c sib true f false b same = s.none_frozen c sib
    unrecorded c sib false f ok b same = s.none_frozen c sib

-- whatever event stands next, but for the Enter of an operation that brings a sibling up, leaves it so
pub shut_step : (n : ℕ) (head : Head) (xs : List Event) (e : Event) → IsHead head → Owners xs → Comes head xs e → LetsNoneUp n e →
    IsShut n xs → IsShut n (xs ++ e ∷ [])
shut_step n head xs (Enter seat op) hd own h tame s = enters n head xs seat op h own tame s
shut_step n head xs (OpEnd seat answer) hd own h tame s = ends_at_rest n head xs seat answer h own s
shut_step n head xs (WalkBegin seat cpu from to) hd own h tame s =
    let few = hd.few_possible in begins n head xs seat cpu from to (omega (arith, few)) h s
shut_step n head xs (WalkEnd seat cpu answer) hd own h tame s = walk_ends n head xs seat cpu answer h s
shut_step n head xs e hd own h tame s =
    still n xs (xs ++ e ∷ []) (λ c. settled_push c xs e) (operation_push xs e) (frozen_push xs e) (λ c. walk_push c xs e) s

-- and so it is where no sibling is online, no operation is in flight and nothing is frozen
pub shut_now : (n : ℕ) (head : Head) (xs : List Event) → IsLawful head xs → operation xs ≡ None → AreOffline n xs → frozen xs ≡ [] →
    IsShut n xs
shut_now n head xs lawful free off none = record {
  offline = off;
  entered = λ o is. absurd (none_some o (sym free ∙ is));
  brings_none_up = λ o is. absurd (none_some o (sym free ∙ is));
  none_frozen = λ c sib. ap (among c) none;
  low = λ c w sib is.
      let o = (owners head xs lawful).walk_op c w is in absurd (none_some o.0 (sym free ∙ o.1));
}

-- then every processor that is online is a primary
pub shut_primaries : (n : ℕ) (xs : List Event) → IsShut n xs → (c : ℕ) → is_online c xs ≡ true → is_sibling n c ≡ false
shut_primaries n xs s c on = go (is_sibling n c) refl
  where
    go : (b : Bool) → is_sibling n c ≡ b → b ≡ false
    go true e = absurd (true≢false (sym on ∙ s.offline c e))
    go false e = refl
