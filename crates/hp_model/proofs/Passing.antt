-- What an operation that passes has: none of the refusals holds, so a registration can begin.
use Rattle.std.proofs.Common.{◌≡◌, ℕ, zero, suc, ◌-◌, ◌<◌, Bool, true, false, cond, not, ◌&&◌, ltb, is_some, is_none, Option, Some, None, List, [], ◌∷◌, ◌++◌, refl, sym, ◌∙◌, arith}
use Rattle.std.specs.Prelude.{find}
use Rattle.std.proofs.lemmas.Bool.{true≢false, or_parts}
use Rattle.std.proofs.lemmas.Bool.Decides.{nat_tests}
use Rattle.hp_states.proofs.Basics.{none_of, not_true, same_some, some_none, not_false}
use Rattle.hp_states.specs.Sections.{is_dynamic, end_of_range, name_of_builtin}
use Rattle.hp_event.specs.declared.op.Op.{Op}
use Rattle.hp_event.specs.declared.op.Op.TheVariants.{Setup, Remove, Add, Del}
use Rattle.hp_event.specs.declared.head.Head.{Head}
use Rattle.hp_event.specs.declared.event.Event.{Event}
use Rattle.hp_model.specs.Lists.{occurs, among, is_empty, rising}
use Rattle.hp_model.specs.Registrations.{is_registering}
use Rattle.hp_model.specs.Registered.{Registered, registered, is_named, instances}
use Rattle.hp_model.specs.Resolved.{lowest_free, resolved}
use Rattle.hp_model.specs.Walks.{is_walking}
use Rattle.hp_model.specs.Seats.{is_busy}
use Rattle.hp_model.specs.Waits.{is_waiting}
use Rattle.hp_model.specs.Batch.{is_batch_begun}
use Rattle.hp_model.proofs.WaitLemmas.{is_writing, register_waits}
use Rattle.hp_model.specs.RefusalsAtOnce.{Check, first_that_holds, refusals_at_once}
use Rattle.hp_model.specs.Refusals.{refusals_after_waits, refusal, is_multi_state}
use Rattle.hp_model.proofs.CanBegin.{CanBegin}
use Rattle.hp_model.proofs.InFlight.{empty_of}

-- refusals that aren't given
abbrev pub NoneHolds : List Check → Type 0
NoneHolds [] = Unit {0}
NoneHolds (x ∷ xs) = (x.holds ≡ false) × NoneHolds xs

pub none_holds : (xs : List Check) → first_that_holds xs ≡ None → NoneHolds xs
none_holds [] h = tt
none_holds (x ∷ xs) h = go x.holds refl h (none_holds xs)
  where
    go : (b : Bool) → x.holds ≡ b → cond b (Some x.errno) (first_that_holds xs) ≡ None →
        (first_that_holds xs ≡ None → NoneHolds xs) → (x.holds ≡ false) × NoneHolds xs
    go true e h rest = absurd (some_none x.errno h)
    go false e h rest = (e, rest h)

first_parts : (xs ys : List Check) → first_that_holds (xs ++ ys) ≡ None →
    (first_that_holds xs ≡ None) × (first_that_holds ys ≡ None)
first_parts [] ys h = (refl, h)
first_parts (x ∷ xs) ys h = go x.holds h (first_parts xs ys)
  where
    go : (b : Bool) → cond b (Some x.errno) (first_that_holds (xs ++ ys)) ≡ None →
        (first_that_holds (xs ++ ys) ≡ None → (first_that_holds xs ≡ None) × (first_that_holds ys ≡ None)) →
        (cond b (Some x.errno) (first_that_holds xs) ≡ None) × (first_that_holds ys ≡ None)
    go true h rest = absurd (some_none x.errno h)
    go false h rest = rest h

-- neither a refusal at once nor one after the waits
pub passed : (head : Head) (xs : List Event) (k : ℕ) (op : Op) → is_busy k xs ≡ false → is_waiting xs op ≡ false →
    refusal head xs k op ≡ None →
    (first_that_holds (refusals_at_once head xs k op) ≡ None) × (first_that_holds (refusals_after_waits head xs op) ≡ None)
passed head xs k op idle ready h =
    let h1 : first_that_holds (refusals_at_once head xs k op ++ refusals_after_waits head xs op) ≡ None = rw (idle, ready) at h in
    first_parts (refusals_at_once head xs k op) (refusals_after_waits head xs op) h1

unnamed : (head : Head) (s : ℕ) (xs : List Event) → is_named head s xs ≡ false → registered head s xs ≡ None
unnamed head s xs h =
    none_of (registered head s xs) (or_parts (is_some (name_of_builtin s)) (is_some (registered head s xs)) h).1

-- the lowest state is named
pub above_0 : (head : Head) (s : ℕ) (xs : List Event) → is_named head s xs ≡ false → 0 < s
above_0 head zero xs h = absurd (true≢false h)
above_0 head (suc n) xs h = omega arith

pub find_holds : (p : ℕ → Bool) (s : ℕ) (xs : List ℕ) → find p xs ≡ Some s → p s ≡ true
find_holds p s [] h = absurd (some_none s (sym h))
find_holds p s (x ∷ xs) h = go (p x) refl h (find_holds p s xs)
  where
    same : (y : ℕ) → Some x ≡ Some y → x ≡ y
    same y e = cc

    go : (b : Bool) → p x ≡ b → cond b (Some x) (find p xs) ≡ Some s → (find p xs ≡ Some s → p s ≡ true) → p s ≡ true
    go true e h rest = rw (← (same s h)) e
    go false e h rest = rest h

-- a free slot of a range isn't named
pub lowest_free_unnamed : (head : Head) (asked s : ℕ) (xs : List Event) → lowest_free head asked xs ≡ Some s →
    is_named head s xs ≡ false
unfolding lowest_free
lowest_free_unnamed head asked s xs h =
    not_true (is_named head s xs) (find_holds (λ s. not (is_named head s xs)) s (asked ∷ rising asked (end_of_range asked - asked)) h)

-- the state of a setup that passes isn't named
pub setup_unnamed : (head : Head) (xs : List Event) (s state : ℕ) → (b : Bool) →
    cond b (lowest_free head s xs) (Some s) ≡ Some state →
    (not b && is_named head s xs) ≡ false → is_named head state xs ≡ false
setup_unnamed head xs s state true r p = lowest_free_unnamed head s state xs r
setup_unnamed head xs s state false r p = let e : s ≡ state = same r in rw (← e) p
  where
    same : Some s ≡ Some state → s ≡ state
    same e = cc

pub none_at : (n : ℕ) → ltb 0 n ≡ false → n ≡ 0
none_at n h = grind (arith, nat_tests)

some_at : (n : ℕ) → not (ltb 0 n) ≡ false → 0 < n
some_at n h = grind (arith, nat_tests)

can_remove : (found : Option Registered) → is_none found ≡ false → not (is_empty (instances found)) ≡ false →
    (r : Registered) × (found ≡ Some r) × (r.multi ≡ true → r.insts ≡ [])
can_remove None h k = absurd (true≢false h)
can_remove (Some r) h k = (r, refl, λ m. empty_of r.insts k)

can_add : (i : ℕ) (found : Option Registered) → not (is_multi_state found) ≡ false → among i (instances found) ≡ false →
    (r : Registered) × (found ≡ Some r) × (r.multi ≡ true) × (occurs i r.insts ≡ 0)
can_add i None h k = absurd (true≢false h)
can_add i (Some r) h k = (r, refl, not_false r.multi h, none_at (occurs i r.insts) k)

can_del : (i : ℕ) (found : Option Registered) → not (is_multi_state found) ≡ false → not (among i (instances found)) ≡ false →
    (r : Registered) × (found ≡ Some r) × (r.multi ≡ true) × (0 < occurs i r.insts)
can_del i None h k = absurd (true≢false h)
can_del i (Some r) h k = (r, refl, not_false r.multi h, some_at (occurs i r.insts) k)

-- an operation that resolves to a state and isn't refused can begin its registration there
pub can_begin : (head : Head) (xs : List Event) (op : Op) (state : ℕ) → resolved head xs op ≡ Some state →
    first_that_holds (refusals_after_waits head xs op) ≡ None → CanBegin op (registered head state xs)
can_begin head xs (Setup s sub form) state r h =
    let p = none_holds (refusals_after_waits head xs (Setup s sub form)) h in
    unnamed head state xs (setup_unnamed head xs s state (is_dynamic s) r p.0)
can_begin head xs (Remove s form) state r h =
    let p = none_holds (refusals_after_waits head xs (Remove s form)) h in
    rw (← (same_some s state r)) (can_remove (registered head s xs) p.0 p.1.0)
can_begin head xs (Add s i form) state r h =
    let p = none_holds (refusals_after_waits head xs (Add s i form)) h in
    rw (← (same_some s state r)) (can_add i (registered head s xs) p.0 p.1.0)
can_begin head xs (Del s i form) state r h =
    let p = none_holds (refusals_after_waits head xs (Del s i form)) h in
    rw (← (same_some s state r)) (can_del i (registered head s xs) p.0 p.1.0)
can_begin head xs op state r h = absurd (some_none state (sym r))

-- nothing begins at the lowest state, where nothing is ever registered
some_above : (head : Head) (xs : List Event) (s : ℕ) (r : Registered) → registered head 0 xs ≡ None →
    registered head s xs ≡ Some r → 0 < s
some_above head xs zero r none h = absurd (some_none r (sym h ∙ none))
some_above head xs (suc n) r none h = omega arith

pub begins_above : (head : Head) (xs : List Event) (op : Op) (state : ℕ) → registered head 0 xs ≡ None →
    resolved head xs op ≡ Some state → first_that_holds (refusals_after_waits head xs op) ≡ None → 0 < state
begins_above head xs (Setup s sub form) state none r h =
    let p = none_holds (refusals_after_waits head xs (Setup s sub form)) h in
    above_0 head state xs (setup_unnamed head xs s state (is_dynamic s) r p.0)
begins_above head xs (Remove s form) state none r h =
    let c = can_begin head xs (Remove s form) state r h in some_above head xs state c.0 none c.1
begins_above head xs (Add s i form) state none r h =
    let c = can_begin head xs (Add s i form) state r h in some_above head xs state c.0 none c.1
begins_above head xs (Del s i form) state none r h =
    let c = can_begin head xs (Del s i form) state r h in some_above head xs state c.0 none c.1
begins_above head xs op state none r h = absurd (some_none state (sym r))

-- a registration that waits for nothing finds the write side free and no registration in flight
begins_free : (head : Head) (xs : List Event) (op : Op) (state : ℕ) → resolved head xs op ≡ Some state →
    is_waiting xs op ≡ false → (is_writing xs ≡ false) × (is_registering xs ≡ false)
begins_free head xs (Setup s sub form) state r h =
    or_parts (is_writing xs) (is_registering xs) (sym (register_waits xs) ∙ h)
begins_free head xs (Remove s form) state r h =
    or_parts (is_writing xs) (is_registering xs) (sym (register_waits xs) ∙ h)
begins_free head xs (Add s i form) state r h =
    or_parts (is_writing xs) (is_registering xs) (sym (register_waits xs) ∙ h)
begins_free head xs (Del s i form) state r h =
    or_parts (is_writing xs) (is_registering xs) (sym (register_waits xs) ∙ h)
begins_free head xs op state r h = absurd (some_none state (sym r))

-- so no walk is in flight, and no upmany that has begun one
pub begins_alone : (head : Head) (xs : List Event) (op : Op) (state : ℕ) → resolved head xs op ≡ Some state →
    is_waiting xs op ≡ false → (is_walking xs ≡ false) × (is_registering xs ≡ false)
begins_alone head xs op state r h =
    let f = begins_free head xs op state r h in ((or_parts (is_walking xs) (is_batch_begun xs) f.0).0, f.1)

pub begins_no_batch : (head : Head) (xs : List Event) (op : Op) (state : ℕ) → resolved head xs op ≡ Some state →
    is_waiting xs op ≡ false → is_batch_begun xs ≡ false
begins_no_batch head xs op state r h =
    (or_parts (is_walking xs) (is_batch_begun xs) (begins_free head xs op state r h).0).1
