-- What the parts of the account say of refusals is what the journal says.
use Rattle.std.proofs.Common.{◌≡◌, ℕ, ◌+◌, ◌<◌, Bool, true, false, not, ◌||◌, cond, ltb, is_some, Option, Some, None, List, [], ◌∷◌, ◌++◌, length, map, get_or, refl, sym, ap, ◌∙◌, arith}
use Rattle.std.specs.Prelude.{ℤ, option_map, Result, Ok, Err, IfSome}
use Rattle.std.specs.Result.{result_err}
use Rattle.std.specs.List.{count_by}
use Rattle.std.proofs.lemmas.Bool.{or_parts}
use Rattle.std.proofs.lemmas.Bool.Decides.{nat_tests}
use Rattle.std.proofs.lemmas.List.{get_or-map, length-map}
use Rattle.std.proofs.lemmas.List.Sums.{length-filter, sum_by-cons}
use Rattle.hp_model.proofs.ListLemmas.{filter_agree}
use Rattle.hp_states.proofs.Basics.{not_below, none_of}
use Rattle.hp_states.specs.declared.limits.TheConstants.{ONLINE, EBUSY, EINVAL, ENOSPC}
use Rattle.hp_states.specs.declared.section.Range.{Range}
use Rattle.hp_states.specs.declared.dir.Dir.TheVariants.{Up, Down}
use Rattle.hp_states.specs.Sections.{is_online_state, is_stop, range_asked_by}
use Rattle.hp_event.specs.declared.head.Head.{Head}
use Rattle.hp_event.specs.declared.op.Form.{Form}
use Rattle.hp_event.specs.declared.op.Op.{Op}
use Rattle.hp_event.specs.declared.op.Op.TheVariants.{Setup, Add, Del}
use Rattle.hp_event.specs.declared.event.Event.{Event}
use Rattle.hp_model.specs.Processors.{is_present, online}
use Rattle.hp_model.specs.Settled.{is_online, settled}
use Rattle.hp_model.specs.Registrations.{registration, is_registering}
use Rattle.hp_model.specs.Seats.{is_busy}
use Rattle.hp_model.specs.Waits.{Wait, is_waiting, wait_to_begin, wait_to_register}
use Rattle.hp_model.specs.RefusalsAtOnce.{Check, if_so, first_that_holds, is_state, refusals_at_once}
use Rattle.hp_files.specs.Writes.{unless_refused, refusals_of_target_value, has_callback_of, HasCallbacksOf}
use Rattle.hp_model.specs.Calls.{number_found}
use Rattle.hp_model.specs.Sequence.{target_of}
use Rattle.hp_model.specs.Subsystems.{sub_numbered, has_callback}
use Rattle.hp_model.specs.Refusals.{one_online, refusals_of_target, refusals_after_waits, refusal}
use Rattle.hp_model.specs.Suspend.{is_disabled}
use Rattle.hp_model.proofs.WaitLemmas.{is_writing, register_waits}
use Rattle.hp_locks.specs.declared.why.Why.{Why}
use Rattle.hp_table.specs.Instances.{has_no_room, is_multi_at, has_instance}
use Rattle.hp_table.specs.Named.{is_named as is_named_in}
use Rattle.hp_table.specs.Slots.{IsLowestFree, IsFull}
use Rattle.hp_table.specs.Step.{Step, step_at}
use Rattle.hp_suspend.proofs.Places.{count_places, passing}
use Rattle.hp_account.specs.Locks.{why_of}
use Rattle.hp_account.specs.Processors.{ProcessorsView, IsStanding, online_count}
use Rattle.hp_account.specs.Table.{IsTableOf, IsStepOf, registered_by}
use Rattle.hp_model.specs.Refusals.{refusals_of_way}
use Rattle.hp_account.proofs.TableSays.{says, named_alike, count_alike, multi_alike, among_alike, insts_alike, asks_first, lowest_alike, full_alike}

-- how many pass a test, by what it says of each
flags : (test : ℕ → Bool) (xs : List ℕ) → count_by test xs ≡ count_by (λ b. b) (map test xs)
flags test [] = refl
flags test (x ∷ xs) =
    let a = sum_by-cons (λ n. cond (test n) 1 0) x xs in
    let b = sum_by-cons (λ t. cond t 1 0) (test x) (map test xs) in
    let rest = flags test xs in
    omega (arith, a, b, rest)

below : (a b : ℕ) → a < b → ltb a b ≡ true
below a b h = grind (arith, nat_tests)

-- as many are online as the journal says
pub online_said : (head : Head) (es : List Event) (p : ProcessorsView) → IsStanding head es p → online_count p ≡ length (online head es)
online_said head es p is =
    let on = map is_online_state p.settled in
    let places : length on ≡ head.possible = length-map p.settled is_online_state ∙ is.cpus in
    flags is_online_state p.settled ∙ sym (length-filter (λ b. b) on) ∙ count_places on ∙ ap (passing (λ c. get_or on c false)) places
    ∙ ap length (filter_agree (λ c. get_or on c false) (λ c. is_online c es) head.possible each)
  where
    each : (c : ℕ) → c < head.possible → get_or (map is_online_state p.settled) c false ≡ is_online c es
    each c below =
        let all = is.cpus in
        get_or-map is_online_state p.settled c 0 false (omega (arith, all, below)) ∙ ap is_online_state (is.settled_is c below)

-- why the way of a processor is refused
pub way_up : (head : Head) (es : List Event) (c to : ℕ) → settled c es < to →
    first_that_holds (refusals_of_way head es c to (settled c es))
    ≡ first_that_holds (if_so (is_disabled es) EBUSY ∷ if_so (not (is_present head c)) EINVAL ∷ [])
way_up head es c to over = rw (below (settled c es) to over, not_below to (settled c es) (omega arith)) refl

pub way_none : (head : Head) (es : List Event) (c to : ℕ) → settled c es ≡ to →
    first_that_holds (refusals_of_way head es c to (settled c es)) ≡ None
way_none head es c to same =
    rw (not_below (settled c es) to (omega arith), not_below to (settled c es) (omega arith)) refl

pub way_down : (head : Head) (es : List Event) (c to : ℕ) → to < settled c es →
    first_that_holds (refusals_of_way head es c to (settled c es))
    ≡ first_that_holds (if_so (is_disabled es || one_online head es) EBUSY ∷ if_so false EINVAL ∷ [])
way_down head es c to under =
    rw (not_below (settled c es) to (omega arith), below to (settled c es) under) (go (is_disabled es) (one_online head es))
  where
    go : (a b : Bool) → cond a (Some EBUSY) (cond b (Some EBUSY) None) ≡ cond (a || b) (Some EBUSY) None
    go true b = refl
    go false b = refl

-- a registration that waits for nothing finds no other
pub none_registers : (es : List Event) → is_some (wait_to_register es) ≡ false → registration es ≡ None
none_registers es h =
    none_of (registration es) (or_parts (is_writing es) (is_registering es) (sym (register_waits es) ∙ h)).1

-- why an add is refused
pub add_said : (head : Head) (es : List Event) (places : List (Option Step)) (s inst : ℕ) (form : Form) → registration es ≡ None →
    IsTableOf head es places → length places ≡ ONLINE + 1 →
    first_that_holds (refusals_after_waits head es (Add s inst form))
    ≡ cond (not (is_multi_at places s)) (Some EINVAL)
    (cond (has_instance places s inst) (Some EBUSY) (cond (has_no_room places s) (Some ENOSPC) None))
add_said head es places s inst form idle t states =
    rw (
      says head es places s idle t,
      count_alike head es places idle t states,
      multi_alike (step_at places s),
      among_alike inst (step_at places s),
      insts_alike (step_at places s),
    )
    refl

pub del_said : (head : Head) (es : List Event) (places : List (Option Step)) (s inst : ℕ) (form : Form) → registration es ≡ None →
    IsTableOf head es places →
    first_that_holds (refusals_after_waits head es (Del s inst form))
    ≡ cond (not (is_multi_at places s) || not (has_instance places s inst)) (Some EINVAL) None
del_said head es places s inst form idle t =
    rw (says head es places s idle t, multi_alike (step_at places s), among_alike inst (step_at places s))
    (go (is_multi_at places s) (has_instance places s inst))
  where
    go : (multi has : Bool) →
        cond (not multi) (Some EINVAL) (cond (not has) (Some EINVAL) None) ≡ cond (not multi || not has) (Some EINVAL) None
    go true true = refl
    go true false = refl
    go false has = refl

-- why a setup of a dynamic range is refused
pub slot_found : (head : Head) (es : List Event) (places : List (Option Step)) (range : Range) (asked s sub : ℕ) (form : Form) →
    registration es ≡ None → IsTableOf head es places → range_asked_by asked ≡ Some range → IsLowestFree places range s →
    first_that_holds (refusals_after_waits head es (Setup asked sub form)) ≡ None
slot_found head es places range asked s sub form idle t is free =
    let first = asks_first asked range is in
    rw (first.0, lowest_alike head es places range asked s idle t first.1 free) refl

pub slots_full : (head : Head) (es : List Event) (places : List (Option Step)) (range : Range) (asked sub : ℕ) (form : Form) →
    registration es ≡ None → IsTableOf head es places → range_asked_by asked ≡ Some range → IsFull places range →
    first_that_holds (refusals_after_waits head es (Setup asked sub form)) ≡ Some ENOSPC
slots_full head es places range asked sub form idle t is full =
    let first = asks_first asked range is in
    rw (first.0, full_alike head es places range asked idle t first.1 full) refl

-- the first of two rows that holds
first_left : (xs ys : List Check) (n : ℕ) → first_that_holds xs ≡ Some n → first_that_holds (xs ++ ys) ≡ Some n
first_left [] ys n h = absurd (cc)
first_left (x ∷ xs) ys n h = go x.holds h (first_left xs ys n)
  where
    go : (b : Bool) → cond b (Some x.errno) (first_that_holds xs) ≡ Some n →
        (first_that_holds xs ≡ Some n → first_that_holds (xs ++ ys) ≡ Some n) →
        cond b (Some x.errno) (first_that_holds (xs ++ ys)) ≡ Some n
    go true h rest = h
    go false h rest = rest h

first_right : (xs ys : List Check) → first_that_holds xs ≡ None → first_that_holds (xs ++ ys) ≡ first_that_holds ys
first_right [] ys h = refl
first_right (x ∷ xs) ys h = go x.holds h (first_right xs ys)
  where
    go : (b : Bool) → cond b (Some x.errno) (first_that_holds xs) ≡ None →
        (first_that_holds xs ≡ None → first_that_holds (xs ++ ys) ≡ first_that_holds ys) →
        cond b (Some x.errno) (first_that_holds (xs ++ ys)) ≡ first_that_holds ys
    go true h rest = absurd (cc)
    go false h rest = rest h

-- the refusal of a seat that has nothing in flight
pub refused_first : (head : Head) (es : List Event) (k : ℕ) (op : Op) (n : ℕ) → is_busy k es ≡ false →
    first_that_holds (refusals_at_once head es k op) ≡ Some n → refusal head es k op ≡ Some n
refused_first head es k op n idle h =
    rw idle (first_left (refusals_at_once head es k op) (cond (is_waiting es op) [] (refusals_after_waits head es op)) n h)

pub not_refused_yet : (head : Head) (es : List Event) (k : ℕ) (op : Op) → is_busy k es ≡ false →
    first_that_holds (refusals_at_once head es k op) ≡ None → is_waiting es op ≡ true → refusal head es k op ≡ None
not_refused_yet head es k op idle h waits =
    rw (idle, waits) (first_right (refusals_at_once head es k op) [] h)

pub refused_then : (head : Head) (es : List Event) (k : ℕ) (op : Op) → is_busy k es ≡ false →
    first_that_holds (refusals_at_once head es k op) ≡ None → is_waiting es op ≡ false →
    refusal head es k op ≡ first_that_holds (refusals_after_waits head es op)
refused_then head es k op idle h ready =
    rw (idle, ready) (first_right (refusals_at_once head es k op) (refusals_after_waits head es op) h)

-- what the locks answer where an operation waits
pub waits_said : (es : List Event) (op : Op) (why : Why) → Some why ≡ option_map why_of (wait_to_begin es op) → is_waiting es op ≡ true
waits_said es op why h = go (wait_to_begin es op) h
  where
    go : (w : Option Wait) → Some why ≡ option_map why_of w → is_some w ≡ true
    go None h = absurd (cc)
    go (Some w) h = refl

pub ready_said : (es : List Event) (op : Op) → None ≡ option_map why_of (wait_to_begin es op) → is_waiting es op ≡ false
ready_said es op h = go (wait_to_begin es op) h
  where
    go : (w : Option Wait) → None ≡ option_map why_of w → is_some w ≡ false
    go None h = refl
    go (Some w) h = absurd (cc)

-- a target that its value doesn't refuse is refused as its way is
pub target_said : (head : Head) (es : List Event) (places : List (Option Step)) (c state : ℕ) (v : ℤ) → registration es ≡ None →
    IsTableOf head es places → is_state v ≡ true →
    Ok state ≡ unless_refused (first_that_holds (refusals_of_target_value places v)) (target_of v) →
    first_that_holds (refusals_of_way head es c state (settled c es))
    ≡ first_that_holds (refusals_of_target head es c (target_of v) (settled c es))
target_said head es places c state v idle t is h =
    let h1 : Ok state ≡ unless_refused (cond (not (is_named_in places (target_of v))) (Some EINVAL)
    (cond (not (is_stop (target_of v))) (Some EINVAL) None)) (target_of v) = rw is at h in
    rw (named_alike head es places (target_of v) idle t) (go (is_named_in places (target_of v)) (is_stop (target_of v)) h1)
  where
    same : (n : ℕ) → ◌≡◌ {A = Result ℕ ℕ} (Ok state) (Ok n) → state ≡ n
    same n e = cc

    other : (n : ℕ) → ◌≡◌ {A = Result ℕ ℕ} (Ok state) (Err n) → ⊥
    other n e = cc

    go : (named stop : Bool) →
        Ok state ≡ unless_refused (cond (not named) (Some EINVAL) (cond (not stop) (Some EINVAL) None)) (target_of v) →
        first_that_holds (refusals_of_way head es c state (settled c es))
        ≡ cond (not named) (Some EINVAL) (cond (not stop) (Some EINVAL) (first_that_holds (refusals_of_way head es c (target_of v) (settled c es))))
    go true true h = ap (λ s. first_that_holds (refusals_of_way head es c s (settled c es))) (same (target_of v) h)
    go true false h = absurd (other EINVAL h)
    go false stop h = absurd (other EINVAL h)

-- the states with callbacks are those of the table
pub callbacks_alike : (head : Head) (es : List Event) (places : List (Option Step)) → registration es ≡ None → IsTableOf head es places →
    HasCallbacksOf head es places
callbacks_alike head es places idle t s = rw (says head es places s idle t) (go (step_at places s) (t.steps s))
  where
    go : (place : Option Step) → IfSome place (IsStepOf head es s) →
        (has_callback (sub_numbered head (number_found (registered_by place))) Up
        || has_callback (sub_numbered head (number_found (registered_by place))) Down)
        ≡ has_callback_of place
    go None is = refl
    go (Some step) is = let k = is.sub_is in let u = is.up_is in let d = is.down_is in rw (k, u, d) refl

-- the number by which an arming is refused
pub arm_said : (found : Option ℕ) (v : ℤ) (r : Result ℤ ℕ) → r ≡ unless_refused found v → result_err r ≡ found
arm_said None v r h = rw h refl
arm_said (Some n) v r h = rw h refl
