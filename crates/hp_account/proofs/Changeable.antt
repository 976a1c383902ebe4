-- A registration that begins can be made in the table.
use Rattle.std.proofs.Common.{◌≡◌, ℕ, ◌<◌, Bool, true, false, not, ◌||◌, eqb, leb, is_none, Option, Some, None, IsSome, List, [], length, refl, sym, ap, ◌∙◌, arith}
use Rattle.std.proofs.lemmas.Bool.{true≢false, or_parts, leb-false}
use Rattle.hp_model.proofs.InFlight.{empty_of}
use Rattle.hp_states.proofs.Basics.{not_false, same_some, none_of}
use Rattle.hp_states.specs.declared.limits.TheConstants.{ONLINE, MAX_INSTANCES, MAX_TABLE_INSTANCES}
use Rattle.hp_states.specs.Sections.{is_dynamic}
use Rattle.hp_event.specs.declared.op.Op.{Op}
use Rattle.hp_event.specs.declared.op.Op.TheVariants.{Setup, Remove, Add, Del}
use Rattle.hp_event.specs.declared.head.Head.{Head}
use Rattle.hp_event.specs.declared.event.Event.{Event}
use Rattle.hp_model.specs.Lists.{is_empty, among}
use Rattle.hp_model.specs.Registrations.{registration}
use Rattle.hp_model.specs.Registered.{instances, instance_count}
use Rattle.hp_model.specs.Subsystems.{sub_numbered, has_no_name}
use Rattle.hp_model.specs.Resolved.{resolved}
use Rattle.hp_model.specs.RefusalsAtOnce.{refusals_at_once}
use Rattle.hp_model.specs.Refusals.{refusals_after_waits, is_multi_state}
use Rattle.hp_model.specs.StandsRegistrations.{RegBegins}
use Rattle.hp_model.proofs.Passing.{passed, none_holds, setup_unnamed, above_0, begins_alone}
use Rattle.hp_table.specs.Step.{Step, step_at}
use Rattle.hp_table.specs.Instances.{instances_at, is_multi, takes, has_no_room, has_instance}
use Rattle.hp_table.specs.Sound.{IsSound}
use Rattle.hp_account.specs.Table.{IsTableOf}
use Rattle.hp_account.specs.TableChanges.{CanChange}
use Rattle.hp_account.proofs.TableSays.{says, named_alike, none_alike, insts_alike, multi_alike, among_alike, count_alike, slot_below}

-- a registration that begins finds none in flight
pub begins_idle : (head : Head) (es : List Event) (seat state : ℕ) (op : Op) → RegBegins head es seat state op → registration es ≡ None
begins_idle head es seat state op b = none_of (registration es) (begins_alone head es op state b.state_is b.passes.not_waiting).1

-- a setup's state is below the highest
setup_below : (head : Head) (es : List Event) (asked state : ℕ) (b : Bool) → is_dynamic asked ≡ b → asked < ONLINE →
    resolved head es (Setup asked 0 (record { nocalls = false; locked = false })) ≡ Some state → state < ONLINE
setup_below head es asked state true d below r = slot_below head es asked state d (rw d at r)
setup_below head es asked state false d below r =
    let is : asked ≡ state = same_some asked state (rw d at r) in omega (arith, is, below)

some_there : (place : Option Step) → is_none place ≡ false → IsSome place
some_there None h = absurd (true≢false h)
some_there (Some step) h = refl

pub can_change : (head : Head) (es : List Event) (places : List (Option Step)) (seat : ℕ) (op : Op) (state : ℕ) →
    IsTableOf head es places → IsSound places → RegBegins head es seat state op → CanChange head op state places
can_change head es places seat (Setup asked number form) state t sound b =
    let idle = begins_idle head es seat state (Setup asked number form) b in
    let p = passed head es seat (Setup asked number form) b.free.idle b.passes.not_waiting b.passes.not_refused in
    let first = none_holds (refusals_at_once head es seat (Setup asked number form)) p.0 in
    let late = none_holds (refusals_after_waits head es (Setup asked number form)) p.1 in
    let parts = or_parts (eqb asked 0) (leb ONLINE asked || has_no_name (sub_numbered head number)) first.1.1.0 in
    let more = or_parts (leb ONLINE asked) (has_no_name (sub_numbered head number)) parts.1 in
    let below : asked < ONLINE = leb-false ONLINE asked more.0 in
    let unnamed = setup_unnamed head es asked state (is_dynamic asked) b.state_is late.0 in (
      b.has_sub,
      above_0 head state es unnamed,
      setup_below head es asked state (is_dynamic asked) refl below b.state_is,
      sym (named_alike head es places state idle t) ∙ unnamed,
    )
can_change head es places seat (Remove s form) state t sound b =
    let idle = begins_idle head es seat state (Remove s form) b in
    let p = passed head es seat (Remove s form) b.free.idle b.passes.not_waiting b.passes.not_refused in
    let late = none_holds (refusals_after_waits head es (Remove s form)) p.1 in
    let at : s ≡ state = same_some s state b.state_is in
    let is = says head es places s idle t in
    let there : is_none (step_at places s) ≡ false = sym (ap is_none is ∙ none_alike (step_at places s)) ∙ late.0 in
    let none : instances_at places s ≡ [] =
    empty_of (instances_at places s)
    (sym (ap (λ r. not (is_empty (instances r))) is ∙ ap (λ xs. not (is_empty xs)) (insts_alike (step_at places s))) ∙ late.1.0) in
    rw (← at) (some_there (step_at places s) there, none)
can_change head es places seat (Add s inst form) state t sound b =
    let idle = begins_idle head es seat state (Add s inst form) b in
    let p = passed head es seat (Add s inst form) b.free.idle b.passes.not_waiting b.passes.not_refused in
    let first = none_holds (refusals_at_once head es seat (Add s inst form)) p.0 in
    let late = none_holds (refusals_after_waits head es (Add s inst form)) p.1 in
    let at : s ≡ state = same_some s state b.state_is in
    let is = says head es places s idle t in
    let multi : is_multi (step_at places s) ≡ true =
    not_false (is_multi (step_at places s)) (sym (ap (λ r. not (is_multi_state r)) is ∙ ap not (multi_alike (step_at places s))) ∙ late.0) in
    let new : has_instance places s inst ≡ false =
    sym (ap (λ r. among inst (instances r)) is ∙ among_alike inst (step_at places s)) ∙ late.1.0 in
    let full : has_no_room places s ≡ false =
    sym
    (ap (λ r. leb MAX_INSTANCES (length (instances r)) || leb MAX_TABLE_INSTANCES (instance_count head es)) is
    ∙ ap (λ xs. leb MAX_INSTANCES (length xs) || leb MAX_TABLE_INSTANCES (instance_count head es)) (insts_alike (step_at places s))
    ∙ ap (λ n. leb MAX_INSTANCES (length (instances_at places s)) || leb MAX_TABLE_INSTANCES n)
    (count_alike head es places idle t sound.states))
    ∙ late.1.1.0 in
    let taken : takes places s inst ≡ true = rw (first.1.1.0, multi) refl in
    rw (← at) (record { taken = taken; new = new; room = full })
can_change head es places seat (Del s inst form) state t sound b =
    let idle = begins_idle head es seat state (Del s inst form) b in
    let p = passed head es seat (Del s inst form) b.free.idle b.passes.not_waiting b.passes.not_refused in
    let late = none_holds (refusals_after_waits head es (Del s inst form)) p.1 in
    let at : s ≡ state = same_some s state b.state_is in
    let is = says head es places s idle t in
    let multi : is_multi (step_at places s) ≡ true =
    not_false (is_multi (step_at places s)) (sym (ap (λ r. not (is_multi_state r)) is ∙ ap not (multi_alike (step_at places s))) ∙ late.0) in
    let has : has_instance places s inst ≡ true =
    not_false (has_instance places s inst)
    (sym (ap (λ r. not (among inst (instances r))) is ∙ ap not (among_alike inst (step_at places s))) ∙ late.1.0) in
    rw (← at, multi, has) refl
can_change head es places seat op state t sound b = absurd (cc)
