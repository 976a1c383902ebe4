-- The table after a registration's begin and after its end, by what the two changes make of it.
use Rattle.std.proofs.Common.{◌≡◌, ℕ, ◌<◌, Bool, true, false, not, ◌||◌, cond, eqb, Option, Some, None, IsSome, is_some, List, [], ◌∷◌, ◌++◌, length, refl, sym, ap, ◌∙◌, arith}
use Rattle.std.specs.Prelude.{slice_set}
use Rattle.std.proofs.lemmas.Bool.{eq-eqb, and_parts, false≢true, true≢false}
use Rattle.hp_event.specs.declared.op.Op.{Op}
use Rattle.hp_event.specs.declared.op.Op.TheVariants.{Setup, Remove, Add, Del}
use Rattle.hp_event.specs.declared.answer.Answer.{Answer}
use Rattle.hp_event.specs.declared.head.Head.{Head}
use Rattle.hp_event.specs.declared.event.Event.{Event}
use Rattle.hp_event.specs.declared.event.Event.TheVariants.{RegBegin, RegEnd}
use Rattle.hp_model.specs.Events.{is_registration_op}
use Rattle.hp_model.specs.Registrations.{Registration, registration}
use Rattle.hp_model.specs.Subsystems.{sub_numbered}
use Rattle.hp_table.specs.Step.{Step, step_at}
use Rattle.hp_table.specs.Instances.{is_among, is_multi, instances_of}
use Rattle.hp_table.specs.Sound.{IsSound}
use Rattle.hp_table.specs.Named.{is_builtin}
use Rattle.hp_table.proofs.Places.{set_same, within_places}
use Rattle.hp_account.specs.Table.{IsTableOf, HasOf, HasRegistration}
use Rattle.hp_account.specs.TableChanges.{CanChange, CanTakeOut, with_added, without_left, taken_out, takes_out, place_without, place_left}
use Rattle.hp_account.proofs.TableBegins.{BeginsWith, table_begins, setup_begins, remove_begins, add_begins, del_begins}
use Rattle.hp_account.proofs.TableEnds.{table_ends}

-- what stands at a place
pub record Found {X : Type 0} (place : Option X) : Type 0 where
  pub there : X
  pub is : place ≡ Some there

pub some_found : {X : Type 0} (place : Option X) → IsSome place → Found place
some_found None h = absurd (false≢true h)
some_found (Some x) h = record { there = x; is = refl }

pub multi_found : (place : Option Step) → is_multi place ≡ true → Found place
multi_found None h = absurd (false≢true h)
multi_found (Some step) h = record { there = step; is = refl }

unnamed : (b : Bool) (place : Option Step) → (b || is_some place) ≡ false → place ≡ None
unnamed true place h = absurd (true≢false h)
unnamed false None h = refl
unnamed false (Some step) h = absurd (true≢false h)

-- the table has what the operation adds
begins_with : (head : Head) (es : List Event) (places : List (Option Step)) (seat : ℕ) (op : Op) (state : ℕ) → registration es ≡ None →
    IsTableOf head es places → IsSound places → CanChange head op state places →
    BeginsWith head es places (with_added head op state places) seat op state
begins_with head es places seat (Setup asked number form) state idle t sound can =
    let x = some_found (sub_numbered head number) can.0 in
    let below : state < length places = let n = sound.states in let h = can.2 in omega (arith, n, h) in
    rw x.is
    (setup_begins head es places seat asked number state form x.there idle t x.is
    (unnamed (is_builtin state) (step_at places state) can.3) below)
begins_with head es places seat (Remove s form) state idle t sound can =
    let x = some_found (step_at places state) can.0 in
    remove_begins head es places seat s state form x.there idle t x.is (rw x.is at can.1)
begins_with head es places seat (Add s inst form) state idle t sound can =
    let p = and_parts (not (eqb inst 0)) (is_multi (step_at places state)) can.taken in
    let x = multi_found (step_at places state) p.1 in
    rw x.is
    (add_begins head es places seat s state inst form x.there idle t x.is (within_places places state x.there x.is) (rw x.is at p.1)
    (rw x.is at can.new))
begins_with head es places seat (Del s inst form) state idle t sound can =
    let p = and_parts (is_multi (step_at places state)) (is_among inst (instances_of (step_at places state))) can in
    let x = multi_found (step_at places state) p.0 in
    del_begins head es places seat s state inst form x.there idle t x.is (rw x.is at p.0) (rw x.is at p.1)
begins_with head es places seat op state idle t sound can = elim can [ ]

-- the table with what the operation adds is the journal's with its begin
pub table_added : (head : Head) (es : List Event) (places : List (Option Step)) (seat : ℕ) (op : Op) (state : ℕ) →
    registration es ≡ None → IsTableOf head es places → IsSound places → CanChange head op state places →
    IsTableOf head (es ++ RegBegin seat state op ∷ []) (with_added head op state places)
table_added head es places seat op state idle t sound can =
    table_begins head es places (with_added head op state places) seat op state idle t
    (begins_with head es places seat op state idle t sound can)

taken_is : (op : Op) (state : ℕ) (places : List (Option Step)) (step : Step) → step_at places state ≡ Some step →
    taken_out op state places ≡ slice_set places state (place_without op step)
taken_is (Add s inst form) state places step is = rw is refl
taken_is (Del s inst form) state places step is = rw is refl
taken_is op state places step is = refl

left_is : (op : Op) (answer : Answer) (state : ℕ) (places : List (Option Step)) (step : Step) → step_at places state ≡ Some step →
    without_left op answer state places ≡ slice_set places state (place_left op answer step)
left_is op answer state places step is = go (takes_out op answer)
  where
    go : (b : Bool) → cond b (taken_out op state places) places ≡ slice_set places state (cond b (place_without op step) (Some step))
    go true = taken_is op state places step is
    go false = sym (set_same places state (Some step) is)

-- what a registration in flight has in the table can be taken out
pub can_take_out : (op : Op) (place : Option Step) (step : Step) → place ≡ Some step → is_registration_op op ≡ true → HasOf op step →
    CanTakeOut op place
can_take_out op place step is registers has = rw is (go op registers has)
  where
    go : (op : Op) → is_registration_op op ≡ true → HasOf op step → CanTakeOut op (Some step)
    go (Setup asked sub form) h has = (refl, has.1)
    go (Remove state form) h has = (refl, has)
    go (Add state inst form) h has =
        let self : eqb inst inst ≡ true = eq-eqb inst inst refl in
        let there : is_among inst step.insts ≡ true = ap (is_among inst) has.1 ∙ rw self refl in
        rw (has.0, there) refl
    go (Del state inst form) h has = rw (has.0, has.1) refl
    go op h has = absurd (false≢true h)

-- the table without what the operation doesn't leave there is the journal's with its end
pub table_left : (head : Head) (es : List Event) (places : List (Option Step)) (seat : ℕ) (answer : Answer) (r : Registration) →
    registration es ≡ Some r → is_registration_op r.op ≡ true → IsTableOf head es places → HasRegistration head es places r →
    IsTableOf head (es ++ RegEnd seat answer ∷ []) (without_left r.op answer r.state places)
table_left head es places seat answer r flies registers t h =
    rw (left_is r.op answer r.state places h.step h.place_is) (table_ends head es places seat answer r flies registers t h)
