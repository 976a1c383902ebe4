-- What the table has once an event is taken.
use Rattle.std.proofs.Common.{◌≡◌, ℕ, true, false, Option, Some, None, OnOk, Ok, Err, IfSome, List, [], ◌∷◌, ◌++◌, refl, sym, ap, ◌∙◌, subst}
use Rattle.std.specs.Prelude.{Result, option_map}
use Rattle.std.proofs.lemmas.Bool.{true≢false}
use Rattle.hp_states.proofs.Basics.{none_some}
use Rattle.hp_event.specs.declared.op.Op.{Op}
use Rattle.hp_event.specs.declared.answer.Answer.{Answer}
use Rattle.hp_event.specs.declared.head.Head.{Head}
use Rattle.hp_event.specs.declared.event.Event.{Event}
use Rattle.hp_event.specs.declared.event.Event.TheVariants.{RegBegin, RegEnd, Call}
use Rattle.hp_model.specs.Events.{is_registration_op, is_call}
use Rattle.hp_model.specs.Registrations.{Registration, registration}
use Rattle.hp_model.specs.StandsRegistrations.{RegBegins}
use Rattle.hp_table.specs.Sound.{IsSound}
use Rattle.hp_table.specs.Step.{Step, step_at}
use Rattle.hp_account.specs.Table.{IsTableOf, HasRegistration, HasOf}
use Rattle.hp_account.specs.TableChanges.{CanTakeOut, with_added, without_left, table_after, is_registering}
use Rattle.hp_account.proofs.TableMore.{LeavesTable}
use Rattle.hp_account.proofs.Changeable.{begins_idle, can_change}
use Rattle.hp_account.proofs.TableChanged.{can_take_out, table_added, table_left}

pub on_ok : {T E : Type 0} (r : Result T E) (P Q : Type 0) → OnOk r P → (P → Q) → OnOk r Q
on_ok (Ok x) P Q h f = f h
on_ok (Err e) P Q h f = tt

pub always : {T E : Type 0} (r : Result T E) (Q : Type 0) → Q → OnOk r Q
always (Ok x) Q h = h
always (Err e) Q h = tt

-- the registration in flight, by what the account says of it
pub record Flies (es : List Event) (op : Op) (state : ℕ) : Type 0 where
  pub of : Registration
  pub in_flight : registration es ≡ Some of
  pub op_is : of.op ≡ op
  pub state_is : of.state ≡ state

abbrev both : (o : Option (Op × ℕ)) → Op × ℕ → Op × ℕ
both None d = d
both (Some p) d = p

same_pair : (p q : Op × ℕ) → Some p ≡ Some q → p ≡ q
same_pair p q h = ap (λ o. both o p) h

pub flies : (es : List Event) (op : Op) (state : ℕ) →
    ◌≡◌ {A = Option (Op × ℕ)} (Some (op, state)) (option_map (λ (r : Registration). (r.op, r.state)) (registration es)) →
    Flies es op state
flies es op state is = go (registration es) refl is
  where
    go : (o : Option Registration) → registration es ≡ o →
        ◌≡◌ {A = Option (Op × ℕ)} (Some (op, state)) (option_map (λ (r : Registration). (r.op, r.state)) o) →
        Flies es op state
    go None at h = absurd (none_some (op, state) (sym h))
    go (Some r) at h =
        let p = same_pair (r.op, r.state) (op, state) (sym h) in
        record { of = r; in_flight = at; op_is = ap (λ (x : Op × ℕ). x.0) p; state_is = ap (λ (x : Op × ℕ). x.1) p }

pub takes_out : (head : Head) (es : List Event) (places : List (Option Step)) (op : Op) (state : ℕ) → IsTableOf head es places →
    is_registration_op op ≡ true → Flies es op state → CanTakeOut op (step_at places state)
takes_out head es places op state t registers f =
    let h : HasRegistration head es places f.of = subst (λ o. IfSome o (HasRegistration head es places)) f.in_flight t.in_flight in
    let here = ap (step_at places) (sym f.state_is) ∙ h.place_is in
    can_take_out op (step_at places state) h.step here registers (subst (λ o. HasOf o h.step) f.op_is h.has)

pub left_table : (head : Head) (es : List Event) (places : List (Option Step)) (seat : ℕ) (answer : Answer) (op : Op) (state : ℕ) →
    IsTableOf head es places → is_registration_op op ≡ true → Flies es op state →
    IsTableOf head (es ++ RegEnd seat answer ∷ []) (without_left op answer state places)
left_table head es places seat answer op state t registers f =
    let h : HasRegistration head es places f.of = subst (λ o. IfSome o (HasRegistration head es places)) f.in_flight t.in_flight in
    let left =
    table_left head es places seat answer f.of f.in_flight (ap is_registration_op f.op_is ∙ registers) t h in
    subst (λ o. IsTableOf head (es ++ RegEnd seat answer ∷ []) (without_left o answer state places)) f.op_is
    (subst (λ s. IsTableOf head (es ++ RegEnd seat answer ∷ []) (without_left f.of.op answer s places)) f.state_is left)

pub begun_table : (head : Head) (es : List Event) (places : List (Option Step)) (seat state : ℕ) (op : Op) → IsTableOf head es places →
    IsSound places → RegBegins head es seat state op → IsTableOf head (es ++ RegBegin seat state op ∷ []) (with_added head op state places)
begun_table head es places seat state op t sound b =
    table_added head es places seat op state (begins_idle head es seat state op b) t sound (can_change head es places seat op state t sound b)

-- every other event than the begin and the end of a registration, and an entry, leaves the table
pub record Untouched (head : Head) (es : List Event) (e : Event) (places : List (Option Step)) : Type 0 where
  pub leaves : LeavesTable e
  pub same : table_after head es e places ≡ places
  pub no_registration : is_registering e ≡ false

pub untouched : (head : Head) (es : List Event) (e : Event) (places : List (Option Step)) →
    ((seat state : ℕ) (op : Op) → e ≡ RegBegin seat state op → ⊥) → ((seat : ℕ) (answer : Answer) → e ≡ RegEnd seat answer → ⊥) →
    is_call e ≡ false → Untouched head es e places
untouched head es (RegBegin seat state op) places b r c = absurd (b seat state op refl)
untouched head es (RegEnd seat answer) places b r c = absurd (r seat answer refl)
untouched head es (Call seat cpu state inst dir how) places b r c = absurd (true≢false c)
untouched head es e places b r c = record { leaves = tt; same = refl; no_registration = refl }
