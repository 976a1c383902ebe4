-- What the table has once a registration has ended: what it left there is what is registered.
use Rattle.std.proofs.Common.{◌≡◌, ℕ, Bool, true, false, not, cond, eqb, Option, Some, None, IfSome, List, [], ◌∷◌, ◌++◌, refl, sym, ap, ◌∙◌}
use Rattle.std.specs.Prelude.{slice_set}
use Rattle.std.proofs.lemmas.Bool.{eq-eqb, ne_eqb, false≢true}
use Rattle.hp_account.proofs.TableBegins.{kept_at}
use Rattle.hp_model.proofs.RegistrationSteps.{after_other}
use Rattle.hp_event.specs.declared.op.Op.{Op}
use Rattle.hp_event.specs.declared.op.Op.TheVariants.{Setup, Remove, Add, Del}
use Rattle.hp_event.specs.Ops.{is_adding}
use Rattle.hp_event.specs.declared.answer.Answer.{Answer}
use Rattle.hp_event.specs.declared.answer.Answer.TheVariants as answered
use Rattle.hp_event.specs.declared.head.Head.{Head}
use Rattle.hp_event.specs.declared.event.Event.{Event}
use Rattle.hp_event.specs.declared.event.Event.TheVariants.{RegEnd}
use Rattle.hp_model.specs.Events.{is_registration_op}
use Rattle.hp_model.specs.Registered.{Registered, registered, applied, after_answer}
use Rattle.hp_model.specs.Registrations.{Registration, registration}
use Rattle.hp_model.specs.Subsystems.{is_multi}
use Rattle.hp_model.specs.Suspend.{is_ok}
use Rattle.hp_model.proofs.Laws.{registration_push, registered_push, sites_push, hook_faults_push}
use Rattle.hp_table.specs.Step.{Step, step_at}
use Rattle.hp_table.specs.Instances.{without_instance}
use Rattle.hp_table.proofs.Places.{within_places, at_each}
use Rattle.hp_account.specs.Table.{IsTableOf, IsStepOf, HasOf, HasRegistration, registered_by, registered_in_flight}
use Rattle.hp_account.specs.TableChanges.{place_without, place_left, takes_out}
use Rattle.hp_account.proofs.TableMore.{step_same}

same_after : (head : Head) (s : ℕ) (answer : Answer) (r : Registration) (found : Option Registered) → eqb r.state s ≡ true →
    after_answer head s answer (Some r) found ≡ cond (is_ok answer) (applied head r.op found) found
same_after head s (answered.Ok value) r found same = rw same refl
same_after head s (answered.Refused errno) r found same = refl
same_after head s (answered.Fault code) r found same = refl
same_after head s (answered.Stuck first second stays) r found same = refl
same_after head s answered.LogFull r found same = refl

-- what is registered at the state at the end
registered_after : (head : Head) (op : Op) (step : Step) (answer : Answer) → is_registration_op op ≡ true → HasOf op step →
    is_multi head step.kept.sub ≡ step.kept.multi →
    cond (is_ok answer) (applied head op (registered_in_flight op (Some step))) (registered_in_flight op (Some step))
    ≡ registered_by (place_left op answer step)
registered_after head op step answer registers has multi = go op (is_ok answer) registers has
  where
    go : (op : Op) (b : Bool) → is_registration_op op ≡ true → HasOf op step →
        cond b (applied head op (registered_in_flight op (Some step))) (registered_in_flight op (Some step))
        ≡ registered_by (cond (cond (is_adding op) (not b) b) (place_without op step) (Some step))
    go (Setup asked sub form) true h has = rw (← has.0, multi, has.1) refl
    go (Setup asked sub form) false h has = refl
    go (Remove s form) true h has = refl
    go (Remove s form) false h has = refl
    go (Add s inst form) true h has =
        ap (λ xs. Some (record { sub = step.kept.sub; multi = step.kept.multi; insts = xs })) (sym has.1)
    go (Add s inst form) false h has = refl
    go (Del s inst form) true h has = refl
    go (Del s inst form) false h has = refl
    go op b h has = absurd (false≢true h)

-- what is so of the state's step is so of what is left of it
pub so_of_left : (P : Option Step → Type 0) (op : Op) (answer : Answer) (step : Step) → P None → P (Some step) →
    ((inst : ℕ) → P (Some (without_instance inst step))) → P (place_left op answer step)
so_of_left P op answer step none some out = go (takes_out op answer)
  where
    taken : (op : Op) → P (place_without op step)
    taken (Add s inst form) = out inst
    taken (Del s inst form) = out inst
    taken op = none

    go : (b : Bool) → P (cond b (place_without op step) (Some step))
    go true = taken op
    go false = some

without_counted : (head : Head) (es : List Event) (state inst : ℕ) (step : Step) → IsStepOf head es state step →
    IsStepOf head es state (without_instance inst step)
without_counted head es state inst step k = record {
  sub = k.sub;
  sub_is = k.sub_is;
  up_is = k.up_is;
  down_is = k.down_is;
  multi_is = k.multi_is;
  counts_are = k.counts_are;
}

pub table_ends : (head : Head) (es : List Event) (places : List (Option Step)) (seat : ℕ) (answer : Answer) (r : Registration) →
    registration es ≡ Some r → is_registration_op r.op ≡ true → IsTableOf head es places → (h : HasRegistration head es places r) →
    IsTableOf head (es ++ RegEnd seat answer ∷ []) (slice_set places r.state (place_left r.op answer h.step))
table_ends head es places seat answer r flies registers t h =
    let e : Event = RegEnd seat answer in
    let step = h.step in
    let place = place_left r.op answer step in
    let below = within_places places r.state step h.place_is in
    let k = kept_at head es r.state (step_at places r.state) step h.place_is (t.steps r.state) in
    let self : eqb r.state r.state ≡ true = eq-eqb r.state r.state refl in
    let multi : is_multi head step.kept.sub ≡ step.kept.multi = rw k.sub_is (sym k.multi_is) in
    let here : registered head r.state es ≡ registered_in_flight r.op (Some step) =
    t.registered_is r.state ∙ rw (flies, self, h.place_is) refl in
    let after_is : (s : ℕ) → registered head s (es ++ e ∷ []) ≡ after_answer head s answer (Some r) (registered head s es) =
    λ s. registered_push head s es e ∙ ap (λ f. after_answer head s answer f (registered head s es)) flies in
    let over : registration (es ++ e ∷ []) ≡ None = registration_push es e in
    let counted = step_same head es (es ++ e ∷ []) r.state (Some step) (sites_push r.state es e) (hook_faults_push r.state es e) k in
    record {
      registered_is = λ s.
          rw over
          (at_each (λ s p. registered head s (es ++ e ∷ []) ≡ registered_by p) places r.state place below
          (after_is r.state ∙ same_after head r.state answer r (registered head r.state es) self
          ∙ ap (λ f. cond (is_ok answer) (applied head r.op f) f) here ∙ registered_after head r.op step answer registers h.has multi)
          (λ s other.
          let apart : eqb r.state s ≡ false = ne_eqb r.state s other in
          let found_is : registered head s es ≡ registered_by (step_at places s) = rw (flies, apart) at (t.registered_is s) in
          after_is s ∙ after_other head s answer r (registered head s es) apart ∙ found_is)
          s);
      steps =
          at_each (λ s p. IfSome p (IsStepOf head (es ++ e ∷ []) s)) places r.state place below
          (so_of_left (λ p. IfSome p (IsStepOf head (es ++ e ∷ []) r.state)) r.op answer step tt counted
          (λ inst. without_counted head (es ++ e ∷ []) r.state inst step counted))
          (λ s other. step_same head es (es ++ e ∷ []) s (step_at places s) (sites_push s es e) (hook_faults_push s es e) (t.steps s));
      in_flight = rw over tt;
    }
