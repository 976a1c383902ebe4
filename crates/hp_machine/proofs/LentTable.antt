-- The table is the journal's still where a hook is lent, and where it comes home it is as after a call.
use Rattle.std.proofs.Common.{◌≡◌, ℕ, Bool, true, false, cond, eqb, Option, Some, None, IfSome, List, [], ◌∷◌, zero, suc, refl, ap, sym, ◌∙◌, subst}
use Rattle.std.specs.Prelude.{slice_set, IsSome}
use Rattle.hp_states.proofs.Basics.{same_some}
use mathlib.Core.Logic.{dite}
use native.Mathlib.Decide.{ℕ_discrete}
use Rattle.hp_states.specs.Rules.{Site}
use Rattle.hp_event.specs.declared.head.Head.{Head}
use Rattle.hp_event.specs.declared.event.Event.{Event}
use Rattle.hp_event.specs.declared.op.Op.{Op}
use Rattle.hp_event.specs.declared.op.Op.TheVariants.{Setup, Remove, Add, Del}
use Rattle.hp_model.specs.Registered.{Registered, registered}
use Rattle.hp_model.specs.Registrations.{Registration, registration}
use Rattle.hp_reg.specs.Known.{IsKnown}
use Rattle.hp_hook.specs.Counted.{Counts, counted}
use Rattle.hp_table.specs.Step.{Step, step_at, changed, changed_at, called_step, lent_step, step_with, is_home}
use Rattle.hp_table.proofs.Places.{at_each, within_places, step_at-set_same, step_at-set_other}
use Rattle.hp_account.specs.Table.{IsTableOf, IsStepOf, HasOf, HasRegistration, registered_by, registered_in_flight, registered_meanwhile}

same_in_flight : (op : Op) (step : Step) → registered_in_flight op (Some step) ≡ registered_in_flight op (Some (lent_step step))
same_in_flight (Setup asked sub form) step = refl
same_in_flight (Add state inst form) step = refl
same_in_flight op step = refl

same_meanwhile : (r : Option Registration) (s : ℕ) (step : Step) →
    registered_meanwhile r s (Some step) ≡ registered_meanwhile r s (Some (lent_step step))
same_meanwhile None s step = refl
same_meanwhile (Some r) s step = go (eqb r.state s)
  where
    go : (b : Bool) → cond b (registered_in_flight r.op (Some step)) (registered_by (Some step))
        ≡ cond b (registered_in_flight r.op (Some (lent_step step))) (registered_by (Some (lent_step step)))
    go true = same_in_flight r.op step
    go false = refl

step_lent : (head : Head) (es : List Event) (s : ℕ) (step : Step) → IsStepOf head es s step → IsStepOf head es s (lent_step step)
step_lent head es s step of =
    record {
      sub = of.sub;
      sub_is = of.sub_is;
      up_is = of.up_is;
      down_is = of.down_is;
      multi_is = of.multi_is;
      counts_are = of.counts_are;
    }

has_lent : (op : Op) (step : Step) → HasOf op step → HasOf op (lent_step step)
has_lent (Setup asked sub form) step h = h
has_lent (Remove state form) step h = h
has_lent (Add state inst form) step h = h
has_lent (Del state inst form) step h = h
has_lent op step h = tt

known_lent : (head : Head) (op : Op) (found : Option Registered) (step : Step) → IsKnown head op found (Some step) →
    IsKnown head op found (Some (lent_step step))
known_lent head (Setup asked sub form) found step h = h
known_lent head (Remove state form) found step h = h
known_lent head op found step h = tt

registration_lent : (head : Head) (es : List Event) (places : List (Option Step)) (s : ℕ) (step : Step) (r : Option Registration) →
    step_at places s ≡ Some step → IfSome r (HasRegistration head es places) →
    IfSome r (HasRegistration head es (slice_set places s (Some (lent_step step))))
registration_lent head es places s step None some h = tt
registration_lent head es places s step (Some r) some h =
    dite (ℕ_discrete s r.state)
    (λ same. let mine : h.step ≡ step = same_some h.step step (sym h.place_is ∙ (ap (step_at places) (sym same) ∙ some)) in
    let below = within_places places s step some in
    let here : step_at (slice_set places s (Some (lent_step step))) r.state ≡ Some (lent_step step) =
    subst (λ z. step_at (slice_set places s (Some (lent_step step))) z ≡ Some (lent_step step)) same
    (step_at-set_same places s (Some (lent_step step)) below) in
    record {
      step = lent_step h.step;
      place_is = here ∙ ap (λ x. Some (lent_step x)) (sym mine);
      has = has_lent r.op h.step h.has;
      sub_is = h.sub_is;
      known = known_lent head r.op (registered head r.state r.before) h.step h.known;
    })
    (λ apart. record {
      step = h.step;
      place_is = step_at-set_other places s (Some (lent_step step)) r.state apart ∙ h.place_is;
      has = h.has;
      sub_is = h.sub_is;
      known = h.known;
    })

pub table_lent : (head : Head) (es : List Event) (places : List (Option Step)) (s : ℕ) (step : Step) → step_at places s ≡ Some step →
    IsTableOf head es places → IsTableOf head es (changed_at places s lent_step)
table_lent head es places s step some t =
    let is : changed_at places s lent_step ≡ slice_set places s (Some (lent_step step)) =
    ap (λ p. slice_set places s (changed lent_step p)) some in
    let below = within_places places s step some in
    let after : IsTableOf head es (slice_set places s (Some (lent_step step))) = record {
      registered_is =
          at_each (λ u p. registered head u es ≡ registered_meanwhile (registration es) u p) places s (Some (lent_step step)) below
          (t.registered_is s
          ∙ (ap (registered_meanwhile (registration es) s) some ∙ same_meanwhile (registration es) s step))
          (λ u apart. t.registered_is u);
      steps =
          at_each (λ u p. IfSome p (IsStepOf head es u)) places s (Some (lent_step step)) below
          (step_lent head es s step (subst (λ p. IfSome p (IsStepOf head es s)) some (t.steps s)))
          (λ u apart. t.steps u);
      in_flight = registration_lent head es places s step (registration es) some t.in_flight;
    } in
    subst (IsTableOf head es) (sym is) after

-- a hook that comes home with one call more
pub restored : (places : List (Option Step)) (s : ℕ) (step : Step) (site : Site) (counts : Counts) →
    step_at places s ≡ Some step → counts ≡ counted step.kept.counts site →
    changed_at places s (step_with counts) ≡ changed_at places s (called_step site)
restored places s step site counts some more =
    ap (λ (x : Counts). changed_at places s (step_with x)) more
    ∙ (ap (λ p. slice_set places s (changed (step_with (counted step.kept.counts site)) p)) some
    ∙ sym (ap (λ p. slice_set places s (changed (called_step site) p)) some))

-- where nothing is registered nothing is lent
set_none : (places : List (Option Step)) (s : ℕ) → step_at places s ≡ None → slice_set places s None ≡ places
set_none [] s none = refl
set_none (x ∷ xs) zero none = ap (λ p. p ∷ xs) (sym none)
set_none (x ∷ xs) (suc s) none = ap (λ t. x ∷ t) (set_none xs s none)

pub table_lent_or_not : (head : Head) (es : List Event) (places : List (Option Step)) (s : ℕ) → IsTableOf head es places →
    IsTableOf head es (changed_at places s lent_step)
table_lent_or_not head es places s t = go (step_at places s) refl
  where
    go : (place : Option Step) → step_at places s ≡ place → IsTableOf head es (changed_at places s lent_step)
    go None none =
        subst (IsTableOf head es)
        (sym (ap (λ p. slice_set places s (changed lent_step p)) none ∙ set_none places s none)) t
    go (Some step) some = table_lent head es places s step some t

-- nor where its hook is away already
set_here : (places : List (Option Step)) (s : ℕ) → slice_set places s (step_at places s) ≡ places
set_here [] s = refl
set_here (x ∷ xs) zero = refl
set_here (x ∷ xs) (suc s) = ap (λ t. x ∷ t) (set_here xs s)

pub lent_nothing : (places : List (Option Step)) (s : ℕ) →
    (IsSome (step_at places s) × (is_home (step_at places s) ≡ true) → ⊥) → changed_at places s lent_step ≡ places
lent_nothing places s never = ap (slice_set places s) (same (step_at places s) never) ∙ set_here places s
  where
    away : (step : Step) (b : Bool) → step.kept.home ≡ b → (IsSome (Some step) × (step.kept.home ≡ true) → ⊥) →
        Some (lent_step step) ≡ Some step
    away step true e never = absurd (never (refl, e))
    away step false e never = ap (λ b. Some (record step { kept = record step.kept { home = b } })) (sym e)

    same : (place : Option Step) → (IsSome place × (is_home place ≡ true) → ⊥) → changed lent_step place ≡ place
    same None never = refl
    same (Some step) never = away step step.kept.home refl never
