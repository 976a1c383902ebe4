-- What the hooks of a journal's table answer: what the plans of the states' subsystems answer after the journal's calls.
use Rattle.std.proofs.Common.{◌≡◌, ℕ, Bool, true, false, eqb, Option, Some, None, IfSome, List, refl, sym, ap, ◌∙◌}
use Rattle.std.proofs.lemmas.Bool.{eqb-true}
use Rattle.hp_states.specs.declared.dir.Dir.{Dir}
use Rattle.hp_states.specs.Rules.{Site, site_at, answer_of}
use Rattle.hp_states.proofs.RuleCounts.{answer_of_raised}
use Rattle.hp_event.specs.declared.op.Op.{Op}
use Rattle.hp_event.specs.declared.op.Op.TheVariants.{Setup}
use Rattle.hp_event.specs.declared.head.Head.{Head}
use Rattle.hp_event.specs.declared.event.Event.{Event}
use Rattle.hp_model.specs.Calls.{sites, sub_at, number_asked}
use Rattle.hp_model.specs.How.{answer_at as answer_of_plan}
use Rattle.hp_model.specs.Registered.{registered}
use Rattle.hp_model.specs.Registrations.{Registration, registration}
use Rattle.hp_model.specs.Subsystems.{sub_numbered, plan_of}
use Rattle.hp_hook.specs.Counted.{Counts, answer_to}
use Rattle.hp_table.specs.Kept.{Kept, answer_at}
use Rattle.hp_table.specs.Step.{Step, step_at, kept_of}
use Rattle.hp_account.specs.Table.{IsTableOf, IsStepOf, HasRegistration, registered_by, registered_meanwhile}

same_step : (a b : Step) → Some a ≡ Some b → a ≡ b
same_step a b h = cc

none_some : (a : Step) → None ≡ Some a → ⊥
none_some a h = cc

-- a registration asks for a subsystem at its own state alone
asked_there : (s at : ℕ) (op : Op) (n : ℕ) → eqb at s ≡ false → number_asked s at op n ≡ n
asked_there s at (Setup asked sub form) n other = rw other refl
asked_there s at op n other = refl

-- the subsystem of a state is the one whose hook stands there
pub sub_there : (head : Head) (es : List Event) (places : List (Option Step)) (s : ℕ) (step : Step) → IsTableOf head es places →
    step_at places s ≡ Some step → sub_at head s es ≡ sub_numbered head step.kept.sub
sub_there head es places s step t some = go (registration es) refl t.in_flight
  where
    elsewhere : (r : Registration) → registration es ≡ Some r → eqb r.state s ≡ false → sub_at head s es ≡ sub_numbered head step.kept.sub
    elsewhere r is other =
        let found : registered head s es ≡ registered_by (Some step) =
        t.registered_is s ∙ ap (λ p. registered_meanwhile (registration es) s p) some ∙ rw (is, other) refl in
        rw (is, found) (ap (sub_numbered head) (asked_there s r.state r.op step.kept.sub other))

    go : (o : Option Registration) → registration es ≡ o → IfSome (registration es) (HasRegistration head es places) →
        sub_at head s es ≡ sub_numbered head step.kept.sub
    go None is h =
        let found : registered head s es ≡ registered_by (Some step) =
        t.registered_is s ∙ ap (λ p. registered_meanwhile (registration es) s p) some ∙ rw is refl in
        rw (is, found) refl
    go (Some r) is h = here (eqb r.state s) refl (rw is at h)
      where
        here : (b : Bool) → eqb r.state s ≡ b → HasRegistration head es places r → sub_at head s es ≡ sub_numbered head step.kept.sub
        here true own has =
            let at : r.state ≡ s = eqb-true r.state s own in
            let same = same_step has.step step (sym has.place_is ∙ ap (step_at places) at ∙ some) in
            ap (λ n. sub_at head n es) (sym at) ∙ has.sub_is ∙ ap (λ (x : Step). sub_numbered head x.kept.sub) same
        here false other has = elsewhere r is other

-- a state where nothing stands has none
pub none_there : (head : Head) (es : List Event) (places : List (Option Step)) (s : ℕ) → IsTableOf head es places →
    step_at places s ≡ None → sub_at head s es ≡ None
none_there head es places s t none = go (registration es) refl t.in_flight
  where
    go : (o : Option Registration) → registration es ≡ o → IfSome (registration es) (HasRegistration head es places) → sub_at head s es ≡ None
    go None is h =
        let found : registered head s es ≡ None =
        t.registered_is s ∙ ap (λ p. registered_meanwhile (registration es) s p) none ∙ rw is refl in
        rw (is, found) refl
    go (Some r) is h = here (eqb r.state s) refl (rw is at h)
      where
        here : (b : Bool) → eqb r.state s ≡ b → HasRegistration head es places r → sub_at head s es ≡ None
        here true own has =
            let at : r.state ≡ s = eqb-true r.state s own in
            absurd (none_some has.step (sym none ∙ ap (step_at places) (sym at) ∙ has.place_is))
        here false other has =
            let found : registered head s es ≡ None =
            t.registered_is s ∙ ap (λ p. registered_meanwhile (registration es) s p) none ∙ rw (is, other) refl in
            rw (is, found) (ap (sub_numbered head) (asked_there s r.state r.op 0 other))

-- its hook has the subsystem's plan, and has counted the calls
pub answers_there : (head : Head) (es : List Event) (places : List (Option Step)) (c s i : ℕ) (d : Dir) (step : Step) →
    IsTableOf head es places → step_at places s ≡ Some step → answer_at step.kept (site_at c i d) ≡ answer_of_plan head es c s i d
answers_there head es places c s i d step t some =
    let site : Site = site_at c i d in
    let k : IsStepOf head es s step = rw some at (t.steps s) in
    let sub = sub_there head es places s step t some ∙ k.sub_is in
    ap (λ (x : Counts). answer_to x site) k.counts_are
    ∙ answer_of_raised k.sub.plan (sites s es) site
    ∙ ap (λ o. answer_of (plan_of o) (sites s es) site) (sym sub)

-- where nothing stands the plan answers 0
pub answers_none : (head : Head) (es : List Event) (places : List (Option Step)) (c s i : ℕ) (d : Dir) → IsTableOf head es places →
    step_at places s ≡ None → answer_of_plan head es c s i d ≡ 0
answers_none head es places c s i d t none =
    ap (λ o. answer_of (plan_of o) (sites s es) (site_at c i d)) (none_there head es places s t none)

-- by the record that stands there
pub kept_answers : (head : Head) (es : List Event) (places : List (Option Step)) (c s i : ℕ) (d : Dir) (kept : Kept) →
    IsTableOf head es places → Some kept ≡ kept_of (step_at places s) → answer_at kept (site_at c i d) ≡ answer_of_plan head es c s i d
kept_answers head es places c s i d kept t is = go (step_at places s) refl is
  where
    same : (a b : Kept) → Some a ≡ Some b → a ≡ b
    same a b h = cc

    go : (o : Option Step) → step_at places s ≡ o → Some kept ≡ kept_of o → answer_at kept (site_at c i d) ≡ answer_of_plan head es c s i d
    go None at h = absurd (cc)
    go (Some step) at h =
        ap (λ k. answer_at k (site_at c i d)) (same kept step.kept h) ∙ answers_there head es places c s i d step t at

pub unkept_answers : (head : Head) (es : List Event) (places : List (Option Step)) (c s i : ℕ) (d : Dir) →
    IsTableOf head es places → None ≡ kept_of (step_at places s) → answer_of_plan head es c s i d ≡ 0
unkept_answers head es places c s i d t is = go (step_at places s) refl is
  where
    go : (o : Option Step) → step_at places s ≡ o → None ≡ kept_of o → answer_of_plan head es c s i d ≡ 0
    go None at h = answers_none head es places c s i d t at
    go (Some step) at h = absurd (cc)
