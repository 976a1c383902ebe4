-- What the table has after one event more: of an event that leaves it as it is, and of an entry whose hook was called.
use Rattle.std.proofs.Common.{◌≡◌, ℕ, zero, suc, ◌+◌, Bool, true, false, ◌&&◌, cond, eqb, Option, Some, None, IfSome, List, [], ◌∷◌, ◌++◌, length-append, refl, sym, ap, ◌∙◌, subst, arith}
use Rattle.std.specs.Prelude.{slice_set}
use Rattle.std.proofs.lemmas.Bool.{eq-eqb, eqb-true, ne_eqb}
use Rattle.hp_states.specs.declared.dir.Dir.{Dir}
use Rattle.hp_states.specs.declared.plan.Rule.{Rule}
use Rattle.hp_states.specs.Rules.{site_at}
use Rattle.hp_states.proofs.RuleCounts.{raised_counts}
use Rattle.hp_event.specs.declared.op.Op.{Op}
use Rattle.hp_event.specs.declared.op.Op.TheVariants.{Setup, Remove, Add, Del}
use Rattle.hp_event.specs.declared.head.Head.{Head}
use Rattle.hp_event.specs.declared.how.How.{How}
use Rattle.hp_event.specs.declared.how.How.TheVariants.{RanOk, RanFault, Injected, Empty, Presumed, Overruled}
use Rattle.hp_event.specs.declared.event.Event.{Event}
use Rattle.hp_event.specs.declared.event.Event.TheVariants.{RegBegin, RegEnd, Call}
use Rattle.hp_model.specs.Registrations.{Registration, registration}
use Rattle.hp_model.specs.Registered.{Registered, registered, without_inst}
use Rattle.hp_model.specs.Calls.{sites, sites_step, sub_at, is_called}
use Rattle.hp_model.specs.How.{how_answered}
use Rattle.hp_model.specs.Subsystems.{sub_numbered}
use Rattle.hp_model.specs.Summary.{hook_faults, faults_step, is_hook_fault}
use Rattle.hp_model.proofs.Laws.{registration_push, registered_push, sites_push, hook_faults_push}
use Rattle.hp_hook.specs.Counted.{Counts, answer_to, counted}
use Rattle.hp_table.specs.Kept.{answer_at}
use Rattle.hp_table.specs.Step.{Step, step_at, called_step, changed_at}
use Rattle.hp_table.proofs.Places.{step_at-set, within_places}
use Rattle.hp_reg.specs.Known.{IsKnown}
use Rattle.hp_account.specs.Table.{IsTableOf, IsStepOf, HasOf, HasRegistration, registered_by, registered_in_flight, registered_meanwhile}

-- the counts of a state go on where its calls do
pub step_same : (head : Head) (es fs : List Event) (s : ℕ) (place : Option Step) → sites s fs ≡ sites s es →
    hook_faults s fs ≡ hook_faults s es → IfSome place (IsStepOf head es s) → IfSome place (IsStepOf head fs s)
step_same head es fs s None same faults h = tt
step_same head es fs s (Some step) same faults h = record {
  sub = h.sub;
  sub_is = h.sub_is;
  up_is = h.up_is;
  down_is = h.down_is;
  multi_is = h.multi_is;
  counts_are = h.counts_are ∙ rw (same, faults) refl;
}

-- an event that calls no hook, and neither begins nor ends a registration
abbrev pub LeavesTable : Event → Type 0
LeavesTable (RegBegin seat state op) = ⊥
LeavesTable (RegEnd seat answer) = ⊥
LeavesTable (Call seat cpu state inst dir how) = is_called how ≡ false
LeavesTable _ = Unit {0}

uncalled : {A : Type 0} (b : Bool) (how : How) (more found : A) → is_called how ≡ false → cond (b && is_called how) more found ≡ found
uncalled true how more found h = rw h refl
uncalled false how more found h = refl

no_fault : (b : Bool) (how : How) (n : ℕ) → is_called how ≡ false → cond (b && is_hook_fault how) (n + 1) n ≡ n
no_fault b RanOk n h = absurd (cc)
no_fault b (RanFault code) n h = absurd (cc)
no_fault true Injected n h = refl
no_fault false Injected n h = refl
no_fault true Empty n h = refl
no_fault false Empty n h = refl
no_fault true Presumed n h = refl
no_fault false Presumed n h = refl
no_fault b (Overruled code) n h = absurd (cc)

sites_stay : (s : ℕ) (es : List Event) (e : Event) → LeavesTable e → sites_step s (sites s es) es e ≡ sites s es
sites_stay s es (RegBegin seat state op) h = elim h [ ]
sites_stay s es (RegEnd seat answer) h = elim h [ ]
sites_stay s es (Call seat cpu state inst dir how) h = uncalled (eqb state s) how _ (sites s es) h
sites_stay s es e h = refl

faults_stay : (s : ℕ) (es : List Event) (e : Event) → LeavesTable e → faults_step s (hook_faults s es) es e ≡ hook_faults s es
faults_stay s es (RegBegin seat state op) h = elim h [ ]
faults_stay s es (RegEnd seat answer) h = elim h [ ]
faults_stay s es (Call seat cpu state inst dir how) h = no_fault (eqb state s) how (hook_faults s es) h
faults_stay s es e h = refl

registration_stays : (es : List Event) (e : Event) → LeavesTable e → registration (es ++ e ∷ []) ≡ registration es
registration_stays es (RegBegin seat state op) h = elim h [ ]
registration_stays es (RegEnd seat answer) h = elim h [ ]
registration_stays es e h = registration_push es e

registered_stays : (head : Head) (s : ℕ) (es : List Event) (e : Event) → LeavesTable e →
    registered head s (es ++ e ∷ []) ≡ registered head s es
registered_stays head s es (RegBegin seat state op) h = elim h [ ]
registered_stays head s es (RegEnd seat answer) h = elim h [ ]
registered_stays head s es e h = registered_push head s es e

sub_same : (head : Head) (s : ℕ) (es fs : List Event) → registration fs ≡ registration es →
    registered head s fs ≡ registered head s es → sub_at head s fs ≡ sub_at head s es
sub_same head s es fs same found = rw (same, found) refl

-- what a registration in flight has in the table stays
pub in_flight_same : (head : Head) (es fs : List Event) (places : List (Option Step)) → registration fs ≡ registration es →
    ((s : ℕ) → registered head s fs ≡ registered head s es) → IfSome (registration es) (HasRegistration head es places) →
    IfSome (registration fs) (HasRegistration head fs places)
in_flight_same head es fs places same found h = go (registration es) same h
  where
    go : (r : Option Registration) → registration fs ≡ r → IfSome r (HasRegistration head es places) →
        IfSome (registration fs) (HasRegistration head fs places)
    go None is h = rw is tt
    go (Some r) is h =
        rw is
        (record {
          step = h.step;
          place_is = h.place_is;
          has = h.has;
          sub_is = sub_same head r.state es fs same (found r.state) ∙ h.sub_is;
          known = h.known;
        })

-- an event that leaves the table as it is
pub table_same : (head : Head) (es : List Event) (places : List (Option Step)) (e : Event) → LeavesTable e →
    IsTableOf head es places → IsTableOf head (es ++ e ∷ []) places
table_same head es places e leaves t =
    let same = registration_stays es e leaves in
    record {
      registered_is = λ s.
          registered_stays head s es e leaves ∙ t.registered_is s
          ∙ ap (λ r. registered_meanwhile r s (step_at places s)) (sym same);
      steps = λ s.
          step_same head es (es ++ e ∷ []) s (step_at places s) (sites_push s es e ∙ sites_stay s es e leaves)
          (hook_faults_push s es e ∙ faults_stay s es e leaves) (t.steps s);
      in_flight = in_flight_same head es (es ++ e ∷ []) places same (λ s. registered_stays head s es e leaves) t.in_flight;
    }

-- what a place says stays so where its step, changed, says the same
pub says_same : {A : Type 0} (f : Option Step → A) (places : List (Option Step)) (s t : ℕ) (step new : Step) →
    step_at places s ≡ Some step → f (Some new) ≡ f (Some step) →
    f (step_at (slice_set places s (Some new)) t) ≡ f (step_at places t)
says_same f places s t step new some same =
    ap f (step_at-set places s (Some new) t (within_places places s step some)) ∙ go (eqb s t) refl
  where
    go : (b : Bool) → eqb s t ≡ b → f (cond b (Some new) (step_at places t)) ≡ f (step_at places t)
    go true e = let at : s ≡ t = eqb-true s t e in same ∙ ap f (sym some ∙ ap (step_at places) at)
    go false e = refl

called_in_flight : (op : Op) (places : List (Option Step)) (s t : ℕ) (step : Step) (c i : ℕ) (d : Dir) → step_at places s ≡ Some step →
    registered_in_flight op (step_at (slice_set places s (Some (called_step (site_at c i d) step))) t)
    ≡ registered_in_flight op (step_at places t)
called_in_flight (Setup asked sub form) places s t step c i d some = refl
called_in_flight (Add state inst form) places s t step c i d some =
    ap (without_inst inst) (says_same registered_by places s t step (called_step (site_at c i d) step) some refl)
called_in_flight op places s t step c i d some =
    says_same registered_by places s t step (called_step (site_at c i d) step) some refl

called_meanwhile : (r : Option Registration) (places : List (Option Step)) (s t : ℕ) (step : Step) (c i : ℕ) (d : Dir) →
    step_at places s ≡ Some step →
    registered_meanwhile r t (step_at (slice_set places s (Some (called_step (site_at c i d) step))) t)
    ≡ registered_meanwhile r t (step_at places t)
called_meanwhile None places s t step c i d some =
    says_same registered_by places s t step (called_step (site_at c i d) step) some refl
called_meanwhile (Some r) places s t step c i d some = go (eqb r.state t)
  where
    go : (b : Bool) →
        cond b (registered_in_flight r.op (step_at (slice_set places s (Some (called_step (site_at c i d) step))) t))
        (registered_by (step_at (slice_set places s (Some (called_step (site_at c i d) step))) t))
        ≡ cond b (registered_in_flight r.op (step_at places t)) (registered_by (step_at places t))
    go true = called_in_flight r.op places s t step c i d some
    go false = says_same registered_by places s t step (called_step (site_at c i d) step) some refl

ne_zero : (n : ℕ) → eqb (suc n) 0 ≡ false
ne_zero n = ne_eqb (suc n) 0 (λ e. absurd (omega arith))

-- a code that its hook answered is a fault of it where it isn't 0
fault_counted : (may_fail : Bool) (code n : ℕ) →
    cond (is_hook_fault (how_answered may_fail code)) (n + 1) n ≡ cond (eqb code 0) n (n + 1)
fault_counted b zero n = refl
fault_counted true (suc code) n = rw (ne_zero code) refl
fault_counted false (suc code) n = rw (ne_zero code) refl

pub answered_called : (may_fail : Bool) (code : ℕ) → is_called (how_answered may_fail code) ≡ true
answered_called b zero = refl
answered_called true (suc code) = refl
answered_called false (suc code) = refl

same_counts : (plan : List Rule) (seen new : List ℕ) (made more faults after : ℕ) → seen ≡ new → made ≡ more → faults ≡ after →
    ◌≡◌ {A = Counts} (record { plan = plan; seen = seen; made = made; faults = faults })
    (record { plan = plan; seen = new; made = more; faults = after })
same_counts plan seen new made more faults after seen_is made_is faults_are = rw (seen_is, made_is, faults_are) refl

-- the state's hook has counted the call
step_called : (head : Head) (es : List Event) (seat c s i : ℕ) (d : Dir) (may_fail : Bool) (step : Step) → IsStepOf head es s step →
    IsStepOf head (es ++ Call seat c s i d (how_answered may_fail (answer_at step.kept (site_at c i d))) ∷ []) s
    (called_step (site_at c i d) step)
step_called head es seat c s i d may_fail step k =
    let code = answer_at step.kept (site_at c i d) in
    let e : Event = Call seat c s i d (how_answered may_fail code) in
    let self : eqb s s ≡ true = eq-eqb s s refl in
    let more : sites s (es ++ e ∷ []) ≡ sites s es ++ site_at c i d ∷ [] =
    sites_push s es e ∙ rw (self, answered_called may_fail code) refl in
    let faults : hook_faults s (es ++ e ∷ []) ≡ cond (eqb code 0) (hook_faults s es) (hook_faults s es + 1) =
    hook_faults_push s es e ∙ rw self (fault_counted may_fail code (hook_faults s es)) in
    record {
      sub = k.sub;
      sub_is = k.sub_is;
      up_is = k.up_is;
      down_is = k.down_is;
      multi_is = k.multi_is;
      counts_are =
          ap (λ (x : Counts). counted x (site_at c i d)) k.counts_are
          ∙ rw (more, faults, length-append (sites s es) (site_at c i d ∷ []))
          (same_counts _ _ _ _ _ _ _ (raised_counts k.sub.plan (sites s es) (site_at c i d)) refl
          (ap (λ (x : Counts). cond (eqb (answer_to x (site_at c i d)) 0) (hook_faults s es) (hook_faults s es + 1)) (sym k.counts_are)));
    }

has_called : (op : Op) (c i : ℕ) (d : Dir) (step : Step) → HasOf op step → HasOf op (called_step (site_at c i d) step)
has_called (Setup asked sub form) c i d step h = h
has_called (Remove state form) c i d step h = h
has_called (Add state inst form) c i d step h = h
has_called (Del state inst form) c i d step h = h
has_called op c i d step h = tt

known_called : (head : Head) (op : Op) (found : Option Registered) (c i : ℕ) (d : Dir) (step : Step) → IsKnown head op found (Some step) →
    IsKnown head op found (Some (called_step (site_at c i d) step))
known_called head (Setup state sub form) found c i d step h = h
known_called head (Remove state form) found c i d step h = h
known_called head op found c i d step h = tt

-- what is so of the step at one state, and of every other, is so of each after the call
called_at : (P : ℕ → Option Step → Type 0) (places : List (Option Step)) (s : ℕ) (step new : Step) → step_at places s ≡ Some step →
    P s (Some new) → ((t : ℕ) → eqb s t ≡ false → P t (step_at places t)) → (t : ℕ) → P t (step_at (slice_set places s (Some new)) t)
called_at P places s step new some here there t =
    subst (P t) (sym (step_at-set places s (Some new) t (within_places places s step some))) (go (eqb s t) refl)
  where
    go : (b : Bool) → eqb s t ≡ b → P t (cond b (Some new) (step_at places t))
    go true e = let at : s ≡ t = eqb-true s t e in subst (λ u. P u (Some new)) at here
    go false e = there t e

same_step : (place : Option Step) (a b : Step) → place ≡ Some a → place ≡ Some b → a ≡ b
same_step place a b h k = cc

registration_called : (head : Head) (es : List Event) (places : List (Option Step)) (seat c s i : ℕ) (d : Dir) (how : How) (step : Step)
    (r : Registration) → step_at places s ≡ Some step → HasRegistration head es places r →
    HasRegistration head (es ++ Call seat c s i d how ∷ []) (slice_set places s (Some (called_step (site_at c i d) step))) r
registration_called head es places seat c s i d how step r some h =
    let e : Event = Call seat c s i d how in
    let sub : sub_at head r.state (es ++ e ∷ []) ≡ sub_at head r.state es =
    sub_same head r.state es (es ++ e ∷ []) (registration_push es e) (registered_push head r.state es e) in
    go (eqb s r.state) refl sub
  where
    after : List (Option Step)
    after = slice_set places s (Some (called_step (site_at c i d) step))

    at_after : step_at after r.state ≡ cond (eqb s r.state) (Some (called_step (site_at c i d) step)) (step_at places r.state)
    at_after = step_at-set places s (Some (called_step (site_at c i d) step)) r.state (within_places places s step some)

    go : (b : Bool) → eqb s r.state ≡ b →
        sub_at head r.state (es ++ Call seat c s i d how ∷ []) ≡ sub_at head r.state es →
        HasRegistration head (es ++ Call seat c s i d how ∷ []) after r
    go true e sub =
        let at : s ≡ r.state = eqb-true s r.state e in
        let same : h.step ≡ step = same_step (step_at places r.state) h.step step h.place_is (ap (step_at places) (sym at) ∙ some) in
        record {
          step = called_step (site_at c i d) step;
          place_is = at_after ∙ rw e refl;
          has = has_called r.op c i d step (subst (HasOf r.op) same h.has);
          sub_is = sub ∙ h.sub_is ∙ ap (λ (x : Step). sub_numbered head x.kept.sub) same;
          known =
              known_called head r.op (registered head r.state r.before) c i d step
              (subst (λ x. IsKnown head r.op (registered head r.state r.before) (Some x)) same h.known);
        }
    go false e sub = record {
      step = h.step;
      place_is = at_after ∙ rw e h.place_is;
      has = h.has;
      sub_is = sub ∙ h.sub_is;
      known = h.known;
    }

uncounted : (s t c i : ℕ) (es : List Event) (seat : ℕ) (d : Dir) (how : How) → eqb s t ≡ false →
    (sites t (es ++ Call seat c s i d how ∷ []) ≡ sites t es) × (hook_faults t (es ++ Call seat c s i d how ∷ []) ≡ hook_faults t es)
uncounted s t c i es seat d how apart =
    let e : Event = Call seat c s i d how in
    (sites_push t es e ∙ rw apart refl, hook_faults_push t es e ∙ rw apart refl)

-- an entry whose hook was called
pub table_called : (head : Head) (es : List Event) (places : List (Option Step)) (seat c s i : ℕ) (d : Dir) (may_fail : Bool) (step : Step) →
    step_at places s ≡ Some step → IsTableOf head es places →
    IsTableOf head (es ++ Call seat c s i d (how_answered may_fail (answer_at step.kept (site_at c i d))) ∷ [])
    (changed_at places s (called_step (site_at c i d)))
table_called head es places seat c s i d may_fail step some t =
    let how = how_answered may_fail (answer_at step.kept (site_at c i d)) in
    let e : Event = Call seat c s i d how in
    let after = slice_set places s (Some (called_step (site_at c i d) step)) in
    let is : changed_at places s (called_step (site_at c i d)) ≡ after = rw some refl in
    rw is
    (record {
      registered_is = λ u.
          registered_push head u es e ∙ t.registered_is u
          ∙ sym (called_meanwhile (registration es) places s u step c i d some)
          ∙ ap (λ r. registered_meanwhile r u (step_at after u)) (sym (registration_push es e));
      steps =
          called_at (λ u p. IfSome p (IsStepOf head (es ++ e ∷ []) u)) places s step (called_step (site_at c i d) step) some
          (step_called head es seat c s i d may_fail step (rw some at (t.steps s)))
          (λ u apart.
          let same = uncounted s u c i es seat d how apart in
          step_same head es (es ++ e ∷ []) u (step_at places u) same.0 same.1 (t.steps u));
      in_flight = in_flight (registration es) refl t.in_flight;
    })
  where
    in_flight : (r : Option Registration) → registration es ≡ r → IfSome r (HasRegistration head es places) →
        IfSome (registration (es ++ Call seat c s i d (how_answered may_fail (answer_at step.kept (site_at c i d))) ∷ []))
        (HasRegistration head (es ++ Call seat c s i d (how_answered may_fail (answer_at step.kept (site_at c i d))) ∷ [])
        (slice_set places s (Some (called_step (site_at c i d) step))))
    in_flight None is h =
        rw (registration_push es (Call seat c s i d (how_answered may_fail (answer_at step.kept (site_at c i d)))), is) tt
    in_flight (Some r) is h =
        rw (registration_push es (Call seat c s i d (how_answered may_fail (answer_at step.kept (site_at c i d)))), is)
        (registration_called head es places seat c s i d (how_answered may_fail (answer_at step.kept (site_at c i d))) step r some h)
