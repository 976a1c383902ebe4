-- What the table has once a registration has begun: what each of the four operations adds.
use Rattle.std.proofs.Common.{◌≡◌, ◌≢◌, ℕ, ◌<◌, Bool, true, false, not, ◌||◌, cond, eqb, Option, Some, None, IfSome, List, [], ◌∷◌, ◌++◌, length, refl, sym, ap, ◌∙◌, subst, ⊎_elim}
use Rattle.std.specs.Prelude.{slice_set}
use Rattle.std.proofs.lemmas.Bool.{eq-eqb, ne_eqb, cases_eq, true≢false}
use Rattle.hp_states.specs.Rules.{Site}
use Rattle.hp_event.specs.declared.op.Form.{Form}
use Rattle.hp_event.specs.declared.op.Op.{Op}
use Rattle.hp_event.specs.declared.op.Op.TheVariants.{Setup, Remove, Add, Del}
use Rattle.hp_event.specs.declared.head.Sub.{Sub}
use Rattle.hp_event.specs.declared.head.Head.{Head}
use Rattle.hp_event.specs.declared.event.Event.{Event}
use Rattle.hp_event.specs.declared.event.Event.TheVariants.{RegBegin}
use Rattle.hp_model.specs.Lists.{without}
use Rattle.hp_model.specs.Registrations.{registration}
use Rattle.hp_model.specs.Registered.{registered}
use Rattle.hp_model.specs.Calls.{sites, number_asked, number_found, forgotten_by}
use Rattle.hp_model.specs.Subsystems.{sub_numbered}
use Rattle.hp_model.specs.Summary.{hook_faults, faults_begun}
use Rattle.hp_model.proofs.Laws.{registration_push, registered_push, sites_push, hook_faults_push}
use Rattle.hp_table.specs.Step.{Step, step_at, bare}
use Rattle.hp_table.specs.Instances.{with_instance, is_among}
use Rattle.hp_table.proofs.Places.{step_at-set_same, step_at-set_other}
use Rattle.hp_reg.specs.Known.{IsKnown}
use Rattle.hp_account.specs.Table.{IsTableOf, IsStepOf, HasOf, registered_by, registered_in_flight, registered_meanwhile}
use Rattle.hp_account.specs.TableChanges.{new_record}
use Rattle.hp_account.proofs.TableMore.{step_same}

-- what the table has of an operation that begins: its state's step, and all else as it was
pub record BeginsWith (head : Head) (es : List Event) (places written : List (Option Step)) (seat : ℕ) (op : Op) (state : ℕ) : Type 0 where
  pub step : Step
  pub here : step_at written state ≡ Some step
  pub there : (s : ℕ) → state ≢ s → step_at written s ≡ step_at places s
  pub has : HasOf op step
  pub registered_is : registered head state es ≡ registered_in_flight op (Some step)
  pub sub_is : sub_numbered head (number_asked state state op (number_found (registered head state es))) ≡ sub_numbered head step.kept.sub
  pub counted : IsStepOf head (es ++ RegBegin seat state op ∷ []) state step
  pub known : IsKnown head op (registered head state es) (Some step)

-- the calls of another state aren't forgotten, nor its faults
unforgotten : (op : Op) (s t : ℕ) (found : List Site) → eqb t s ≡ false → forgotten_by s t op found ≡ found
unforgotten (Setup asked sub form) s t found h = rw h refl
unforgotten op s t found h = refl

uncounted : (op : Op) (s t n : ℕ) → eqb t s ≡ false → faults_begun s t op n ≡ n
uncounted (Setup asked sub form) s t n h = rw h refl
uncounted op s t n h = refl

-- what holds at the state and at each other one
at_all : (P : ℕ → Option Step → Type 0) (places written : List (Option Step)) (state : ℕ) (step : Step) →
    step_at written state ≡ Some step → ((s : ℕ) → state ≢ s → step_at written s ≡ step_at places s) → P state (Some step) →
    ((s : ℕ) → state ≢ s → P s (step_at places s)) → (s : ℕ) → P s (step_at written s)
at_all P places written state step here there h k s =
    ⊎_elim
    (λ (same : state ≡ s). subst (λ t. P t (step_at written t)) same (subst (P state) (sym here) h))
    (λ (other : state ≡ s → ⊥). subst (P s) (sym (there s other)) (k s other))
    (cases_eq state s)

pub table_begins : (head : Head) (es : List Event) (places written : List (Option Step)) (seat : ℕ) (op : Op) (state : ℕ) →
    registration es ≡ None → IsTableOf head es places → BeginsWith head es places written seat op state →
    IsTableOf head (es ++ RegBegin seat state op ∷ []) written
table_begins head es places written seat op state idle t b =
    let e : Event = RegBegin seat state op in
    let self : eqb state state ≡ true = eq-eqb state state refl in
    record {
      registered_is =
          at_all (λ s p. registered head s (es ++ e ∷ []) ≡ registered_meanwhile (registration (es ++ e ∷ [])) s p) places written state
          b.step b.here b.there (registered_push head state es e ∙ rw (registration_push es e, self) b.registered_is)
          (λ s other.
          let apart : eqb state s ≡ false = ne_eqb state s other in
          registered_push head s es e ∙ rw (registration_push es e, apart) (rw idle at (t.registered_is s)));
      steps =
          at_all (λ s p. IfSome p (IsStepOf head (es ++ e ∷ []) s)) places written state b.step b.here b.there b.counted
          (λ s other.
          let apart : eqb state s ≡ false = ne_eqb state s other in
          step_same head es (es ++ e ∷ []) s (step_at places s) (sites_push s es e ∙ unforgotten op s state (sites s es) apart)
          (hook_faults_push s es e ∙ uncounted op s state (hook_faults s es) apart) (t.steps s));
      in_flight =
          rw (registration_push es e)
          (record {
            step = b.step;
            place_is = b.here;
            has = b.has;
            sub_is = rw (registration_push es e, registered_push head state es e) b.sub_is;
            known = b.known;
          });
    }

-- a setup's state has the subsystem, with no call yet and no instance
pub setup_begins : (head : Head) (es : List Event) (places : List (Option Step)) (seat asked number state : ℕ) (form : Form) (sub : Sub) →
    registration es ≡ None → IsTableOf head es places → sub_numbered head number ≡ Some sub → step_at places state ≡ None →
    state < length places →
    BeginsWith head es places (slice_set places state (Some (bare (new_record number sub)))) seat (Setup asked number form) state
setup_begins head es places seat asked number state form sub idle t found vacant within =
    let self : eqb state state ≡ true = eq-eqb state state refl in
    let op : Op = Setup asked number form in
    let e : Event = RegBegin seat state op in
    let forgotten : sites state (es ++ e ∷ []) ≡ [] = sites_push state es e ∙ rw self refl in
    let none : hook_faults state (es ++ e ∷ []) ≡ 0 = hook_faults_push state es e ∙ rw self refl in
    record {
      step = bare (new_record number sub);
      here = step_at-set_same places state (Some (bare (new_record number sub))) within;
      there = λ s other. step_at-set_other places state (Some (bare (new_record number sub))) s other;
      has = (refl, refl);
      registered_is = rw idle at (t.registered_is state) ∙ ap registered_by vacant;
      sub_is = rw self refl;
      counted = record {
        sub = sub;
        sub_is = found;
        up_is = refl;
        down_is = refl;
        multi_is = refl;
        counts_are = rw (forgotten, none) refl;
      };
      known = rw found refl;
    }

-- what is kept of a registered state whose registration begins by another operation than a setup
pub kept_at : (head : Head) (es : List Event) (s : ℕ) (place : Option Step) (step : Step) → place ≡ Some step →
    IfSome place (IsStepOf head es s) → IsStepOf head es s step
kept_at head es s place step some h = rw some at h

found_is : (head : Head) (es : List Event) (places : List (Option Step)) (state : ℕ) (step : Step) → registration es ≡ None →
    IsTableOf head es places → step_at places state ≡ Some step → registered head state es ≡ registered_by (Some step)
found_is head es places state step idle t some = (rw idle at (t.registered_is state)) ∙ ap registered_by some

-- a remove's state is registered, without instances
pub remove_begins : (head : Head) (es : List Event) (places : List (Option Step)) (seat asked state : ℕ) (form : Form) (step : Step) →
    registration es ≡ None → IsTableOf head es places → step_at places state ≡ Some step → step.insts ≡ [] →
    BeginsWith head es places places seat (Remove asked form) state
remove_begins head es places seat asked state form step idle t some none =
    let e : Event = RegBegin seat state (Remove asked form) in
    let is = found_is head es places state step idle t some in
    record {
      step = step;
      here = some;
      there = λ s other. refl;
      has = none;
      registered_is = is;
      sub_is = rw is refl;
      counted =
          step_same head es (es ++ e ∷ []) state (Some step) (sites_push state es e) (hook_faults_push state es e)
          (kept_at head es state (step_at places state) step some (t.steps state));
      known = rw is refl;
    }

-- a list without what isn't in it
pub absent : (inst : ℕ) (xs : List ℕ) → is_among inst xs ≡ false → without inst xs ≡ xs
absent inst [] h = refl
absent inst (x ∷ xs) h = go (eqb x inst) refl h (absent inst xs)
  where
    go : (b : Bool) → eqb x inst ≡ b → (b || is_among inst xs) ≡ false → (is_among inst xs ≡ false → without inst xs ≡ xs) →
        cond (not (eqb x inst)) (x ∷ without inst xs) (without inst xs) ≡ x ∷ xs
    go true e h r = absurd (true≢false h)
    go false e h r = rw e (ap (λ ys. x ∷ ys) (r h))

first_out : (inst : ℕ) (xs : List ℕ) → is_among inst xs ≡ false → without inst (inst ∷ xs) ≡ xs
first_out inst xs h = let self : eqb inst inst ≡ true = eq-eqb inst inst refl in rw self (absent inst xs h)

-- an add's state has the instance in front of the others
pub add_begins : (head : Head) (es : List Event) (places : List (Option Step)) (seat asked state inst : ℕ) (form : Form) (step : Step) →
    registration es ≡ None → IsTableOf head es places → step_at places state ≡ Some step → state < length places →
    step.kept.multi ≡ true → is_among inst step.insts ≡ false →
    BeginsWith head es places (slice_set places state (Some (with_instance inst step))) seat (Add asked inst form) state
add_begins head es places seat asked state inst form step idle t some within multi new =
    let e : Event = RegBegin seat state (Add asked inst form) in
    let is = found_is head es places state step idle t some in
    let k =
    step_same head es (es ++ e ∷ []) state (Some step) (sites_push state es e) (hook_faults_push state es e)
    (kept_at head es state (step_at places state) step some (t.steps state)) in
    record {
      step = with_instance inst step;
      here = step_at-set_same places state (Some (with_instance inst step)) within;
      there = λ s other. step_at-set_other places state (Some (with_instance inst step)) s other;
      has = (multi, ap (λ xs. inst ∷ xs) (sym (first_out inst step.insts new)));
      registered_is = is ∙ rw (first_out inst step.insts new) refl;
      sub_is = rw is refl;
      counted = record {
        sub = k.sub;
        sub_is = k.sub_is;
        up_is = k.up_is;
        down_is = k.down_is;
        multi_is = k.multi_is;
        counts_are = k.counts_are;
      };
      known = tt;
    }

-- a del's state is registered, with the instance
pub del_begins : (head : Head) (es : List Event) (places : List (Option Step)) (seat asked state inst : ℕ) (form : Form) (step : Step) →
    registration es ≡ None → IsTableOf head es places → step_at places state ≡ Some step → step.kept.multi ≡ true →
    is_among inst step.insts ≡ true → BeginsWith head es places places seat (Del asked inst form) state
del_begins head es places seat asked state inst form step idle t some multi has =
    let e : Event = RegBegin seat state (Del asked inst form) in
    let is = found_is head es places state step idle t some in
    record {
      step = step;
      here = some;
      there = λ s other. refl;
      has = (multi, has);
      registered_is = is;
      sub_is = rw is refl;
      counted =
          step_same head es (es ++ e ∷ []) state (Some step) (sites_push state es e) (hook_faults_push state es e)
          (kept_at head es state (step_at places state) step some (t.steps state));
      known = tt;
    }
