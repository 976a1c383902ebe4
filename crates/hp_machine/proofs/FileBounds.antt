-- In a lawful journal nothing is registered above the highest state, no processor is armed there, and no file shows more.
use Rattle.std.proofs.Common.{◌≡◌, ℕ, ◌+◌, ◌<◌, ◌≤◌, Bool, true, false, not, ◌||◌, ◌&&◌, cond, eqb, leb, ltb, is_none, Option, Some, None, List, [], ◌∷◌, ◌++◌, fold, refl, sym, ap, ◌∙◌, subst, ⊎_elim, arith, append_assoc}
use Rattle.std.specs.Prelude.{ℤ, pos, negsuc}
use Rattle.std.specs.List.{count_by}
use Rattle.std.proofs.lemmas.List.{append-nil}
use Rattle.std.proofs.lemmas.List.Sums.{count_by-le-length}
use Rattle.std.proofs.lemmas.Bool.{true≢false, cases_lt, eqb-true, leb-false, or_parts}
use Rattle.std.proofs.lemmas.Bool.Decides.{nat_tests}
use Rattle.hp_model.proofs.SumLemmas.{length-numbers}
use Rattle.hp_states.proofs.Basics.{none_some, same_some}
use Rattle.hp_states.specs.declared.limits.TheConstants.{ONLINE}
use Rattle.hp_states.specs.declared.dir.Dir.{Dir}
use Rattle.hp_states.specs.declared.dir.Dir.TheVariants.{Up, Down}
use Rattle.hp_states.specs.Sections.{is_dynamic}
use Rattle.hp_event.specs.declared.op.Form.{Form}
use Rattle.hp_event.specs.declared.op.Op.{Op}
use Rattle.hp_event.specs.declared.op.Op.TheVariants.{Arm, Setup, Remove, Add, Del}
use Rattle.hp_event.specs.declared.answer.Answer.{Answer}
use Rattle.hp_event.specs.declared.answer.Answer.TheVariants as answered
use Rattle.hp_event.specs.declared.how.How.{How}
use Rattle.hp_event.specs.declared.how.How.TheVariants.{RanOk, RanFault, Injected, Empty, Presumed, Overruled}
use Rattle.hp_event.specs.declared.head.Head.{Head}
use Rattle.hp_event.specs.declared.event.Event.{Event}
use Rattle.hp_event.specs.declared.event.Event.TheVariants.{Call, RegBegin, RegEnd, Armed}
use Rattle.hp_model.specs.Armed.{armed, armed_by, disarmed_by}
use Rattle.hp_model.specs.Crossing.{far}
use Rattle.hp_model.specs.Entries.{is_done}
use Rattle.hp_model.specs.Files.{named_states}
use Rattle.hp_model.specs.Journal.{EachAfter}
use Rattle.hp_model.specs.Lawful.{Comes, Stands, IsLawful}
use Rattle.hp_model.specs.Lists.{numbers}
use Rattle.hp_model.specs.Refusals.{refusals_after_waits, is_multi_state}
use Rattle.hp_model.specs.RefusalsAtOnce.{refusals_at_once}
use Rattle.hp_model.specs.Registered.{registered, is_named, after_ok, after_answer, applied}
use Rattle.hp_model.specs.Registrations.{Registration, registration}
use Rattle.hp_model.specs.Resolved.{resolved}
use Rattle.hp_model.specs.Shown.{shown_after, is_last}
use Rattle.hp_model.specs.StandsFiles.{Arms}
use Rattle.hp_model.specs.StandsRegistrations.{RegBegins}
use Rattle.hp_model.specs.Subsystems.{sub_numbered, has_no_name}
use Rattle.hp_model.proofs.Laws.{registration_push, registered_push, armed_push}
use Rattle.hp_model.proofs.Passing.{passed, none_holds}
use Rattle.hp_account.proofs.TableSays.{slot_below}

-- what is so of states after a lawful journal's events
pub record AreStates (head : Head) (es : List Event) : Type 0 where
  pub none_above : (s : ℕ) → ONLINE < s → registered head s es ≡ None
  pub registers_low : (r : Registration) → registration es ≡ Some r → r.state ≤ ONLINE
  pub armed_low : (c s : ℕ) → armed c es ≡ Some s → s ≤ ONLINE

states_none : (head : Head) → AreStates head []
unfolding registered registration armed
states_none head = record {
  none_above = λ s above. refl;
  registers_low = λ r h. absurd (none_some r h);
  armed_low = λ c s h. absurd (none_some s h);
}

-- a registration that begins is at a state
setup_low : (head : Head) (es : List Event) (asked state number : ℕ) (form : Form) (b : Bool) → is_dynamic asked ≡ b → asked < ONLINE →
    resolved head es (Setup asked number form) ≡ Some state → state ≤ ONLINE
setup_low head es asked state number form true d below r =
    let s = slot_below head es asked state d (rw d at r) in omega (arith, s)
setup_low head es asked state number form false d below r =
    let is : asked ≡ state = same_some asked state (rw d at r) in omega (arith, is, below)

there_low : (head : Head) (es : List Event) (s : ℕ) → AreStates head es → (registered head s es ≡ None → ⊥) → s ≤ ONLINE
there_low head es s k there =
    ⊎_elim (λ (above : ONLINE < s). absurd (there (k.none_above s above))) (λ (low : s ≤ ONLINE). low) (cases_lt ONLINE s)

begin_low : (head : Head) (es : List Event) (seat state : ℕ) (op : Op) → RegBegins head es seat state op → AreStates head es →
    state ≤ ONLINE
begin_low head es seat state (Setup asked number form) b k =
    let p = passed head es seat (Setup asked number form) b.free.idle b.passes.not_waiting b.passes.not_refused in
    let first = none_holds (refusals_at_once head es seat (Setup asked number form)) p.0 in
    let parts = or_parts (eqb asked 0) (leb ONLINE asked || has_no_name (sub_numbered head number)) first.1.1.0 in
    let more = or_parts (leb ONLINE asked) (has_no_name (sub_numbered head number)) parts.1 in
    setup_low head es asked state number form (is_dynamic asked) refl (leb-false ONLINE asked more.0) b.state_is
begin_low head es seat state (Remove s form) b k =
    let p = passed head es seat (Remove s form) b.free.idle b.passes.not_waiting b.passes.not_refused in
    let late = none_holds (refusals_after_waits head es (Remove s form)) p.1 in
    let at : s ≡ state = same_some s state b.state_is in
    subst (λ n. n ≤ ONLINE) at (there_low head es s k (λ none. true≢false (sym (ap is_none none) ∙ late.0)))
begin_low head es seat state (Add s inst form) b k =
    let p = passed head es seat (Add s inst form) b.free.idle b.passes.not_waiting b.passes.not_refused in
    let late = none_holds (refusals_after_waits head es (Add s inst form)) p.1 in
    let at : s ≡ state = same_some s state b.state_is in
    subst (λ n. n ≤ ONLINE) at
    (there_low head es s k (λ none. true≢false (sym (ap (λ r. not (is_multi_state r)) none) ∙ late.0)))
begin_low head es seat state (Del s inst form) b k =
    let p = passed head es seat (Del s inst form) b.free.idle b.passes.not_waiting b.passes.not_refused in
    let late = none_holds (refusals_after_waits head es (Del s inst form)) p.1 in
    let at : s ≡ state = same_some s state b.state_is in
    subst (λ n. n ≤ ONLINE) at
    (there_low head es s k (λ none. true≢false (sym (ap (λ r. not (is_multi_state r)) none) ∙ late.0)))
begin_low head es seat state op b k = absurd (none_some state b.state_is)

-- a state that a processor is armed at
arm_low : (head : Head) (es : List Event) (seat cpu : ℕ) (value : ℤ) (s : ℕ) → Arms head es seat cpu value →
    armed_by value ≡ Some s → s ≤ ONLINE
arm_low head es seat cpu (pos n) s b h =
    let p = passed head es seat (Arm cpu (pos n)) b.free.idle b.passes.not_waiting b.passes.not_refused in
    let late = none_holds (refusals_after_waits head es (Arm cpu (pos n))) p.1 in
    let at : n ≡ s = same_some n s h in
    subst (λ m. m ≤ ONLINE) at (below n late.0)
  where
    below : (n : ℕ) → ltb ONLINE n ≡ false → n ≤ ONLINE
    below n h = grind (arith, nat_tests)
arm_low head es seat cpu (negsuc n) s b h = absurd (none_some s h)

disarm_low : (how : How) (found : Option ℕ) (s : ℕ) → disarmed_by how found ≡ Some s → ((s : ℕ) → found ≡ Some s → s ≤ ONLINE) → s ≤ ONLINE
disarm_low Injected found s h k = absurd (none_some s h)
disarm_low RanOk found s h k = k s h
disarm_low (RanFault code) found s h k = k s h
disarm_low Empty found s h k = k s h
disarm_low Presumed found s h k = k s h
disarm_low (Overruled code) found s h k = k s h

either : (b : Bool) (x y : Option ℕ) (s : ℕ) → cond b x y ≡ Some s → (x ≡ Some s → s ≤ ONLINE) → (y ≡ Some s → s ≤ ONLINE) → s ≤ ONLINE
either true x y s h f g = f h
either false x y s h f g = g h

-- what an answer leaves above the highest state
left_none : (head : Head) (es : List Event) (s : ℕ) (answer : Answer) → ONLINE < s → AreStates head es →
    after_answer head s answer (registration es) (registered head s es) ≡ None
left_none head es s (answered.Ok value) above k = go (registration es) refl
  where
    apart : (r : Registration) (b : Bool) → registration es ≡ Some r → eqb r.state s ≡ b →
        cond b (applied head r.op (registered head s es)) (registered head s es) ≡ None
    apart r true is e =
        let at : r.state ≡ s = eqb-true r.state s e in
        let low = k.registers_low r is in
        absurd (omega (arith, at, low, above))
    apart r false is e = k.none_above s above

    go : (o : Option Registration) → registration es ≡ o → after_ok head s o (registered head s es) ≡ None
    go None is = k.none_above s above
    go (Some r) is = apart r (eqb r.state s) is refl
left_none head es s (answered.Refused errno) above k = k.none_above s above
left_none head es s (answered.Fault code) above k = k.none_above s above
left_none head es s (answered.Stuck first second at) above k = k.none_above s above
left_none head es s answered.LogFull above k = k.none_above s above

states_step : (head : Head) (es : List Event) (e : Event) → Comes head es e → AreStates head es → AreStates head (es ++ e ∷ [])
states_step head es (RegBegin seat state op) comes k =
    let e : Event = RegBegin seat state op in
    let r : Registration = record { seat = seat; state = state; op = op; before = es } in
    let low : state ≤ ONLINE = begin_low head es seat state op comes k in
    record {
      none_above = λ s above. registered_push head s es e ∙ k.none_above s above;
      registers_low = λ x h.
          let at : r ≡ x = same_some r x (sym (registration_push es e) ∙ h) in subst (λ (y : Registration). y.state ≤ ONLINE) at low;
      armed_low = λ c s h. k.armed_low c s (sym (armed_push c es e) ∙ h);
    }
states_step head es (RegEnd seat answer) comes k =
    let e : Event = RegEnd seat answer in
    record {
      none_above = λ s above. registered_push head s es e ∙ left_none head es s answer above k;
      registers_low = λ x h. absurd (none_some x (sym (registration_push es e) ∙ h));
      armed_low = λ c s h. k.armed_low c s (sym (armed_push c es e) ∙ h);
    }
states_step head es (Armed seat cpu value) comes k =
    let e : Event = Armed seat cpu value in
    record {
      none_above = λ s above. registered_push head s es e ∙ k.none_above s above;
      registers_low = λ x h. k.registers_low x (sym (registration_push es e) ∙ h);
      armed_low = λ c s h.
          either (eqb cpu c) (armed_by value) (armed c es) s (sym (armed_push c es e) ∙ h) (arm_low head es seat cpu value s comes)
          (k.armed_low c s);
    }
states_step head es (Call seat cpu state inst dir how) comes k =
    let e : Event = Call seat cpu state inst dir how in
    record {
      none_above = λ s above. registered_push head s es e ∙ k.none_above s above;
      registers_low = λ x h. k.registers_low x (sym (registration_push es e) ∙ h);
      armed_low = λ c s h.
          either (eqb cpu c) (disarmed_by how (armed c es)) (armed c es) s (sym (armed_push c es e) ∙ h)
          (λ d. disarm_low how (armed c es) s d (k.armed_low c)) (k.armed_low c s);
    }
states_step head es e comes k = record {
  none_above = λ s above. registered_push head s es e ∙ k.none_above s above;
  registers_low = λ x h. k.registers_low x (sym (registration_push es e) ∙ h);
  armed_low = λ c s h. k.armed_low c s (sym (armed_push c es e) ∙ h);
}

states_from : (head : Head) (before es : List Event) → AreStates head before → EachAfter (Stands head) before es →
    AreStates head (before ++ es)
states_from head before [] k h = rw append-nil k
states_from head before (e ∷ es) k h =
    let r = states_from head (before ++ e ∷ []) es (states_step head before e h.0.0 k) h.1 in
    rw (append_assoc before (e ∷ []) es) at r

pub states : (head : Head) (es : List Event) → IsLawful head es → AreStates head es
states head es h = states_from head [] es (states_none head) h.1

-- what a walk shows, where no state above the highest has a key
far_low : (d : Dir) (s : ℕ) → s ≤ ONLINE → far d s ≤ ONLINE
far_low Up s h = h
far_low Down s h = omega (arith, h)

last_low : (keys : ℕ → List ℕ) (d : Dir) (s i at : ℕ) (b : Bool) → at ≤ ONLINE → ((t : ℕ) → ONLINE < t → keys t ≡ []) →
    cond (b && is_last (keys s) i) (far d s) at ≤ ONLINE
last_low keys d s i at b low none =
    ⊎_elim
    (λ (above : ONLINE < s). let no : keys s ≡ [] = none s above in rw no (unmoved b))
    (λ (below : s ≤ ONLINE). moved (b && is_last (keys s) i) (far_low d s below))
    (cases_lt ONLINE s)
  where
    unmoved : (b : Bool) → cond (b && false) (far d s) at ≤ ONLINE
    unmoved true = low
    unmoved false = low

    moved : (b : Bool) → far d s ≤ ONLINE → cond b (far d s) at ≤ ONLINE
    moved true h = h
    moved false h = low

step_low : (keys : ℕ → List ℕ) (at : ℕ) (e : Event) → at ≤ ONLINE → ((t : ℕ) → ONLINE < t → keys t ≡ []) → shown_after keys at e ≤ ONLINE
step_low keys at (Call seat cpu s i d how) low none = last_low keys d s i at (is_done how) low none
step_low keys at e low none = low

pub shown_low : (keys : ℕ → List ℕ) (at : ℕ) (entries : List Event) → at ≤ ONLINE → ((t : ℕ) → ONLINE < t → keys t ≡ []) →
    fold (shown_after keys) at entries ≤ ONLINE
shown_low keys at [] low none = low
shown_low keys at (e ∷ es) low none = shown_low keys (shown_after keys at e) es (step_low keys at e low none) none

pub named_low : (head : Head) (es : List Event) → named_states head es ≤ ONLINE + 1
unfolding named_states
named_low head es =
    subst (λ n. count_by (λ s. is_named head s es) (numbers (ONLINE + 1)) ≤ n) (length-numbers (ONLINE + 1))
    (count_by-le-length (λ s. is_named head s es) (numbers (ONLINE + 1)))
