-- What is registered in a lawful journal: it is at a state, it has an instance list where its subsystem has, and it
-- stays while a processor walks.
use Rattle.std.proofs.Common.{◌≡◌, ℕ, zero, suc, ◌+◌, ◌<◌, ◌≤◌, Bool, true, false, not, ◌||◌, cond, eqb, leb, Option, Some, None, List, [], ◌∷◌, ◌++◌, refl, sym, ap, ◌∙◌, subst, arith, append_assoc}
use Rattle.std.specs.Prelude.{◌-◌, find}
use Rattle.std.proofs.lemmas.List.{append-nil}
use Rattle.std.proofs.lemmas.Bool.{eqb-true, leb-false, or_parts}
use Rattle.hp_states.proofs.Basics.{none_some, same_some}
use Rattle.hp_states.specs.declared.limits.TheConstants.{ONLINE, PREPARE_DYN, ONLINE_DYN}
use Rattle.hp_states.specs.Sections.{is_dynamic, end_of_range}
use Rattle.hp_event.specs.declared.op.Form.{Form}
use Rattle.hp_event.specs.declared.op.Op.{Op}
use Rattle.hp_event.specs.declared.op.Op.TheVariants.{Setup, Remove, Add, Del}
use Rattle.hp_event.specs.declared.answer.Answer.{Answer}
use Rattle.hp_event.specs.declared.answer.Answer.TheVariants as answered
use Rattle.hp_event.specs.declared.head.Head.{Head}
use Rattle.hp_event.specs.declared.event.Event.{Event}
use Rattle.hp_event.specs.declared.event.Event.TheVariants.{RegBegin, RegEnd}
use Rattle.hp_model.specs.Journal.{EachAfter}
use Rattle.hp_model.specs.Lawful.{Comes, Stands, IsLawful}
use Rattle.hp_model.specs.Lists.{rising}
use Rattle.hp_model.specs.RefusalsAtOnce.{refusals_at_once}
use Rattle.hp_model.specs.Registered.{Registered, registered, registered_step, is_named, after_ok, after_answer, applied}
use Rattle.hp_model.specs.Registrations.{Registration, registration}
use Rattle.hp_model.specs.Resolved.{lowest_free, resolved}
use Rattle.hp_model.specs.StandsRegistrations.{RegBegins}
use Rattle.hp_model.specs.Subsystems.{is_multi, sub_numbered, has_no_name}
use Rattle.hp_model.specs.Walks.{Walk, walk}
use Rattle.hp_model.proofs.Induction.{kept}
use Rattle.hp_model.proofs.Kept.{WalkKept, Kept}
use Rattle.hp_model.proofs.Laws.{registration_push, registered_push, EachAfter_keeps}
use Rattle.hp_model.proofs.Passing.{passed, none_holds}

-- ---- a setup is at a state

-- what is found of a row is in it
found_within : (p : ℕ → Bool) (a n s : ℕ) → find p (a ∷ rising a n) ≡ Some s → s ≤ a + n
found_within p a zero s h = go (p a) h
  where
    go : (b : Bool) → cond b (Some a) None ≡ Some s → s ≤ a + 0
    go true e = let same : a ≡ s = cc in omega (arith, same)
    go false e = absurd (cc)
found_within p a (suc n) s h = go (p a) h (found_within p (suc a) n s)
  where
    go : (b : Bool) → cond b (Some a) (find p (suc a ∷ rising (suc a) n)) ≡ Some s →
        (find p (suc a ∷ rising (suc a) n) ≡ Some s → s ≤ suc a + n) → s ≤ a + suc n
    go true e rest = let same : a ≡ s = cc in omega (arith, same)
    go false e rest = let k = rest e in omega (arith, k)

slot_low : (head : Head) (es : List Event) (asked s : ℕ) → is_dynamic asked ≡ true → lowest_free head asked es ≡ Some s → s ≤ ONLINE
unfolding lowest_free
slot_low head es asked s dynamic h =
    let w = found_within (λ u. not (is_named head u es)) asked (end_of_range asked - asked) s h in
    go (eqb asked PREPARE_DYN) (eqb asked ONLINE_DYN) refl refl dynamic w
  where
    go : (prepare online : Bool) → eqb asked PREPARE_DYN ≡ prepare → eqb asked ONLINE_DYN ≡ online → cond prepare true online ≡ true →
        s ≤ asked + (cond prepare 61 171 - asked) → s ≤ ONLINE
    go true online e f d w = let a : asked ≡ 41 = eqb-true asked PREPARE_DYN e in omega (arith, a, w)
    go false true e f d w = let a : asked ≡ 141 = eqb-true asked ONLINE_DYN f in omega (arith, a, w)
    go false false e f d w = absurd (cc)

resolved_low : (head : Head) (es : List Event) (asked state number : ℕ) (form : Form) (b : Bool) → is_dynamic asked ≡ b → asked < ONLINE →
    resolved head es (Setup asked number form) ≡ Some state → state ≤ ONLINE
resolved_low head es asked state number form true d below r =
    let s = slot_low head es asked state d (rw d at r) in omega (arith, s)
resolved_low head es asked state number form false d below r =
    let is : asked ≡ state = same_some asked state (rw d at r) in omega (arith, is, below)

-- where an operation registers
abbrev IsLow : Op → (state : ℕ) → Type 0
IsLow (Setup asked number form) state = state ≤ ONLINE
IsLow op state = Unit {0}

begin_low : (head : Head) (es : List Event) (seat state : ℕ) (op : Op) → RegBegins head es seat state op → IsLow op state
begin_low head es seat state (Setup asked number form) b =
    let p = passed head es seat (Setup asked number form) b.free.idle b.passes.not_waiting b.passes.not_refused in
    let first = none_holds (refusals_at_once head es seat (Setup asked number form)) p.0 in
    let parts = or_parts (eqb asked 0) (leb ONLINE asked || has_no_name (sub_numbered head number)) first.1.1.0 in
    let more = or_parts (leb ONLINE asked) (has_no_name (sub_numbered head number)) parts.1 in
    resolved_low head es asked state number form (is_dynamic asked) refl (leb-false ONLINE asked more.0) b.state_is
begin_low head es seat state op b = tt

-- ---- nothing is registered above the highest state

record AreLow (head : Head) (es : List Event) : Type 0 where
  none_above : (s : ℕ) → ONLINE < s → registered head s es ≡ None
  registers_low : (r : Registration) → registration es ≡ Some r → IsLow r.op r.state

low_none : (head : Head) → AreLow head []
unfolding registered registration
low_none head = record { none_above = λ s above. refl; registers_low = λ r h. absurd (none_some r h) }

applied_none : (head : Head) (op : Op) (state s : ℕ) (found : Option Registered) → ONLINE < s → state ≡ s → IsLow op state → found ≡ None →
    applied head op found ≡ None
applied_none head (Setup asked number form) state s found above at low none = absurd (omega (arith, at, low, above))
applied_none head (Remove asked form) state s found above at low none = refl
applied_none head (Add asked inst form) state s found above at low none = rw none refl
applied_none head (Del asked inst form) state s found above at low none = rw none refl
applied_none head op state s found above at low none = none

left_none : (head : Head) (es : List Event) (s : ℕ) (answer : Answer) → ONLINE < s → AreLow head es →
    after_answer head s answer (registration es) (registered head s es) ≡ None
left_none head es s (answered.Ok value) above k = go (registration es) refl
  where
    apart : (r : Registration) (b : Bool) → registration es ≡ Some r → eqb r.state s ≡ b →
        cond b (applied head r.op (registered head s es)) (registered head s es) ≡ None
    apart r true is e =
        applied_none head r.op r.state s (registered head s es) above (eqb-true r.state s e) (k.registers_low r is) (k.none_above s above)
    apart r false is e = k.none_above s above

    go : (o : Option Registration) → registration es ≡ o → after_ok head s o (registered head s es) ≡ None
    go None is = k.none_above s above
    go (Some r) is = apart r (eqb r.state s) is refl
left_none head es s (answered.Refused errno) above k = k.none_above s above
left_none head es s (answered.Fault code) above k = k.none_above s above
left_none head es s (answered.Stuck first second at) above k = k.none_above s above
left_none head es s answered.LogFull above k = k.none_above s above

low_step : (head : Head) (es : List Event) (e : Event) → Stands head es e → AreLow head es → AreLow head (es ++ e ∷ [])
low_step head es (RegBegin seat state op) stands k =
    let e : Event = RegBegin seat state op in
    let r : Registration = record { seat = seat; state = state; op = op; before = es } in
    let low : IsLow op state = begin_low head es seat state op stands.0 in
    record {
      none_above = λ s above. registered_push head s es e ∙ k.none_above s above;
      registers_low = λ x h.
          let at : r ≡ x = same_some r x (sym (registration_push es e) ∙ h) in subst (λ (y : Registration). IsLow y.op y.state) at low;
    }
low_step head es (RegEnd seat answer) stands k =
    let e : Event = RegEnd seat answer in
    record {
      none_above = λ s above. registered_push head s es e ∙ left_none head es s answer above k;
      registers_low = λ x h. absurd (none_some x (sym (registration_push es e) ∙ h));
    }
low_step head es e stands k = record {
  none_above = λ s above. registered_push head s es e ∙ k.none_above s above;
  registers_low = λ x h. k.registers_low x (sym (registration_push es e) ∙ h);
}

pub none_above : (head : Head) (es : List Event) → IsLawful head es → (s : ℕ) → ONLINE < s → registered head s es ≡ None
none_above head es h =
    (EachAfter_keeps (Stands head) (λ xs. AreLow head xs) (low_step head) [] es (low_none head) h.1).none_above

-- ---- it has an instance list where its subsystem has

abbrev IsOfSub : Head → Option Registered → Type 0
IsOfSub head None = Unit {0}
IsOfSub head (Some r) = is_multi head r.sub ≡ r.multi

applied_of_sub : (head : Head) (op : Op) (found : Option Registered) → IsOfSub head found → IsOfSub head (applied head op found)
applied_of_sub head (Setup state sub form) found h = refl
applied_of_sub head (Remove state form) found h = tt
applied_of_sub head (Add state inst form) None h = tt
applied_of_sub head (Add state inst form) (Some r) h = h
applied_of_sub head (Del state inst form) None h = tt
applied_of_sub head (Del state inst form) (Some r) h = h
applied_of_sub head op found h = h

ok_of_sub : (head : Head) (s : ℕ) (r : Option Registration) (found : Option Registered) → IsOfSub head found →
    IsOfSub head (after_ok head s r found)
ok_of_sub head s None found h = h
ok_of_sub head s (Some r) found h = go (eqb r.state s)
  where
    go : (b : Bool) → IsOfSub head (cond b (applied head r.op found) found)
    go true = applied_of_sub head r.op found h
    go false = h

step_of_sub : (head : Head) (s : ℕ) (xs : List Event) (e : Event) (found : Option Registered) → IsOfSub head found →
    IsOfSub head (registered_step head s found xs e)
step_of_sub head s xs (RegEnd seat (answered.Ok value)) found h = ok_of_sub head s (registration xs) found h
step_of_sub head s xs (RegEnd seat (answered.Refused errno)) found h = h
step_of_sub head s xs (RegEnd seat (answered.Fault code)) found h = h
step_of_sub head s xs (RegEnd seat (answered.Stuck first second at)) found h = h
step_of_sub head s xs (RegEnd seat answered.LogFull) found h = h
step_of_sub head s xs e found h = h

pub of_sub : (head : Head) (s : ℕ) (before xs : List Event) → IsOfSub head (registered head s before) →
    IsOfSub head (registered head s (before ++ xs))
of_sub head s before [] h = rw append-nil h
of_sub head s before (e ∷ xs) h =
    let more : IsOfSub head (registered head s (before ++ e ∷ [])) =
    rw registered_push (step_of_sub head s before e (registered head s before) h) in
    rw append_assoc at (of_sub head s (before ++ e ∷ []) xs more)

none_of_sub : (head : Head) (s : ℕ) → IsOfSub head (registered head s [])
unfolding registered
none_of_sub head s = tt

pub has_list : (head : Head) (s : ℕ) (xs : List Event) (r : Registered) → registered head s xs ≡ Some r → is_multi head r.sub ≡ r.multi
has_list head s xs r e = let h : IsOfSub head (registered head s xs) = of_sub head s [] xs (none_of_sub head s) in rw e at h

-- ---- it stays while a processor walks

pub stays_in_walk : (head : Head) (c : ℕ) (xs : List Event) (w : Walk) → IsLawful head xs → walk c xs ≡ Some w → (s : ℕ) →
    registered head s xs ≡ registered head s w.before
stays_in_walk head c xs w lawful e =
    let k : WalkKept head c w xs = rw e at ((kept head xs lawful).at c).kept in k.registered_same
