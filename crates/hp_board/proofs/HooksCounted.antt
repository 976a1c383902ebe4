-- How many hooks a board has after a turn, together with the one that is asked with.
use Rattle.std.proofs.Common.{◌≡◌, ℕ, zero, suc, ◌+◌, ◌<◌, Bool, true, false, not, ◌&&◌, ◌||◌, cond, inr, is_some, Option, Some, None, IfSome, List, [], ◌∷◌, length, refl, sym, ap, ◌∙◌, subst, arith, ⊎_elim}
use Rattle.std.specs.Prelude.{slice_set, replicate}
use Rattle.std.proofs.lemmas.Bool.{false≢true, or_parts}
use Rattle.std.proofs.lemmas.List.{length-append, length-map}
use Rattle.std.proofs.lemmas.List.Sums.{sum_by-cons, sum_by-set}
use Rattle.hp_states.specs.declared.limits.TheConstants.{ONLINE}
use Rattle.hp_states.specs.Rules.{site_at}
use Rattle.hp_event.specs.declared.answer.Answer.{Answer}
use Rattle.hp_event.specs.declared.op.Op.{Op}
use Rattle.hp_event.specs.declared.op.Op.TheVariants.{Setup, Remove, Add, Del}
use Rattle.hp_event.specs.declared.head.Head.{Head}
use Rattle.hp_event.specs.declared.event.Event.{Event}
use Rattle.hp_event.specs.declared.event.Event.TheVariants.{RegBegin, RegEnd, Call}
use Rattle.hp_event.specs.Hows.{is_called}
use Rattle.hp_event.specs.Heads.{sub_numbered}
use Rattle.hp_hook.specs.Counted.{Counts}
use Rattle.hp_locks.specs.declared.why.Why.TheVariants.{HookOut, Idle}
use Rattle.hp_model.specs.Events.{is_call, is_registration_op}
use Rattle.hp_model.specs.Lawful.{IsLawful}
use Rattle.hp_model.specs.NextEvent.{next_event}
use Rattle.hp_model.specs.Pending.{Pending, IsAllowed}
use Rattle.hp_model.specs.Registrations.{registration}
use Rattle.hp_model.specs.Suspend.{is_ok}
use Rattle.hp_model.proofs.DueGives.{due_stands}
use Rattle.hp_model.proofs.NextStands.{next_stands, next_belongs}
use Rattle.hp_table.specs.Named.{is_builtin}
use Rattle.hp_table.specs.Sound.{IsSound}
use Rattle.hp_table.specs.Step.{Step, step_at, bare, changed, changed_at, called_step}
use Rattle.hp_table.specs.Instances.{with_instance, without_instance}
use Rattle.hp_table.proofs.Places.{get_or-step_at, within_places, set_same}
use Rattle.hp_account.specs.Table.{IsTableOf, HasRegistration}
use Rattle.hp_account.specs.TableChanges.{CanChange, is_setup, new_record, with_added, without_left, hands_out, table_after}
use Rattle.hp_account.proofs.Changeable.{can_change}
use Rattle.hp_machine.proofs.FullNone.{full_none}
use Rattle.hp_account.proofs.TableChanged.{some_found}
use Rattle.hp_board.specs.declared.turn.Turn.{Turn}
use Rattle.hp_board.specs.declared.turn.Turn.TheVariants.{Made, Answered, NotYet}
use Rattle.hp_board.proofs.Waiting.{not_made, arms_leaves}
use Rattle.hp_board.specs.Contents.{Contents, with_event}
use Rattle.hp_board.specs.HookCount.{hook_count, held}
use Rattle.hp_board.specs.Hooks.{has_hook, has_hook_after}
use Rattle.hp_board.specs.Retired.{hooks_of, IsRacked}
use Rattle.hp_board.specs.Turns.{IsTurn, IsServed, Makes}
use Rattle.hp_board.proofs.TurnsMade.{brings, kept}

-- a write counts what it writes in place of what stood there
count_set : (places : List (Option Step)) (s : ℕ) (place : Option Step) → s < length places →
    hook_count (slice_set places s place) + held (is_some (step_at places s)) ≡ hook_count places + held (is_some place)
count_set places s place below =
    subst (λ (p : Option Step). hook_count (slice_set places s place) + held (is_some p) ≡ hook_count places + held (is_some place))
    (get_or-step_at places s below)
    (sum_by-set (λ (p : Option Step). held (is_some p)) places s place None below)

-- a step that is changed, or isn't there, is as many
count_changed : (places : List (Option Step)) (s : ℕ) (f : Step → Step) → hook_count (changed_at places s f) ≡ hook_count places
count_changed places s f = go (step_at places s) refl
  where
    go : (place : Option Step) → step_at places s ≡ place → hook_count (slice_set places s (changed f place)) ≡ hook_count places
    go None is = ap hook_count (set_same places s None is)
    go (Some step) is =
        let n : hook_count (slice_set places s (Some (f step))) + held (is_some (step_at places s)) ≡ hook_count places + 1 =
        count_set places s (Some (f step)) (within_places places s step is) in
        let one : held (is_some (step_at places s)) ≡ 1 = ap (λ (p : Option Step). held (is_some p)) is in
        omega (arith, n, one)

count_changed_if : (b : Bool) (places : List (Option Step)) (s : ℕ) (f : Step → Step) →
    hook_count (cond b (changed_at places s f) places) ≡ hook_count places
count_changed_if true places s f = count_changed places s f
count_changed_if false places s f = refl

-- a step that is put where none is, is one more
count_put : (places : List (Option Step)) (s : ℕ) (step : Step) → s < length places → is_some (step_at places s) ≡ false →
    hook_count (slice_set places s (Some step)) ≡ hook_count places + 1
count_put places s step below vacant =
    let n : hook_count (slice_set places s (Some step)) + held (is_some (step_at places s)) ≡ hook_count places + 1 =
    count_set places s (Some step) below in
    let none : held (is_some (step_at places s)) ≡ 0 = ap held vacant in
    omega (arith, n, none)

-- a step that is taken out is one less
count_cleared_if : (b : Bool) (places : List (Option Step)) (s : ℕ) (step : Step) → step_at places s ≡ Some step →
    hook_count (cond b (slice_set places s None) places) + held b ≡ hook_count places
count_cleared_if true places s step is =
    let n : hook_count (slice_set places s None) + held (is_some (step_at places s)) ≡ hook_count places + 0 =
    count_set places s None (within_places places s step is) in
    let one : held (is_some (step_at places s)) ≡ 1 = ap (λ (p : Option Step). held (is_some p)) is in
    omega (arith, n, one)
count_cleared_if false places s step is = omega arith

-- what a registration adds as it begins: the hook of a setup
count_begun : (head : Head) (op : Op) (state : ℕ) (places : List (Option Step)) → length places ≡ ONLINE + 1 →
    CanChange head op state places → hook_count (with_added head op state places) ≡ hook_count places + held (is_setup op)
count_begun head (Setup asked number form) state places states can =
    let x = some_found (sub_numbered head number) can.0 in
    let high = can.2 in
    let below : state < length places = omega (arith, states, high) in
    let vacant = or_parts (is_builtin state) (is_some (step_at places state)) can.3 in
    rw x.is (count_put places state (bare (new_record number x.there)) below vacant.1)
count_begun head (Remove asked form) state places states can = omega arith
count_begun head (Add asked inst form) state places states can =
    let n = count_changed places state (with_instance inst) in omega (arith, n)
count_begun head (Del asked inst form) state places states can = omega arith
count_begun head op state places states can = elim can [ ]

-- what it leaves at its end: the hook that is handed out isn't there any more
count_ended : (op : Op) (answer : Answer) (state : ℕ) (places : List (Option Step)) (step : Step) →
    step_at places state ≡ Some step → is_registration_op op ≡ true →
    hook_count (without_left op answer state places) + held (hands_out op answer) ≡ hook_count places
count_ended (Setup asked sub form) answer state places step is registers =
    count_cleared_if (not (is_ok answer)) places state step is
count_ended (Remove asked form) answer state places step is registers = count_cleared_if (is_ok answer) places state step is
count_ended (Add asked inst form) answer state places step is registers =
    let n = count_changed_if (not (is_ok answer)) places state (without_instance inst) in omega (arith, n)
count_ended (Del asked inst form) answer state places step is registers =
    let n = count_changed_if (is_ok answer) places state (without_instance inst) in omega (arith, n)
count_ended op answer state places step is registers = absurd (false≢true registers)

-- a hook that is brought isn't held any more
spent : (b : Bool) → ((b && not b) || false) ≡ false
spent true = refl
spent false = refl

count_next : (head : Head) (es : List Event) (places : List (Option Step)) (p : Pending) (e : Event) (had : Bool) →
    IsLawful head es → IsTableOf head es places → IsSound places → IsAllowed head es p → had ≡ has_hook es p.seat p.op →
    next_event head es p.seat p.op ≡ Some e →
    hook_count (table_after head es e places) + held (has_hook_after es (Some e) had) ≡ hook_count places + held had
count_next head es places p (RegBegin seat state op) had lawful t sound a has next =
    let s = next_stands head es p.seat p.op (RegBegin seat state op) next in
    let brought : had ≡ is_setup op = has ∙ brings head es p (RegBegin seat state op) lawful a next refl in
    let n =
    count_begun head op state places sound.states (can_change head es places seat op state t sound s.0.0) in
    rw brought (ap (λ b. hook_count (with_added head op state places) + held b) (spent (is_setup op)) ∙ (let e = n in omega (arith, e)))
count_next head es places p (RegEnd seat answer) had lawful t sound a has next =
    let s = next_stands head es p.seat p.op (RegEnd seat answer) next in
    let r = s.0.0.of in
    let flies : registration es ≡ Some r = s.0.0.in_flight in
    let brought : had ≡ false = has ∙ brings head es p (RegEnd seat answer) lawful a next refl in
    let same = a.same r.op (inr (r, flies, s.0.0.seat_is ∙ s.1, refl)) in
    let registers : is_registration_op r.op ≡ true =
    ap is_registration_op same ∙ next_belongs head es p (RegEnd seat answer) lawful a next in
    let h : HasRegistration head es places r = subst (λ o. IfSome o (HasRegistration head es places)) flies t.in_flight in
    let n = count_ended r.op answer r.state places h.step h.place_is registers in
    rw (flies, brought) (omega (arith, n))
count_next head es places p (Call seat cpu state inst dir how) had lawful t sound a has next =
    ap (λ b. hook_count (table_after head es (Call seat cpu state inst dir how) places) + held b) (kept had)
    ∙ ap (λ n. n + held had) (count_changed_if (is_called how) places state (called_step (site_at cpu inst dir)))
count_next head es places p e had lawful t sound a has next = ap (λ b. hook_count places + held b) (kept had)

-- as many as before, with the hook that is asked with
abbrev KeepsHooks : (old new : Contents) → (next : Option Event) → (had : Bool) → Type 0
KeepsHooks old new next had = hook_count new.places + held (has_hook_after old.events next had) ≡ hook_count old.places + held had

makes_keep : (old new : Contents) (p : Pending) (had : Bool) (at : ℕ) (answer : Option Answer) → IsLawful old.head old.events →
    IsTableOf old.head old.events old.places → IsSound old.places → IsAllowed old.head old.events p →
    had ≡ has_hook old.events p.seat p.op → Makes (next_event old.head old.events p.seat p.op) at answer old new →
    KeepsHooks old new (next_event old.head old.events p.seat p.op) had
makes_keep old new p had at answer lawful t sound a has m =
    subst (λ (b : Contents). KeepsHooks old b (next_event old.head old.events p.seat p.op) had) (sym m.new_is)
    (subst (λ o. KeepsHooks old (with_event old m.event) o had) (sym m.next_is)
    (count_next old.head old.events old.places p m.event had lawful t sound a has m.next_is))

none_keeps : (old new : Contents) (next : Option Event) (had : Bool) → new ≡ old → next ≡ None → KeepsHooks old new next had
none_keeps old new next had same none =
    subst (λ (b : Contents). KeepsHooks old b next had) (sym same) (subst (λ o. KeepsHooks old old o had) (sym none) refl)

waits_keep : (old new : Contents) (next : Option Event) (had : Bool) → new ≡ old → has_hook_after old.events next had ≡ had →
    KeepsHooks old new next had
waits_keep old new next had same leaves =
    subst (λ (b : Contents). KeepsHooks old b next had) (sym same)
    (ap (λ h. hook_count old.places + held h) leaves)

pub turn_keeps_hooks : (old new : Contents) (p : Pending) (had : Bool) (turn : Turn) → IsLawful old.head old.events →
    IsTableOf old.head old.events old.places → IsSound old.places → IsAllowed old.head old.events p →
    had ≡ has_hook old.events p.seat p.op → IsTurn p.seat p.op old new turn →
    KeepsHooks old new (next_event old.head old.events p.seat p.op) had
turn_keeps_hooks old new p had (Made at) lawful t sound a has is = makes_keep old new p had at None lawful t sound a has is
turn_keeps_hooks old new p had (Answered (Some at) answer) lawful t sound a has is =
    makes_keep old new p had at (Some answer) lawful t sound a has is
turn_keeps_hooks old new p had (Answered None answer) lawful t sound a has is =
    none_keeps old new (next_event old.head old.events p.seat p.op) had is.same
    (full_none old.head old.events p.seat p.op is.full)
turn_keeps_hooks old new p had (NotYet why) lawful t sound a has is =
    ⊎_elim (λ none. none_keeps old new (next_event old.head old.events p.seat p.op) had is.1 none)
    (λ w. waits_keep old new (next_event old.head old.events p.seat p.op) had is.1
    (ap (λ o. has_hook_after old.events o had) w.1.next_is
    ∙ arms_leaves old.events (Call w.1.out.seat w.1.out.cpu w.0 w.1.out.inst w.1.out.dir w.1.out.how) w.1.event had w.1.arms))
    (not_made p.seat p.op old why is.0)

-- an entry leaves as many
count_call : (head : Head) (es : List Event) (places : List (Option Step)) (e : Event) → is_call e ≡ true →
    hook_count (table_after head es e places) ≡ hook_count places
count_call head es places (Call seat cpu state inst dir how) is =
    count_changed_if (is_called how) places state (called_step (site_at cpu inst dir))
count_call head es places e is = absurd (false≢true is)

pub serve_keeps_hooks : (old new : Contents) (by : ℕ) (turn : Turn) → IsServed by old new turn →
    hook_count new.places ≡ hook_count old.places
serve_keeps_hooks old new by (Made at) is =
    let s = due_stands old.head old.events by is.event is.next_is in
    ap (λ (b : Contents). hook_count b.places) is.new_is ∙ count_call old.head old.events old.places is.event s.1
serve_keeps_hooks old new by (NotYet (HookOut s)) is = ap (λ (b : Contents). hook_count b.places) is.1
serve_keeps_hooks old new by (NotYet Idle) is = ap (λ (b : Contents). hook_count b.places) is.1
serve_keeps_hooks old new by turn is = absurd is

-- the hooks of the places are as many as are counted, and so many are retired
pub hooks_counted : (places : List (Option Step)) → length (hooks_of places) ≡ hook_count places
hooks_counted [] = refl
hooks_counted (None ∷ ps) =
    let rest = hooks_counted ps in
    let n : hook_count (None ∷ ps) ≡ 0 + hook_count ps = sum_by-cons (λ (x : Option Step). held (is_some x)) None ps in
    omega (arith, rest, n)
hooks_counted (Some p ∷ ps) =
    let rest = hooks_counted ps in
    let n : hook_count (Some p ∷ ps) ≡ 1 + hook_count ps = sum_by-cons (λ (x : Option Step). held (is_some x)) (Some p) ps in
    omega (arith, rest, n)

pub racked_counted : {H : Type 0} (seen : H → Counts) (old new : List H) (places : List (Option Step)) →
    IsRacked seen old new (hooks_of places) → length new ≡ length old + hook_count places
racked_counted seen old new places r =
    ap length r.behind ∙ length-append old r.added
    ∙ ap (λ n. length old + n) (sym (length-map r.added seen) ∙ ap length r.are ∙ hooks_counted places)

-- a board that starts has none
pub none_counted : (n : ℕ) → hook_count (replicate n None) ≡ 0
none_counted zero = refl
none_counted (suc n) =
    let rest = none_counted n in
    let c : hook_count (None ∷ replicate n None) ≡ 0 + hook_count (replicate n None) =
    sum_by-cons (λ (p : Option Step). held (is_some p)) None (replicate n None) in
    omega (arith, rest, c)
