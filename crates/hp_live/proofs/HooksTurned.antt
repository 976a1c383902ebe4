-- What a turn of the board makes of the hook of an operation, by the journal.
use Rattle.std.proofs.Common.{◌≡◌, ◌⊎◌, inl, inr, ℕ, Bool, true, false, not, ◌&&◌, ◌||◌, Option, Some, None, IfSome, List, refl, sym, ap, ◌∙◌, subst, is_some}
use Rattle.std.proofs.lemmas.Bool.{false≢true, true≢false}
use Rattle.hp_states.proofs.Basics.{and_false}
use Rattle.hp_event.specs.declared.event.Event.{Event}
use Rattle.hp_event.specs.declared.event.Event.TheVariants.{Call, RegEnd}
use Rattle.hp_event.specs.declared.head.Head.{Head}
use Rattle.hp_event.specs.declared.op.Op.{Op}
use Rattle.hp_hook.specs.Counted.{Counts}
use Rattle.hp_locks.specs.declared.why.Why.{Why}
use Rattle.hp_model.specs.Calls.{sub_at}
use Rattle.hp_model.specs.Events.{is_call}
use Rattle.hp_model.specs.NextEvent.{next_event}
use Rattle.hp_model.specs.Registrations.{Registration, registration}
use Rattle.hp_model.specs.Subsystems.{plan_of}
use Rattle.hp_table.specs.Step.{Step, HasCounted}
use Rattle.hp_account.specs.Table.{HasRegistration, IsStepOf, IsTableOf, counts_by}
use Rattle.hp_account.specs.TableChanges.{brings_hook, hands_at_end, hands_hook, registering_step}
use Rattle.hp_board.specs.Contents.{Contents}
use Rattle.hp_board.specs.Hooks.{GetsStatesHook, KeepsItsHook, has_hook_after, leaves_hook}
use Rattle.hp_board.specs.Loans.{WaitsToArm}
use Rattle.hp_board.specs.Turns.{IsNotYet, IsTurn}
use Rattle.hp_board.specs.declared.turn.Ask.{Ask}
use Rattle.hp_board.specs.declared.turn.Turn.{Turn}
use Rattle.hp_board.specs.declared.turn.Turn.TheVariants.{NotYet}
use Rattle.hp_board.proofs.Waiting.{arms_quietly, not_made}
use Rattle.hp_live.specs.Hooks.{IsOfState, TurnsHook}

-- ---- a hook that is handed out

-- the end of a registration alone hands one out
hands_registers : (events : List Event) (e : Event) → hands_hook events e ≡ true → (r : Registration) × (registration events ≡ Some r)
hands_registers events (RegEnd seat answer) h = go (registration events) refl h
  where
    go : (r : Option Registration) → registration events ≡ r → hands_at_end r answer ≡ true →
        (r : Registration) × (registration events ≡ Some r)
    go None f h = absurd (true≢false (sym h))
    go (Some r) f h = (r, f)
hands_registers events e h = absurd (true≢false (sym h))

-- it is that of the state, as the table has it
of_state : {H : Type 0} (seen : H → Counts) (head : Head) (events : List Event) (places : List (Option Step)) (hook : H)
    (r : Registration) → IsTableOf head events places → registration events ≡ Some r →
    HasCounted (seen hook) (registering_step (registration events) places) → IsOfState seen head events hook
of_state seen head events places hook r table is counted =
    let t : HasRegistration head events places r = subst (λ z. IfSome z (HasRegistration head events places)) is table.in_flight in
    let s : IsStepOf head events r.state t.step =
    subst (λ z. IfSome z (IsStepOf head events r.state)) t.place_is (table.steps r.state) in
    let here : seen hook ≡ t.step.kept.counts =
    subst (λ z. HasCounted (seen hook) z) t.place_is
    (subst (λ z. HasCounted (seen hook) (registering_step z places)) is counted) in
    let plan : plan_of (sub_at head r.state events) ≡ s.sub.plan = ap plan_of (t.sub_is ∙ s.sub_is) in
    record { of = r; in_flight = is; counts_are = here ∙ (s.counts_are ∙ ap (λ p. counts_by p events r.state) (sym plan)) }

-- where there is one after an event that doesn't leave it, the event hands it out
there_of_state : {H : Type 0} (seen : H → Counts) (head : Head) (events : List Event) (places : List (Option Step)) (next : Option Event)
    (had : Bool) (now : Option H) → IsTableOf head events places → is_some now ≡ has_hook_after events next had →
    IfSome now (λ h. HasCounted (seen h) (registering_step (registration events) places)) → leaves_hook events next ≡ false →
    IfSome now (IsOfState seen head events)
there_of_state seen head events places None had now table has counted leaves = absurd (true≢false leaves)
there_of_state seen head events places (Some e) had None table has counted leaves = tt
there_of_state seen head events places (Some e) had (Some hook) table has counted leaves =
    go (hands_hook events e) (brings_hook e) refl refl
  where
    go : (a b : Bool) → hands_hook events e ≡ a → brings_hook e ≡ b → IsOfState seen head events hook
    go true b hands brings =
        let r = hands_registers events e hands in of_state seen head events places hook r.0 table r.1 counted
    go false true hands brings =
        absurd (true≢false (has ∙ (ap (λ z. (had && not z) || hands_hook events e) brings
        ∙ (ap (λ z. (had && false) || z) hands ∙ ap (λ z. z || false) (and_false had)))))
    go false false hands brings =
        absurd (true≢false (sym (ap (λ z. not z && not (hands_hook events e)) brings ∙ ap not hands) ∙ leaves))

-- ---- a turn

-- one that waits leaves the hook
pub waits_quietly : (b : Contents) (k : ℕ) (op : Op) (why : Why) → IsNotYet k op b why →
    leaves_hook b.events (next_event b.head b.events k op) ≡ true
waits_quietly b k op why h = go (not_made k op b why h)
  where
    go : (next_event b.head b.events k op ≡ None) ⊎ ((s : ℕ) × WaitsToArm b s k op) →
        leaves_hook b.events (next_event b.head b.events k op) ≡ true
    go (inl none) = ap (leaves_hook b.events) none
    go (inr (s, w)) =
        ap (leaves_hook b.events) w.next_is
        ∙ arms_quietly b.events (Call w.out.seat w.out.cpu s w.out.inst w.out.dir w.out.how) w.event w.arms

pub turns_hook : {H : Type 0} (seen : H → Counts) (b new : Contents) (k : ℕ) (was now : Ask H) (turn : Turn) →
    IsTableOf b.head b.events b.places → IsTurn k was.op b new turn →
    is_some now.hook ≡ has_hook_after b.events (next_event b.head b.events k was.op) (is_some was.hook) →
    KeepsItsHook b k was now → GetsStatesHook seen b k was now → TurnsHook seen b.head b.events k was.op was.hook now.hook turn
turns_hook seen b new k was now turn table t has keeps gets =
    record {
      same = keeps;
      states = λ leaves.
          there_of_state seen b.head b.events b.places (next_event b.head b.events k was.op) (is_some was.hook) now.hook table has
          (gets leaves) leaves;
      waits = λ why is. keeps (waits_quietly b k was.op why (subst (IsTurn k was.op b new) is t).0);
    }

-- ---- a hook that comes home from an entry

call_leaves : (events : List Event) (e : Event) → is_call e ≡ true → leaves_hook events (Some e) ≡ true
call_leaves events (Call seat cpu state inst dir how) call = refl
call_leaves events e call = absurd (false≢true call)

pub entry_leaves : {H : Type 0} (seen : H → Counts) (head : Head) (events : List Event) (k : ℕ) (op : Op) (hook : Option H) (turn : Turn)
    (e : Event) → next_event head events k op ≡ Some e → is_call e ≡ true → TurnsHook seen head events k op hook hook turn
entry_leaves seen head events k op hook turn e next call =
    record {
      same = λ leaves. refl;
      states = λ leaves. absurd (true≢false (sym (ap (leaves_hook events) next ∙ call_leaves events e call) ∙ leaves));
      waits = λ why is. refl;
    }
