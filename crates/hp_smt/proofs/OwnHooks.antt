-- A write's own operation brings no hook, and none comes back of it: the machine has as many after its turn as before, and each state its
-- own.
use Rattle.std.proofs.Common.{◌≡◌, ℕ, Bool, true, false, cond, eqb, not, ◌&&◌, Option, Some, None, List, append-nil, refl, ap, sym, subst, ◌∙◌, arith}
use Rattle.std.proofs.lemmas.Bool.{true≢false, eqb-true, eqb-false}
use Rattle.hp_states.specs.Rules.{site_at}
use Rattle.hp_event.specs.Hows.{is_called}
use Rattle.hp_event.specs.declared.head.Head.{Head}
use Rattle.hp_account.specs.Table.{IsTableOf}
use Rattle.hp_account.specs.TableChanges.{hands_hook, is_setup, table_after, with_added}
use Rattle.hp_board.specs.Contents.{Contents, with_event}
use Rattle.hp_board.specs.HookCount.{held}
use Rattle.hp_board.specs.HookLaws.{HasAsManyHooks}
use Rattle.hp_board.specs.Hooks.{has_hook_after}
use Rattle.hp_board.specs.Turns.{IsTurn}
use Rattle.hp_board.specs.declared.turn.Turn.{Turn}
use Rattle.hp_board.specs.declared.turn.Turn.TheVariants.{Made, Answered, NotYet}
use Rattle.hp_board.proofs.HooksCounted.{turn_keeps_hooks}
use Rattle.hp_event.specs.declared.event.Event.{Event}
use Rattle.hp_event.specs.declared.event.Event.TheVariants.{RegBegin, RegEnd, Call}
use Rattle.hp_event.specs.declared.op.Op.{Op}
use Rattle.hp_model.specs.Events.{BelongsTo, is_registration_op}
use Rattle.hp_model.specs.Lawful.{IsLawful}
use Rattle.hp_model.specs.NextEvent.{next_event}
use Rattle.hp_model.specs.Pending.{IsAllowed}
use Rattle.hp_model.specs.Seats.{is_busy}
use Rattle.hp_model.proofs.NextStands.{next_belongs}
use Rattle.hp_table.specs.Sound.{IsSound}
use Rattle.hp_table.specs.Step.{Step, step_at, changed, changed_at, called_step}
use Rattle.hp_table.proofs.Places.{step_at-changed_same, step_at-set_other}
use Rattle.hp_smt.specs.Hooks.{KeepsEachHook, step_by}
use Rattle.hp_smt.specs.Modes.{own_op}
use Rattle.hp_smt.specs.declared.mode.Control.{Control}
use Rattle.hp_smt.specs.declared.mode.Control.TheVariants.{On, Off, ForceOff}

is_no_setup : (want : Control) (c : ℕ) → is_setup (own_op want c) ≡ false
is_no_setup On c = refl
is_no_setup Off c = refl
is_no_setup ForceOff c = refl

registers_none : (want : Control) (c : ℕ) → is_registration_op (own_op want c) ≡ false
registers_none On c = refl
registers_none Off c = refl
registers_none ForceOff c = refl

-- nothing comes back of an event of an operation that registers nothing
none_back : (xs : List Event) (op : Op) (e : Event) → is_registration_op op ≡ false → BelongsTo op e → hands_hook xs e ≡ false
none_back xs op (RegEnd seat answer) none of = absurd (true≢false (sym of ∙ none))
none_back xs op e none of = refl

pub own_keeps_hooks : (old new : Contents) (k : ℕ) (want : Control) (c : ℕ) (turn : Turn) → IsLawful old.head old.events →
    IsTableOf old.head old.events old.places → IsSound old.places →
    IsAllowed old.head old.events (record { seat = k; op = own_op want c }) → IsTurn k (own_op want c) old new turn → HasAsManyHooks old new
own_keeps_hooks old new k want c turn lawful table sound allowed t =
    let kept = turn_keeps_hooks old new (record { seat = k; op = own_op want c }) false turn lawful table sound allowed
    (sym (ap (λ b. b && not (is_busy k old.events)) (is_no_setup want c))) t in
    let none = after (next_event old.head old.events k (own_op want c)) refl in
    let same = ap held none in
    omega (arith, kept, same)
  where
    after : (o : Option Event) → next_event old.head old.events k (own_op want c) ≡ o → has_hook_after old.events o false ≡ false
    after None f = refl
    after (Some e) f =
        none_back old.events (own_op want c) e (registers_none want c)
        (next_belongs old.head old.events (record { seat = k; op = own_op want c }) e lawful allowed f)

-- ---- which hooks the states have

-- in the table after an event of a write's own operation
own_table : (head : Head) (events : List Event) (places : List (Option Step)) (s : ℕ) (want : Control) (c : ℕ) (e : Event) →
    BelongsTo (own_op want c) e → step_at (table_after head events e places) s ≡ step_by e s (step_at places s)
own_table head events places s want c (RegBegin seat state asked) of =
    subst (λ (o : Op). step_at (with_added head o state places) s ≡ step_at places s) (sym of) (added want)
  where
    added : (want : Control) → step_at (with_added head (own_op want c) state places) s ≡ step_at places s
    added On = refl
    added Off = refl
    added ForceOff = refl
own_table head events places s want c (RegEnd seat answer) of = absurd (true≢false (sym of ∙ registers_none want c))
own_table head events places s want c (Call seat cpu state inst dir how) of = go (is_called how)
  where
    f : Step → Step
    f = called_step (site_at cpu inst dir)

    at : (b : Bool) → eqb state s ≡ b → step_at (changed_at places state f) s ≡ cond b (changed f (step_at places s)) (step_at places s)
    at true e =
        subst (λ z. step_at (changed_at places state f) z ≡ changed f (step_at places z)) (eqb-true state s e)
        (step_at-changed_same places state f)
    at false e = step_at-set_other places state (changed f (step_at places state)) s (eqb-false state s e)

    go : (b : Bool) →
        step_at (cond b (changed_at places state f) places) s
        ≡ cond b (cond (eqb state s) (changed f (step_at places s)) (step_at places s)) (step_at places s)
    go true = at (eqb state s) refl
    go false = refl
own_table head events places s want c e of = refl

pub keeps_each : (old new : Contents) → new ≡ old → KeepsEachHook old new
keeps_each old new is = record {
  made = None;
  events_are = ap (λ (b : Contents). b.events) is ∙ sym (append-nil old.events);
  steps_are = λ s. ap (λ (b : Contents). step_at b.places s) is;
}

pub own_keeps_each : (old new : Contents) (k : ℕ) (want : Control) (c : ℕ) (turn : Turn) → IsLawful old.head old.events →
    IsAllowed old.head old.events (record { seat = k; op = own_op want c }) → IsTurn k (own_op want c) old new turn → KeepsEachHook old new
own_keeps_each old new k want c turn lawful allowed t = go turn t
  where
    made : (e : Event) → next_event old.head old.events k (own_op want c) ≡ Some e → new ≡ with_event old e → KeepsEachHook old new
    made e next is = record {
      made = Some e;
      events_are = ap (λ (b : Contents). b.events) is;
      steps_are = λ s.
          ap (λ (b : Contents). step_at b.places s) is
          ∙ own_table old.head old.events old.places s want c e
          (next_belongs old.head old.events (record { seat = k; op = own_op want c }) e lawful allowed next);
    }

    go : (turn : Turn) → IsTurn k (own_op want c) old new turn → KeepsEachHook old new
    go (Made at) t = made t.event t.next_is t.new_is
    go (Answered (Some at) answer) t = made t.event t.next_is t.new_is
    go (Answered None answer) t = keeps_each old new t.same
    go (NotYet why) t = keeps_each old new t.1
