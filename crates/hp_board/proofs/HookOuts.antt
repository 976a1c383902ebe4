-- A seat's operation waits for a hook that is lent exactly where it says so.
use Rattle.std.proofs.Common.{◌≡◌, ℕ, true, false, Option, Some, None, inl, inr, ◌⊎◌, sym, ap, ◌∙◌}
use Rattle.std.proofs.lemmas.Bool.{true≢false, false≢true, eqb-true, and_parts}
use Rattle.std.specs.Prelude.{is_some}
use Rattle.hp_machine.proofs.ThreadsWaited.{one_wait}
use Rattle.hp_states.proofs.Basics.{same_some, some_none}
use Rattle.hp_event.specs.declared.op.Op.{Op}
use Rattle.hp_event.specs.declared.event.Event.{Event}
use Rattle.hp_event.specs.declared.event.Event.TheVariants.{Armed, Call}
use Rattle.hp_model.specs.Lawful.{IsLawful}
use Rattle.hp_model.specs.Lent.{arms, arms_walker}
use Rattle.hp_model.specs.NextEvent.{next_event, is_full}
use Rattle.hp_model.specs.Pending.{IsAllowed}
use Rattle.hp_model.specs.Waits.{Wait}
use Rattle.hp_model.specs.Walks.{walk}
use Rattle.hp_model.proofs.EntryStays.{due_one}
use Rattle.hp_model.proofs.FindsOne.{finds_one}
use Rattle.hp_machine.specs.Next.{IsKept, WaitsFor}
use Rattle.hp_machine.proofs.FullNone.{full_none}
use Rattle.hp_locks.specs.declared.why.Why.{Why}
use Rattle.hp_locks.specs.declared.why.Why.TheVariants.{MapsHeld, WriterIn, ReadersIn, RegIn, ApTurn, HookOut, Idle}
use Rattle.hp_board.specs.Contents.{Contents}
use Rattle.hp_board.specs.Loans.{IsOutFor, WaitsForThread, WaitsToArm}
use Rattle.hp_board.proofs.Loans.{state_in}
use Rattle.hp_board.proofs.OwnEntries.{one_asked}
use Rattle.hp_board.specs.Turns.{IsHookOut, IsNotYet, turn_by}
use Rattle.hp_board.specs.declared.turn.Turn.{Turn}
use Rattle.hp_board.specs.declared.turn.Turn.TheVariants.{Made, Answered, NotYet}
use Rattle.hp_event.specs.declared.answer.Answer.{Answer}

-- what comes next and arms nobody whose hook is away doesn't wait for one
pub comes_unless : (b : Contents) (s k : ℕ) (op : Op) (e : Event) → next_event b.head b.events k op ≡ Some e →
    ((s : ℕ) (o : IsOutFor b s) → arms_walker b.events (Call o.seat o.cpu s o.inst o.dir o.how) e ≡ false) → IsHookOut s k op b → ⊥
comes_unless b s k op e next calm (inl w) = some_none e (sym next ∙ w.kept.no_event)
comes_unless b s k op e next calm (inr w) =
    let is = same_some w.event e (sym w.next_is ∙ next) in
    let arms = ap (arms_walker b.events (Call w.out.seat w.out.cpu s w.out.inst w.out.dir w.out.how)) (sym is) ∙ w.arms in
    true≢false (sym arms ∙ calm s w.out)

-- nor does an operation that has no room
pub full_unless : (b : Contents) (s k : ℕ) (op : Op) → is_full b.head b.events k op ≡ true → IsHookOut s k op b → ⊥
full_unless b s k op full (inl w) = true≢false (sym full ∙ w.kept.not_full)
full_unless b s k op full (inr w) = some_none w.event (sym w.next_is ∙ full_none b.head b.events k op full)

-- a write of `fail` arms one processor
armed_one : (e : Event) (c d : ℕ) → arms c e ≡ true → arms d e ≡ true → c ≡ d
armed_one (Armed seat cpu value) c d h g = sym (eqb-true cpu c h) ∙ eqb-true cpu d g
armed_one e c d h g = absurd (false≢true h)

-- of two waits for a hook both are for one
pub one_hook_out : (b : Contents) (s t k : ℕ) (op : Op) → IsLawful b.head b.events → IsHookOut s k op b → IsHookOut t k op b → s ≡ t
one_hook_out b s t k op lawful (inl w) (inl v) =
    let a = w.kept.why_is in
    let c = v.kept.why_is in
    let same = one_wait b.head b.events k w.cpu v.cpu lawful a c in
    same_some s t (sym w.asks ∙ (one_asked b.head b.events k w.cpu v.cpu a c lawful same ∙ v.asks))
one_hook_out b s t k op lawful (inl w) (inr v) = absurd (some_none v.event (sym v.next_is ∙ w.kept.no_event))
one_hook_out b s t k op lawful (inr w) (inl v) = absurd (some_none w.event (sym w.next_is ∙ v.kept.no_event))
one_hook_out b s t k op lawful (inr w) (inr v) =
    let o = w.out in
    let p = v.out in
    let is = same_some w.event v.event (sym w.next_is ∙ v.next_is) in
    let armed = (and_parts (is_some (walk o.cpu b.events)) (arms o.cpu w.event) w.arms).1 in
    let also = (and_parts (is_some (walk p.cpu b.events)) (arms p.cpu v.event) v.arms).1 in
    let cpu = armed_one v.event o.cpu p.cpu (ap (arms o.cpu) (sym is) ∙ armed) also in
    ap state_in
    (due_one b.head b.events o.seat p.seat (Call o.seat o.cpu s o.inst o.dir o.how) (Call p.seat p.cpu t p.inst p.dir p.how) lawful o.due p.due cpu)

-- and what waits for a hook waits for nothing else
pub waits_out : (b : Contents) (s k : ℕ) (op : Op) (why : Why) → IsLawful b.head b.events →
    IsAllowed b.head b.events (record { seat = k; op = op }) → IsHookOut s k op b → IsNotYet k op b why → why ≡ HookOut s
waits_out b s k op why lawful allowed h = of why
  where
    apart : (w : Wait) → WaitsFor b.head b.events k op w → next_event b.head b.events k op ≡ None → ⊥
    apart w waits none = go h
      where
        go : WaitsForThread b s k op ⊎ WaitsToArm b s k op → ⊥
        go (inl t) =
            (finds_one b.head b.events (record { seat = k; op = op }) lawful allowed).waits_thread
            (w, waits.not_refused, waits.wait_is) (t.cpu, t.kept.why_is)
        go (inr t) = some_none t.event (sym t.next_is ∙ none)

    no_thread : (cpu : ℕ) → IsKept b.head b.events k op (ApTurn cpu) → ((s : ℕ) → WaitsForThread b s k op → ⊥) →
        WaitsForThread b s k op ⊎ WaitsToArm b s k op → ⊥
    no_thread cpu kept none (inl t) = none s t
    no_thread cpu kept none (inr t) = some_none t.event (sym t.next_is ∙ kept.no_event)

    of : (why : Why) → IsNotYet k op b why → why ≡ HookOut s
    of (HookOut t) is = ap HookOut (one_hook_out b t s k op lawful is h)
    of (ApTurn cpu) is = absurd (no_thread cpu is.0 is.1 h)
    of (MapsHeld seat) is = absurd (apart _ is.why_is is.no_event)
    of (WriterIn seat) is = absurd (apart _ is.why_is is.no_event)
    of (ReadersIn count) is = absurd (apart _ is.why_is is.no_event)
    of (RegIn seat) is = absurd (apart _ is.why_is is.no_event)
    of Idle is = absurd is.why_is

-- what is answered of an event that was made is no wait
pub made_waits_not : (answer : Option Answer) (at : ℕ) (t : Turn) (why : Why) → t ≡ turn_by answer at → t ≡ NotYet why → ⊥
made_waits_not None at t why is waits = made_apart at why (sym is ∙ waits)
  where
    made_apart : (at : ℕ) (why : Why) → Made at ≡ NotYet why → ⊥
    made_apart at why e = cc
made_waits_not (Some answer) at t why is waits = answered_apart answer at why (sym is ∙ waits)
  where
    answered_apart : (answer : Answer) (at : ℕ) (why : Why) → Answered (Some at) answer ≡ NotYet why → ⊥
    answered_apart answer at why e = cc

-- a write of `fail` that is kept out waits for the hook of a state, and for no other
pub kept_out_for : (b : Contents) (t k : ℕ) (op : Op) (e : Event) → next_event b.head b.events k op ≡ Some e →
    (o : IsOutFor b t) × (arms_walker b.events (Call o.seat o.cpu t o.inst o.dir o.how) e ≡ true) → IsHookOut t k op b
kept_out_for b t k op e next arms = inr (record { event = e; next_is = next; out = arms.0; arms = arms.1 })
