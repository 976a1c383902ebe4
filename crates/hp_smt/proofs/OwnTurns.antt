-- A turn of the machine for a write's own operation is the step of the write.
use Rattle.std.proofs.Common.{◌≡◌, ℕ, Bool, true, false, cond, Option, Some, None, length, refl, sym, ap, ◌∙◌, subst, inl, inr}
use Rattle.std.proofs.lemmas.Bool.{true≢false}
use Rattle.hp_states.specs.declared.cpu_set.CpuSet.{CpuSet}
use Rattle.hp_event.specs.declared.answer.Answer.{Answer}
use Rattle.hp_event.specs.declared.event.Event.{Event}
use Rattle.hp_event.specs.declared.op.Op.{Op}
use Rattle.hp_locks.specs.declared.why.Why.{Why}
use Rattle.hp_locks.specs.declared.why.Why.TheVariants.{ApTurn, HookOut}
use Rattle.hp_model.specs.NextEvent.{next_event, is_full}
use Rattle.hp_table.specs.Step.{AllHome}
use Rattle.hp_machine.proofs.FullNone.{full_none}
use Rattle.hp_board.specs.Contents.{Contents}
use Rattle.hp_board.specs.Turns.{IsTurn, IsNotYet}
use Rattle.hp_board.specs.declared.turn.Turn.{Turn}
use Rattle.hp_board.specs.declared.turn.Turn.TheVariants.{Made, Answered, NotYet}
use Rattle.hp_smt.specs.Contents.{after_event}
use Rattle.hp_smt.specs.Gone.{gone_by}
use Rattle.hp_smt.specs.Modes.{own_op}
use Rattle.hp_smt.specs.Turns.{SaysStep, SaysWait}
use Rattle.hp_smt.specs.Writes.{Step, after_own, after_answer, is_done, taking_of, under, at_rest, mode_before, recorded_after, goes_on, answers}
use Rattle.hp_smt.specs.declared.setting.Gone.{Gone}
use Rattle.hp_smt.specs.declared.setting.Write.{Write}

-- where no hook is lent what isn't made yet has no event, and room
pub not_yet : (b : Contents) (k : ℕ) (op : Op) (why : Why) → AllHome b.places → IsNotYet k op b why →
    (next_event b.head b.events k op ≡ None) × (is_full b.head b.events k op ≡ false)
not_yet b k op (HookOut s) home (inl w) = absurd (true≢false (sym (home s) ∙ w.away))
not_yet b k op (HookOut s) home (inr w) = absurd (true≢false (sym (home s) ∙ w.out.away))
not_yet b k op (ApTurn cpu) home h = (h.0.no_event, h.0.not_full)
not_yet b k op why home h = (h.no_event, h.not_full)

-- what a turn made of machine and setting is the step
pub record Turned (w : Write) (c : ℕ) (old new : Contents) (step : Step) (gone : Gone) : Type 0 where
  pub new_is : new ≡ after_event old step.event
  pub setting_is : gone.setting ≡ step.setting
  pub says : SaysStep old step gone.turn
  pub waits : SaysWait old w (Some c) gone.turn

made_answer : (recorded : CpuSet) (w : Write) (c at : ℕ) (old new : Contents) (e : Event) (a : Answer) → new ≡ after_event old (Some e) →
    at ≡ length old.events → (b : Bool) →
    Turned w c old new
    (cond b (goes_on (Some e) (under (recorded_after w.want recorded c) (taking_of w None)))
    (answers (Some e) (at_rest (mode_before w) recorded) a))
    (cond b (record { setting = under (recorded_after w.want recorded c) (taking_of w None); turn = Made at })
    (record { setting = at_rest (mode_before w) recorded; turn = Answered (Some at) a }))
made_answer recorded w c at old new e a is place true =
    record { new_is = is; setting_is = refl; says = (refl, refl, place); waits = tt }
made_answer recorded w c at old new e a is place false =
    record { new_is = is; setting_is = refl; says = (refl, refl, place); waits = tt }

pub own_turned : (recorded : CpuSet) (w : Write) (c : ℕ) (old new : Contents) (turn : Turn) → AllHome old.places →
    IsTurn w.seat (own_op w.want c) old new turn →
    Turned w c old new
    (after_own recorded w c (next_event old.head old.events w.seat (own_op w.want c)) (is_full old.head old.events w.seat (own_op w.want c)))
    (gone_by recorded w c turn)
own_turned recorded w c old new (Made at) home t =
    let full = is_full old.head old.events w.seat (own_op w.want c) in
    subst (λ (o : Option Event). Turned w c old new (after_own recorded w c o full) (gone_by recorded w c (Made at))) (sym t.next_is)
    (subst (λ (a : Option Answer). Turned w c old new (after_answer recorded w c t.event a) (gone_by recorded w c (Made at))) (sym t.answer_is)
    (record { new_is = t.new_is; setting_is = refl; says = (refl, refl, t.place_is); waits = tt }))
own_turned recorded w c old new (Answered (Some at) a) home t =
    let full = is_full old.head old.events w.seat (own_op w.want c) in
    subst (λ (o : Option Event). Turned w c old new (after_own recorded w c o full) (gone_by recorded w c (Answered (Some at) a))) (sym t.next_is)
    (subst (λ (x : Option Answer). Turned w c old new (after_answer recorded w c t.event x) (gone_by recorded w c (Answered (Some at) a)))
    (sym t.answer_is)
    (made_answer recorded w c at old new t.event a t.new_is t.place_is (is_done a)))
own_turned recorded w c old new (Answered None a) home t =
    let none = full_none old.head old.events w.seat (own_op w.want c) t.full in
    subst (λ (o : Option Event).
    Turned w c old new (after_own recorded w c o (is_full old.head old.events w.seat (own_op w.want c))) (gone_by recorded w c (Answered None a)))
    (sym none)
    (subst (λ (b : Bool). Turned w c old new (after_own recorded w c None b) (gone_by recorded w c (Answered None a))) (sym t.full)
    (record { new_is = t.same; setting_is = refl; says = (refl, ap Some (sym t.answer_is)); waits = tt }))
own_turned recorded w c old new (NotYet why) home t =
    let none = not_yet old w.seat (own_op w.want c) why home t.0 in
    subst (λ (o : Option Event).
    Turned w c old new (after_own recorded w c o (is_full old.head old.events w.seat (own_op w.want c))) (gone_by recorded w c (NotYet why)))
    (sym none.0)
    (subst (λ (b : Bool). Turned w c old new (after_own recorded w c None b) (gone_by recorded w c (NotYet why))) (sym none.1)
    (record { new_is = t.1; setting_is = refl; says = (refl, refl); waits = t.0 }))
