use Rattle.std.proofs.Common.{◌≡◌, ℕ, ◌∙◌, refl, ap, sym, subst, is_some, Some, None, Result, Ok, Err, List, length, true, false}
use Rattle.std.proofs.lemmas.Bool.{true≢false}
use Rattle.std.specs.Result.{IsErr}
use Rattle.hp_model.specs.Events.{answer_by}
use Rattle.hp_model.specs.NextEvent.{next_event}
use Rattle.hp_model.proofs.NextStands.{next_stands}
use Rattle.hp_event.specs.declared.event.Event.{Event}
use Rattle.hp_account.specs.Entries.{entry_event}
use Rattle.hp_machine.proofs.FullNone.{full_none}
use Rattle.hp_board.specs.Contents.{Contents, with_event}
use Rattle.hp_board.specs.Hooks.{has_hook, has_hook_after, leaves_hook}
use Rattle.hp_board.specs.Turns.{IsTurn, IsHookOut, IsNotYet, goes_on as turn_goes_on}
use Rattle.hp_board.specs.declared.turn.Turn.{Turn}
use Rattle.hp_board.specs.declared.turn.Turn.TheVariants.{Made, Answered, NotYet}
use Rattle.hp_board.proofs.HookOuts.{one_hook_out, comes_unless, full_unless, waits_out, made_waits_not, kept_out_for}
use Rattle.hp_event.specs.declared.answer.Answer.{Answer}
use Rattle.hp_event.specs.declared.answer.Answer.TheVariants.{LogFull}
use Rattle.hp_machine.specs.Next.{IsKept}
use Rattle.hp_locks.specs.declared.why.Why.{Why}
use Rattle.hp_locks.specs.declared.why.Why.TheVariants.{HookOut}
use Rattle.hp_model.specs.Lawful.{IsLawful}
use Rattle.hp_states.specs.declared.no_memory.NoMemory.{NoMemory}
use Rattle.hp_board.proofs.TurnsMade.{brought, turn_made, hook_after, hook_same, kept, unanswered}
use Rattle.hp_model.proofs.DueGives.{due_gives}
use Rattle.hp_board.specs.Loans.{loan, AreOut, IsCalm}
use Rattle.hp_board.proofs.Loans.{home_beside, disarms_not}
use Rattle.hp_board.proofs.LoansStay.{goes_on, loans_stay, out_stays}
use Rattle.hp_board.proofs.OwnEntries.{own_home}
use Rattle.hp_board.proofs.Served.{calm_entry}
use Rattle.hp_board.proofs.Waiting.{arms_leaves, arms_quietly}
use Rattle.hp_event.specs.declared.event.Event.TheVariants.{Call}
use Rattle.hp_event.specs.declared.event.Role.TheVariants.{Client}
use Rattle.hp_model.specs.Seats.{role_of}
use Rattle.hp_board.proofs.Busy.{hook_again}
use Rattle.hp_board.proofs.board.Board.turn.Goals as goal

pub make-requires-clause-stands : goal.make-requires-clause-stands
make-requires-clause-stands g c =
    let l = c.self.inside.machine in
    (next_stands l.head l.events c.args.by c.args.ask.now.op c.in-Event.event c.in-Event.ensures.0).0

pub make-requires-clause-no_entry : goal.make-requires-clause-no_entry
make-requires-clause-no_entry g c = c.in-Event.ensures.2

pub make-requires-clause-brings : goal.make-requires-clause-brings
make-requires-clause-brings g c =
    let l = c.self.inside.machine in
    let inside = c.self.inside.machine in
    brought inside c.args.self.now (record { seat = c.args.by; op = c.args.ask.now.op }) c.in-Event.event (is_some c.args.ask.now.hook)
    c.self.view_is c.sound.ensures.lawful c.requires.allowed c.requires.hook c.in-Event.ensures.0

pub make_entry-requires-clause-stands : goal.make_entry-requires-clause-stands
make_entry-requires-clause-stands g c =
    let l = c.self.inside.machine in
    (next_stands l.head l.events c.args.by c.args.ask.now.op (entry_event l.head l.events c.in-Entry.entry) c.in-Entry.ensures).0

pub returns-in_ok-make-in-Event-clause-turn : goal.returns-in_ok-make-in-Event-clause-turn
returns-in_ok-make-in-Event-clause-turn g c =
    let l = c.self.inside.machine in
    let e = c.in-Event.event in
    let k = c.args.by in
    let op = c.args.ask.now.op in
    let old = c.self.inside.machine in
    let new = c.make.new.machine in
    let made = c.in_ok-make-in-Event.ensures in
    let is : new ≡ with_event old e = made.made in
    let place : c.len-at.result ≡ length old.events =
    c.len-at.ensures.count ∙ ap (λ (es : List Event). length es) c.journal.ensures.events in
    let turn = turn_made old new k c.len-at.result op e c.in-Event.ensures.0 is place in
    subst (λ (b : Contents). IsTurn k op b new c.turn_of.result) c.self.view_is
    (subst (IsTurn k op old new) (sym c.turn_of.ensures) turn)

pub returns-in_ok-make-in-Event-clause-has_hook : goal.returns-in_ok-make-in-Event-clause-has_hook
returns-in_ok-make-in-Event-clause-has_hook g c =
    let l = c.self.inside.machine in
    let e = c.in-Event.event in
    let op = c.args.ask.now.op in
    let had = is_some c.args.ask.now.hook in
    let inside = c.self.inside.machine in
    let brings =
    brought inside c.args.self.now (record { seat = c.args.by; op = op }) e (is_some c.args.ask.now.hook) c.self.view_is
    c.sound.ensures.lawful c.requires.allowed c.requires.hook c.in-Event.ensures.0 in
    let made = c.in_ok-make-in-Event.ensures in
    let after =
    hook_after l.events e c.args.ask.now.hook c.make.new.hook brings made.hands made.left in
    let by_next = after ∙ ap (λ o. has_hook_after l.events o had) (sym c.in-Event.ensures.0) in
    subst (λ (b : Contents). is_some c.make.new.hook ≡ has_hook_after b.events (next_event b.head b.events c.args.by op) had) c.self.view_is by_next

pub returns-in_ok-make-in-Event-clause-same_hook : goal.returns-in_ok-make-in-Event-clause-same_hook
returns-in_ok-make-in-Event-clause-same_hook g c = λ leaves.
    let l = c.self.inside.machine in
    let e = c.in-Event.event in
    let op = c.args.ask.now.op in
    let inside = c.self.inside.machine in
    let brings =
    brought inside c.args.self.now (record { seat = c.args.by; op = op }) e (is_some c.args.ask.now.hook) c.self.view_is
    c.sound.ensures.lawful c.requires.allowed c.requires.hook c.in-Event.ensures.0 in
    let made = c.in_ok-make-in-Event.ensures in
    let here =
    subst (λ (b : Contents). leaves_hook b.events (next_event b.head b.events c.args.by op) ≡ true) (sym c.self.view_is) leaves in
    hook_same l.events e c.args.ask.now.hook c.make.new.hook brings made.hands made.left
    (ap (leaves_hook l.events) (sym c.in-Event.ensures.0) ∙ here)

pub returns-in-Full-clause-has_hook : goal.returns-in-Full-clause-has_hook
returns-in-Full-clause-has_hook g c =
    let l = c.self.inside.machine in
    let op = c.args.ask.now.op in
    let had = is_some c.args.ask.now.hook in
    let none = full_none l.head l.events c.args.by op c.in-Full.ensures in
    let here : had ≡ has_hook_after l.events (next_event l.head l.events c.args.by op) had =
    sym (ap (λ o. has_hook_after l.events o had) none) in
    subst (λ (b : Contents). had ≡ has_hook_after b.events (next_event b.head b.events c.args.by op) had) c.self.view_is here

pub returns-in-Full-clause-handed : goal.returns-in-Full-clause-handed
returns-in-Full-clause-handed g c = λ leaves.
    let l = c.self.inside.machine in
    let op = c.args.ask.now.op in
    let none = full_none l.head l.events c.args.by op c.in-Full.ensures in
    let here =
    subst (λ (b : Contents). leaves_hook b.events (next_event b.head b.events c.args.by op) ≡ false) (sym c.self.view_is) leaves in
    absurd (true≢false (sym (ap (leaves_hook l.events) none) ∙ here))

pub returns-in_ok-make-in-Event-clause-again : goal.returns-in_ok-make-in-Event-clause-again
returns-in_ok-make-in-Event-clause-again g c = λ on.
    let l = c.self.inside.machine in
    let e = c.in-Event.event in
    let op = c.args.ask.now.op in
    let k = c.args.by in
    let inside = c.self.inside.machine in
    let brings =
    brought inside c.args.self.now (record { seat = k; op = op }) e (is_some c.args.ask.now.hook) c.self.view_is
    c.sound.ensures.lawful c.requires.allowed c.requires.hook c.in-Event.ensures.0 in
    let made = c.in_ok-make-in-Event.ensures in
    let after = hook_after l.events e c.args.ask.now.hook c.make.new.hook brings made.hands made.left in
    let had : is_some c.args.ask.now.hook ≡ has_hook l.events k op =
    c.requires.hook ∙ ap (λ (b : Contents). has_hook b.events k op) (sym c.self.view_is) in
    let none = unanswered (answer_by e) c.len-at.result (ap turn_goes_on (sym c.turn_of.ensures) ∙ on) in
    after ∙ ap (has_hook_after l.events (Some e)) had ∙ hook_again l.head l.events k op e c.in-Event.ensures.0 none
    ∙ ap (λ (x : Contents). has_hook x.events k op) (sym made.made)

pub returns-in-Entry-clause-again : goal.returns-in-Entry-clause-again
returns-in-Entry-clause-again g c = λ on.
    let l = c.self.inside.machine in
    let e = entry_event l.head l.events c.in-Entry.entry in
    let op = c.args.ask.now.op in
    let k = c.args.by in
    let had : is_some c.args.ask.now.hook ≡ has_hook l.events k op =
    c.requires.hook ∙ ap (λ (b : Contents). has_hook b.events k op) (sym c.self.view_is) in
    had ∙ sym (kept (has_hook l.events k op)) ∙ hook_again l.head l.events k op e c.in-Entry.ensures refl
    ∙ ap (λ (x : Contents). has_hook x.events k op) (sym c.make_entry.ensures.made)

pub make_entry-requires-clause-home : goal.make_entry-requires-clause-home
make_entry-requires-clause-home g c =
    let b = c.self.inside.machine in
    let e = entry_event b.head b.events c.in-Entry.entry in
    let nothing = subst (λ (b : Contents). loan b c.args.by ≡ None) (sym c.self.view_is) c.requires.nothing in
    let client = subst (λ (b : Contents). role_of c.args.by b.events ≡ Some Client) (sym c.self.view_is) c.requires.allowed.client in
    let s = next_stands b.head b.events c.args.by c.args.ask.now.op e c.in-Entry.ensures in
    let due = due_gives b.head b.events c.args.by e c.sound.ensures.lawful s.0 refl s.1 in
    own_home b c.args.by c.in-Entry.entry c.sound.ensures.lawful c.self.invariant.out client due nothing

pub returns-in-Entry-clause-stays : goal.returns-in-Entry-clause-stays
returns-in-Entry-clause-stays g c = λ k.
    let b = c.self.inside.machine in
    let x = c.in-Entry.entry in
    let e = entry_event b.head b.events x in
    let nothing = subst (λ (b : Contents). loan b c.args.by ≡ None) (sym c.self.view_is) c.requires.nothing in
    let client = subst (λ (b : Contents). role_of c.args.by b.events ≡ Some Client) (sym c.self.view_is) c.requires.allowed.client in
    let s = next_stands b.head b.events c.args.by c.args.ask.now.op e c.in-Entry.ensures in
    let due = due_gives b.head b.events c.args.by e c.sound.ensures.lawful s.0 refl s.1 in
    let home = own_home b c.args.by x c.sound.ensures.lawful c.self.invariant.out client due nothing in
    ap (λ (z : Contents). loan z k) c.make_entry.ensures.made
    ∙ (loans_stay b c.args.by e c.sound.ensures.lawful c.self.invariant.out s.0 s.1 nothing (calm_entry b x home) k
    ∙ ap (λ (z : Contents). loan z k) c.self.view_is)

pub returns-in_ok-make-in-Event-clause-stays : goal.returns-in_ok-make-in-Event-clause-stays
returns-in_ok-make-in-Event-clause-stays g c = λ k.
    let l = c.self.inside.machine in
    let e = c.in-Event.event in
    let b = c.self.inside.machine in
    let made = c.in_ok-make-in-Event.ensures in
    let new = c.make.new.machine in
    let is : new ≡ with_event b e = made.made in
    let nothing = subst (λ (b : Contents). loan b c.args.by ≡ None) (sym c.self.view_is) c.requires.nothing in
    let calm = subst (λ (b : Contents). IsCalm b e) (sym c.self.view_is) c.in_default.ensures.calm in
    let s = next_stands l.head l.events c.args.by c.args.ask.now.op e c.in-Event.ensures.0 in
    let stay = loans_stay b c.args.by e c.sound.ensures.lawful c.self.invariant.out s.0 s.1 nothing calm k in
    ap (λ (z : Contents). loan z k) is ∙ (stay ∙ ap (λ (z : Contents). loan z k) c.self.view_is)

pub make-requires-clause-home : goal.make-requires-clause-home
make-requires-clause-home g c = λ is.
    let l = c.self.inside.machine in
    let stands = (next_stands l.head l.events c.args.by c.args.ask.now.op c.in-Event.event c.in-Event.ensures.0).0 in
    home_beside l c.in-Event.event c.sound.ensures.lawful c.self.invariant.out stands is

pub invariant_of-self-in-Event : goal.invariant_of-self-in-Event
invariant_of-self-in-Event g c =
    let b = c.self.inside.machine in
    let e = c.in-Event.event in
    let nothing = subst (λ (b : Contents). loan b c.args.by ≡ None) (sym c.self.view_is) c.requires.nothing in
    let calm = subst (λ (b : Contents). IsCalm b e) (sym c.self.view_is) c.in_default.ensures.calm in
    let s = next_stands b.head b.events c.args.by c.args.ask.now.op e c.in-Event.ensures.0 in
    record {
      out =
          subst AreOut (sym c.in_ok-make-in-Event.ensures.made)
          (out_stays b _ c.self.invariant.out
          (goes_on b c.args.by e c.sound.ensures.lawful c.self.invariant.out s.0 s.1 nothing calm));
      called = c.make.ensures.called;
    }

pub invariant_of-self-in-Entry : goal.invariant_of-self-in-Entry
invariant_of-self-in-Entry g c =
    let b = c.self.inside.machine in
    let x = c.in-Entry.entry in
    let e = entry_event b.head b.events x in
    let nothing = subst (λ (b : Contents). loan b c.args.by ≡ None) (sym c.self.view_is) c.requires.nothing in
    let client = subst (λ (b : Contents). role_of c.args.by b.events ≡ Some Client) (sym c.self.view_is) c.requires.allowed.client in
    let s = next_stands b.head b.events c.args.by c.args.ask.now.op e c.in-Entry.ensures in
    let due = due_gives b.head b.events c.args.by e c.sound.ensures.lawful s.0 refl s.1 in
    let home = own_home b c.args.by x c.sound.ensures.lawful c.self.invariant.out client due nothing in
    record {
      out =
          subst AreOut (sym c.make_entry.ensures.made)
          (out_stays b _ c.self.invariant.out
          (goes_on b c.args.by e c.sound.ensures.lawful c.self.invariant.out s.0 s.1 nothing (calm_entry b x home)));
      called = c.make_entry.ensures.called;
    }

same_why : (v w : Why) → ◌≡◌ {A = Result Turn NoMemory} (Ok (NotYet v)) (Ok (NotYet w)) → v ≡ w
same_why v w e = cc

err_apart : (r : Result Turn NoMemory) (t : Turn) → IsErr r → r ≡ Ok t → ⊥
err_apart (Ok x) t err ok = true≢false (sym err)
err_apart (Err e) t err ok = cc

-- a turn's answers that name two hooks name one
same_state : (s t : ℕ) → ◌≡◌ {A = Result Turn NoMemory} (Ok (NotYet (HookOut s))) (Ok (NotYet (HookOut t))) → s ≡ t
same_state s t e = cc

same_turn : (t u : Turn) → ◌≡◌ {A = Result Turn NoMemory} (Ok t) (Ok u) → t ≡ u
same_turn t u e = cc

made_apart : (at : ℕ) (s : ℕ) → Made at ≡ NotYet (HookOut s) → ⊥
made_apart at s e = cc

answered_apart : (answer : Answer) (s : ℕ) → Answered None answer ≡ NotYet (HookOut s) → ⊥
answered_apart answer s e = cc

pub returns-in-Some-clause-hook_out : goal.returns-in-Some-clause-hook_out
returns-in-Some-clause-hook_out g c = λ s.
    let b = c.args.self.now in
    let lawful = subst (λ (b : Contents). IsLawful b.head b.events) c.self.view_is c.sound.ensures.lawful in
    let next = subst (λ (b : Contents). next_event b.head b.events c.args.by c.args.ask.now.op ≡ Some c.in-Event.event) c.self.view_is c.in-Event.ensures.0 in
    let here = kept_out_for b c.in-Some.state c.args.by c.args.ask.now.op c.in-Event.event next c.in-Some.ensures.out in (
      λ h. ap (λ t. Ok (NotYet (HookOut t))) (one_hook_out b c.in-Some.state s c.args.by c.args.ask.now.op lawful here h),
      λ is. subst (λ t. IsHookOut t c.args.by c.args.ask.now.op b) (same_state c.in-Some.state s is) here,
    )

pub returns-in_ok-make-in-Event-clause-hook_out : goal.returns-in_ok-make-in-Event-clause-hook_out
returns-in_ok-make-in-Event-clause-hook_out g c = λ s.
    let b = c.args.self.now in
    let lawful = subst (λ (b : Contents). IsLawful b.head b.events) c.self.view_is c.sound.ensures.lawful in
    let next = subst (λ (b : Contents). next_event b.head b.events c.args.by c.args.ask.now.op ≡ Some c.in-Event.event) c.self.view_is c.in-Event.ensures.0 in (
      λ h. absurd (comes_unless b s c.args.by c.args.ask.now.op c.in-Event.event next c.in_default.ensures.calm.0 h),
      λ is. absurd (made_waits_not (answer_by c.in-Event.event) c.len-at.result c.turn_of.result (HookOut s) c.turn_of.ensures (same_turn c.turn_of.result (NotYet (HookOut s)) is)),
    )

pub returns-in_err-make-in-Event-clause-hook_out : goal.returns-in_err-make-in-Event-clause-hook_out
returns-in_err-make-in-Event-clause-hook_out g c = λ s.
    let b = c.args.self.now in
    let lawful = subst (λ (b : Contents). IsLawful b.head b.events) c.self.view_is c.sound.ensures.lawful in
    let next = subst (λ (b : Contents). next_event b.head b.events c.args.by c.args.ask.now.op ≡ Some c.in-Event.event) c.self.view_is c.in-Event.ensures.0 in (
      λ h. absurd (comes_unless b s c.args.by c.args.ask.now.op c.in-Event.event next c.in_default.ensures.calm.0 h),
      λ is. absurd (err_apart c.from_residual.result (NotYet (HookOut s)) c.from_residual.ensures.0 is),
    )

pub returns-in-Entry-clause-hook_out : goal.returns-in-Entry-clause-hook_out
returns-in-Entry-clause-hook_out g c = λ s.
    let b = c.args.self.now in
    let m = c.self.inside.machine in
    let x = c.in-Entry.entry in
    let back = λ (h : IsHookOut s c.args.by c.args.ask.now.op b). subst (λ (z : Contents). IsHookOut s c.args.by c.args.ask.now.op z) (sym c.self.view_is) h in (
      λ h. absurd (comes_unless m s c.args.by c.args.ask.now.op (entry_event m.head m.events x) c.in-Entry.ensures
          (λ t o. disarms_not m.events o.seat o.cpu t o.inst o.dir o.how (entry_event m.head m.events x) refl) (back h)),
      λ is. absurd (made_apart c.len-at-in-Entry.result s (same_turn (Made c.len-at-in-Entry.result) (NotYet (HookOut s)) is)),
    )

pub returns-in-Full-clause-hook_out : goal.returns-in-Full-clause-hook_out
returns-in-Full-clause-hook_out g c = λ s.
    let m = c.self.inside.machine in
    let op = c.args.ask.now.op in
    let back = λ (h : IsHookOut s c.args.by op c.args.self.now). subst (λ (z : Contents). IsHookOut s c.args.by op z) (sym c.self.view_is) h in (
      λ h. absurd (full_unless m s c.args.by op c.in-Full.ensures (back h)),
      λ is. absurd (answered_apart LogFull s (same_turn (Answered None LogFull) (NotYet (HookOut s)) is)),
    )

pub returns-in-Wait-clause-hook_out : goal.returns-in-Wait-clause-hook_out
returns-in-Wait-clause-hook_out g c = λ s.
    let b = c.args.self.now in
    let op = c.args.ask.now.op in
    let lawful = subst (λ (b : Contents). IsLawful b.head b.events) c.self.view_is c.sound.ensures.lawful in
    let kept = subst (λ (b : Contents). IsKept b.head b.events c.args.by op c.in-Wait.why) c.self.view_is c.in-Wait.ensures in
    let waits = c.waits_for.ensures c.args.by op kept in (
      λ h. ap (λ w. Ok (NotYet w)) (waits_out b s c.args.by op c.waits_for.result lawful c.requires.allowed h waits),
      λ is. subst (λ w. IsNotYet c.args.by op b w) (same_why c.waits_for.result (HookOut s) is) waits,
    )

pub returns-in-Some-clause-turn : goal.returns-in-Some-clause-turn
returns-in-Some-clause-turn g c =
    let b = c.args.self.now in
    let op = c.args.ask.now.op in
    let next = subst (λ (b : Contents). next_event b.head b.events c.args.by op ≡ Some c.in-Event.event) c.self.view_is c.in-Event.ensures.0 in
    (kept_out_for b c.in-Some.state c.args.by op c.in-Event.event next c.in-Some.ensures.out, refl)

pub returns-in-Some-clause-has_hook : goal.returns-in-Some-clause-has_hook
returns-in-Some-clause-has_hook g c =
    let b = c.args.self.now in
    let op = c.args.ask.now.op in
    let had = is_some c.args.ask.now.hook in
    let o = c.in-Some.ensures.out.0 in
    let next = subst (λ (b : Contents). next_event b.head b.events c.args.by op ≡ Some c.in-Event.event) c.self.view_is c.in-Event.ensures.0 in
    sym (ap (λ o. has_hook_after b.events o had) next
    ∙ arms_leaves b.events (Call o.seat o.cpu c.in-Some.state o.inst o.dir o.how) c.in-Event.event had c.in-Some.ensures.out.1)

pub returns-in-Some-clause-handed : goal.returns-in-Some-clause-handed
returns-in-Some-clause-handed g c = λ leaves.
    let b = c.args.self.now in
    let op = c.args.ask.now.op in
    let o = c.in-Some.ensures.out.0 in
    let next = subst (λ (b : Contents). next_event b.head b.events c.args.by op ≡ Some c.in-Event.event) c.self.view_is c.in-Event.ensures.0 in
    let quiet = arms_quietly b.events (Call o.seat o.cpu c.in-Some.state o.inst o.dir o.how) c.in-Event.event c.in-Some.ensures.out.1 in
    absurd (true≢false (sym quiet ∙ (ap (leaves_hook b.events) (sym next) ∙ leaves)))
