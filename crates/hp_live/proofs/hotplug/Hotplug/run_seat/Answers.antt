-- An operation goes on from section to section, until it is answered or memory is wanting.
use Rattle.std.proofs.Common.{refl, sym, ap, ◌∙◌, subst, inl, is_some}
use Rattle.std.proofs.lemmas.Bool.{true≢false}
use Rattle.hp_event.specs.declared.op.Op.{Op}
use Rattle.hp_account.specs.TableChanges.{hands_out}
use Rattle.hp_board.specs.declared.turn.Turn.TheVariants.{Made, Answered, NotYet}
use Rattle.hp_live.specs.declared.step.Stepped.TheVariants.{Turned}
use Rattle.hp_live.specs.Runs.{SteppedIn}
use Rattle.hp_live.specs.Sections.{TurnedIn}
use Rattle.hp_live.proofs.HooksBack.{Kept, has_same, kept_same}
use Rattle.hp_live.proofs.HooksLeft.{hook_left}
use Rattle.hp_live.proofs.RunsOn.{runs_self, runs_more, runs_lent, runs_ends, runs_back, runs_idle, runs_kept, runs_stays, runs_halts, halts_stays, halts_same, halts_asks, stepped_lent, fresh_self, fresh_waits, fresh_lent, fresh_wants, not_begun, wants_more}
use Rattle.hp_live.proofs.hotplug.Hotplug.run_seat.Given as given
use Rattle.hp_live.proofs.hotplug.Hotplug.run_seat.Goals as goal
use Rattle.hp_live.proofs.hotplug.Hotplug.run_seat.Goals.{In-Ok-Turned-Answered}

pub loop-init : goal.loop-init
loop-init g c =
    record {
      runs = runs_self c.args.own.now c.args.ask.now.op (is_some c.args.ask.now.hook) c.requires.asked;
      fresh = λ _. fresh_self c.args.own.now;
      hook = inl refl;
    }

abbrev SteppedNow : (g : given.Over) (c : In-Ok-Turned-Answered g) → Type 0
SteppedNow g c =
    SteppedIn g.H.Hook.counts c.loop.own.head c.loop.own.seat c.loop.ask.op c.loop.ask.hook c.step.new.ask.hook c.loop.own.front
    c.step.new.own.front (Turned (Answered c.in-Ok-Turned-Answered.field-0-0-0 c.in-Ok-Turned-Answered.answer))

stepped : (g : given.Over) (c : In-Ok-Turned-Answered g) → SteppedNow g c
stepped g c =
    let i = c.in-Ok-Turned-Answered in
    subst
    (SteppedIn g.H.Hook.counts c.loop.own.head c.loop.own.seat c.loop.ask.op c.loop.ask.hook c.step.new.ask.hook c.loop.own.front
    c.step.new.own.front)
    (i.field-0-is ∙ ap Turned i.field-0-0-is) i.ensures.stepped

abbrev AnsweredNow : (g : given.Over) (c : In-Ok-Turned-Answered g) → Type 0
AnsweredNow g c =
    TurnedIn c.loop.own.head c.loop.own.seat c.loop.ask.op (is_some c.loop.ask.hook) (is_some c.step.new.ask.hook) c.loop.own.front
    c.step.new.own.front (Answered c.in-Ok-Turned-Answered.field-0-0-0 c.in-Ok-Turned-Answered.answer)

answered : (g : given.Over) (c : In-Ok-Turned-Answered g) → AnsweredNow g c
answered g c = (stepped g c).0

pub returns-in-Ok-Turned-Answered-clause-answered : goal.returns-in-Ok-Turned-Answered-clause-answered
returns-in-Ok-Turned-Answered-clause-answered g c =
    runs_ends c.args.own.now c.loop.own c.step.new.own c.args.ask.now.op c.loop.ask.op (is_some c.loop.ask.hook)
    (is_some c.step.new.ask.hook) c.in-Ok-Turned-Answered.field-0-0-0 c.in-Ok-Turned-Answered.answer c.loop.invariant.runs
    (answered g (goal.at.returns-in-Ok-Turned-Answered-clause-answered g c).In-Ok-Turned-Answered)

pub returns-in-Ok-Turned-Answered-clause-idle : goal.returns-in-Ok-Turned-Answered-clause-idle
returns-in-Ok-Turned-Answered-clause-idle g c =
    runs_idle c.args.own.now c.loop.own c.step.new.own c.args.ask.now.op c.loop.ask.op (is_some c.loop.ask.hook)
    (is_some c.step.new.ask.hook) c.in-Ok-Turned-Answered.field-0-0-0 c.in-Ok-Turned-Answered.answer c.loop.invariant.runs
    c.in-Ok-Turned-Answered.ensures.same
    (answered g (goal.at.returns-in-Ok-Turned-Answered-clause-idle g c).In-Ok-Turned-Answered)

pub returns-in-Ok-Turned-Answered-clause-stays : goal.returns-in-Ok-Turned-Answered-clause-stays
returns-in-Ok-Turned-Answered-clause-stays g c =
    runs_stays c.args.own.now c.loop.own c.step.new.own c.args.ask.now.op c.loop.ask.op (is_some c.loop.ask.hook)
    (is_some c.step.new.ask.hook) (Answered c.in-Ok-Turned-Answered.field-0-0-0 c.in-Ok-Turned-Answered.answer) c.loop.invariant.runs
    (answered g (goal.at.returns-in-Ok-Turned-Answered-clause-stays g c).In-Ok-Turned-Answered)

pub returns-in-Ok-Turned-Answered-clause-hook : goal.returns-in-Ok-Turned-Answered-clause-hook
returns-in-Ok-Turned-Answered-clause-hook g c =
    hook_left c.loop.own.head c.loop.own.seat c.loop.ask.op (is_some c.loop.ask.hook) (is_some c.step.new.ask.hook) c.loop.own.front
    c.step.new.own.front c.in-Ok-Turned-Answered.field-0-0-0 c.in-Ok-Turned-Answered.answer
    (answered g (goal.at.returns-in-Ok-Turned-Answered-clause-hook g c).In-Ok-Turned-Answered)
    ∙ ap (λ (o : Op). hands_out o c.in-Ok-Turned-Answered.answer) c.loop.invariant.runs.op_is

pub returns-in-Ok-Turned-Answered-clause-back : goal.returns-in-Ok-Turned-Answered-clause-back
returns-in-Ok-Turned-Answered-clause-back g c =
    runs_back g.H.Hook.counts c.args.own.now c.loop.own c.step.new.own c.args.ask.now.op c.loop.ask.op c.args.ask.now.hook
    c.loop.ask.hook c.step.new.ask.hook c.in-Ok-Turned-Answered.field-0-0-0 c.in-Ok-Turned-Answered.answer c.loop.invariant.runs
    c.loop.invariant.hook (stepped g (goal.at.returns-in-Ok-Turned-Answered-clause-back g c).In-Ok-Turned-Answered)

pub loop-preserved-in-Ok-Turned-Made : goal.loop-preserved-in-Ok-Turned-Made
loop-preserved-in-Ok-Turned-Made g c =
    let i = c.in-Ok-Turned-Made in
    let s =
    subst
    (SteppedIn g.H.Hook.counts c.loop.own.head c.loop.own.seat c.loop.ask.op c.loop.ask.hook c.step.new.ask.hook c.loop.own.front
    c.step.new.own.front)
    (i.field-0-is ∙ ap Turned i.field-0-0-is) i.ensures.stepped in
    record {
      runs =
          runs_more c.args.own.now c.loop.own c.step.new.own c.args.ask.now.op c.loop.ask.op c.step.new.ask.op
          (is_some c.loop.ask.hook) (is_some c.step.new.ask.hook) (Made i.field-0-0-0) c.loop.invariant.runs i.ensures.same i.ensures.op
          s.0 refl;
      fresh = λ not. absurd (true≢false not);
      hook =
          runs_kept g.H.Hook.counts c.args.own.now c.loop.own c.step.new.own c.args.ask.now.op c.loop.ask.op c.args.ask.now.hook
          c.loop.ask.hook c.step.new.ask.hook (Made i.field-0-0-0) c.loop.invariant.runs c.loop.invariant.hook s refl;
    }

pub loop-preserved-in-Ok-Turned-NotYet : goal.loop-preserved-in-Ok-Turned-NotYet
loop-preserved-in-Ok-Turned-NotYet g c =
    let i = c.in-Ok-Turned-NotYet in
    let s =
    subst
    (SteppedIn g.H.Hook.counts c.loop.own.head c.loop.own.seat c.loop.ask.op c.loop.ask.hook c.step.new.ask.hook c.loop.own.front
    c.step.new.own.front)
    (i.field-0-is ∙ ap Turned i.field-0-0-is) i.ensures.stepped in
    record {
      runs =
          runs_more c.args.own.now c.loop.own c.step.new.own c.args.ask.now.op c.loop.ask.op c.step.new.ask.op
          (is_some c.loop.ask.hook) (is_some c.step.new.ask.hook) (NotYet i.field-0-0-0) c.loop.invariant.runs i.ensures.same
          i.ensures.op s.0 refl;
      fresh = λ none.
          fresh_waits c.args.own.now c.loop.own c.step.new.own c.loop.ask.op (is_some c.loop.ask.hook) (is_some c.step.new.ask.hook)
          i.field-0-0-0 c.loop.invariant.runs.same (c.loop.invariant.fresh none) s.0;
      hook =
          runs_kept g.H.Hook.counts c.args.own.now c.loop.own c.step.new.own c.args.ask.now.op c.loop.ask.op c.args.ask.now.hook
          c.loop.ask.hook c.step.new.ask.hook (NotYet i.field-0-0-0) c.loop.invariant.runs c.loop.invariant.hook s refl;
    }

pub loop-preserved-in-Ok-Lent : goal.loop-preserved-in-Ok-Lent
loop-preserved-in-Ok-Lent g c =
    let i = c.in-Ok-Lent in
    let l = stepped_lent g.H.Hook.counts c.loop.own.head c.loop.own.seat c.loop.ask.op c.loop.ask.hook c.step.new.ask.hook
    c.loop.own.front c.step.new.own.front i.field-0 i.field-0-0 i.field-0-is i.ensures.stepped in
    record {
      runs =
          runs_lent c.args.own.now c.loop.own c.step.new.own c.args.ask.now.op c.loop.ask.op c.step.new.ask.op
          (is_some c.loop.ask.hook) (is_some c.step.new.ask.hook) c.loop.invariant.runs i.ensures.same i.ensures.op l.0 (ap is_some l.1);
      fresh = λ none.
          fresh_lent c.args.own.now c.loop.own c.step.new.own c.loop.invariant.runs.same (c.loop.invariant.fresh none) l.0;
      hook = subst (Kept c.args.ask.now.op c.args.ask.now.hook) (sym l.1) c.loop.invariant.hook;
    }

pub returns-then-not-waits-clause-halted : goal.returns-then-not-waits-clause-halted
returns-then-not-waits-clause-halted g c =
    runs_halts c.args.own.now c.loop.own c.step.new.own c.args.ask.now.op c.loop.ask.op (is_some c.loop.ask.hook)
    c.loop.invariant.runs c.in-Err.ensures.wanted

pub returns-then-not-waits-clause-none : goal.returns-then-not-waits-clause-none
returns-then-not-waits-clause-none g c = λ finishes.
    fresh_wants c.args.own.now c.loop.own c.step.new.own c.loop.ask.op c.loop.invariant.runs.same
    (c.loop.invariant.fresh
    (not_begun c.args.finishes c.loop.begun (sym c.waits_for_memory-waits.ensures ∙ c.if-not-waits.true) finishes))
    c.in-Err.ensures.wanted

pub returns-then-not-waits-clause-stays : goal.returns-then-not-waits-clause-stays
returns-then-not-waits-clause-stays g c =
    halts_stays c.args.own.now c.loop.own c.step.new.own c.args.ask.now.op c.loop.ask.op (is_some c.loop.ask.hook)
    c.loop.invariant.runs c.in-Err.ensures.wanted

pub returns-then-not-waits-clause-as_before : goal.returns-then-not-waits-clause-as_before
returns-then-not-waits-clause-as_before g c =
    halts_same c.args.own.now c.loop.own c.step.new.own c.args.ask.now c.loop.ask c.step.new.ask c.loop.invariant.runs
    c.loop.invariant.hook c.in-Err.ensures.wanted c.in-Err.ensures.as_before

pub returns-then-not-waits-clause-again : goal.returns-then-not-waits-clause-again
returns-then-not-waits-clause-again g c =
    halts_asks c.args.own.now c.loop.own c.step.new.own c.args.ask.now.op c.loop.ask.op c.step.new.ask.op (is_some c.loop.ask.hook)
    (is_some c.step.new.ask.hook) c.loop.invariant.runs c.in-Err.ensures.same c.in-Err.ensures.op c.in-Err.ensures.wanted
    (has_same c.loop.ask c.step.new.ask c.in-Err.ensures.as_before)

pub loop-preserved : goal.loop-preserved
loop-preserved g c =
    record {
      runs =
          wants_more c.args.own.now c.loop.own c.step.new.own c.args.ask.now.op c.loop.ask.op c.step.new.ask.op
          (is_some c.loop.ask.hook) (is_some c.step.new.ask.hook) c.loop.invariant.runs c.in-Err.ensures.same c.in-Err.ensures.op
          c.in-Err.ensures.wanted (has_same c.loop.ask c.step.new.ask c.in-Err.ensures.as_before);
      fresh = λ none.
          fresh_wants c.args.own.now c.loop.own c.step.new.own c.loop.ask.op c.loop.invariant.runs.same (c.loop.invariant.fresh none)
          c.in-Err.ensures.wanted;
      hook =
          kept_same c.args.ask.now.op c.args.ask.now.hook c.loop.ask c.step.new.ask c.in-Err.ensures.as_before c.loop.invariant.hook;
    }
