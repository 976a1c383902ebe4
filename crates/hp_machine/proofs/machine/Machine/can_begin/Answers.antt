use Rattle.std.proofs.Common.{sym, ◌∙◌}
use Rattle.hp_machine.proofs.RefusalsSaid.{refused_first, refused_then, not_refused_yet, waits_said, ready_said}
use Rattle.hp_machine.proofs.machine.Machine.can_begin.Goals as goal

pub returns-in-Some-clause-blocked : goal.returns-in-Some-clause-blocked
returns-in-Some-clause-blocked g c =
    let m = c.args.self.now in
    refused_first m.head m.events c.args.seat c.args.op.now c.in-Some.errno c.requires
    (sym c.refusal_at_once.ensures ∙ c.in-Some.is)

pub returns-in-Some-wait_to_begin-clause-blocked : goal.returns-in-Some-wait_to_begin-clause-blocked
returns-in-Some-wait_to_begin-clause-blocked g c =
    let m = c.args.self.now in
    let once = sym c.refusal_at_once.ensures ∙ c.in_default.is in
    let why = sym c.in-Some-wait_to_begin.is ∙ c.wait_to_begin.ensures in
    record {
      not_refused =
          not_refused_yet m.head m.events c.args.seat c.args.op.now c.requires once
          (waits_said m.events c.args.op.now c.in-Some-wait_to_begin.why why);
      why_is = why;
    }

pub refusal_after_waits-requires-clause-no_wait : goal.refusal_after_waits-requires-clause-no_wait
refusal_after_waits-requires-clause-no_wait g c =
    ready_said c.args.self.now.events c.args.op.now (sym c.in_default-wait_to_begin.is ∙ c.wait_to_begin.ensures)

pub refusal_after_waits-requires-clause-not_at_once : goal.refusal_after_waits-requires-clause-not_at_once
refusal_after_waits-requires-clause-not_at_once g c = (c.args.seat, sym c.refusal_at_once.ensures ∙ c.in_default.is)

pub returns-in-Some-refusal_after_waits-clause-blocked : goal.returns-in-Some-refusal_after_waits-clause-blocked
returns-in-Some-refusal_after_waits-clause-blocked g c =
    let m = c.args.self.now in
    let once = sym c.refusal_at_once.ensures ∙ c.in_default.is in
    let ready = ready_said m.events c.args.op.now (sym c.in_default-wait_to_begin.is ∙ c.wait_to_begin.ensures) in
    refused_then m.head m.events c.args.seat c.args.op.now c.requires once ready
    ∙ sym c.refusal_after_waits.ensures ∙ c.in-Some-refusal_after_waits.is

pub returns-in-None-clause-passes : goal.returns-in-None-clause-passes
returns-in-None-clause-passes g c =
    let m = c.args.self.now in
    let once = sym c.refusal_at_once.ensures ∙ c.in_default.is in
    let ready = ready_said m.events c.args.op.now (sym c.in_default-wait_to_begin.is ∙ c.wait_to_begin.ensures) in
    record {
      not_refused =
          refused_then m.head m.events c.args.seat c.args.op.now c.requires once ready
          ∙ sym c.refusal_after_waits.ensures ∙ c.in-None.is;
      not_waiting = ready;
    }
