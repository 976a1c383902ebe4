-- A seat asks, section after section, until it has its read section or is refused one.
use Rattle.std.proofs.Common.{Some}
use Rattle.hp_live.proofs.ReadSteps.{waited_self, waited_more, waited_asks}
use Rattle.hp_live.proofs.RunsOn.{same_on}
use Rattle.hp_live.proofs.hotplug.Hotplug.lock_seat.Goals as goal

pub loop-init : goal.loop-init
loop-init g c = waited_self c.args.own.now c.requires.out c.requires.idle

pub loop-preserved : goal.loop-preserved
loop-preserved g c =
    waited_more c.args.own.now c.loop.own c.lock_step.new.own c.loop.invariant c.in-None-lock_step.ensures.same c.in-None-lock_step.ensures.asks

pub returns-in-Some-lock_step-clause-same : goal.returns-in-Some-lock_step-clause-same
returns-in-Some-lock_step-clause-same g c =
    same_on c.args.own.now c.loop.own c.lock_step.new.own c.loop.invariant.same c.in-Some-lock_step.ensures.same

pub returns-in-Some-lock_step-clause-asks : goal.returns-in-Some-lock_step-clause-asks
returns-in-Some-lock_step-clause-asks g c =
    waited_asks c.args.own.now c.loop.own c.lock_step.new.own.front (Some c.in-Some-lock_step.asked) c.loop.invariant c.in-Some-lock_step.ensures.asks
