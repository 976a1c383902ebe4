-- What holds of a client's pass after a try.
use Rattle.std.proofs.Common.{sym, subst, is_some}
use Rattle.hp_live.specs.Known.{Seated}
use Rattle.hp_live.specs.Sections.{CanAsk}
use Rattle.hp_live.specs.Runs.{ComesBack}
use Rattle.hp_live.proofs.AfterTries.{Did, did, tried_asks, tried_back, tried_hook, tried_idle, tried_out}
use Rattle.hp_live.proofs.hotplug.Hotplug.try_turn.Given as given
use Rattle.hp_live.proofs.hotplug.Hotplug.try_turn.Goals as goal
use Rattle.hp_live.proofs.hotplug.Hotplug.try_turn.Goals.{After-try_step}

asked : (g : given.Over) (c : After-try_step g) →
    CanAsk c.args.pass.now.head c.args.pass.now.front c.args.pass.now.seat c.args.ask.now.op (is_some c.args.ask.now.hook) →
    CanAsk c.pass.inside.own.head c.pass.inside.own.front c.pass.inside.own.seat c.args.ask.now.op (is_some c.args.ask.now.hook)
asked g c a = subst (λ (s : Seated). CanAsk s.head s.front s.seat c.args.ask.now.op (is_some c.args.ask.now.hook)) (sym c.pass.view_is) a

tried : (g : given.Over) (c : After-try_step g) →
    Did g.H.Hook.counts c.pass.inside.own c.try_step.new.own c.args.ask.now c.try_step.new.ask c.try_step.result
tried g c =
    did g.H.Hook.counts c.pass.inside.own c.try_step.new.own c.args.ask.now c.try_step.new.ask c.try_step.result c.try_step.ensures.tried
    c.try_step.ensures.wanted c.try_step.ensures.as_before

pub invariant_of-pass : goal.invariant_of-pass
invariant_of-pass g c =
    tried_out g.H.Hook.counts c.pass.inside.own c.try_step.new.own c.args.ask.now c.try_step.new.ask c.try_step.result c.try_step.ensures.same
    c.requires.op (asked g c c.requires.asked) (tried g c) c.pass.invariant

pub returns-clause-again : goal.returns-clause-again
returns-clause-again g c = λ goes.
    let at = (goal.at.returns-clause-again g c).After-try_step in
    tried_asks g.H.Hook.counts c.pass.inside.own c.try_step.new.own c.args.ask.now c.try_step.new.ask c.try_step.result c.try_step.ensures.same
    c.try_step.ensures.op (asked g at c.requires.asked) (tried g at) goes

pub returns-clause-idle : goal.returns-clause-idle
returns-clause-idle g c = λ ends.
    let at = (goal.at.returns-clause-idle g c).After-try_step in
    tried_idle g.H.Hook.counts c.pass.inside.own c.try_step.new.own c.args.ask.now c.try_step.new.ask c.try_step.result c.try_step.ensures.same
    (asked g at c.requires.asked) (tried g at) ends

pub returns-clause-hook : goal.returns-clause-hook
returns-clause-hook g c = λ place answer is.
    let at = (goal.at.returns-clause-hook g c).After-try_step in
    tried_hook g.H.Hook.counts c.pass.inside.own c.try_step.new.own c.args.ask.now c.try_step.new.ask c.try_step.result (asked g at c.requires.asked)
    (tried g at) place answer is

pub returns-clause-back : goal.returns-clause-back
returns-clause-back g c = λ place answer is.
    let at = (goal.at.returns-clause-back g c).After-try_step in
    subst
    (λ (s : Seated). ComesBack g.H.Hook.counts s.head s.seat c.args.ask.now.op s.front c.try_step.new.own.front c.args.ask.now.hook
    c.try_step.new.ask.hook answer)
    c.pass.view_is
    (tried_back g.H.Hook.counts c.pass.inside.own c.try_step.new.own c.args.ask.now c.try_step.new.ask c.try_step.result (tried g at)
    place answer is)
