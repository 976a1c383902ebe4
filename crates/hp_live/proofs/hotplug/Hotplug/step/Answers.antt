-- The hook that the seat carries comes home, or its next step is made.
use Rattle.std.proofs.Common.{◌∙◌, sym, subst}
use Rattle.hp_live.specs.declared.step.Stepped.{Stepped}
use Rattle.hp_live.specs.Known.{Seated}
use Rattle.hp_live.specs.Runs.{SteppedIn}
use Rattle.hp_live.proofs.AfterTries.{entered_turned}
use Rattle.hp_live.proofs.Turning.{steps_stepped}
use Rattle.hp_live.proofs.hotplug.Hotplug.step.Goals as goal

pub returns-in-Some-clause-stepped : goal.returns-in-Some-clause-stepped
returns-in-Some-clause-stepped g c =
    entered_turned g.H.Hook.counts c.args.own.now.head c.args.own.now.seat c.args.ask.now.op c.args.ask.now.hook c.args.own.now.front
    c.give_step.new.own.front c.in-Some.made c.requires.asked c.in-Some.ensures.entered

pub returns-clause-stepped : goal.returns-clause-stepped
returns-clause-stepped g c =
    let seen = g.H.Hook.counts in
    let op = c.args.ask.now.op in
    let was = c.args.ask.now.hook in
    let now = c.turn_section.new.ask.hook in
    let p = c.own.inside.sight in
    let after = c.turn_section.new.sight in
    subst (λ (s : Seated). SteppedIn seen s.head s.seat op was now s.front after.front c.keep-stepped.result)
    (c.own.view_is ∙ c.in_default.ensures.none.0)
    (subst (λ (d : Stepped). SteppedIn seen p.head c.own.inside.number op was now p.front after.front d)
    (sym c.keep-stepped.ensures.stepped)
    (steps_stepped seen p after c.own.inside.number c.args.ask.now c.turn_section.new.ask c.in_ok-step.step c.own.invariant.own
    c.in_ok-step.ensures.steps))
