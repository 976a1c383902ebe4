-- The hook that the seat carries comes home, or its next step is made: past its old front it has entries alone.
use Rattle.std.proofs.Common.{◌∙◌, sym, subst}
use Rattle.hp_live.specs.Known.{Seated, IsThread}
use Rattle.hp_live.specs.Threads.{Enters}
use Rattle.hp_live.proofs.Entries.{entered_enters, entered_thread, serves_enters, serves_thread}
use Rattle.hp_live.proofs.hotplug.Hotplug.leave_step.Goals as goal

pub returns-in-Some-clause-enters : goal.returns-in-Some-clause-enters
returns-in-Some-clause-enters g c =
    entered_enters c.args.own.now.head c.args.own.now.seat c.args.own.now.front c.give_step.new.own.front c.in-Some.made
    c.in-Some.ensures.entered

pub returns-in-Some-clause-thread : goal.returns-in-Some-clause-thread
returns-in-Some-clause-thread g c =
    entered_thread c.args.own.now.head c.args.own.now.seat c.args.own.now.front c.give_step.new.own.front c.in-Some.made
    c.in-Some.ensures.entered c.requires.thread

pub returns-clause-enters : goal.returns-clause-enters
returns-clause-enters g c =
    let after = c.last_section.new.sight in
    subst (λ (s : Seated). Enters s.seat s.front after.front) (c.own.view_is ∙ c.in_default.ensures.none.0)
    (serves_enters c.own.inside.sight after c.own.inside.number c.in_ok-step.step c.own.invariant.own c.in_ok-step.ensures.serves)

pub returns-clause-thread : goal.returns-clause-thread
returns-clause-thread g c =
    let after = c.last_section.new.sight in
    let same = c.own.view_is ∙ c.in_default.ensures.none.0 in
    subst (λ (s : Seated). IsThread s.seat after.front) same
    (serves_thread c.own.inside.sight after c.own.inside.number c.in_ok-step.step c.own.invariant.own c.in_ok-step.ensures.serves
    (subst (λ (s : Seated). IsThread s.seat s.front) (sym same) c.requires.thread))
