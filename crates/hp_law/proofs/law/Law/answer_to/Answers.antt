use Rattle.std.proofs.Common.{◌≡◌, ◌∙◌, ap, sym, subst}
use Rattle.std.specs.Option.{option_copied}
use Rattle.hp_states.specs.Rules.{site_at}
use Rattle.hp_hook.specs.Counted.{Counts, answer_to}
use Rattle.hp_table.specs.Kept.{answer_at}
use Rattle.hp_model.specs.How.{answer_at as answer_of_plan}
use Rattle.hp_machine.proofs.HookAnswers.{kept_answers, unkept_answers}
use Rattle.hp_table.specs.Step.{step_at, kept_of}
use Rattle.hp_table.proofs.Placed.{home_of}
use Rattle.hp_law.specs.Law.{Taken}
use Rattle.hp_law.proofs.law.Law.answer_to.Goals as goal

pub home_hook-requires : goal.home_hook-requires
home_hook-requires c =
    let there = sym (ap option_copied c.in-Some.is) ∙ (c.step.ensures.record_there
    ∙ ap (λ t. kept_of (step_at t c.args.entry.now.key.state)) c.table.ensures) in
    home_of (step_at c.self.inside.machine.places c.args.entry.now.key.state) c.in-Some.record.now there
    (c.self.invariant c.args.entry.now.key.state)

pub returns-in-Some : goal.returns-in-Some
returns-in-Some c =
    let l = c.self.inside.machine in
    let x = c.args.entry.now in
    let there = sym (ap option_copied c.in-Some.is) ∙ (c.step.ensures.record_there
    ∙ ap (λ t. kept_of (step_at t c.args.entry.now.key.state)) c.table.ensures) in
    let is =
    kept_answers l.head l.events c.self.inside.machine.places x.cpu x.key.state x.key.inst x.dir c.in-Some.record.now c.sound.ensures.table there in
    let site = site_at x.cpu x.key.inst x.dir in
    let same : c.answer_to.result ≡ answer_at c.in-Some.record.now site =
    c.answer_to.ensures
    ∙ ap (λ (n : Counts). answer_to n site) c.home_hook.ensures in
    let by_hook = same ∙ is in
    subst (λ (t : Taken). c.answer_to.result ≡ answer_of_plan t.head t.events x.cpu x.key.state x.key.inst x.dir) c.self.view_is by_hook

pub returns-in-None : goal.returns-in-None
returns-in-None c =
    let l = c.self.inside.machine in
    let x = c.args.entry.now in
    let none = sym (ap option_copied c.in-None.is) ∙ (c.step.ensures.record_there
    ∙ ap (λ t. kept_of (step_at t c.args.entry.now.key.state)) c.table.ensures) in
    let is = unkept_answers l.head l.events c.self.inside.machine.places x.cpu x.key.state x.key.inst x.dir c.sound.ensures.table none in
    subst (λ (t : Taken). 0 ≡ answer_of_plan t.head t.events x.cpu x.key.state x.key.inst x.dir) c.self.view_is (sym is)
