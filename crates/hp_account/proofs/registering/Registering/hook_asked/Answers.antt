use Rattle.std.proofs.Common.{◌≡◌, rules, ◌∙◌}
use Rattle.hp_reg.specs.Asked.{asked}
use Rattle.hp_reg.specs.Concerned.{key_at, cpus_at}
use Rattle.hp_reg.specs.declared.step.RegStep.TheVariants as regstep
use Rattle.hp_account.proofs.HookAsked.{registration_asks, registration_over}
use Rattle.hp_account.proofs.registering.Registering.hook_asked.Goals as goal

pub returns-in-Call : goal.returns-in-Call
returns-in-Call g c =
    let head = c.args.journal.now.head in
    let r = c.args.self.now in
    let places = c.args.table.now in
    let asks : regstep.Call c.in-Call.cpu c.in-Call.key c.in-Call.dir c.in-Call.place
    ≡ asked (key_at places r.reg) (cpus_at c.args.processors.now.settled head.absent r.reg) r.reg = search rules in
    λ on s i d how entry.
    c.hook_at.ensures
    ∙ registration_asks head c.args.journal.now.events places c.args.processors.now r c.requires.registering c.requires.table
    c.requires.standing c.in-Call.cpu c.in-Call.key c.in-Call.dir c.in-Call.place c.made_by.result c.in-Call.ensures.on.2 asks
    c.made_by.ensures on s i d how entry

pub returns-in-Ended : goal.returns-in-Ended
returns-in-Ended g c =
    let head = c.args.journal.now.head in
    let r = c.args.self.now in
    let places = c.args.table.now in
    let asks : regstep.Ended c.in-Ended.field-0
    ≡ asked (key_at places r.reg) (cpus_at c.args.processors.now.settled head.absent r.reg) r.reg = search rules in
    λ on s i d how entry.
    absurd (registration_over head c.args.journal.now.events places c.args.processors.now r c.requires.registering c.requires.table
    c.requires.standing c.in-Ended.field-0 asks on s i d how entry)
