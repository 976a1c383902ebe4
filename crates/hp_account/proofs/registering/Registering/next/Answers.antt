use Rattle.std.proofs.Common.{◌≡◌, rules, ap, ◌∙◌}
use Rattle.hp_reg.specs.Asked.{asked}
use Rattle.hp_reg.specs.Concerned.{key_at, cpus_at}
use Rattle.hp_reg.specs.declared.step.RegStep.TheVariants as regstep
use Rattle.hp_model.specs.How.{is_nocalls}
use Rattle.hp_account.specs.Places.{at_place}
use Rattle.hp_account.specs.RegistrationMadeBy.{seat_by}
use Rattle.hp_account.proofs.RegistrationComing.{comes_to_end, comes_by_entry, entry_by}
use Rattle.hp_account.proofs.registering.Registering.next.Goals as goal

pub returns-in-Ended : goal.returns-in-Ended
returns-in-Ended g c =
    let head = c.args.journal.now.head in
    let r = c.args.self.now in
    let places = c.args.table.now in
    let asks : regstep.Ended c.in-Ended.answer
    ≡ asked (key_at places r.reg) (cpus_at c.args.processors.now.settled head.absent r.reg) r.reg = search rules in
    comes_to_end head c.args.journal.now.events places c.args.processors.now r c.requires.registering c.requires.table c.requires.standing
    c.in-Ended.answer asks

pub returns-in-Call : goal.returns-in-Call
returns-in-Call g c =
    let head = c.args.journal.now.head in
    let r = c.args.self.now in
    let places = c.args.table.now in
    let asks : regstep.Call c.in-Call.cpu c.in-Call.key c.in-Call.dir c.in-Call.place
    ≡ asked (key_at places r.reg) (cpus_at c.args.processors.now.settled head.absent r.reg) r.reg = search rules in
    let entry : c.map-entry.result
    ≡ entry_by c.in-Call.cpu c.in-Call.key c.in-Call.dir c.in-Call.place c.made_by-made_by.result c.seat_of-seat.result = search rules in
    let seat : c.seat_of-seat.result
    ≡ seat_by (is_nocalls r.reg.op) c.in-Call.key.state (at_place c.args.seats.now.threads c.in-Call.cpu) r.seat =
    c.seat_of-seat.ensures ∙ ap (λ t. seat_by (is_nocalls r.reg.op) c.in-Call.key.state t r.seat) c.thread.ensures in
    rw (entry, seat)
    (comes_by_entry head c.args.journal.now.events places c.args.processors.now c.args.seats.now r c.requires.lawful c.requires.registering
    c.requires.table c.requires.standing c.requires.roll c.in-Call.cpu c.in-Call.key c.in-Call.dir c.in-Call.place
    c.made_by-made_by.result c.in-Call.ensures.on.2 asks c.made_by-made_by.ensures)
