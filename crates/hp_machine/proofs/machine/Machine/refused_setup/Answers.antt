use Rattle.std.proofs.Common.{◌≡◌, Some, Err, sym, ap, ◌∙◌}
use Rattle.hp_states.specs.Sections.{range_asked_by}
use Rattle.hp_table.specs.Slots.{IsFull}
use Rattle.hp_machine.proofs.RefusalsSaid.{slot_found, slots_full}
use Rattle.hp_machine.proofs.machine.Machine.refused_setup.Goals as goal

pub returns-in-Ok : goal.returns-in-Ok
returns-in-Ok g c = λ sub form.
    let m = c.self.inside in
    let is : range_asked_by c.args.asked ≡ Some c.in-Some.range = sym c.asked_by.ensures.range ∙ c.in-Some.is in
    rw (sym c.self.view_is)
    (sym
    (slot_found m.journal.head m.journal.events m.table c.in-Some.range c.args.asked c.in-Ok.field-0 sub form
    (rw (sym c.self.view_is) at c.requires) c.self.invariant.table_is is c.in-Ok.ensures.lowest))

pub returns-in-Err : goal.returns-in-Err
returns-in-Err g c = λ sub form.
    let m = c.self.inside in
    let is : range_asked_by c.args.asked ≡ Some c.in-Some.range = sym c.asked_by.ensures.range ∙ c.in-Some.is in
    let full : IsFull m.table c.in-Some.range = c.in-Err.ensures.no_space.0 (ap Err c.in-Err.ensures.no_other) in
    rw (sym c.self.view_is)
    (sym
    (slots_full m.journal.head m.journal.events m.table c.in-Some.range c.args.asked sub form
    (rw (sym c.self.view_is) at c.requires) c.self.invariant.table_is is full))
