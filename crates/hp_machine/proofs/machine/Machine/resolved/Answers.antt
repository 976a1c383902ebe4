use Rattle.std.proofs.Common.{◌≡◌, Some, sym, ap, ◌∙◌, subst}
use Rattle.std.specs.Result.{result_ok}
use Rattle.hp_states.specs.Sections.{range_asked_by}
use Rattle.hp_event.specs.declared.op.Op.TheVariants.{Setup}
use Rattle.hp_model.specs.Resolved.{resolved}
use Rattle.hp_machine.specs.Contents.{Contents}
use Rattle.hp_machine.proofs.FirstSaid.{slot_said}
use Rattle.hp_machine.proofs.machine.Machine.resolved.Goals as goal

pub returns-in-Some : goal.returns-in-Some
returns-in-Some g c =
    let j = c.self.inside.journal in
    let x = c.in-Setup in
    let is : range_asked_by x.state ≡ Some c.in-Some.range = sym c.asked_by.ensures.range ∙ c.in-Some.is in
    let idle = rw (sym c.self.view_is) at c.requires in
    let slot =
    slot_said j.head j.events c.self.inside.table c.in-Some.range x.state x.sub x.form c.slot.result idle c.self.invariant.table_is is
    c.slot.ensures.lowest c.slot.ensures.no_space c.slot.ensures.no_other in
    c.ok.ensures.value
    ∙ (subst (λ (m : Contents). result_ok c.slot.result ≡ resolved m.head m.events (Setup x.state x.sub x.form)) c.self.view_is slot
    ∙ sym (ap (resolved c.args.self.now.head c.args.self.now.events) x.is))
