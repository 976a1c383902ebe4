use Rattle.std.proofs.Common.{◌≡◌, refl, ap, ◌∙◌}
use Rattle.hp_machine.specs.Contents.{Contents}
use Rattle.hp_machine.proofs.RefusalsSaid.{none_registers}
use Rattle.hp_machine.proofs.machine.Machine.refusal_after_waits.Goals as goal

pub refused_setup-requires : goal.refused_setup-requires
refused_setup-requires g c = none_registers c.args.self.now.events (rw c.in-Setup.is at c.requires.no_wait)

pub returns-in-UpMany : goal.returns-in-UpMany
returns-in-UpMany g c =
    let head : c.head-head.result.now ≡ c.args.self.now.head = c.head-head.ensures ∙ ap (λ (m : Contents). m.head) c.self.view_is in
    c.busy_or_invalid-in-UpMany.ensures ∙ rw (c.in-UpMany.is, c.disabled-disabled.ensures, c.lists_absent.ensures, head) refl

pub returns-in-Setup : goal.returns-in-Setup
returns-in-Setup g c = rw c.in-Setup.is (c.refused_setup.ensures c.in-Setup.sub c.in-Setup.form)

pub returns-in-Remove : goal.returns-in-Remove
returns-in-Remove g c = rw c.in-Remove.is (c.refused_remove.ensures c.in-Remove.form)

pub returns-in-Add : goal.returns-in-Add
returns-in-Add g c = rw c.in-Add.is (c.refused_add.ensures c.in-Add.form)

pub returns-in-Del : goal.returns-in-Del
returns-in-Del g c = rw c.in-Del.is (c.refused_del.ensures c.in-Del.form)
