use Rattle.std.proofs.Common.{refl, sym, ◌∙◌, arith}
use Rattle.hp_machine.proofs.FilesSaid.{shows, state_low, target_low, fail_low, named_said}
use Rattle.hp_machine.proofs.FileBounds.{named_low}
use Rattle.hp_machine.proofs.machine.Machine.file_value.Goals as goal

pub shown-requires : goal.shown-requires
shown-requires g c = rw c.in-State.is at c.requires

pub shown_target-requires : goal.shown_target-requires
shown_target-requires g c = rw c.in-Target.is at c.requires

pub returns-in-State : goal.returns-in-State
returns-in-State g c =
    let m = c.self.inside in
    let below = rw (sym c.self.view_is) at (rw c.in-State.is at c.requires) in
    let low = state_low m.journal m.account c.args.cpu c.self.invariant.kept below in
    rw (c.in-State.is, sym c.self.view_is)
    (shows c.shown.result _ c.as_number.result (rw (sym c.self.view_is) at c.shown.ensures) (omega (arith, low)) c.as_number.ensures)

pub returns-in-Target : goal.returns-in-Target
returns-in-Target g c =
    let m = c.self.inside in
    let below = rw (sym c.self.view_is) at (rw c.in-Target.is at c.requires) in
    let low = target_low m.journal m.account c.args.cpu c.self.invariant.kept below in
    rw (c.in-Target.is, sym c.self.view_is)
    (shows c.shown_target.result _ c.as_number-in-Target.result (rw (sym c.self.view_is) at c.shown_target.ensures)
    (omega (arith, low)) c.as_number-in-Target.ensures)

pub returns-in-Some : goal.returns-in-Some
returns-in-Some g c =
    let m = c.self.inside in
    let below = rw (sym c.self.view_is) at (rw c.in-Fail.is at c.requires) in
    let found = fail_low m.journal m.account c.args.cpu c.in-Some.state c.self.invariant.kept below (sym c.armed.ensures ∙ c.in-Some.is) in
    let low = found.1 in
    rw (c.in-Fail.is, sym c.self.view_is, found.0)
    (shows c.in-Some.state c.in-Some.state c.as_number-in-Some.result refl (omega (arith, low)) c.as_number-in-Some.ensures)

pub returns-in-States : goal.returns-in-States
returns-in-States g c =
    let m = c.self.inside in
    let idle = rw (sym c.self.view_is) at (rw c.in-States.is at c.requires) in
    let is = c.count_named.ensures ∙ named_said m.journal.head m.journal.events m.table idle c.self.invariant.table_is in
    rw (c.in-States.is, sym c.self.view_is)
    (shows c.count_named.result _ c.as_number-in-States.result is (named_low m.journal.head m.journal.events) c.as_number-in-States.ensures)
