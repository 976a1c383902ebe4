use Rattle.std.proofs.Common.{◌≡◌, Some, None, refl, sym, ◌∙◌}
use Rattle.hp_suspend.proofs.Asking.{first_to_freeze, freeze_said, freeze_asks}
use Rattle.hp_suspend.proofs.freeze.Freeze.next.Goals as goal

pub returns-in-None : goal.returns-in-None
returns-in-None c =
    let f = c.args.self.now in
    let on = c.args.online.now in
    let found : first_to_freeze f on ≡ None = sym c.lowest_but.ensures ∙ c.in-None.is in
    record { by_lists = freeze_said f on c.args.wakeup _ (rw (c.in_default.is, found) refl); by_journal = freeze_asks f on c.args.wakeup _ (rw (c.in_default.is, found) refl) }

pub returns-in-Some-lowest_but : goal.returns-in-Some-lowest_but
returns-in-Some-lowest_but c =
    let f = c.args.self.now in
    let on = c.args.online.now in
    let found : first_to_freeze f on ≡ Some c.in-Some-lowest_but.field-0 = sym c.lowest_but.ensures ∙ c.in-Some-lowest_but.is in
    record { by_lists = freeze_said f on c.args.wakeup _ (rw (c.in_default.is, found, c.if-wakeup.true) refl); by_journal = freeze_asks f on c.args.wakeup _ (rw (c.in_default.is, found, c.if-wakeup.true) refl) }

pub returns-in-Some-2 : goal.returns-in-Some-2
returns-in-Some-2 c =
    let f = c.args.self.now in
    let on = c.args.online.now in
    let found : first_to_freeze f on ≡ Some c.in-Some-lowest_but.field-0 = sym c.lowest_but.ensures ∙ c.in-Some-lowest_but.is in
    record { by_lists = freeze_said f on c.args.wakeup _ (rw (c.in_default.is, found, c.if-wakeup.false) refl); by_journal = freeze_asks f on c.args.wakeup _ (rw (c.in_default.is, found, c.if-wakeup.false) refl) }
