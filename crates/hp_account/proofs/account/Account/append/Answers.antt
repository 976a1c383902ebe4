use Rattle.std.proofs.Common.{◌-◌, ◌≤◌, ◌∙◌, ap, sym, subst}
use Rattle.hp_event.specs.Story.{Story}
use Rattle.hp_account.specs.Accounted.{IsAccounted}
use Rattle.hp_account.proofs.CanAppend.{can_append}
use Rattle.hp_account.proofs.AccountKept.{GoesOn, goes_on}
use Rattle.hp_account.proofs.account.Account.append.Given as given
use Rattle.hp_account.proofs.account.Account.append.Goals as goal
use Rattle.hp_account.proofs.account.Account.append.Goals.{After-take-freed, After-give_back}

pub take-freed-requires-clause-parts : goal.take-freed-requires-clause-parts
take-freed-requires-clause-parts g c =
    let j = c.args.journal.now in
    let r = c.requires in
    can_append j.head j.events c.args.table.now c.args.self.now c.args.need c.args.event.now r.no_admission r.kept.lawful r.stands r.need
    c.sound.ensures.states r.table r.kept.account

-- there is room for the event and for what it gives back, and its account is kept
on : (g : given.Over) (c : After-take-freed g) → GoesOn c.args.journal.now c.take-freed.result c.args.event.now c.take-freed.new.self
on g c =
    let r = c.requires in
    goes_on c.args.journal.now c.args.need c.take-freed.result c.args.self.now c.take-freed.new.self c.args.table.now c.args.event.now r.kept
    r.stands r.need r.table c.take-freed.ensures

-- so it is when the journal has the event and has given back what that freed
kept : (g : given.Over) (c : After-give_back g) → GoesOn c.args.journal.now c.take-freed.result c.args.event.now c.take-freed.new.self →
    IsAccounted c.give_back.new.self 0 c.take-freed.new.self
kept g c on =
    let freed = c.take-freed.result in
    let now =
    c.give_back.ensures
    ∙ ap (λ (s : Story). record { head = s.head; events = s.events; promised = s.promised - freed }) c.push.ensures in
    subst (λ (s : Story). IsAccounted s 0 c.take-freed.new.self) (sym now) on.kept

pub push-requires : goal.push-requires
push-requires g c = (on g (goal.at.push-requires g c).After-take-freed).room

pub give_back-requires : goal.give_back-requires
give_back-requires g c =
    let o = on g (goal.at.give_back-requires g c).After-take-freed in
    subst (λ (s : Story). c.take-freed.result ≤ s.promised) (sym c.push.ensures) o.freed_fits

pub under_way-requires-clause-lawful : goal.under_way-requires-clause-lawful
under_way-requires-clause-lawful g c =
    let at = goal.at.under_way-requires-clause-lawful g c in
    (kept g at.After-give_back (on g at.After-take-freed)).lawful

pub under_way-requires-clause-account : goal.under_way-requires-clause-account
under_way-requires-clause-account g c =
    let at = goal.at.under_way-requires-clause-account g c in
    (kept g at.After-give_back (on g at.After-take-freed)).account

pub returns-clause-kept : goal.returns-clause-kept
returns-clause-kept g c =
    let at = goal.at.returns-clause-kept g c in
    kept g at.After-give_back (on g at.After-take-freed)
