use Rattle.std.proofs.Common.{sym, subst, refl}
use Rattle.hp_event.specs.Story.{Story}
use Rattle.hp_event.specs.declared.event.Event.TheVariants.{Admit}
use Rattle.hp_account.specs.Accounted.{IsAccounted}
use Rattle.hp_account.specs.Table.{IsTableOf}
use Rattle.hp_account.proofs.AccountKept.{admits_seat}
use Rattle.hp_account.proofs.TableMore.{table_same}
use Rattle.hp_account.proofs.account.Account.admit.Given as given
use Rattle.hp_account.proofs.account.Account.admit.Goals as goal
use Rattle.hp_account.proofs.account.Account.admit.Goals.{After-push}

-- the journal that got the admission, and its account, are kept
kept : (g : given.Over) (c : After-push g) → IsAccounted c.push.new.self 0 c.let_in.new.self
kept g c =
    let k =
    admits_seat c.args.journal.now 2 c.admitted-seat.result c.args.self.now c.let_in.new.self c.args.role c.requires.kept c.requires.stands
    refl c.admitted-seat.ensures c.in_ok-let_in.ensures.ok in
    subst (λ (s : Story). IsAccounted s 0 c.let_in.new.self) (sym c.push.ensures) k.2

pub under_way-requires-clause-lawful : goal.under_way-requires-clause-lawful
under_way-requires-clause-lawful g c =
    (kept g (goal.at.under_way-requires-clause-lawful g c).After-push).lawful

pub under_way-requires-clause-account : goal.under_way-requires-clause-account
under_way-requires-clause-account g c =
    (kept g (goal.at.under_way-requires-clause-account g c).After-push).account

pub under_way-requires-clause-table : goal.under_way-requires-clause-table
under_way-requires-clause-table g c =
    let j = c.args.journal.now in
    let places = c.args.table.now in
    subst (λ (s : Story). IsTableOf s.head s.events places) (sym c.push.ensures)
    (table_same j.head j.events places (Admit c.admitted-seat.result c.args.role) tt c.requires.table)

pub returns-clause-kept : goal.returns-clause-kept
returns-clause-kept g c = kept g (goal.at.returns-clause-kept g c).After-push
