-- What is so of a machine: its journal is lawful and has promised what its definitions promise, the account is that of its events, it
-- knows what is under way, and the table is the journal's. This project's own.
use Rattle.std.specs.Prelude.{Option, List}
use Rattle.hp_event.specs.Story.{Story}
use Rattle.hp_table.specs.Step.{Step}
use Rattle.hp_account.specs.declared.account.Account.{Account}
use Rattle.hp_account.specs.declared.under_way.NextStep.{NextStep}
use Rattle.hp_account.specs.Accounted.{IsAccounted}
use Rattle.hp_account.specs.Table.{IsTableOf}
use Rattle.hp_account.specs.UnderWay.{IsUnderWay}

pub record IsMachine (journal : Story) (account : Account) (coming : Option NextStep) (places : List (Option Step)) : Type 0 where
  pub kept : IsAccounted journal 0 account
  pub under_way : IsUnderWay journal.head journal.events coming
  pub table_is : IsTableOf journal.head journal.events places
