use Rattle.std.proofs.Common.{refl}
use Rattle.hp_account.proofs.AccountNone.{account_none}
use Rattle.hp_account.proofs.account.Account.new.Goals as goal

pub returns : goal.returns
returns c =
    account_none c.args.head.now _ c.in_ok-new.ensures c.new-2.ensures c.in_ok-new-2.ensures refl c.in_ok-new-3.ensures refl c.in_ok-new-4.ensures c.in_ok-new-5.ensures c.none.ensures
