use Rattle.std.proofs.Common.{subst}
use Rattle.hp_caches.specs.Contents.{Balances}
use Rattle.hp_caches.proofs.Weighing.{as_put, each_once}
use Rattle.hp_caches.proofs.stock.Stock.items_stand_once.Goals as goal

pub returns-clause-as_put : goal.returns-clause-as_put
returns-clause-as_put c = as_put c.args.self.now (subst Balances c.self.view_is c.self.invariant)

pub returns-clause-once : goal.returns-clause-once
returns-clause-once c = each_once c.args.self.now (subst Balances c.self.view_is c.self.invariant)
