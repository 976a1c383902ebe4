use Rattle.std.proofs.Common.{sym, inl, inr, ◌∙◌}
use Rattle.hp_states.proofs.Basics.{none_of}
use Rattle.hp_account.proofs.LocksMore.{unwritten_still}
use Rattle.hp_account.proofs.LowestWalking.{some_walks, none_walking}
use Rattle.hp_account.proofs.account.Account.walker.Goals as goal

pub returns-then-is_none-clause-none : goal.returns-then-is_none-clause-none
returns-then-is_none-clause-none c = λ head events account.
    inl (unwritten_still events c.args.self.now.locks account.locks (sym c.writer.ensures ∙ none_of c.writer.result c.if-is_none.ensures))

pub returns-then-is_batch-clause-none : goal.returns-then-is_batch-clause-none
returns-then-is_batch-clause-none c = λ head events account. inr (sym c.if-is_batch.ensures)

pub returns-clause-some : goal.returns-clause-some
returns-clause-some c =
    some_walks c.args.self.now c.walking_from.result (sym c.if-is_batch.ensures) c.walking_from.ensures.some

pub returns-clause-none : goal.returns-clause-none
returns-clause-none c = none_walking c.args.self.now c.walking_from.result c.walking_from.ensures.none
