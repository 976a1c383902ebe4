use Rattle.std.proofs.Common.{◌≤◌, IfSome, IfNone, subst}
use Rattle.hp_account.specs.UnderWay.{IsThreadDue, NoThreadDue}
use Rattle.hp_board.specs.Contents.{Contents}
use Rattle.hp_board.proofs.board.Board.next_thread_due.Goals as goal

pub returns-clause-some : goal.returns-clause-some
returns-clause-some g c =
    subst
    (λ (b : Contents). IfSome c.next_thread_due.result
    (λ due. (c.args.from ≤ due.0) × IsThreadDue b.head b.events due.0 due.1 × NoThreadDue b.head b.events c.args.from due.0))
    c.self.view_is c.next_thread_due.ensures.some

pub returns-clause-none : goal.returns-clause-none
returns-clause-none g c =
    subst (λ (b : Contents). IfNone c.next_thread_due.result (NoThreadDue b.head b.events c.args.from b.head.possible)) c.self.view_is
    c.next_thread_due.ensures.none
