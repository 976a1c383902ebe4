-- An entry that is due is of a processor of the machine.
use Rattle.std.proofs.Common.{◌≤◌, IfSome, IfNone, subst}
use Rattle.hp_account.specs.UnderWay.{IsThreadDue, NoThreadDue}
use Rattle.hp_actors.specs.Positions.{Position}
use Rattle.hp_actors.proofs.ThreadSeats.{due_possible}
use Rattle.hp_actors.proofs.run.Run.next_thread_due.Goals as goal

pub returns-clause-due : goal.returns-clause-due
returns-clause-due g c =
    subst (λ (p : Position). IfSome c.next_thread_due.result (λ due. (c.args.from ≤ due.0) × IsThreadDue p.head p.progress.events due.0 due.1 × NoThreadDue p.head p.progress.events c.args.from due.0)) c.self.view_is c.next_thread_due.ensures.some

pub returns-clause-counted : goal.returns-clause-counted
returns-clause-counted g c =
    due_possible c.self.inside.board.head c.self.inside.board.events c.args.from c.next_thread_due.result c.sound.ensures.lawful c.next_thread_due.ensures.some

pub returns-clause-idle : goal.returns-clause-idle
returns-clause-idle g c =
    subst (λ (p : Position). IfNone c.next_thread_due.result (NoThreadDue p.head p.progress.events c.args.from p.head.possible)) c.self.view_is
    c.next_thread_due.ensures.none
