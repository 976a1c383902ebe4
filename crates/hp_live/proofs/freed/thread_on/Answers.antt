-- The thread of a processor, found as the lowest from there on.
use Rattle.std.proofs.Common.{ap, sym, ◌∙◌, Some, ℕ}
use Rattle.hp_states.proofs.Basics.{none_some, same_some}
use Rattle.hp_live.proofs.Freeing.{thread_at}
use Rattle.hp_live.proofs.freed.thread_on.Goals as goal

pub returns-then-due-cpu : goal.returns-then-due-cpu
returns-then-due-cpu g c = λ seat below due.
    let f = thread_at c.args.board.now.head c.args.board.now.events c.args.cpu c.next_thread_due.result c.next_thread_due.ensures.some
    c.next_thread_due.ensures.none seat below due in
    ap Some (ap (λ (q : ℕ × ℕ). q.1) (same_some _ f.0 (sym c.in-Some.is ∙ f.1)) ∙ f.3)

pub returns-else-due-cpu : goal.returns-else-due-cpu
returns-else-due-cpu g c = λ seat below due.
    let f = thread_at c.args.board.now.head c.args.board.now.events c.args.cpu c.next_thread_due.result c.next_thread_due.ensures.some
    c.next_thread_due.ensures.none seat below due in
    let same = ap (λ (q : ℕ × ℕ). q.0) (same_some _ f.0 (sym c.in-Some.is ∙ f.1)) ∙ f.2 in
    absurd (c.if-due-cpu.false same)

pub returns-in-None : goal.returns-in-None
returns-in-None g c = λ seat below due.
    let f = thread_at c.args.board.now.head c.args.board.now.events c.args.cpu c.next_thread_due.result c.next_thread_due.ensures.some
    c.next_thread_due.ensures.none seat below due in
    absurd (none_some f.0 (sym c.in-None.is ∙ f.1))
