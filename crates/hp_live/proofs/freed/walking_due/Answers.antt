-- The thread of the processor whose walk goes on.
use Rattle.std.proofs.Common.{sym, ◌∙◌, ◌<◌, subst, ℕ}
use Rattle.hp_states.proofs.Basics.{none_some, same_some}
use Rattle.hp_account.specs.UnderWay.{IsThreadDue}
use Rattle.hp_live.proofs.Freeing.{due_walking}
use Rattle.hp_live.proofs.freed.walking_due.Goals as goal

pub returns-in-Some : goal.returns-in-Some
returns-in-Some g c = λ xs cpu seat x is m.
    let d = due_walking c.args.board.now.head c.args.board.now.events c.args.event.now c.walks_on.result c.sound.ensures.lawful c.requires
    c.walks_on.ensures xs cpu seat x is m in
    let same = same_some cpu c.in-Some.cpu (sym d.0 ∙ c.in-Some.is) in
    c.thread_on.ensures seat (subst (λ (n : ℕ). n < c.args.board.now.head.possible) same d.1)
    (subst (λ (n : ℕ). IsThreadDue c.args.board.now.head c.args.board.now.events n seat) same d.2)

pub returns-in-None : goal.returns-in-None
returns-in-None g c = λ xs cpu seat x is m.
    let d = due_walking c.args.board.now.head c.args.board.now.events c.args.event.now c.walks_on.result c.sound.ensures.lawful c.requires
    c.walks_on.ensures xs cpu seat x is m in
    absurd (none_some cpu (sym c.in-None.is ∙ d.0))
