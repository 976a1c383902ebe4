use Rattle.std.proofs.Common.{◌≡◌, sym, ap, ◌∙◌, arith}
use Rattle.hp_event.specs.declared.head.Head.{Head}
use Rattle.hp_smt.specs.Contents.{Controlled}
use Rattle.hp_smt.proofs.Sets.{online_found, online_lacking}
use Rattle.hp_smt.proofs.smt.Smt.sibling_online.Goals as goal

pub returns-then-is_sibling_online : goal.returns-then-is_sibling_online
returns-then-is_sibling_online g c =
    let b = c.args.self.now.board in
    let same : c.head.result.now.possible ≡ b.head.possible =
    ap (λ (h : Head). h.possible) (c.head.ensures ∙ c.journal.ensures.head) ∙ ap (λ (z : Controlled). z.board.head.possible) c.self.view_is in
    online_found c.args.self.now.threads b.head b.events c.loop-cpu.cpu (sym c.is_sibling_online.ensures ∙ c.if-is_sibling_online.true)
    (omega (arith, same)) c.loop-cpu.invariant

pub returns : goal.returns
returns g c =
    let b = c.args.self.now.board in
    let same : c.head.result.now.possible ≡ b.head.possible =
    ap (λ (h : Head). h.possible) (c.head.ensures ∙ c.journal.ensures.head) ∙ ap (λ (z : Controlled). z.board.head.possible) c.self.view_is in
    online_lacking c.args.self.now.threads b.head b.events (λ d below. c.loop-cpu.invariant d (omega (arith, below, same)))
