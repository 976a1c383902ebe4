use Rattle.std.proofs.Common.{◌≡◌, ◌∙◌, ◌+◌, ◌-◌, suc, ℕ, take, ap, arith}
use Rattle.hp_script.specs.Pieces.{lines}
use Rattle.hp_script.proofs.PieceLoops.{next_is}
use Rattle.hp_hint.proofs.Possibles.{possibles, before_is, one_line_more}
use Rattle.hp_hint.proofs.context.Context.before.Goals as goal

pub loop-at-init : goal.loop-at-init
loop-at-init c = before_is c.args.bytes.now c.args.line

pub loop-at-preserved : goal.loop-at-preserved
loop-at-preserved c =
    let are = next_is (lines c.loop-at.rest.now) c.in-Some.text.now (lines c.in-Some.behind.now) c.in-Some.ensures.piece in
    let before = c.loop-at-test.true in
    let left : c.args.line - c.loop-at.at ≡ suc (c.args.line - (c.loop-at.at + 1)) = omega (arith, before) in
    ap (λ (p : ℕ). possibles p (take (c.args.line - (c.loop-at.at + 1)) (lines c.in-Some.behind.now))) c.take.ensures
    ∙ one_line_more c.loop-at.context.possible (c.args.line - c.loop-at.at) (lines c.loop-at.rest.now) c.in-Some.text.now (lines c.in-Some.behind.now) (c.args.line - (c.loop-at.at + 1)) are left
    ∙ c.loop-at.invariant
