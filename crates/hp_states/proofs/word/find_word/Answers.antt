use Rattle.std.proofs.Common.{Some, arith, refl, sym, ap, ◌∙◌}
use Rattle.std.specs.Str.{bytes_eq}
use Rattle.hp_states.proofs.Looking.{passes, finds, ends}
use Rattle.hp_states.proofs.word.find_word.Goals as goal

pub loop-row-init : goal.loop-row-init
loop-row-init g c = refl

pub loop-row-preserved : goal.loop-row-preserved
loop-row-preserved g c =
    let row = c.row-item.result in
    passes c.args.word.now c.args.rows.now c.loop-row.row-index row _ c.loop-row-test.true
    (ap (λ r. bytes_eq c.args.word.now r.0.now) (sym c.row-item.is) ∙ (sym c.eq.ensures ∙ c.if-eq.false))
    c.loop-row.invariant

pub returns-then-eq : goal.returns-then-eq
returns-then-eq g c =
    let row = c.row-item.result in
    ap (λ r. Some r.1) c.row-item.is
    ∙ finds c.args.word.now c.args.rows.now c.loop-row.row-index row _ c.loop-row-test.true
    (ap (λ r. bytes_eq c.args.word.now r.0.now) (sym c.row-item.is) ∙ (sym c.eq.ensures ∙ c.if-eq.true))
    c.loop-row.invariant

pub returns : goal.returns
returns g c = ends c.args.word.now _ c.loop-row.row-index _ (omega (arith, c.loop-row.auto.row-index-end, c.loop-row-test.false)) c.loop-row.invariant
