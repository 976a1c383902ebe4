use Rattle.std.proofs.Common.{◌≡◌, sym, ap, ◌∙◌, arith}
use Rattle.hp_table.specs.Named.{is_named}
use Rattle.hp_machine.specs.NamedIn.{named_in}
use Rattle.hp_machine.proofs.FilesSaid.{one, named_none, named_more}
use Rattle.hp_machine.proofs.files.count_named.Goals as goal
use Rattle.hp_machine.proofs.files.count_named.Goals.{then-is_named, else-is_named}

pub loop-state-init : goal.loop-state-init
loop-state-init g c = (sym (named_none c.args.table.now), omega arith)

pub loop-state-preserved : goal.loop-state-preserved
loop-state-preserved g c =
    let more = named_more c.args.table.now c.loop-state.state in
    let before = c.loop-state.invariant.0 in
    let few = c.loop-state.invariant.1 in
    let is = c.is_named.ensures.named in
    elim c.if-is_named.branch [
      | then-is_named w ↦
          (let here : one (is_named c.args.table.now c.loop-state.state) ≡ 1 = ap one (sym is ∙ w.if-is_named.true) in
          (omega (arith, more, before, here), omega (arith, few)))
      | else-is_named w ↦
          (let here : one (is_named c.args.table.now c.loop-state.state) ≡ 0 = ap one (sym is ∙ w.if-is_named.false) in
          (omega (arith, more, before, here), omega (arith, few)))
    ]

pub returns : goal.returns
returns g c =
    let at : c.loop-state.state ≡ 201 = omega arith in c.loop-state.invariant.0 ∙ ap (named_in c.args.table.now) at
