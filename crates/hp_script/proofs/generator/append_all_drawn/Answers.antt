use Rattle.std.proofs.Common.{ℕ, ◌++◌, ap, arith}
use Rattle.std.specs.List.{flat_map}
use Rattle.hp_model.specs.Words.{line}
use Rattle.hp_script.specs.Generated.{drawn_lines, state_behind_all}
use Rattle.hp_script.proofs.GeneratedLoops.{all_left, drawn_goes_on, state_goes_on, drawn_done, state_done}
use Rattle.hp_script.proofs.generator.append_all_drawn.Goals as goal

pub loop-init : goal.loop-init
loop-init c =
    let x = c.args.draws.now.state in
    (ap (λ (n : ℕ). c.args.out.now.items ++ flat_map line (drawn_lines n x)) (all_left c.args.size), ap (λ (n : ℕ). state_behind_all n x) (all_left c.args.size))

pub loop-preserved : goal.loop-preserved
loop-preserved c = (
  drawn_goes_on c.args.size c.loop.counter c.loop.draws.state c.draw_one.new.draws.state c.draw_one.result _ c.loop.out.items c.append_drawn.new.out.items
      c.loop-test.true c.draw_one.ensures.drawn c.draw_one.ensures.state c.in_ok-append_drawn.ensures c.loop.invariant.0,
  state_goes_on c.args.size c.loop.counter c.loop.draws.state c.draw_one.new.draws.state _ c.loop-test.true c.draw_one.ensures.state c.loop.invariant.1,
)

pub returns-clause-text : goal.returns-clause-text
returns-clause-text c = drawn_done c.args.size c.loop.counter c.loop.draws.state _ c.loop.out.items (λ lt. omega (arith, lt, c.loop-test.false)) c.loop.invariant.0

pub returns-clause-state : goal.returns-clause-state
returns-clause-state c = state_done c.args.size c.loop.counter c.loop.draws.state _ (λ lt. omega (arith, lt, c.loop-test.false)) c.loop.invariant.1
