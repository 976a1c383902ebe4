use Rattle.std.proofs.Common.{◌∙◌, arith}
use Rattle.hp_model.proofs.Slow.{keys_next, keys_all}
use Rattle.hp_model.proofs.registered.registered_of.Goals as goal

pub loop-state-preserved : goal.loop-state-preserved
loop-state-preserved c =
    let n = keys_next c.head-head.result.now c.events-events.result.now c.loop-state.state in
    rw (n, ← c.loop-state.invariant, ← c.in_ok-insts.ensures, ← c.as_slice.ensures.value) c.in_ok-push_keys.ensures

pub returns : goal.returns
returns c =
    let t = c.loop-state-test.false in
    let u = c.loop-state.auto.state-end in
    let i = c.loop-state.invariant in
    let a = c.head-head.ensures in
    let b = c.events-events.ensures in
    keys_all c.args.journal.now.head c.args.journal.now.events c.loop-state.state c.from_vec.result (omega arith)
    (c.from_vec.ensures ∙ rw (← a, ← b) i)
