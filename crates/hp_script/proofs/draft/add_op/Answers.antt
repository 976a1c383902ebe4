use Rattle.std.proofs.Common.{refl, vec_items}
use Rattle.hp_script.specs.Drafts.{one_op_more}
use Rattle.hp_script.proofs.Lasts.{changed_seen}
use Rattle.hp_script.proofs.draft.add_op.Goals as goal

pub returns-in_ok-push : goal.returns-in_ok-push
returns-in_ok-push c =
    let e = c.in-Some.ensures in
    changed_seen vec_items (one_op_more c.args.op) c.args.actors.now.items c.args.actors.now.len c.in-Some.ops.now c.push.new.self c.args.actors.now.ok.0 (e.variant.0 refl) e.value c.in_ok-push.ensures.items
