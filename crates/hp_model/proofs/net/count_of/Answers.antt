use Rattle.std.proofs.Common.{◌∙◌, true, false, sym, refl, arith}
use Rattle.hp_model.specs.InForce.{done_entries}
use Rattle.hp_model.proofs.Slow.{counted}
use Rattle.hp_model.proofs.net.count_of.Goals as goal
use Rattle.hp_model.proofs.net.count_of.Goals.{then-is_done_entry, else-is_done_entry}

pub loop-event-init : goal.loop-event-init
unfolding done_entries
loop-event-init c = (refl, omega arith)

pub loop-event-preserved : goal.loop-event-preserved
loop-event-preserved c =
    let i = c.loop-event.invariant in
    let k = c.args.key in
    elim c.if-is_done_entry.branch [
      | then-is_done_entry w ↦
          let n = counted c.args.cpu k.state k.inst c.args.dir c.args.events.now c.loop-event.event-index _ true
          c.loop-event-test.true (sym w.if-is_done_entry.true ∙ c.is_done_entry.ensures) in
          let s = w.count-is in
          let a = i.0 in
          let b = i.1 in
          (omega arith, omega arith)
      | else-is_done_entry w ↦
          let n = counted c.args.cpu k.state k.inst c.args.dir c.args.events.now c.loop-event.event-index _ false
          c.loop-event-test.true (sym w.if-is_done_entry.false ∙ c.is_done_entry.ensures) in
          let s = w.count-is in
          let a = i.0 in
          let b = i.1 in
          (omega arith, omega arith)
    ]
