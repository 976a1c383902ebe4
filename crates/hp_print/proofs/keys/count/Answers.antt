use Rattle.hp_states.specs.declared.dir.Dir.TheVariants.{Up, Down}
use Rattle.hp_print.proofs.KeyOrder.{counted_at}
use Rattle.hp_print.proofs.keys.count.Goals as goal

pub returns-in-Up : goal.returns-in-Up
returns-in-Up c =
    rw (c.in-Up.is, c.if-done.true, c.saturating_add-count.ensures)
    (counted_at c.args.key Up c.args.counts.now.items c.admit.new.counts.items c.in_ok-at.at c.index_mut-count.result.now
    c.requires c.in_ok-at.ensures.place c.in_ok-at.ensures.counts c.index_mut-count.ensures.value)

pub returns-in-Down : goal.returns-in-Down
returns-in-Down c =
    rw (c.in-Down.is, c.if-done.true, c.saturating_add-count-in-Down.ensures)
    (counted_at c.args.key Down c.args.counts.now.items c.admit.new.counts.items c.in_ok-at.at c.index_mut-count.result.now
    c.requires c.in_ok-at.ensures.place c.in_ok-at.ensures.counts c.index_mut-count.ensures.value)
