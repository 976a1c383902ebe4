use Rattle.std.proofs.Common.{arith, ◌∙◌, sym}
use Rattle.hp_print.proofs.KeyOrder.{place_at_end}
use Rattle.hp_print.proofs.keys.place_of.Goals as goal

pub returns-then-is_before-clause-place : goal.returns-then-is_before-clause-place
returns-then-is_before-clause-place c =
    place_at_end c.args.key c.args.counts.now _ c.requires (omega arith) (sym c.is_before.ensures ∙ c.if-is_before.true)
