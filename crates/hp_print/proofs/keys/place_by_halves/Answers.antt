use Rattle.std.proofs.Common.{arith, ◌∙◌, sym, ◌<◌, ◌+◌, ◌-◌, ◌/◌, length, ℕ}
use Rattle.hp_print.proofs.KeyOrder.{place_within, place_above, place_below}
use Rattle.hp_print.proofs.keys.place_by_halves.Goals as goal

pub loop-low-init : goal.loop-low-init
loop-low-init c = record { above = omega arith; below = place_within c.args.key c.args.counts.now; within = omega arith }

pub loop-low-preserved-then-is_before : goal.loop-low-preserved-then-is_before
loop-low-preserved-then-is_before c =
    let middle : ℕ = c.loop-low.low + (c.loop-low.high - c.loop-low.low) / 2 in
    let inside : middle < length c.args.counts.now = omega arith in
    let behind =
    place_above c.args.key c.args.counts.now middle _ c.requires inside (sym c.is_before.ensures ∙ c.if-is_before.true)
    in
    record { above = omega arith; below = omega arith; within = omega arith }

pub loop-low-preserved : goal.loop-low-preserved
loop-low-preserved c =
    let middle : ℕ = c.loop-low.low + (c.loop-low.high - c.loop-low.low) / 2 in
    let inside : middle < length c.args.counts.now = omega arith in
    let before =
    place_below c.args.key c.args.counts.now middle _ inside (sym c.is_before.ensures ∙ c.if-is_before.false)
    in
    record { above = omega arith; below = omega arith; within = omega arith }
