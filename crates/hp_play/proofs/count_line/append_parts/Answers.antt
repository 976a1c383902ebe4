use Rattle.std.proofs.Common.{◌+◌, to_z, of_z, ap, ◌∙◌}
use Rattle.std.specs.Fmt.{signed_decimal}
use Rattle.std.specs.Int.{w128}
use Rattle.hp_model.specs.Words.{spaced}
use Rattle.hp_pcount.specs.Tally.{part}
use Rattle.hp_play.specs.CountLine.{part_words}
use Rattle.hp_play.proofs.CountText.{long_of_part, one_more, part_more}
use Rattle.hp_play.proofs.count_line.append_parts.Goals as goal

pub loop-cpu-preserved : goal.loop-cpu-preserved
loop-cpu-preserved c =
    let t = c.args.counters.now in
    let n = c.loop-cpu.cpu in
    let said = ap signed_decimal (long_of_part c.part.result c.from.result record { sfits = c.part.type_inv } c.from.ensures ∙ c.part.ensures.exactly) in
    one_more c.append_long.new.out.items c.loop-cpu.out.items c.args.out.now.items (spaced (part_words t n)) (spaced (part_words t (n + 1)))
    (signed_decimal (to_z w128 (of_z w128 c.from.result))) (signed_decimal (part t n)) c.in_ok-append_long.ensures said c.loop-cpu.invariant
    (part_more t n)
