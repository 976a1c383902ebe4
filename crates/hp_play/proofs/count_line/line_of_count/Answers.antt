use Rattle.std.proofs.Common.{decimal, to_z, of_z, ap, ◌∙◌}
use Rattle.std.specs.Fmt.{signed_decimal}
use Rattle.std.specs.Int.{w128}
use Rattle.std.proofs.lemmas.Int.{to_z-of_z}
use Rattle.hp_event.specs.declared.head.Head.{Head}
use Rattle.hp_pcount.specs.Tally.{Tally}
use Rattle.hp_pcount.specs.Counted.{counted, in_force_over}
use Rattle.hp_play.specs.CountLine.{part_words}
use Rattle.hp_play.proofs.CountText.{line_by_pieces}
use Rattle.hp_play.proofs.count_line.line_of_count.Goals as goal

pub returns : goal.returns
returns c =
    let j = c.args.journal.now in
    let s = c.args.counting.state in
    let b = c.args.counting.batch in
    let t : Tally = counted s b j.events in
    let exact = c.count-counters.ensures.exactly in
    let total = to_z-of_z w128 c.total.result record { sfits = c.total.type_inv } ∙ (c.total.ensures.exactly ∙ c.count-counters.ensures.total) in
    let base = to_z-of_z w128 c.base.result record { sfits = c.base.type_inv } ∙ (c.base.ensures ∙ ap (λ (u : Tally). u.base) exact) in
    line_by_pieces c.new-out.result.items c.append.new.out.items c.append_long.new.out.items c.append-2.new.out.items
    c.append_long-2.new.out.items c.append-3.new.out.items c.append_parts.new.out.items c.end_line.new.out.items
    (signed_decimal (to_z w128 (of_z w128 c.total.result))) (signed_decimal (to_z w128 (of_z w128 c.base.result)))
    (decimal (in_force_over j.head s j.events)) (signed_decimal t.base) (part_words c.count-counters.result c.head.result.now.possible)
    (part_words t j.head.possible) c.new-out.ensures.items c.in_ok-append.ensures c.in_ok-append_long.ensures c.in_ok-append-2.ensures
    c.in_ok-append_long-2.ensures c.in_ok-append-3.ensures c.in_ok-append_parts.ensures c.in_ok-end_line.ensures
    (ap signed_decimal total) (ap signed_decimal base)
    (ap (λ (u : Tally). part_words u c.head.result.now.possible) exact ∙ ap (λ (h : Head). part_words t h.possible) c.head.ensures)
