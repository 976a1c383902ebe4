use Rattle.std.proofs.Common.{◌≡◌, rules, arith}
use Rattle.std.specs.Fmt.{signed_decimal}
use Rattle.hp_files.proofs.NumberLines.{line_at_front, reads_back}
use Rattle.hp_files.proofs.numbers.show_number.Goals as goal

pub returns-clause-shown : goal.returns-clause-shown
returns-clause-shown c =
    let text = c.as_bytes-text.result.now in
    let copied : c.copy_from_slice.new.self ≡ text = search rules in
    let text_is : text ≡ signed_decimal c.args.number = search rules in
    rw (copied, ← text_is) (line_at_front text c.args.buf.now (omega (arith, c.as_bytes-text.ensures.len)))

pub returns-clause-reads_back : goal.returns-clause-reads_back
returns-clause-reads_back c = reads_back c.args.number c.ranges.number
