use Rattle.hp_files.specs.Numbers.{IsNumberText, DigitsSay}
use Rattle.hp_files.proofs.Texts.{text_of, said_by, all_ok, all_err}
use Rattle.hp_files.proofs.numbers.read_i32.Goals as goal

pub returns-clause-said : goal.returns-clause-said
returns-clause-said c =
    let line = c.without_newline-line.result.now in
    let parts = c.split_minus-is_negative.result in
    all_ok c.number_of.result (DigitsSay parts.0 parts.1.now) (IsNumberText c.args.bytes.now)
    (λ v. text_of c.args.bytes.now line parts.1.now parts.0 v c.without_newline-line.ensures c.split_minus-is_negative.ensures.parts)
    c.number_of.ensures.said

pub returns-clause-refused : goal.returns-clause-refused
returns-clause-refused c =
    let line = c.without_newline-line.result.now in
    let parts = c.split_minus-is_negative.result in
    all_err c.number_of.result (DigitsSay parts.0 parts.1.now) (IsNumberText c.args.bytes.now)
    (λ v. said_by c.args.bytes.now line parts.1.now parts.0 v c.without_newline-line.ensures c.split_minus-is_negative.ensures.parts c.split_minus-is_negative.ensures.first)
    c.number_of.ensures.refused
