use Rattle.std.proofs.Common.{◌≡◌, ◌∙◌, ◌∷◌, sym, false, Ok, Err}
use Rattle.hp_text.proofs.SetLoop.{taken}
use Rattle.hp_script.specs.Words.{words, has_bad_byte, is_comment}
use Rattle.hp_script.proofs.Wrongs.{line_takes}
use Rattle.hp_script.proofs.line.read_line.Goals as goal

pub returns-in-Ok : goal.returns-in-Ok
returns-in-Ok c =
    let good : has_bad_byte c.args.line.now ≡ false = sym c.has_bad_byte.ensures ∙ c.if-has_bad_byte.false in
    let all : words c.args.line.now ≡ c.in-Some.first.now ∷ c.next_word.new.self = sym c.of-words.ensures ∙ taken c.in-Some.first.now c.next_word.new.self c.of-words.result c.in-Some.ensures.word c.in-Some.ensures.rest in
    let no_comment : is_comment c.in-Some.first.now ≡ false = sym c.is_comment.ensures ∙ c.if-is_comment.false in
    line_takes c.args.hooks c.args.before.now c.args.line.now c.in-Some.first.now c.next_word.new.self (Ok c.in-Ok.said) good all no_comment c.in-Ok.ensures

pub returns-in-Err : goal.returns-in-Err
returns-in-Err c =
    let good : has_bad_byte c.args.line.now ≡ false = sym c.has_bad_byte.ensures ∙ c.if-has_bad_byte.false in
    let all : words c.args.line.now ≡ c.in-Some.first.now ∷ c.next_word.new.self = sym c.of-words.ensures ∙ taken c.in-Some.first.now c.next_word.new.self c.of-words.result c.in-Some.ensures.word c.in-Some.ensures.rest in
    let no_comment : is_comment c.in-Some.first.now ≡ false = sym c.is_comment.ensures ∙ c.if-is_comment.false in
    line_takes c.args.hooks c.args.before.now c.args.line.now c.in-Some.first.now c.next_word.new.self (Err c.in-Err.stop) good all no_comment c.in-Err.ensures
